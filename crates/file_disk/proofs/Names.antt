-- Names that are one, and where they stand in the order.
use Rattle.std.proofs.Common.{◌≡◌, ◌≢◌, ℕ, ◌==◌, ◌&&◌, Bool, true, false, refl, ap, ◌∙◌, arith}
use Rattle.std.proofs.lemmas.Bool.Decides.{nat_tests}
use Rattle.file_disk.specs.Extents.{rank, same_name}
use Rattle.file_disk.specs.declared.directory.PartName.{PartName}

both : (x y : Bool) → (x && y) ≡ true → (x ≡ true) × (y ≡ true)
both true true e = (refl, refl)
both true false e = absurd (cc)
both false y e = absurd (cc)

equal : (x y : ℕ) → (x == y) ≡ true → x ≡ y
equal x y e = grind (arith, nat_tests)

-- names of the same numbers are one
pub one-name : (a b : PartName) → same_name a b ≡ true → a ≡ b
one-name a b e =
    let p = both (a.file.0 == b.file.0) ((a.block == b.block) && (a.piece == b.piece)) e in
    let q = both (a.block == b.block) (a.piece == b.piece) p.1 in
    let of : ℕ → ℕ → ℕ → PartName = λ file block piece. record { file = record { 0 = file }; block = block; piece = piece } in
    ap (λ (n : ℕ). of n a.block a.piece) (equal a.file.0 b.file.0 p.0)
    ∙ ap (λ (n : ℕ). of b.file.0 n a.piece) (equal a.block b.block q.0)
    ∙ ap (λ (n : ℕ). of b.file.0 b.block n) (equal a.piece b.piece q.1)

other : (b : Bool) → b ≢ true → b ≡ false
other true h = absurd (h refl)
other false h = refl

-- names of two ranks are not one
pub other_rank : (a b : PartName) → rank a ≢ rank b → same_name a b ≡ false
other_rank a b h = other (same_name a b) (λ e. h (ap rank (one-name a b e)))
