-- The blocks and the pieces that are held.
use Rattle.std.proofs.Common.{◌≡◌, ◌≢◌, ℕ, ◌+◌, ◌%◌, ◌<◌, ◌≤◌, Bool, true, false, ◌&&◌, ◌==◌, Option, Some, None, if◌then◌else◌, option_and_then, refl, ap, sym, ◌∙◌, arith}
use Rattle.std.proofs.lemmas.Bool.Decides.{nat_tests}
use Rattle.std.proofs.Math.Nat.{mod-mod}
use Rattle.tiger_base.specs.Span.{LibraryPart}
use Rattle.tiger_base.specs.declared.number.FileNo.{FileNo}
use Rattle.stripe_layout.specs.Places.{place_of}
use Rattle.stripe_layout.specs.declared.place.Place.{Place}
use Rattle.mirror_pieces.specs.Pieces.{piece_of, piece_disk}
use Rattle.disk_image.specs.Image.{Image, block_part, piece_part, is_piece}
use Rattle.disk_image.specs.Parts.{held_part, piece_span}
use Rattle.disk_image.proofs.Places.{place_disk}
use Rattle.disk_image.proofs.Spans.{piece_span-whole, piece_span-piece}

-- piece 0 is on the block's own disk
own_disk : (m : Image) (file : FileNo) (block : ℕ) (p : Place) → place_of m.catalogue file block ≡ Some p → piece_disk p.disk.0 0 m.catalogue.disks ≡ p.disk.0
unfolding piece_disk
own_disk m file block p at =
    let one = place_disk m.catalogue file block p at in
    let none : p.disk.0 + 0 ≡ p.disk.0 = omega arith in
    let disks = m.catalogue.disks in
    ap (λ (n : ℕ). n % disks) (none ∙ one.2) ∙ mod-mod (one.0.disk.0 + block) disks ∙ sym one.2

-- what one test gives, at each place that the block may have
block_at : (m : Image) (file : FileNo) (block : ℕ) (o : Option Place) → place_of m.catalogue file block ≡ o
    → option_and_then {U = LibraryPart} (λ p. if piece_disk p.disk.0 0 m.catalogue.disks == m.disk then Some (record { library = m.library; span = piece_span p.span m.pieces 0 }) else None) o
    ≡ option_and_then {U = LibraryPart} (λ p. if p.disk.0 == m.disk then Some (record { library = m.library; span = p.span }) else None) o
block_at m file block None at = refl
block_at m file block (Some p) at = rw (own_disk m file block p at, sym (piece_span-whole p.span m.pieces 0 refl)) refl

-- what is held as piece 0 is the block
pub held_part-block : (m : Image) (file : FileNo) (block : ℕ) → held_part m file block 0 ≡ block_part m file block
unfolding held_part block_part
held_part-block m file block = block_at m file block (place_of m.catalogue file block) refl

-- whether a number is that of a piece
piece_at : (m : Image) (k : ℕ) (b : Bool) (o : Option Place) → is_piece m k ≡ b → k ≢ 0 → b ≡ true
    → option_and_then {U = LibraryPart} (λ p. if piece_disk p.disk.0 k m.catalogue.disks == m.disk then Some (record { library = m.library; span = piece_span p.span m.pieces k }) else None) o
    ≡ option_and_then {U = LibraryPart}
    (λ p. if is_piece m k && (piece_disk p.disk.0 k m.catalogue.disks == m.disk)
    then Some (record { library = m.library; span = piece_of p.span m.pieces k }) else None) o
piece_at m k b None e some is = refl
piece_at m k b (Some p) e some is = rw (e ∙ is, piece_span-piece p.span m.pieces k some) refl

-- what is held as another piece is the piece
pub held_part-piece : (m : Image) (file : FileNo) (block k : ℕ) → k ≢ 0 → k ≤ m.pieces → held_part m file block k ≡ piece_part m file block k
unfolding held_part piece_part
held_part-piece m file block k some last =
    let is : is_piece m k ≡ true = grind (arith, nat_tests) in
    piece_at m k true (place_of m.catalogue file block) is some refl

none_at : (m : Image) (k : ℕ) (o : Option Place) → is_piece m k ≡ false
    → option_and_then {U = LibraryPart}
    (λ p. if is_piece m k && (piece_disk p.disk.0 k m.catalogue.disks == m.disk)
    then Some (record { library = m.library; span = piece_of p.span m.pieces k }) else None) o
    ≡ None
none_at m k None e = refl
none_at m k (Some p) e = rw e refl

-- no piece has number 0
pub piece_part-zero : (m : Image) (file : FileNo) (block k : ℕ) → k ≡ 0 → piece_part m file block k ≡ None
unfolding piece_part
piece_part-zero m file block k e =
    let is : is_piece m k ≡ false = grind (arith, nat_tests) in
    none_at m k (place_of m.catalogue file block) is

-- nor one above their number
pub piece_part-past : (m : Image) (file : FileNo) (block k : ℕ) → m.pieces < k → piece_part m file block k ≡ None
unfolding piece_part
piece_part-past m file block k e =
    let is : is_piece m k ≡ false = grind (arith, nat_tests) in
    none_at m k (place_of m.catalogue file block) is
