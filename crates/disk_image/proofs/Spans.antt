-- The bytes of pieces.
use Rattle.std.proofs.Common.{◌≡◌, ◌≢◌, ℕ, ◌+◌, ◌-◌, ◌≤◌, inl, inr, refl, arith, List, length, Some, slice_get, ap, sym, ◌∙◌, subst}
use Rattle.std.proofs.lemmas.Bool.{cases_lt}
use Rattle.std.proofs.lemmas.Bool.Decides.{nat_tests}
use Rattle.tiger_base.specs.declared.number.FileNo.{FileNo}
use Rattle.tiger_base.specs.Span.{HasSpan}
use Rattle.tiger_base.specs.declared.part.Span.{Span}
use Rattle.mirror_pieces.specs.Pieces.{piece_of, piece_start, piece_end}
use Rattle.mirror_pieces.proofs.Cuts.{IsCutUp-holds}
use Rattle.stripe_layout.specs.declared.place.Place.{Place}
use Rattle.disk_image.specs.Parts.{piece_span}
use Rattle.disk_image.proofs.Places.{IsFitting}

-- piece 0 is the whole block
pub piece_span-whole : (block : Span) (pieces k : ℕ) → k ≡ 0 → block ≡ piece_span block pieces k
unfolding piece_span
piece_span-whole block pieces k e = rw e refl

-- every other one is a piece
pub piece_span-piece : (block : Span) (pieces k : ℕ) → k ≢ 0 → piece_span block pieces k ≡ piece_of block pieces k
unfolding piece_span
piece_span-piece block pieces k some = grind (arith, nat_tests)

-- from and up to where it has the block's bytes
pub piece_span-cut : (block : Span) (pieces k from to : ℕ) → k ≢ 0 → from ≡ piece_start block.len pieces k → to ≡ piece_end block.len pieces k
    → record { file = block.file; from = block.from + from; len = to - from } ≡ piece_span block pieces k
unfolding piece_of
piece_span-cut block pieces k from to some low high = rw (piece_span-piece block pieces k some, low, high) refl

-- a span of a file that ends no later than a place
pub record IsInside (file : FileNo) (end : ℕ) (span : Span) : Type 0 where
  pub same : span.file ≡ file
  pub inside : span.from + span.len ≤ end

-- a piece is inside its block
pub piece_span-inside : (block : Span) (pieces k : ℕ) → k ≤ pieces
    → IsInside block.file (block.from + block.len) (piece_span block pieces k)
piece_span-inside block pieces k last =
    let Here : Span → Type 0 = λ s. IsInside block.file (block.from + block.len) s in
    elim (cases_lt 0 k) [
      | inl piece ↦
          let law = IsCutUp-holds block pieces (omega arith) in
          subst Here (sym (piece_span-piece block pieces k (λ e. omega arith)))
          (record { same = law.file k; inside = law.inside k piece last })
      | inr whole ↦ subst Here (piece_span-whole block pieces k (omega arith)) (record { same = refl; inside = omega arith })
    ]

-- a piece of a block that is in its file is in the file
pub piece_span-fits : (file : FileNo) (bytes : List ℕ) (p : Place) (pieces k : ℕ) (span : Span)
    → k ≤ pieces → IsFitting file bytes p → span ≡ piece_span p.span pieces k → IsInside file (length bytes) span
piece_span-fits file bytes p pieces k span last fits e =
    let at = piece_span-inside p.span pieces k last in
    let Here : Span → Type 0 = λ s. IsInside file (length bytes) s in
    subst Here (sym e) (record { same = at.same ∙ fits.same; inside = omega (arith, at.inside, fits.inside) })

-- a span of a file of the library is one that the library has
pub HasSpan-of : (library : List (List ℕ)) (file : FileNo) (bytes : List ℕ) (span : Span)
    → slice_get library file.0 ≡ Some bytes → IsInside file (length bytes) span → HasSpan library span
HasSpan-of library file bytes span there at =
    record { file = bytes; there = ap (λ (f : FileNo). slice_get library f.0) at.same ∙ there; inside = at.inside }
