-- What is read out of an image.
use Rattle.std.proofs.Common.{◌≡◌, ◌≢◌, ℕ, true, false, not, ◌==◌, List, Option, Some, None, IfSome, IfNone, refl, ap, sym, ◌∙◌, arith}
use Rattle.std.proofs.lemmas.Bool.Decides.{nat_tests}
use Rattle.tiger_base.specs.Span.{LibraryPart, HasSpan}
use Rattle.tiger_base.specs.declared.part.Span.{Span}
use Rattle.tiger_base.specs.declared.number.FileNo.{FileNo}
use Rattle.stripe_layout.specs.Places.{place_of}
use Rattle.stripe_layout.specs.declared.place.Place.{Place}
use Rattle.mirror_pieces.specs.Pieces.{piece_disk}
use Rattle.disk_image.specs.Image.{Image}
use Rattle.disk_image.specs.Parts.{held_part, piece_span}

-- a block that has no place is not held
pub held_part-nowhere : (m : Image) (file : FileNo) (block k : ℕ) → place_of m.catalogue file block ≡ None → held_part m file block k ≡ None
unfolding held_part
held_part-nowhere m file block k e = rw e refl

-- nor is one whose piece is on another disk
pub held_part-elsewhere : (m : Image) (file : FileNo) (block k : ℕ) (p : Place) → place_of m.catalogue file block ≡ Some p
    → piece_disk p.disk.0 k m.catalogue.disks ≢ m.disk → held_part m file block k ≡ None
unfolding held_part
held_part-elsewhere m file block k p e off = rw e (grind (arith, nat_tests))

-- one whose piece is on the disk is
pub held_part-here : (m : Image) (file : FileNo) (block k : ℕ) (p : Place) → place_of m.catalogue file block ≡ Some p
    → piece_disk p.disk.0 k m.catalogue.disks ≡ m.disk → held_part m file block k ≡ Some (record { library = m.library; span = piece_span p.span m.pieces k })
unfolding held_part
held_part-here m file block k p e on = rw e (grind (arith, nat_tests))

abbrev part_of : List (List ℕ) → Span → LibraryPart
part_of library span = record { library = library; span = span }

-- a part of the piece's span is the one that is held, and there is such a part
pub held_part-cut : (m : Image) (file : FileNo) (block k : ℕ) (p : Place) (span : Span) (r : Option LibraryPart)
    → place_of m.catalogue file block ≡ Some p → piece_disk p.disk.0 k m.catalogue.disks ≡ m.disk
    → span ≡ piece_span p.span m.pieces k → HasSpan m.library span
    → IfSome r (λ part. part ≡ record { library = m.library; span = span })
    → IfNone r (¬ HasSpan m.library span)
    → r ≡ held_part m file block k
held_part-cut m file block k p span None at on e has some none = absurd (none has)
held_part-cut m file block k p span (Some part) at on e has some none =
    ap (λ (q : LibraryPart). Some q) (some ∙ ap (λ (s : Span). part_of m.library s) e)
    ∙ sym (held_part-here m file block k p at on)

-- what a test of two disks says of them
pub agrees : (a b d : ℕ) → a ≡ b → not (a == d) ≡ false → b ≡ d
agrees a b d e t = grind (arith, nat_tests)

pub differs : (a b d : ℕ) → a ≡ b → not (a == d) ≡ true → b ≢ d
differs a b d e t = grind (arith, nat_tests)
