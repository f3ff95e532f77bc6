use Rattle.std.proofs.Common.{◌≡◌, ◌≢◌, ◌≤◌, None, sym, ap, ◌∙◌, arith}
use Rattle.stripe_layout.specs.Places.{place_of}
use Rattle.mirror_pieces.specs.Pieces.{piece_disk}
use Rattle.disk_image.specs.Image.{Image}
use Rattle.disk_image.specs.Seen.{seen}
use Rattle.disk_image.proofs.HeldParts.{held_part-nowhere, held_part-elsewhere, held_part-cut, agrees, differs}
use Rattle.disk_image.proofs.Places.{place_in_library}
use Rattle.disk_image.proofs.Spans.{piece_span-fits, HasSpan-of}
use Rattle.disk_image.proofs.image.DiskImage.read.Goals as goal

pub returns-in_err-place : goal.returns-in_err-place
returns-in_err-place c =
    let none : place_of c.self.inside.catalogue c.args.file c.args.block ≡ None = sym c.in_err-place.ensures.value in
    rw (← c.self.view_is) (c.from_residual.ensures ∙ sym (held_part-nowhere _ c.args.file c.args.block c.args.k none))

pub returns-then-ne : goal.returns-then-ne
returns-then-ne c =
    let off : piece_disk c.in_ok-place.place.disk.0 c.args.k c.self.inside.catalogue.disks ≢ c.self.inside.disk.0 =
    differs _ _ _ c.piece_disk.ensures (sym c.ne.ensures ∙ c.if-ne.true) in
    rw (← c.self.view_is) (sym (held_part-elsewhere _ c.args.file c.args.block c.args.k c.in_ok-place.place (sym c.in_ok-place.ensures.value) off))

pub piece_span-span-requires-clause-short : goal.piece_span-span-requires-clause-short
piece_span-span-requires-clause-short c =
    (place_in_library _ _ c.args.file c.args.block _ c.self.invariant (sym c.in_ok-place.ensures.value)).2.short

pub returns : goal.returns
returns c =
    let at = sym c.in_ok-place.ensures.value in
    let on = agrees _ _ _ c.piece_disk.ensures (sym c.ne.ensures ∙ c.if-ne.false) in
    let last : c.args.k ≤ c.self.inside.pieces =
    omega (arith, ap (λ (m : Image). m.pieces) c.self.view_is) in
    let in_file = place_in_library _ _ c.args.file c.args.block _ c.self.invariant at in
    let inside = piece_span-fits c.args.file _ _ _ _ _ last in_file.2 c.piece_span-span.ensures in
    let has = HasSpan-of _ c.args.file _ _ in_file.1 inside in
    rw (← c.self.view_is)
    (held_part-cut (seen c.self.inside) c.args.file c.args.block c.args.k c.in_ok-place.place _
    c.cut.result at on c.piece_span-span.ensures has c.cut.ensures.part c.cut.ensures.none)
