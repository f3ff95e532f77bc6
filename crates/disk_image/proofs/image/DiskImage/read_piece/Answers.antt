use Rattle.std.proofs.Common.{sym, ap, ◌∙◌, arith}
use Rattle.disk_image.specs.Image.{Image}
use Rattle.disk_image.proofs.Parts.{held_part-piece, piece_part-zero, piece_part-past}
use Rattle.disk_image.proofs.image.DiskImage.read_piece.Goals as goal
use Rattle.disk_image.proofs.image.DiskImage.read_piece.Goals.{then-k-eq0-via-then-k-eq0, then-k-eq0-via-else-k-eq0+then-k-self}

pub returns-then-k-eq0 : goal.returns-then-k-eq0
returns-then-k-eq0 c =
    elim c.then-k-eq0.branch [
      | then-k-eq0-via-then-k-eq0 w ↦ sym (piece_part-zero c.args.self.now c.args.file c.args.block c.args.k w.if-k-eq0.true)
      | then-k-eq0-via-else-k-eq0+then-k-self w ↦
          sym (piece_part-past c.args.self.now c.args.file c.args.block c.args.k (omega (arith, w.if-k-self.true, ap (λ (m : Image). m.pieces) c.self.view_is)))
    ]

pub returns : goal.returns
returns c =
    c.read.ensures
    ∙ held_part-piece c.args.self.now c.args.file c.args.block c.args.k c.if-k-eq0.false
    (omega (arith, c.if-k-self.false, ap (λ (m : Image). m.pieces) c.self.view_is))
