use Rattle.std.proofs.Common.{arith}
use Rattle.mirror_pieces.proofs.Cuts.{start-le-end, end-le-len}
use Rattle.disk_image.proofs.Spans.{piece_span-whole, piece_span-cut}
use Rattle.disk_image.proofs.span.piece_span.Goals as goal

pub returns-then-k-eq0 : goal.returns-then-k-eq0
returns-then-k-eq0 c = piece_span-whole c.args.block c.args.pieces c.args.k c.if-k-eq0.true

pub overflow_add-result : goal.overflow_add-result
overflow_add-result c =
    let block = c.args.block in
    omega (arith, start-le-end block.len c.args.pieces c.args.k (omega arith), end-le-len block.len c.args.pieces c.args.k c.requires.piece)

pub overflow_sub-result : goal.overflow_sub-result
overflow_sub-result c = omega (arith, start-le-end c.args.block.len c.args.pieces c.args.k (omega arith))

pub returns : goal.returns
returns c = piece_span-cut c.args.block c.args.pieces c.args.k _ _ c.if-k-eq0.false c.piece_range-from.ensures.from c.piece_range-from.ensures.to
