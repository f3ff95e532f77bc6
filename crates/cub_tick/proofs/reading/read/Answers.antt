use Rattle.std.proofs.Common.{refl}
use Rattle.cub_tick.proofs.Asked.{read_all}
use Rattle.cub_tick.proofs.reading.read.Goals as goal

pub returns : goal.returns
returns c =
    read_all c.args.site.now.plan.params c.args.stamp c.args.store.now _ c.args.out.now c.read_blocks.new.out c.read_pieces.new.out c.read_blocks.new.view c.read_pieces.new.unasked
    c.in_ok-read_blocks.ensures.view c.in_ok-read_blocks.ensures.outs c.in_ok-read_pieces.ensures.pieces c.in_ok-read_pieces.ensures.outs refl
