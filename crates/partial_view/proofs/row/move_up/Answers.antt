use Rattle.std.proofs.Common.{◌+◌, ◌-◌, arith}
use Rattle.partial_view.proofs.Gone.{rotated-gone, first-gone}
use Rattle.partial_view.proofs.row.move_up.Goals as goal

pub returns-then-count-gt0-clause-left : goal.returns-then-count-gt0-clause-left
returns-then-count-gt0-clause-left g c =
    rotated-gone c.args.from c.args.count (c.args.from + c.args.count + 1 - c.args.from) c.args.items.now c.rotate_right.new.self c.requires (omega arith) c.rotate_right.ensures.after

pub returns-else-count-gt0-clause-left : goal.returns-else-count-gt0-clause-left
returns-else-count-gt0-clause-left g c = first-gone c.args.from c.args.count c.args.items.now (omega (arith, c.if-count-gt0.false))
