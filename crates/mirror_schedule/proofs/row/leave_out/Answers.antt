use Rattle.std.proofs.Common.{sym, ◌∙◌}
use Rattle.mirror_schedule.specs.Choices.{covers}
use Rattle.mirror_schedule.proofs.Removals.{left_next}
use Rattle.mirror_schedule.proofs.row.leave_out.Goals as goal

pub loop-i-preserved : goal.loop-i-preserved
loop-i-preserved c =
    let next = left_next (λ x. covers c.args.wanted.now x.0) c.args.items.now.items c.loop-i.items.items c.loop-i.count c.loop-i.i c.index.result.now
    c.loop-i-test.true c.loop-i.invariant.bound c.loop-i.invariant.rest c.loop-i.invariant.count c.index.ensures
    (sym c.covers.ensures ∙ c.if-covers.false) in
    record { bound = next.bound; rest = next.rest; count = next.number }
