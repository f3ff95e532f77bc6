use Rattle.std.proofs.Common.{arith}
use Rattle.disk_death.proofs.DeadFrom.{rows_on, rows_done}
use Rattle.disk_death.proofs.deaths.deaths_of.Goals as goal

pub loop-row-preserved : goal.loop-row-preserved
loop-row-preserved c =
    rows_on c.args.plan.now.params c.args.faults.now c.args.beats c.args.cub.0 c.loop-row.deaths.items _ c.loop-row.row c.death_of_disk.result _ c.loop-row.invariant
    c.in_ok-push.ensures.items c.death_of_disk.ensures (omega (arith, c.from.ensures))

pub returns : goal.returns
returns c =
    rows_done c.args.plan.now.params c.args.faults.now c.args.beats c.args.cub.0 c.loop-row.deaths.items c.loop-row.row c.loop-row.invariant
    (omega (arith, c.loop-row-test.false, c.loop-row.auto.row-end))
