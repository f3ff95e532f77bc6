use Rattle.std.proofs.Common.{arith}
use Rattle.disk_death.proofs.DeadFrom.{death_last, death_before}
use Rattle.disk_death.proofs.deaths.death_of_disk.Goals as goal

pub loop-i-init : goal.loop-i-init
loop-i-init c = record { bound = omega arith; death = death_last c.args.faults.now c.args.beats c.args.disk.0 }

pub loop-i-preserved : goal.loop-i-preserved
loop-i-preserved c = record {
  bound = omega (arith, c.loop-i.invariant.bound);
  death = death_before c.args.faults.now c.args.beats c.args.disk.0 c.loop-i.i _ c.loop-i.death c.death_by_fault-death.result c.loop-i-test.true c.loop-i.invariant.bound
      c.loop-i.invariant.death c.death_by_fault-death.ensures;
}
