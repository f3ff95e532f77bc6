use Rattle.std.proofs.Common.{◌≡◌, ◌≤◌, length, drop}
use Rattle.disk_death.specs.Deaths.{death_of_disk}
use Rattle.disk_death.proofs.deaths.death_of_disk.Given as goal

abbrev pub invariant-loop-i : goal.invariant-loop-i
invariant-loop-i l = record {
  bound : l.i ≤ length l.faults;
  death : l.death ≡ death_of_disk (drop l.i l.faults) l.beats l.disk.0;
}
