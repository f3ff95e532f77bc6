use Rattle.std.proofs.Common.{◌≤◌}
use Rattle.net_run.specs.Peaks.{IsMoreWithin}
use Rattle.net_run.proofs.scene.lower_in.Given as goal

-- from the first place to here
abbrev pub invariant-loop-k : goal.invariant-loop-k
invariant-loop-k l = record {
  within : IsMoreWithin l.ring l.entry l.first l.k l.row.items l.fn.row.items;
  order : l.first ≤ l.k;
}
