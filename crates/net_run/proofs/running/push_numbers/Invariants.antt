use Rattle.std.proofs.Common.{◌≡◌, ◌≤◌, ◌++◌, ◌-◌}
use Rattle.std.specs.List.{range_with_len}
use Rattle.net_run.specs.Sent.{AreBelow}
use Rattle.net_run.proofs.running.push_numbers.Given as goal

abbrev pub invariant-loop-number : goal.invariant-loop-number
invariant-loop-number l = record {
  out : l.out.items ≡ l.fn.out.items ++ range_with_len l.first (l.number - l.first);
  few : l.number - l.first ≤ l.end - l.first;
  low : AreBelow l.end l.fn.out.items → AreBelow l.end l.out.items;
}
