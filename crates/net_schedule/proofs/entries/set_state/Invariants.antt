use Rattle.std.proofs.Common.{◌≡◌, ◌++◌, take, drop}
use Rattle.net_schedule.specs.Cubs.{with_state}
use Rattle.net_schedule.proofs.entries.set_state.Given as goal

abbrev pub invariant-loop-place : goal.invariant-loop-place
invariant-loop-place l = record {
  none : take l.place l.own.items ++ with_state l.v l.state (drop l.place l.own.items) ≡ with_state l.v l.state l.fn.own.items;
  same : l.own.items ≡ l.fn.own.items;
}
