use Rattle.std.proofs.Common.{◌≡◌, false, drop}
use Rattle.deschedule.specs.Holds.{is_held}
use Rattle.deschedule.proofs.held.pass_on.Given as goal

abbrev pub invariant-loop-place : goal.invariant-loop-place
invariant-loop-place l = record {
  none : is_held (drop l.place l.holds.items) l.instance ≡ false;
  same : l.holds.items ≡ l.fn.holds.items;
}
