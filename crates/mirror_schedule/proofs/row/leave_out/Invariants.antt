use Rattle.std.proofs.Common.{◌≡◌, ◌≤◌, ◌++◌, length, take, drop, not, count_by}
use Rattle.std.specs.List.{filter}
use Rattle.mirror_schedule.specs.Choices.{covers}
use Rattle.mirror_schedule.proofs.row.leave_out.Given as goal

abbrev pub invariant-loop-i : goal.invariant-loop-i
invariant-loop-i l = record {
  bound : l.i ≤ length l.fn.items.items;
  rest : l.items.items ≡ take l.i l.fn.items.items ++ filter (λ x. not (covers l.wanted x.0)) (drop l.i l.fn.items.items);
  count : l.count ≡ count_by (λ x. covers l.wanted x.0) (drop l.i l.fn.items.items);
}
