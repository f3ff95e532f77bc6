use Rattle.std.proofs.Common.{◌≡◌, ◌++◌, length}
use Rattle.std.specs.Prelude.{◌⊎◌}
use Rattle.ring_workers.specs.Ends.{HasEnd}
use Rattle.ring_workers.specs.Rows.{IsOfNode}
use Rattle.ring_workers.proofs.closing.put_each.Given as goal

abbrev pub invariant-loop-thing : goal.invariant-loop-thing
invariant-loop-thing g l =
    (goal.iterator-loop-thing g).can_next l.thing-iterator ×
    (goal.iterator-loop-thing g).is_finite l.thing-iterator ×
    (l.yielded ++ l.thing-iterator.rest.items ≡ l.fn.things.items) ×
    (l.place ≡ length l.yielded) ×
    (length l.slots.items ≡ length l.fn.slots.items) ×
    ((k : _) (x : _) → HasEnd l.slots.items k x → (HasEnd l.fn.slots.items k x) ⊎ (IsOfNode l.numbers l.fn.things.items k x))
