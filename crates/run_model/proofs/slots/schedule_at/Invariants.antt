use Rattle.run_facts.specs.Order.{order_from}
use Rattle.run_model.specs.Slots.{Walks}
use Rattle.run_model.proofs.slots.schedule_at.Given as goal

-- the walk went past the beats so far
abbrev pub invariant-loop-beat : goal.invariant-loop-beat
invariant-loop-beat l = Walks l.initial.walk l.walk (order_from 0 l.beat l.k.journals)
