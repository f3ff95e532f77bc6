use Rattle.std.specs.Option.{ForSome}
use Rattle.partial_view.specs.Free.{IsTakenTo, HasEntered}
use Rattle.slot_owner.proofs.Search.{time_left}
use Rattle.slot_owner.proofs.free_visit.Given as goal

abbrev pub invariant-loop-slot : goal.invariant-loop-slot
invariant-loop-slot l = record {
  taken : IsTakenTo l.plan.params l.disk.0 l.reading l.last l.view.lines;
  entered : ForSome l.last (HasEntered l.plan.params l.reading);
}

abbrev pub decreases-loop-slot : goal.decreases-loop-slot
decreases-loop-slot l = time_left l.plan.params l.reading l.disk.0 l.last
