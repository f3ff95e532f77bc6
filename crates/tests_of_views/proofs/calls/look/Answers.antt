use Rattle.std.proofs.Common.{◌∙◌, sym, subst}
use Rattle.std.specs.Option.{ForSome}
use Rattle.slot_plan.specs.declared.params.Params.{Params}
use Rattle.partial_view.specs.Free.{HasEntered}
use Rattle.tests_of_views.proofs.calls.look.Goals as goal

pub free_visit-requires-clause-entered : goal.free_visit-requires-clause-entered
free_visit-requires-clause-entered c =
    subst (λ (q : Params). ForSome c.taken_to-taken_to.result (HasEntered q c.from-reading.result)) (c.requires ∙ sym c.small_plan.ensures) c.taken_to-taken_to.ensures.entered

pub set_full-requires-clause-last : goal.set_full-requires-clause-last
set_full-requires-clause-last c =
    subst (λ (q : Params). ForSome c.in-Err.last (HasEntered q c.from-reading.result)) (sym (c.requires ∙ sym c.small_plan.ensures)) c.in-Err.ensures.last
