use Rattle.std.proofs.Common.{sym, subst}
use Rattle.std.specs.Option.{ForSome}
use Rattle.slot_plan.specs.declared.params.Params.{Params}
use Rattle.partial_view.specs.Free.{is_free, IsTakenTo, HasEntered}
use Rattle.partial_view.specs.Views.{Seen}
use Rattle.cub_tick.proofs.Visits.{found_slot, found_small}
use Rattle.cub_tick.proofs.insertion.free_on.Goals as goal

pub free_visit-requires-clause-taken : goal.free_visit-requires-clause-taken
free_visit-requires-clause-taken c =
    subst (λ (s : Seen). IsTakenTo c.args.site.now.plan.params c.args.disk.0 c.args.reading c.taken_to-taken_to.result s.lines) (sym c.view.ensures)
    (subst (λ (q : Params). IsTakenTo q c.args.disk.0 c.args.reading c.taken_to-taken_to.result c.args.store.now.view.lines) c.requires.plan c.taken_to-taken_to.ensures.taken)

pub free_visit-requires-clause-entered : goal.free_visit-requires-clause-entered
free_visit-requires-clause-entered c =
    subst (λ (q : Params). ForSome c.taken_to-taken_to.result (HasEntered q c.args.reading)) c.requires.plan c.taken_to-taken_to.ensures.entered

pub returns-clause-slot : goal.returns-clause-slot
returns-clause-slot c =
    found_slot c.args.site.now.plan.params c.args.reading c.args.disk.0 (is_free c.view.result.now.lines) c.free_visit.result c.free_visit.ensures.least

pub returns-clause-small : goal.returns-clause-small
returns-clause-small c =
    found_small c.args.site.now.plan.params c.args.reading c.args.disk.0 (is_free c.view.result.now.lines) c.free_visit.result c.args.site.now.plan.sound c.requires.reading
    c.free_visit.ensures.least
