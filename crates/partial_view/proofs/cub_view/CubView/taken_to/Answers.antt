use Rattle.std.proofs.Common.{sym, subst}
use Rattle.std.specs.Option.{ForSome}
use Rattle.slot_plan.specs.declared.params.Params.{Params}
use Rattle.partial_view.specs.Free.{IsTakenTo, HasEntered, AreFull}
use Rattle.partial_view.specs.Views.{Seen}
use Rattle.partial_view.proofs.cub_view.CubView.taken_to.Goals as goal

known : (c : goal.After-taken_to) → AreFull c.self.inside.view.params c.self.inside.full c.self.inside.view.lines
known c = subst (λ (q : Params). AreFull q c.self.inside.full c.self.inside.view.lines) (sym c.self.invariant.0) c.self.invariant.5

pub returns-clause-taken : goal.returns-clause-taken
returns-clause-taken c =
    subst (λ (s : Seen). IsTakenTo s.params c.args.disk.0 c.args.reading c.taken_to.result s.lines) c.self.view_is
    (c.taken_to.ensures.taken c.self.inside.view.params c.self.inside.view.lines (known c))

pub returns-clause-entered : goal.returns-clause-entered
returns-clause-entered c =
    subst (λ (s : Seen). ForSome c.taken_to.result (HasEntered s.params c.args.reading)) c.self.view_is
    (c.taken_to.ensures.entered c.self.inside.view.params c.self.inside.view.lines (known c))
