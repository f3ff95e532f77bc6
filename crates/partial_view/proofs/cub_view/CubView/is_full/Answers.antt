use Rattle.std.proofs.Common.{sym, subst}
use Rattle.slot_plan.specs.declared.params.Params.{Params}
use Rattle.partial_view.specs.Free.{IsFullAt, AreFull}
use Rattle.partial_view.specs.Views.{Seen}
use Rattle.partial_view.proofs.cub_view.CubView.is_full.Goals as goal

pub returns : goal.returns
returns c = λ known.
    subst (λ (s : Seen). IsFullAt s.params c.args.disk.0 c.args.reading s.lines) c.self.view_is
    (c.is_full.ensures known c.self.inside.view.params c.self.inside.view.lines
    (subst (λ (q : Params). AreFull q c.self.inside.full c.self.inside.view.lines) (sym c.self.invariant.0) c.self.invariant.5))
