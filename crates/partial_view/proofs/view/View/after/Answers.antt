use Rattle.std.proofs.Common.{IfSome, subst}
use Rattle.slot_plan.specs.Keys.{IsKey}
use Rattle.partial_view.specs.Lines.{key_of}
use Rattle.partial_view.specs.Views.{Seen}
use Rattle.partial_view.proofs.Earliest.{key_next}
use Rattle.partial_view.proofs.view.View.after.Goals as goal

pub returns-clause-key : goal.returns-clause-key
returns-clause-key c =
    subst (λ (s : Seen). IfSome c.after.result (λ x. IsKey s.params (key_of x))) c.self.view_is
    (key_next c.self.inside.wheel.params c.args.key c.self.inside.wheel.lines c.after.result c.are_in_order.ensures c.after.ensures)
