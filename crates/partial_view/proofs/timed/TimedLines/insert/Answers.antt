use Rattle.std.proofs.Common.{sym, ap, ◌∙◌, arith, length}
use Rattle.partial_view.specs.declared.line.Line.{Line}
use Rattle.partial_view.specs.Lines.{visit_of, key_of}
use Rattle.partial_view.specs.Views.{Seen}
use Rattle.slot_plan.specs.Keys.{due_of}
use Rattle.partial_view.proofs.Dues.{dues-insert, dues-along, remove-insert, as-many}
use Rattle.partial_view.proofs.timed.TimedLines.insert.Goals as goal

pub invariant_of-self-in-Err : goal.invariant_of-self-in-Err
invariant_of-self-in-Err c =
    dues-along c.self.inside.plan.params c.in-Err.ensures.err
    (c.remove.ensures.left ∙ (ap (λ ds. Rattle.std.specs.List.remove ds c.args.place) c.in_ok-insert.ensures.ok
    ∙ remove-insert c.self.inside.dues c.args.place c.args.due (omega (arith, c.requires.place, as-many c.self.inside.plan.params c.self.inside.lines c.self.inside.dues c.self.invariant, ap (λ (s : Seen). length s.lines) c.self.view_is))))
    c.self.invariant

pub invariant_of-self-in_default : goal.invariant_of-self-in_default
invariant_of-self-in_default c =
    dues-along c.self.inside.plan.params c.in_default.ensures.ok c.in_ok-insert.ensures.ok
    (dues-insert c.self.inside.plan.params c.self.inside.lines c.self.inside.dues c.args.place c.args.due c.unmarked.result c.self.invariant
    (c.requires.due ∙ (ap (λ (s : Seen). due_of s.params (visit_of c.args.rec)) (sym c.self.view_is) ∙ ap (λ (x : Line). due_of c.self.inside.plan.params (key_of x)) (sym c.unmarked.ensures))))
