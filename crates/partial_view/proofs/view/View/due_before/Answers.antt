use Rattle.std.proofs.Common.{◌≡◌, ◌∙◌, ap, Option, option_map, arith}
use Rattle.slot_plan.specs.Keys.{Key, due_of}
use Rattle.partial_view.specs.declared.line.Line.{Line}
use Rattle.partial_view.specs.Lines.{key_of}
use Rattle.partial_view.specs.Views.{Seen}
use Rattle.partial_view.proofs.Earliest.{due_none, due_first, due_late}
use Rattle.partial_view.proofs.view.View.due_before.Goals as goal
use Rattle.partial_view.proofs.view.View.due_before.Goals.{After-due}

pub returns-in_err-line : goal.returns-in_err-line
returns-in_err-line c =
    c.from_residual.ensures ∙ ap (λ (o : Option Line). option_map (λ x. x.rec) o)
    (due_none c.args.self.now.params c.args.reading c.args.self.now.lines c.in_err-line.ensures.walk c.in_err-line.ensures.next)

due_is : (c : After-due) → c.due.result ≡ due_of c.args.self.now.params (key_of c.in_ok-line.line)
due_is c =
    c.due.ensures.due ∙ (ap (λ (k : Key). due_of c.self.inside.wheel.params k) c.key.ensures ∙ ap (λ (s : Seen). due_of s.params (key_of c.in_ok-line.line)) c.self.view_is)

pub returns-then-due-reading : goal.returns-then-due-reading
returns-then-due-reading c =
    ap (λ (o : Option Line). option_map (λ x. x.rec) o)
    (due_first c.args.self.now.params c.args.reading c.args.self.now.lines c.in_ok-line.line c.in_ok-line.ensures.walk c.in_ok-line.ensures.next (omega (arith, c.if-due-reading.true, due_is (goal.at.returns-then-due-reading c).After-due)))

pub returns-else-due-reading : goal.returns-else-due-reading
returns-else-due-reading c =
    ap (λ (o : Option Line). option_map (λ x. x.rec) o)
    (due_late c.args.self.now.params c.args.reading c.args.self.now.lines c.in_ok-line.line c.in_ok-line.ensures.walk c.in_ok-line.ensures.next (omega (arith, c.if-due-reading.false, due_is (goal.at.returns-else-due-reading c).After-due)))
