use Rattle.std.proofs.Common.{refl, ap, ◌∙◌, ◌-◌, eq-eqb, get_or, length, List}
use Rattle.std.proofs.lemmas.Bool.{ne_eqb}
use Rattle.partial_view.specs.declared.line.Line.{Line}
use Rattle.partial_view.specs.Lines.{is_of}
use Rattle.partial_view.specs.Views.{Seen}
use Rattle.partial_view.proofs.Removals.{left_next, left_gone, left_first}
use Rattle.partial_view.proofs.Rounds.{left-seen}
use Rattle.partial_view.proofs.timed.TimedLines.remove_instance.Goals as goal

pub loop-i-init : goal.loop-i-init
loop-i-init c = record {
  params = refl;
  left = left_first (is_of c.args.instance) c.args.self.now.lines _ (ap length (c.as_slice-i.ensures.lines ∙ ap (λ (s : Seen). s.lines) c.self.view_is));
}

pub loop-i-preserved-then-as_slice-i : goal.loop-i-preserved-then-as_slice-i
loop-i-preserved-then-as_slice-i c = record {
  params = ap (λ (s : Seen). s.params) c.remove.ensures.left ∙ c.loop-i.invariant.params;
  left = left_gone (is_of c.args.instance) c.args.self.now.lines c.loop-i.self.lines c.loop-i.count c.loop-i.i (get_or c.as_slice.result.now (c.loop-i.i - 1) _) _ c.loop-i-test.true c.loop-i.invariant.left.bound c.loop-i.invariant.left.rest c.loop-i.invariant.left.number
      (ap (λ (ls : List Line). get_or ls (c.loop-i.i - 1) _) (c.as_slice.ensures.lines ∙ ap (λ (s : Seen). s.lines) c.self-in-loop-i.view_is))
      c.remove.new.self.lines (ap (λ (s : Seen). s.lines) c.remove.ensures.left) (eq-eqb _ _ c.if-as_slice-i.true);
}

pub loop-i-preserved : goal.loop-i-preserved
loop-i-preserved c = record {
  params = c.loop-i.invariant.params;
  left = left_next (is_of c.args.instance) c.args.self.now.lines c.loop-i.self.lines c.loop-i.count c.loop-i.i (get_or c.as_slice.result.now (c.loop-i.i - 1) _) _ c.loop-i-test.true c.loop-i.invariant.left.bound c.loop-i.invariant.left.rest c.loop-i.invariant.left.number
      (ap (λ (ls : List Line). get_or ls (c.loop-i.i - 1) _) (c.as_slice.ensures.lines ∙ ap (λ (s : Seen). s.lines) c.self-in-loop-i.view_is))
      (ne_eqb _ _ c.if-as_slice-i.false);
}

pub returns-clause-left : goal.returns-clause-left
returns-clause-left c = left-seen c.args.instance c.args.self.now c.loop-i.self c.loop-i.count c.loop-i.i c.loop-i.invariant.params c.loop-i-test.false c.loop-i.invariant.left
