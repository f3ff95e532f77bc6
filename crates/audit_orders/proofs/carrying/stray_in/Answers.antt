use Rattle.std.proofs.Common.{List, sym, ap, subst, ◌∙◌}
use Rattle.std.proofs.lemmas.List.{take_all}
use Rattle.node_kit.specs.declared.journal.Entry.{Entry}
use Rattle.node_kit.specs.Links.{Links}
use Rattle.run_model.specs.Tests.{at_its_end}
use Rattle.audit_orders.specs.Carrying.{AreAtEnds}
use Rattle.audit_orders.proofs.Delivering.{end_more, stray_here}
use Rattle.audit_orders.proofs.carrying.stray_in.Goals as goal

pub loop-i-init : goal.loop-i-init
loop-i-init c = record { at_ends = λ p is. tt }

pub returns-then-not-is_at_its_end : goal.returns-then-not-is_at_its_end
returns-then-not-is_at_its_end c = λ p is.
    stray_here p c.args.node.0 c.args.journal.now c.loop-i.i c.entry_at-e.result c.loop-i-test.true c.entry_at-e.ensures
    (ap (λ (t : Links). at_its_end t c.args.node.0 c.entry_at-e.result.what) (sym is) ∙ sym c.is_at_its_end.ensures ∙ c.if-not-is_at_its_end.true)
    (c.loop-i.invariant.at_ends p is)

pub loop-i-preserved : goal.loop-i-preserved
loop-i-preserved c = record {
  at_ends = λ p is.
      end_more p c.args.node.0 c.args.journal.now c.loop-i.i c.entry_at-e.result c.loop-i-test.true c.entry_at-e.ensures
      (ap (λ (t : Links). at_its_end t c.args.node.0 c.entry_at-e.result.what) (sym is) ∙ sym c.is_at_its_end.ensures ∙ c.if-not-is_at_its_end.false)
      (c.loop-i.invariant.at_ends p is);
}

pub returns : goal.returns
returns c = λ p is.
    subst (λ (q : List Entry). AreAtEnds p c.args.node.0 q) (take_all c.loop-i.i c.args.journal.now c.loop-i-test.false)
    (c.loop-i.invariant.at_ends p is)
