use Rattle.std.proofs.Common.{List, Some, subst}
use Rattle.node_kit.specs.declared.journal.Entry.{Entry}
use Rattle.audit_orders.specs.Breaches.{DecidesList}
use Rattle.audit_orders.specs.Timing.{IsTimedIn}
use Rattle.audit_orders.proofs.Firsts.{none_below, one_more_below, all_below, flaw_found}
use Rattle.audit_orders.proofs.timing.first_flaw.Goals as goal

pub loop-n-init : goal.loop-n-init
loop-n-init c = record { lower = none_below (IsTimedIn c.args.course.now) c.args.journals.now }

pub returns-in-Some : goal.returns-in-Some
returns-in-Some c =
    flaw_found c.args.course.now c.args.journals.now c.loop-n.n c.index-journals-n.result c.in-Some.flaw c.loop-n-test.true
    c.index-journals-n.is c.loop-n.invariant.lower
    (subst (λ (j : List Entry). DecidesList (IsTimedIn c.args.course.now c.loop-n.n) j (Some c.in-Some.flaw)) c.as_slice.ensures
    c.in-Some.ensures)

pub loop-n-preserved : goal.loop-n-preserved
loop-n-preserved c = record {
  lower = one_more_below (IsTimedIn c.args.course.now) c.args.journals.now c.loop-n.n c.index-journals-n.result c.loop-n-test.true
      c.index-journals-n.is c.loop-n.invariant.lower
      (subst (λ (j : List Entry). IsTimedIn c.args.course.now c.loop-n.n j) c.as_slice.ensures c.in_default.ensures);
}

pub returns : goal.returns
returns c = all_below (IsTimedIn c.args.course.now) c.args.journals.now c.loop-n.n c.loop-n-test.false c.loop-n.invariant.lower
