use Rattle.std.proofs.Common.{arith}
use Rattle.audit_orders.specs.Carrying.{AreAtEnds, IsStrayIn}
use Rattle.audit_orders.proofs.Posting.{if_some, if_none}
use Rattle.audit_orders.proofs.Delivering.{ends_more, all_ends}
use Rattle.audit_orders.proofs.Earliest.{stray_found}
use Rattle.audit_orders.proofs.carrying.first_stray.Goals as goal

pub loop-n-init : goal.loop-n-init
loop-n-init c = record { at_ends = λ m journal low at. absurd (omega (arith, low)) }

pub returns-in-Some : goal.returns-in-Some
returns-in-Some c =
    let p = c.args.course.now.plan.params in
    stray_found c.args.course.now c.args.journals.now c.loop-n.n c.in-Some.place c.journal_at.result.now c.journal_at.ensures
    c.loop-n.invariant.at_ends
    (if_some c.stray_in.result (AreAtEnds p c.loop-n.n c.journal_at.result.now) (IsStrayIn p c.loop-n.n c.journal_at.result.now) c.in-Some.place
    (c.stray_in.ensures p c.requires.links) c.in-Some.is)

pub loop-n-preserved : goal.loop-n-preserved
loop-n-preserved c =
    let p = c.args.course.now.plan.params in
    record {
      at_ends = ends_more p c.args.journals.now c.loop-n.n c.journal_at.result.now c.journal_at.ensures
          (if_none c.stray_in.result (AreAtEnds p c.loop-n.n c.journal_at.result.now) (IsStrayIn p c.loop-n.n c.journal_at.result.now)
          (c.stray_in.ensures p c.requires.links) c.in_default.is) c.loop-n.invariant.at_ends;
    }

pub returns : goal.returns
returns c = all_ends c.args.course.now.plan.params c.args.journals.now c.loop-n.n c.loop-n-test.false c.loop-n.invariant.at_ends
