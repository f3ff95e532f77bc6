use Rattle.std.proofs.Common.{List, subst}
use Rattle.node_kit.specs.declared.journal.Entry.{Entry}
use Rattle.node_kit.specs.Life.{back_of}
use Rattle.audit_orders.specs.Returning.{IsUntoldAt, TellsReturnIn}
use Rattle.audit_orders.proofs.Firsts.{none_below, one_more_below, all_below}
use Rattle.audit_orders.proofs.Untold.{untold_found}
use Rattle.audit_orders.proofs.returning.first_untold.Goals as goal

pub loop-n-init : goal.loop-n-init
loop-n-init c = record { lower = none_below (TellsReturnIn c.args.course.now) c.args.journals.now }

pub returns-in-Some : goal.returns-in-Some
returns-in-Some c =
    untold_found c.args.course.now c.args.journals.now c.loop-n.n c.index-journals-n.result c.in-Some.place c.loop-n-test.true
    c.index-journals-n.is c.loop-n.invariant.lower
    (subst (λ (j : List Entry). IsUntoldAt c.args.course.now.beats (back_of c.args.course.now c.loop-n.n) j c.in-Some.place) c.as_slice.ensures
    c.in-Some.ensures)

pub loop-n-preserved : goal.loop-n-preserved
loop-n-preserved c = record {
  lower = one_more_below (TellsReturnIn c.args.course.now) c.args.journals.now c.loop-n.n c.index-journals-n.result c.loop-n-test.true
      c.index-journals-n.is c.loop-n.invariant.lower
      (subst (λ (j : List Entry). TellsReturnIn c.args.course.now c.loop-n.n j) c.as_slice.ensures c.in_default.ensures);
}

pub returns : goal.returns
returns c = all_below (TellsReturnIn c.args.course.now) c.args.journals.now c.loop-n.n c.loop-n-test.false c.loop-n.invariant.lower
