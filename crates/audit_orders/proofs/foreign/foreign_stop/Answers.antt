use Rattle.std.proofs.Common.{List, subst, arith}
use Rattle.node_kit.specs.declared.journal.Entry.{Entry}
use Rattle.run_facts.specs.Commanded.{StopsNone}
use Rattle.audit_orders.specs.Earliest.{IsFirstInRow}
use Rattle.audit_orders.specs.Commanding.{IsGoneAt}
use Rattle.audit_orders.proofs.Following.{others_more, all_others, foreign_found}
use Rattle.audit_orders.proofs.foreign.foreign_stop.Goals as goal

pub loop-n-init : goal.loop-n-init
loop-n-init c = record { lower = λ m journal low ne at. absurd (omega (arith, low)) }

pub returns-in-Some : goal.returns-in-Some
returns-in-Some c =
    let says = c.in-Some.ensures in
    foreign_found c.args.controller.0 c.loop-n.n c.in-Some.place c.args.journals.now c.index-journals-n.result c.loop-n-test.true
    c.index-journals-n.is says.0
    (subst (λ (j : List Entry). IsFirstInRow (IsGoneAt j) c.in-Some.place) c.as_slice.ensures says.1) c.loop-n.invariant.lower

pub loop-n-preserved : goal.loop-n-preserved
loop-n-preserved c = record {
  lower = others_more c.args.controller.0 c.loop-n.n c.args.journals.now c.index-journals-n.result c.loop-n-test.true c.index-journals-n.is
      (λ ne. subst StopsNone c.as_slice.ensures (c.in_default.ensures ne)) c.loop-n.invariant.lower;
}

pub returns : goal.returns
returns c = all_others c.args.controller.0 c.loop-n.n c.args.journals.now c.loop-n-test.false c.loop-n.invariant.lower
