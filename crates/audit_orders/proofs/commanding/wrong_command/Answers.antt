use Rattle.std.proofs.Common.{List, subst, sym}
use Rattle.std.proofs.lemmas.Result.{IfOk-weaker}
use Rattle.node_kit.specs.declared.course.Order.{Order}
use Rattle.node_kit.specs.declared.journal.Entry.{Entry}
use Rattle.run_facts.specs.Timed.{AreRising}
use Rattle.audit_orders.specs.Commanding.{DecidesController, clock_of}
use Rattle.audit_orders.proofs.Following.{controller_decides, no_controller}
use Rattle.audit_orders.proofs.commanding.wrong_command.Goals as goal

pub wrong_in-requires-clause-rising : goal.wrong_in-requires-clause-rising
wrong_in-requires-clause-rising c =
    subst AreRising (sym c.as_slice-in-Some.ensures)
    (c.requires.timed.timed c.args.controller.0 c.in-Some.journal.now (sym c.in-Some.ensures)).rising

pub returns-in-Some : goal.returns-in-Some
returns-in-Some c =
    let k = c.args.k.now in
    let p = k.course.plan.params in
    IfOk-weaker c.wrong_in.result _ _ (λ answer h.
    controller_decides k c.args.controller.0 c.in-Some.journal.now answer c.requires.node (sym c.in-Some.ensures) c.requires.others
    (subst (λ (j : List Entry). DecidesController p k.course.beats (clock_of k.course) k.orders j answer) c.as_slice-in-Some.ensures
    (subst (λ (os : List Order). DecidesController p k.course.beats (clock_of k.course) os c.as_slice-in-Some.result.now answer) c.as_slice.ensures h)))
    c.wrong_in.ensures

pub returns-in-None : goal.returns-in-None
returns-in-None c = no_controller c.args.k.now c.args.controller.0 c.requires.node (sym c.in-None.ensures) c.requires.others
