use Rattle.std.proofs.Common.{sym, subst, ap, ◌∙◌}
use Rattle.std.proofs.lemmas.Bool.{both_ways}
use Rattle.run_facts.specs.Timed.{IsTimed}
use Rattle.audit_orders.specs.Timing.{life_of_term, nothing_yet, next_so_far}
use Rattle.audit_orders.specs.declared.timing.SoFar.{SoFar}
use Rattle.audit_orders.proofs.Walks.{breach_here, right_more, state_more}
use Rattle.audit_orders.proofs.Timely.{May, Ends, timed_goes, decided}
use Rattle.audit_orders.proofs.timing.flaw_by.Goals as goal

pub loop-i-init : goal.loop-i-init
loop-i-init c = record { known = c.new-so_far.ensures; right = tt }

pub returns-then-not-may_come : goal.returns-then-not-may_come
returns-then-not-may_come c =
    let p = c.args.plan.now.params in
    let term = c.args.term.now in
    breach_here (IsTimed p c.args.beats (life_of_term term)) (May p c.args.beats term) next_so_far nothing_yet (Ends c.args.beats term)
    (timed_goes p c.args.beats term) c.args.journal.now c.loop-i.i c.entry_at-e.result c.loop-i-test.true c.entry_at-e.ensures
    c.loop-i.invariant.right
    (λ may. both_ways c.may_come.result c.if-not-may_come.true
    (c.may_come.ensures ∙ subst (λ (s : SoFar). May p c.args.beats term s c.entry_at-e.result) (sym c.loop-i.invariant.known) may))

pub loop-i-preserved : goal.loop-i-preserved
loop-i-preserved c =
    let p = c.args.plan.now.params in
    let term = c.args.term.now in
    let x = c.entry_at-e.result in
    record {
      known = c.with-so_far.ensures ∙ ap (λ (s : SoFar). next_so_far s x) c.loop-i.invariant.known
          ∙ sym (state_more next_so_far nothing_yet c.args.journal.now c.loop-i.i x c.loop-i-test.true c.entry_at-e.ensures);
      right = right_more (May p c.args.beats term) next_so_far nothing_yet c.args.journal.now c.loop-i.i x c.loop-i-test.true
          c.entry_at-e.ensures c.loop-i.invariant.right
          (subst (λ (s : SoFar). May p c.args.beats term s x) c.loop-i.invariant.known (sym c.may_come.ensures ∙ c.if-not-may_come.false));
    }

pub returns : goal.returns
returns c =
    decided c.args.plan.now.params c.args.beats c.args.term.now c.loop-i.so_far c.args.journal.now c.loop-i.i c.missing_death.result
    c.loop-i-test.false c.loop-i.invariant.known c.loop-i.invariant.right c.missing_death.ensures
