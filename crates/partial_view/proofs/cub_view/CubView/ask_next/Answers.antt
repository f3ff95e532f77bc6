use Rattle.std.proofs.Common.{◌≡◌, ◌∙◌, Some, None, subst}
use Rattle.slot_plan.specs.declared.params.Params.{Params}
use Rattle.slot_plan.specs.Keys.{due_of}
use Rattle.partial_view.specs.declared.line.Flag.TheVariants.{Asked}
use Rattle.partial_view.specs.Lines.{key_of}
use Rattle.partial_view.specs.Pending.{is_unasked}
use Rattle.partial_view.specs.Views.{IsWalk}
use Rattle.partial_view.specs.Wheel.{IsTurn}
use Rattle.partial_view.specs.Work.{first_between}
use Rattle.partial_view.proofs.Pending.{kept_mark, first_seen, unasked_same, asked_found}
use Rattle.partial_view.proofs.Lefts.{first_inside, passes_none}
use Rattle.partial_view.proofs.cub_view.CubView.ask_next.Goals as goal

pub returns-then-time-self-clause-first : goal.returns-then-time-self-clause-first
returns-then-time-self-clause-first c =
    passes_none c.self.inside.plan.params is_unasked c.self.inside.asked_before c.args.time c.self.inside.view.lines c.if-time-self.true c.self.invariant.3
    ∙ first_inside c.self.inside.plan.params c.self.inside.view c.args.self.now is_unasked c.args.time c.self.invariant.0 c.self.view_is

pub returns-in_err-found-clause-first : goal.returns-in_err-found-clause-first
returns-in_err-found-clause-first c =
    c.from_residual.ensures ∙ first_seen c.self.inside.plan.params c.self.inside.view c.args.self.now is_unasked c.self.inside.asked_before c.args.time c.args.time None c.self.invariant.0 c.self.view_is
    (unasked_same c.self.inside.plan.params c.self.inside.asked_before c.args.time c.self.inside.view.lines c.self.invariant.3) c.in_err-found.ensures.first

pub invariant_of-self-2 : goal.invariant_of-self-2
invariant_of-self-2 c =
    kept_mark c.self.inside.plan.params c.self.inside.forwarded_to c.self.inside.split_from c.in_ok-found.found.due c.self.inside.split_between.0 c.self.inside.split_between.1 c.self.inside.forwarded_between.0 c.self.inside.forwarded_between.1
    c.self.inside.full c.self.inside.near_pending.turn c.in_ok-found.found.place.turn c.self.inside.near_unsplit.turn c.self.inside.view c.mark_first.new.self (key_of c.in_ok-found.found.line) Asked c.self.invariant.0 c.in_ok-found.ensures.marked
    c.self.invariant.1 c.self.invariant.2
    (asked_found c.self.inside.plan.params c.self.inside.asked_before c.args.time c.in_ok-found.found.due c.self.inside.view.lines c.in_ok-found.found.line
    (subst (λ (q : Params). IsWalk q c.self.inside.view.lines) c.self.invariant.0 c.in_ok-found.ensures.walk)
    (subst (λ (q : Params). c.in_ok-found.found.due ≡ due_of q (key_of c.in_ok-found.found.line)) c.self.invariant.0 c.in_ok-found.ensures.due) c.self.invariant.3
    (subst (λ (q : Params). Some c.in_ok-found.found.line ≡ first_between q is_unasked c.self.inside.asked_before c.args.time c.self.inside.view.lines) c.self.invariant.0 c.in_ok-found.ensures.first))
    c.self.invariant.4 c.self.invariant.5 c.self.invariant.6 c.self.invariant.7 (subst (λ (q : Params). IsTurn q c.in_ok-found.found.place.turn) c.self.invariant.0 c.in_ok-found.ensures.turn.0) c.self.invariant.9

pub returns-clause-first : goal.returns-clause-first
returns-clause-first c =
    first_seen c.self.inside.plan.params c.self.inside.view c.args.self.now is_unasked c.self.inside.asked_before c.args.time c.args.time (Some c.in_ok-found.found.line) c.self.invariant.0 c.self.view_is
    (unasked_same c.self.inside.plan.params c.self.inside.asked_before c.args.time c.self.inside.view.lines c.self.invariant.3) c.in_ok-found.ensures.first
