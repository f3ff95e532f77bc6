use Rattle.std.proofs.Common.{◌≡◌, ◌+◌, ◌∙◌, Some, None, sym, subst, arith}
use Rattle.slot_plan.specs.declared.params.Params.{Params}
use Rattle.slot_plan.specs.Keys.{due_of}
use Rattle.partial_view.specs.declared.line.Flag.TheVariants.{Forwarded}
use Rattle.partial_view.specs.Lines.{key_of}
use Rattle.partial_view.specs.Pending.{is_pending}
use Rattle.partial_view.specs.Views.{IsWalk}
use Rattle.partial_view.specs.Wheel.{IsTurn}
use Rattle.partial_view.specs.Work.{first_between}
use Rattle.partial_view.proofs.Pending.{kept_mark, first_seen, pending_same, forwarded_found, found_fits}
use Rattle.partial_view.proofs.Lefts.{first_inside, passes_none, pending_later}
use Rattle.partial_view.proofs.cub_view.CubView.forward_next.Goals as goal

pub returns-then-time-play-clause-first : goal.returns-then-time-play-clause-first
returns-then-time-play-clause-first c =
    passes_none c.self.inside.plan.params is_pending (c.args.time + 1) c.args.time c.self.inside.view.lines (omega arith)
    (pending_later c.self.inside.plan.params c.self.inside.forwarded_to c.args.time c.self.inside.view.lines (omega (arith, c.if-time-play.true)) c.self.invariant.1)
    ∙ first_inside c.self.inside.plan.params c.self.inside.view c.args.self.now is_pending c.args.time c.self.invariant.0 c.self.view_is

pub mark_first-requires : goal.mark_first-requires
mark_first-requires c = subst (λ (q : Params). IsTurn q c.self.inside.near_pending.turn) (sym c.self.invariant.0) c.self.invariant.7

pub returns-in_err-found-clause-first : goal.returns-in_err-found-clause-first
returns-in_err-found-clause-first c =
    c.from_residual.ensures ∙ first_seen c.self.inside.plan.params c.self.inside.view c.args.self.now is_pending c.saturating_sub-from.result c.saturating_sub.result c.args.time None c.self.invariant.0 c.self.view_is
    (pending_same c.self.inside.plan.params c.self.inside.forwarded_to c.self.inside.forwarded_between.0 c.self.inside.forwarded_between.1 c.pending_end-end.result c.saturating_sub-from.result c.saturating_sub.result c.args.time c.self.inside.view.lines
    (omega (arith, c.saturating_sub-from.ensures, c.saturating_add.ensures)) c.saturating_sub.ensures c.pending_end-end.ensures.earlier c.pending_end-end.ensures.others c.self.invariant.1 c.self.invariant.6) c.in_err-found.ensures.first

pub overflow_add-found : goal.overflow_add-found
overflow_add-found c =
    let due_is : c.in_ok-found.found.due ≡ due_of c.self.inside.plan.params (key_of c.in_ok-found.found.line) = (subst (λ (q : Params). c.in_ok-found.found.due ≡ due_of q (key_of c.in_ok-found.found.line)) c.self.invariant.0 c.in_ok-found.ensures.due) in
    let fits =
    found_fits c.self.inside.plan.params is_pending c.saturating_sub-from.result c.saturating_sub.result c.self.inside.view.lines c.in_ok-found.found.line c.self.inside.plan.sound.ranges
    (subst (λ (q : Params). IsWalk q c.self.inside.view.lines) c.self.invariant.0 c.in_ok-found.ensures.walk)
    (subst (λ (q : Params). Some c.in_ok-found.found.line ≡ first_between q is_pending c.saturating_sub-from.result c.saturating_sub.result c.self.inside.view.lines) c.self.invariant.0 c.in_ok-found.ensures.first) in
    omega (arith, due_is, fits, c.self.inside.plan.sound.ranges.play.1)

pub invariant_of-self-2 : goal.invariant_of-self-2
invariant_of-self-2 c =
    kept_mark c.self.inside.plan.params c.max-self-inside.result c.self.inside.split_from c.self.inside.asked_before c.self.inside.split_between.0 c.self.inside.split_between.1 c.self.inside.forwarded_between.0 c.self.inside.forwarded_between.1
    c.self.inside.full c.in_ok-found.found.place.turn c.self.inside.near_unasked.turn c.self.inside.near_unsplit.turn c.self.inside.view c.mark_first.new.self (key_of c.in_ok-found.found.line) Forwarded c.self.invariant.0 c.in_ok-found.ensures.marked
    (forwarded_found c.self.inside.plan.params c.self.inside.forwarded_to c.saturating_sub-from.result c.saturating_sub.result c.in_ok-found.found.due c.max-self-inside.result c.self.inside.view.lines c.in_ok-found.found.line
    (subst (λ (q : Params). IsWalk q c.self.inside.view.lines) c.self.invariant.0 c.in_ok-found.ensures.walk)
    (omega (arith, c.self.inside.plan.sound.ranges.play.0)) (omega (arith, c.saturating_sub-from.ensures, c.saturating_add.ensures))
    (subst (λ (q : Params). c.in_ok-found.found.due ≡ due_of q (key_of c.in_ok-found.found.line)) c.self.invariant.0 c.in_ok-found.ensures.due) c.max-self-inside.ensures c.self.invariant.1
    (subst (λ (q : Params). Some c.in_ok-found.found.line ≡ first_between q is_pending c.saturating_sub-from.result c.saturating_sub.result c.self.inside.view.lines) c.self.invariant.0 c.in_ok-found.ensures.first))
    c.self.invariant.2 c.self.invariant.3 c.self.invariant.4 c.self.invariant.5 c.self.invariant.6 (subst (λ (q : Params). IsTurn q c.in_ok-found.found.place.turn) c.self.invariant.0 c.in_ok-found.ensures.turn.0) c.self.invariant.8 c.self.invariant.9

pub returns-clause-first : goal.returns-clause-first
returns-clause-first c =
    first_seen c.self.inside.plan.params c.self.inside.view c.args.self.now is_pending c.saturating_sub-from.result c.saturating_sub.result c.args.time (Some c.in_ok-found.found.line) c.self.invariant.0 c.self.view_is
    (pending_same c.self.inside.plan.params c.self.inside.forwarded_to c.self.inside.forwarded_between.0 c.self.inside.forwarded_between.1 c.pending_end-end.result c.saturating_sub-from.result c.saturating_sub.result c.args.time c.self.inside.view.lines
    (omega (arith, c.saturating_sub-from.ensures, c.saturating_add.ensures)) c.saturating_sub.ensures c.pending_end-end.ensures.earlier c.pending_end-end.ensures.others c.self.invariant.1 c.self.invariant.6) c.in_ok-found.ensures.first
