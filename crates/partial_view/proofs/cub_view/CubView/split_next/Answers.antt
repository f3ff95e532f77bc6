use Rattle.std.proofs.Common.{◌≡◌, ◌∙◌, Some, None, subst}
use Rattle.slot_plan.specs.declared.params.Params.{Params}
use Rattle.slot_plan.specs.Keys.{due_of}
use Rattle.partial_view.specs.declared.line.Flag.TheVariants.{Split}
use Rattle.partial_view.specs.Lines.{key_of}
use Rattle.partial_view.specs.Pending.{is_unsplit}
use Rattle.partial_view.specs.Views.{IsWalk}
use Rattle.partial_view.specs.Wheel.{IsTurn}
use Rattle.partial_view.specs.Work.{first_between}
use Rattle.partial_view.proofs.Pending.{kept_mark, unsplit_seen, unsplit_same, split_found}
use Rattle.partial_view.proofs.cub_view.CubView.split_next.Goals as goal

pub returns-in_err-found-clause-first : goal.returns-in_err-found-clause-first
returns-in_err-found-clause-first c =
    c.from_residual.ensures ∙ unsplit_seen c.self.inside.plan.params c.self.inside.view c.args.self.now c.args.limit c.unsplit_start.result c.self.inside.split_from None c.self.invariant.0 c.self.view_is
    (unsplit_same c.self.inside.plan.params c.args.limit c.self.inside.split_between.0 c.self.inside.split_between.1 c.unsplit_start.result c.self.inside.split_from c.self.inside.view.lines c.unsplit_start.ensures.later c.unsplit_start.ensures.others c.self.invariant.4 c.self.invariant.2) c.in_err-found.ensures.first

pub invariant_of-self-2 : goal.invariant_of-self-2
invariant_of-self-2 c =
    kept_mark c.self.inside.plan.params c.self.inside.forwarded_to c.self.inside.split_from c.self.inside.asked_before c.args.limit c.in_ok-found.found.due c.self.inside.forwarded_between.0 c.self.inside.forwarded_between.1
    c.self.inside.full c.self.inside.near_pending.turn c.self.inside.near_unasked.turn c.in_ok-found.found.place.turn c.self.inside.view c.mark_first.new.self (key_of c.in_ok-found.found.line) Split c.self.invariant.0 c.in_ok-found.ensures.marked
    c.self.invariant.1 c.self.invariant.2 c.self.invariant.3
    (split_found c.self.inside.plan.params c.args.limit c.self.inside.split_between.0 c.self.inside.split_between.1 c.unsplit_start.result c.self.inside.split_from c.in_ok-found.found.due c.self.inside.view.lines c.in_ok-found.found.line
    (subst (λ (q : Params). IsWalk q c.self.inside.view.lines) c.self.invariant.0 c.in_ok-found.ensures.walk)
    (subst (λ (q : Params). c.in_ok-found.found.due ≡ due_of q (key_of c.in_ok-found.found.line)) c.self.invariant.0 c.in_ok-found.ensures.due) c.unsplit_start.ensures.others c.self.invariant.4
    (subst (λ (q : Params). Some c.in_ok-found.found.line ≡ first_between q is_unsplit c.unsplit_start.result c.self.inside.split_from c.self.inside.view.lines) c.self.invariant.0 c.in_ok-found.ensures.first))
    c.self.invariant.5 c.self.invariant.6 c.self.invariant.7 c.self.invariant.8 (subst (λ (q : Params). IsTurn q c.in_ok-found.found.place.turn) c.self.invariant.0 c.in_ok-found.ensures.turn.0)

pub returns-clause-first : goal.returns-clause-first
returns-clause-first c =
    unsplit_seen c.self.inside.plan.params c.self.inside.view c.args.self.now c.args.limit c.unsplit_start.result c.self.inside.split_from (Some c.in_ok-found.found.line) c.self.invariant.0 c.self.view_is
    (unsplit_same c.self.inside.plan.params c.args.limit c.self.inside.split_between.0 c.self.inside.split_between.1 c.unsplit_start.result c.self.inside.split_from c.self.inside.view.lines c.unsplit_start.ensures.later c.unsplit_start.ensures.others c.self.invariant.4 c.self.invariant.2) c.in_ok-found.ensures.first
