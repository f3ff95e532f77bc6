use Rattle.std.proofs.Common.{◌≡◌, subst, arith}
use Rattle.slot_plan.specs.declared.params.Params.{Params}
use Rattle.slot_plan.specs.Keys.{due_of}
use Rattle.partial_view.specs.Lines.{key_of}
use Rattle.partial_view.proofs.Pending.{kept_without}
use Rattle.partial_view.proofs.cub_view.CubView.take.Goals as goal

pub invariant_of-self-2 : goal.invariant_of-self-2
invariant_of-self-2 c =
    let due_is : c.in_ok-found.found.due ≡ due_of c.self.inside.plan.params (key_of c.in_ok-found.found.line) = (subst (λ (q : Params). c.in_ok-found.found.due ≡ due_of q (key_of c.in_ok-found.found.line)) c.self.invariant.0 c.in_ok-found.ensures.due) in
    kept_without c.self.inside.plan.params c.self.inside.forwarded_to c.self.inside.split_from c.self.inside.asked_before c.self.inside.split_between.0 c.self.inside.split_between.1 c.self.inside.forwarded_between.0 c.self.inside.forwarded_between.1 c.gone_from-self-inside.result
    c.self.inside.full c.self.inside.near_pending.turn c.self.inside.near_unasked.turn c.self.inside.near_unsplit.turn c.self.inside.view c.take_first.new.self (key_of c.in_ok-found.found.line) c.self.invariant.0 c.in_ok-found.ensures.left
    c.gone_from-self-inside.ensures.later (omega (arith, c.gone_from-self-inside.ensures.gone, due_is))
    c.self.invariant.1 c.self.invariant.2 c.self.invariant.3 c.self.invariant.4 c.self.invariant.5 c.self.invariant.6 c.self.invariant.7 c.self.invariant.8 c.self.invariant.9
