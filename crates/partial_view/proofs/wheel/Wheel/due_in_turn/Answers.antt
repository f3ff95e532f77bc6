use Rattle.std.proofs.Common.{sym, arith}
use Rattle.std.proofs.lemmas.Bool.{ltb-true, ltb-false}
use Rattle.partial_view.specs.Wheel.{all_lines}
use Rattle.partial_view.proofs.Rounds.{none-seen, seen-of, wheel-lent, turn-next, turn-none}
use Rattle.partial_view.proofs.wheel.Wheel.due_in_turn.Goals as goal

pub returns-in-Some-clause-next : goal.returns-in-Some-clause-next
returns-in-Some-clause-next c =
    none-seen c.self.inside.plan.params (all_lines c.self.inside.plan.params c.deref.result.now) c.args.time c.min.result (seen-of c.self.inside.plan.params c.self.inside.buckets.items c.deref.result.now c.self.view_is c.deref.ensures.value)
    (turn-next c.self.inside.plan.params c.deref.result.now c.in-Some.bucket.now c.at-turn.result c.args.time c.next_due.result c.min.result (wheel-lent c.self.inside.plan.params c.self.inside.buckets.items c.deref.result.now c.deref.ensures.value c.self.invariant.0)
    (ltb-true _ _ (sym c.in-Some.ensures.lookup.0)) c.in-Some.ensures.lookup.1 c.at-turn.ensures.turn (omega (arith, c.min.ensures, c.saturating_add-end.ensures)) (omega (arith, c.min.ensures)) c.next_due.ensures.next)

pub returns-in-None-clause-next : goal.returns-in-None-clause-next
returns-in-None-clause-next c =
    none-seen c.self.inside.plan.params (all_lines c.self.inside.plan.params c.deref.result.now) c.args.time c.saturating_add-end.result (seen-of c.self.inside.plan.params c.self.inside.buckets.items c.deref.result.now c.self.view_is c.deref.ensures.value)
    (turn-none c.self.inside.plan.params c.deref.result.now c.at-turn.result c.args.time c.saturating_add-end.result (wheel-lent c.self.inside.plan.params c.self.inside.buckets.items c.deref.result.now c.deref.ensures.value c.self.invariant.0)
    (ltb-false _ _ (sym c.in-None.ensures.lookup.0)) c.at-turn.ensures.turn (omega (arith, c.saturating_add-end.ensures)))
