use Rattle.std.proofs.Common.{◌+◌, ◌≤◌, le_refl, sym, subst, arith}
use Rattle.ring_links.proofs.Orders.{ordered_next, by_next}
use Rattle.ring_links.proofs.Tried.{kept_by}
use Rattle.tests_of_rings.proofs.links.Sender.send.Goals as goal

pub send-requires-clause-order : goal.send-requires-clause-order
send-requires-clause-order g c =
    let beat = c.self.inside.beat in ordered_next beat (beat + 1) _ _ c.self.invariant.0 c.self.invariant.1 (le_refl beat) (le_refl (beat + 1)) (omega arith)

pub invariant_of-self : goal.invariant_of-self
invariant_of-self g c =
    let beat = c.self.inside.beat in
    let kept =
    kept_by c.send.result beat (beat + 1) c.self.inside.out.flights c.send.new.self.flights _ c.send.ensures.sent c.send.ensures.unsent c.self.invariant.0 c.self.invariant.1 (ordered_next beat (beat + 1) _ _ c.self.invariant.0 c.self.invariant.1 (le_refl beat) (le_refl (beat + 1)) (omega arith))
    (by_next beat (beat + 1) _ _ c.self.invariant.1 (le_refl beat) (le_refl (beat + 1))) in
    (kept.0, kept.1, subst (λ n. n ≤ beat) (sym c.send.ensures.closed) c.self.invariant.2, c.self.invariant.3)
