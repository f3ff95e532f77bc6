use Rattle.std.proofs.Common.{refl, arith, inl, inr, ⊎_elim}
use Rattle.ring_cells.specs.Samples.{wire}
use Rattle.ring_cells.proofs.Tried.{did-silent}
use Rattle.ring_cells.proofs.worked.moves.Goals as goal

pub returns-clause-one : goal.returns-clause-one
returns-clause-one c line note step past =
    (omega arith, did-silent line note step past 1 1 1, inr (wire, inl (omega arith, refl)))

pub returns-clause-two : goal.returns-clause-two
returns-clause-two c line note step past =
    (omega arith, did-silent line note step past 0 1 2, inr (wire, inl (omega arith, refl)))

pub returns-clause-to_the_end : goal.returns-clause-to_the_end
returns-clause-to_the_end c line note step past =
    (omega arith, did-silent line note step past 2 9 1, inl (omega arith))

pub returns-clause-too_few : goal.returns-clause-too_few
returns-clause-too_few c line note step past h = ⊎_elim
    (λ end. omega (arith, end))
    (λ short. ⊎_elim (λ q. let low = q.0 in omega (arith, low)) (λ q. q.1) short.1)
    h.2

pub returns-clause-miscounted : goal.returns-clause-miscounted
returns-clause-miscounted c line note step past h = let far = h.1.further in omega (arith, far)

pub returns-clause-none_is_no_beats : goal.returns-clause-none_is_no_beats
returns-clause-none_is_no_beats c line note step past h = let some = h.0 in omega (arith, some)

pub returns-clause-blocked : goal.returns-clause-blocked
returns-clause-blocked c line note step past = (record { same_next = refl; same_nodes = refl; same_lives = refl; same_journals = refl }, omega arith, inl (omega arith, refl))

pub returns-clause-not_blocked : goal.returns-clause-not_blocked
returns-clause-not_blocked c line note step past h = ⊎_elim (λ q. let low = q.0 in omega (arith, low)) (λ q. q.1) h.2

pub returns-clause-ended : goal.returns-clause-ended
returns-clause-ended c line note step past = (record { same_next = refl; same_nodes = refl; same_lives = refl; same_journals = refl }, omega arith)

pub returns-clause-not_ended : goal.returns-clause-not_ended
returns-clause-not_ended c line note step past h = let end = h.1 in omega (arith, end)
