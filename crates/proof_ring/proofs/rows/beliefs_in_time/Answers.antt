use Rattle.std.proofs.Common.{refl, ⊎_elim, inl, inr, arith}
use Rattle.slot_plan.specs.Times.{time_of, cub_of}
use Rattle.proof_ring.proofs.rows.beliefs_in_time.Goals as goal

pub returns-clause-in_time : goal.returns-clause-in_time
unfolding cub_of
returns-clause-in_time c = (
  λ quiet beat reading small silent tick long. ⊎_elim
      (λ t. let when = t.1 in inr (inl (refl, omega (arith, when), refl)))
      (λ none. absurd none) tick,
  (tt, tt),
)

pub returns-clause-too_late : goal.returns-clause-too_late
unfolding time_of cub_of
returns-clause-too_late c h =
    ⊎_elim (λ own. own.2) (λ rest. ⊎_elim (λ late. let when = late.1 in omega (arith, when)) (λ none. none) rest)
    (h.0 30 132 1320000 (omega arith) (λ own beats before. absurd beats, (λ own beats before. absurd beats, tt)) (inl (refl, refl, refl)) (omega arith))

pub returns-clause-not_yet : goal.returns-clause-not_yet
unfolding time_of
returns-clause-not_yet c = (
  tt,
  (
    λ quiet beat reading small silent tick long. ⊎_elim
        (λ t. let when = t.1 in let later = silent.0 refl tt (omega (arith, when)) in absurd (omega (arith, when, long, later)))
        (λ none. absurd none) tick,
    tt,
  ),
)

pub returns-clause-does_not_tick : goal.returns-clause-does_not_tick
returns-clause-does_not_tick c = (λ quiet beat reading small silent tick long. absurd tick, tt)

pub returns-clause-of_other : goal.returns-clause-of_other
unfolding time_of cub_of
returns-clause-of_other c h =
    ⊎_elim (λ own. own.2) (λ rest. ⊎_elim (λ other. let cub = other.2 in omega (arith, cub)) (λ none. none) rest)
    (h.0 30 132 1320000 (omega arith) (λ own beats before. absurd beats, (λ own beats before. absurd beats, tt)) (inl (refl, refl, refl)) (omega arith))

pub returns-clause-by_other : goal.returns-clause-by_other
unfolding time_of cub_of
returns-clause-by_other c h =
    ⊎_elim (λ own. own.2) (λ rest. ⊎_elim (λ other. let node = other.0 in omega (arith, node)) (λ none. none) rest)
    (h.0 30 132 1320000 (omega arith) (λ own beats before. absurd beats, (λ own beats before. absurd beats, tt)) (inl (refl, refl, refl)) (omega arith))

pub returns-clause-beats_at_death : goal.returns-clause-beats_at_death
unfolding time_of
returns-clause-beats_at_death c = (
  tt,
  (
    λ quiet beat reading small silent tick long. ⊎_elim
        (λ t. let when = t.1 in let later = silent.0 refl tt (omega (arith, when)) in absurd (omega (arith, when, long, later)))
        (λ none. absurd none) tick,
    tt,
  ),
)

pub returns-clause-beats_before : goal.returns-clause-beats_before
unfolding time_of cub_of
returns-clause-beats_before c h =
    ⊎_elim (λ own. own.2) (λ rest. ⊎_elim (λ other. other.2) (λ none. none) rest)
    (h.1.0 30 132 1320000 (omega arith) (λ own beats before. omega arith, (λ own beats before. absurd beats, tt)) (inl (refl, refl, refl)) (omega arith))

pub returns-clause-noticed_later : goal.returns-clause-noticed_later
unfolding time_of cub_of
returns-clause-noticed_later c h =
    ⊎_elim (λ own. own.2) (λ rest. ⊎_elim (λ other. other.2) (λ none. none) rest)
    (h.1.0 31 133 1330000 (omega arith) (λ own beats before. omega arith, (λ own beats before. absurd beats, tt)) (inl (refl, refl, refl)) (omega arith))

pub returns-clause-beats_again : goal.returns-clause-beats_again
unfolding time_of cub_of
returns-clause-beats_again c h =
    ⊎_elim (λ own. own.2) (λ rest. ⊎_elim (λ other. other.2) (λ none. none) rest)
    (h.0 30 132 1320000 (omega arith)
    (λ own beats before. absurd beats, (λ own beats before. omega arith, tt)) (inl (refl, refl, refl)) (omega arith))
