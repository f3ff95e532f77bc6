-- That the rows on a start that is served by a beat are as they say.
use Rattle.std.proofs.Common.{[], ◌∷◌, ◌≡◌, ◌+◌, ◌≤◌, true, false, refl, sym, subst, ◌∙◌, arith, inl}
use Rattle.std.proofs.lemmas.Bool.{false≢true}
use Rattle.tiger_base.specs.declared.tenancy.Tenancy.{Tenancy}
use Rattle.slot_plan.specs.Samples.{small}
use Rattle.slot_plan.specs.Times.{due, time_of}
use Rattle.run_model.specs.Samples.{begins, put, seat_in}
use Rattle.run_model.proofs.OnSamples.{on_samples}
use Rattle.run_promises.specs.Samples.{all_live, one_block, placed}
use Rattle.run_promises.specs.Served.{IsSettledVisit}
use Rattle.run_promises.proofs.Broken as broken
use Rattle.run_promises.proofs.rows.served_in_numbers.Goals as goal

pub returns-clause-in_time : goal.returns-clause-in_time
unfolding on_samples
returns-clause-in_time c k p s = record {
  tenancy = seat_in 0 0 16 16;
  put = inl (inl refl);
  asked = record { instance = refl; file = refl; count = omega arith; disk = refl };
  in_time = broken.placed_by k p s 1520 0 16 1520 true (omega arith) refl;
  soon = omega arith;
  blocks = λ visit v.
      let first = v.first in
      let late = v.settled in
      absurd (omega arith);
}

pub returns-clause-too_late : goal.returns-clause-too_late
unfolding on_samples
returns-clause-too_late c k p s q =
    false≢true (sym (broken.placed_by k p s 1521 0 16 1520 false (omega arith) refl) ∙ q.in_time)

pub returns-clause-soon : goal.returns-clause-soon
unfolding on_samples
returns-clause-soon c k p s = record {
  tenancy = seat_in 13 0 8 8;
  put = inl (inl refl);
  asked = record { instance = refl; file = refl; count = omega arith; disk = refl };
  in_time = broken.placed_by k p s 1369 13 8 1370 true (omega arith) refl;
  soon = omega arith;
  blocks = λ visit v.
      let first = v.first in
      let late = v.settled in
      absurd (omega arith);
}

pub returns-clause-not_soon : goal.returns-clause-not_soon
unfolding on_samples
returns-clause-not_soon c k p s q =
    let soon = subst (λ (t : Tenancy). due small t.slot.0 t.first ≤ 14494000) (sym (broken.one_put 1369 (seat_in 13 0 8 8) q.tenancy q.put)) q.soon in
    omega (arith, soon)

pub returns-clause-no_block : goal.returns-clause-no_block
unfolding on_samples
returns-clause-no_block c k p s q =
    let is = broken.one_put 1369 (seat_in 12 0 8 8) q.tenancy q.put in
    broken.nothing_came k p s all_live [] (begins one_block) (put 0 1369 (seat_in 12 0 8 8) ∷ []) q.tenancy 8 refl
    (q.blocks 8 (subst (λ (t : Tenancy). IsSettledVisit (placed k p s 1369 12 8) t 8) is
    (record { first = omega arith; last = omega arith; settled = omega arith })))

pub returns-clause-not_asked : goal.returns-clause-not_asked
returns-clause-not_asked c k p s q =
    let count = subst (λ (t : Tenancy). t.first + 1 ≡ t.last + 1) (sym (broken.one_put 1369 (seat_in 13 0 8 9) q.tenancy q.put)) q.asked.count in
    omega (arith, count)

pub returns-clause-first : goal.returns-clause-first
unfolding time_of
returns-clause-first c k p s o log q = let soon = q.soon in omega (arith, soon)

pub returns-clause-block : goal.returns-clause-block
unfolding time_of
returns-clause-block c k p s o log q =
    let count = q.asked.count in
    let soon = q.soon in
    q.blocks q.tenancy.first (record { first = omega arith; last = omega (arith, count); settled = omega (arith, soon) })
