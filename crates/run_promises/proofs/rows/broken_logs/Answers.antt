-- That each of these logs breaks a promise.
use Rattle.std.proofs.Common.{[], ◌∷◌, ◌≤◌, true, Some, None, refl, sym, subst, arith, ⊎_elim, inl}
use Rattle.tiger_base.specs.declared.tenancy.Tenancy.{Tenancy}
use Rattle.slot_plan.specs.Samples.{small}
use Rattle.slot_plan.specs.Times.{due}
use Rattle.run_facts.specs.Commanded.{stop_ordered, places_got}
use Rattle.run_model.specs.Samples.{begins, dies, dying, ordered, put, seat, seat_in, three}
use Rattle.run_model.proofs.OnSamples.{on_samples}
use Rattle.run_report.specs.Outcomes.{kind_of, missing_of, reason_of, whole_sent, pieces_sent, piece_sent, stop_of}
use Rattle.run_report.specs.declared.outcome.Reason.TheVariants as reason
use Rattle.run_promises.specs.Samples.{all_live, one_block, stopped_log, unstopped_log}
use Rattle.run_promises.proofs.Broken as broken
use Rattle.run_promises.proofs.Worked as worked
use Rattle.run_promises.proofs.rows.broken_logs.Goals as goal

pub returns-clause-soon : goal.returns-clause-soon
unfolding on_samples
returns-clause-soon c k p s law =
    let q = law 0 1 0 (broken.placed_by k p s 1 2 0 1 true (omega arith) refl) in
    let soon = subst (λ (t : Tenancy). due small t.slot.0 t.first ≤ 814000) (sym (broken.one_put 1 (seat_in 2 0 0 0) q.0 q.1.put)) q.1.soon in
    omega (arith, soon)

pub returns-clause-comes : goal.returns-clause-comes
unfolding on_samples
returns-clause-comes c k p s law = broken.nothing_came k p s all_live [] (begins one_block) (put 0 1 (seat 0 0 0) ∷ []) (seat 0 0 0) 0 refl
    (law (seat 0 0 0) 0 (inl (inl refl)) (record { first = omega arith; last = omega arith; settled = omega arith })
    (λ beat o. absurd (worked.no_stop_among (begins one_block) 0 beat (tt, tt) o))
    (λ death d. absurd (worked.no_death k p s [] (begins one_block) (put 0 1 (seat 0 0 0) ∷ []) 0 (omega arith) death d)) tt)

pub returns-clause-one_death : goal.returns-clause-one_death
unfolding on_samples
returns-clause-one_death c k p s law = ⊎_elim
    (λ came. broken.nothing_came k p s (dying None (Some 101) None) [] ordered (put 0 1 three ∷ dies 1 101 ∷ []) three 0 refl came)
    (λ came. broken.nothing_came k p s (dying None (Some 101) None) [] ordered (put 0 1 three ∷ dies 1 101 ∷ []) three 1 refl came)
    (law three 1 0 1 (inl (inl refl))
    (record { first = omega arith; last = omega arith; settled = omega arith })
    (record { first = omega arith; last = omega arith; settled = omega arith }) (omega arith)
    (λ beat o. absurd (worked.no_stop_among ordered 0 beat (tt, tt) o)) refl (broken.only_cub_one k p s) (omega arith))

pub returns-clause-reasons : goal.returns-clause-reasons
unfolding on_samples kind_of missing_of reason_of whole_sent pieces_sent piece_sent stop_of
returns-clause-reasons c k p s law =
    let said = law (seat 0 0 0) 0 reason.Piece (inl (inl refl)) (record { first = omega arith; last = omega arith; settled = omega arith }) refl in
    let lost = said.0 in
    ⊎_elim (λ d. d.0) (λ n. n) lost.died

pub returns-clause-slots : goal.returns-clause-slots
unfolding on_samples stop_ordered places_got
returns-clause-slots c k p s law =
    let gone = law 0 20 (omega arith) refl refl in
    gone.slots unstopped_log [] broken.unstopped_order (omega arith) 1 three refl refl

pub returns-clause-views : goal.returns-clause-views
unfolding on_samples stop_ordered places_got
returns-clause-views c k p s law =
    let gone = law 0 20 (omega arith) refl refl in
    (gone.views (stopped_log 121) [] broken.stopped_order (omega arith) 0 (omega arith)).0 refl
