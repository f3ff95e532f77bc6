use Rattle.std.proofs.Common.{◌≡◌, [], ◌∷◌, refl, arith}
use Rattle.std.specs.List.{AllByRecursion}
use Rattle.node_kit.specs.Courses.{reading_of}
use Rattle.run_model.specs.Samples.{all, kept, later, later_at, of_none}
use Rattle.journal_promises.proofs.Places.{each_place}
use Rattle.journal_promises.proofs.rows.readings.Goals as goal

pub returns-clause-its_own : goal.returns-clause-its_own
returns-clause-its_own c = λ k p.
    let run = kept k p 10 of_none [] (later 2 ∷ []) in
    each_place (λ n journal. AllByRecursion (λ e. e.stamp.reading ≡ reading_of run.course n e.stamp.beat) journal) (all (later 2 ∷ []))
    (tt, (tt, ((refl, tt), (tt, (tt, (tt, (tt, (tt, (tt, (tt, (tt, (tt, (tt, (tt, (tt, (tt, (tt, (tt, tt))))))))))))))))))

pub returns-clause-a_micro_more : goal.returns-clause-a_micro_more
returns-clause-a_micro_more c = λ k p has.
    let e : 20001 ≡ 20000 = (has 2 ((later_at 2 20001).entry ∷ []) refl).0 in
    omega (arith, e)
