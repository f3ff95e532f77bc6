use Rattle.std.proofs.Common.{[], refl, arith}
use Rattle.slot_plan.specs.Times.{time_of, due, first_due, cub_of, takeover}
use Rattle.run_model.specs.Samples.{seat, three}
use Rattle.run_promises.proofs.Worked as worked
use Rattle.run_promises.proofs.rows.in_numbers.Goals as goal

pub returns-clause-soon : goal.returns-clause-soon
unfolding time_of
returns-clause-soon c k p s o log law put = let q = law 0 1 0 put in let soon = q.1.soon in (q.0, omega (arith, soon))

pub returns-clause-comes : goal.returns-clause-comes
unfolding time_of due first_due cub_of
returns-clause-comes c k p s o log law put unstopped = law (seat 0 0 0) 0 put
    (record { first = omega arith; last = omega arith; settled = omega arith }) unstopped
    (λ death d. absurd (worked.no_death k p s [] o log 0 (omega arith) death d)) tt

pub returns-clause-one_comes : goal.returns-clause-one_comes
unfolding time_of due first_due takeover
returns-clause-one_comes c k p s o log law put unstopped = law three 0 0 1 put
    (record { first = omega arith; last = omega arith; settled = omega arith })
    (record { first = omega arith; last = omega arith; settled = omega arith })
    (omega arith) unstopped refl (worked.nobody_dies k p s [] o log) (omega arith)

pub returns-clause-slots : goal.returns-clause-slots
unfolding time_of
returns-clause-slots c k p s o log gone = gone.slots

pub returns-clause-views : goal.returns-clause-views
unfolding time_of
returns-clause-views c k p s o log gone = gone.views
