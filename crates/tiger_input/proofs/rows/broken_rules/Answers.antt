use Rattle.std.proofs.Common.{[], refl, arith, inl, ⊎_elim}
use Rattle.tiger_input.specs.Samples.{here}
use Rattle.tiger_input.proofs.Samples.{some_workers, fault_is, says_nothing}
use Rattle.tiger_input.proofs.rows.broken_rules.Goals as goal

pub returns-clause-is : goal.returns-clause-is
returns-clause-is c fault means =
    (here, 1, some_workers here 1 (omega arith) (omega arith), inl (refl, record { bytes = []; read = (refl, omega arith); means = means }))

pub returns-clause-other_fault : goal.returns-clause-other_fault
returns-clause-other_fault c fault other means differs cause =
    ⊎_elim (λ breaks. differs (fault_is fault other means breaks.1)) (λ says. says_nothing fault _ means says) cause.3

pub returns-clause-two_calls : goal.returns-clause-two_calls
returns-clause-two_calls c fault means cause =
    ⊎_elim (λ breaks. let calls = breaks.0 in omega (arith, calls)) (λ says. says_nothing fault _ means says) cause.3

pub returns-clause-done : goal.returns-clause-done
returns-clause-done c = tt
