use Rattle.std.proofs.Common.{refl, inl, inr, arith}
use Rattle.tiger_input.specs.Samples.{here, there}
use Rattle.tiger_input.proofs.Samples.{some_workers, two_names}
use Rattle.tiger_run.proofs.Samples.{same_name, same_number, not_both}
use Rattle.tiger_run.proofs.rows.the_same_is_asked.Goals as goal

pub returns-clause-any_workers : goal.returns-clause-any_workers
returns-clause-any_workers c = inl (here, 1, 64, some_workers here 1 (omega arith) (omega arith), some_workers here 64 (omega arith) (omega arith))

pub returns-clause-other_name : goal.returns-clause-other_name
returns-clause-other_name c same = two_names (same_name here there 1 1 (omega arith) (omega arith) same).0

pub returns-clause-too_many_workers : goal.returns-clause-too_many_workers
returns-clause-too_many_workers c same = let few = (same_name here here 1 65 (omega arith) (omega arith) same).1 in omega (arith, few)

pub returns-clause-one_number : goal.returns-clause-one_number
returns-clause-one_number c = inr (7, record { form = refl; fits = omega arith }, record { form = refl; fits = omega arith })

pub returns-clause-other_number : goal.returns-clause-other_number
returns-clause-other_number c same = let number = same_number 7 8 (omega arith) (omega arith) same in omega (arith, number)

pub returns-clause-run_and_make : goal.returns-clause-run_and_make
returns-clause-run_and_make c same = not_both here 1 7 same
