use Rattle.proof_two_lives.proofs.Rows.{two_lives, not_yet_back, back_already, of_neither}
use Rattle.proof_two_lives.proofs.lives_of_a_cub.Goals as goal

pub returns-clause-are_two : goal.returns-clause-are_two
returns-clause-are_two c = two_lives

pub returns-clause-not_yet_back : goal.returns-clause-not_yet_back
returns-clause-not_yet_back c = λ h. not_yet_back h

pub returns-clause-back_already : goal.returns-clause-back_already
returns-clause-back_already c = λ h. back_already h

pub returns-clause-of_neither : goal.returns-clause-of_neither
returns-clause-of_neither c = λ h. of_neither h
