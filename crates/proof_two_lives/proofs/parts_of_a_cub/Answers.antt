use Rattle.proof_two_lives.proofs.Rows.{splits, splits_as_if_away, splits_too_soon, stored, stored_as_if_away, stored_too_soon}
use Rattle.proof_two_lives.proofs.parts_of_a_cub.Goals as goal

pub returns-clause-splits : goal.returns-clause-splits
returns-clause-splits c = splits

pub returns-clause-splits_as_if_away : goal.returns-clause-splits_as_if_away
returns-clause-splits_as_if_away c = λ h. splits_as_if_away 3 h

pub returns-clause-splits_too_soon : goal.returns-clause-splits_too_soon
returns-clause-splits_too_soon c = λ h. splits_too_soon 0 h

pub returns-clause-stored : goal.returns-clause-stored
returns-clause-stored c = stored

pub returns-clause-stored_as_if_away : goal.returns-clause-stored_as_if_away
returns-clause-stored_as_if_away c = λ h. stored_as_if_away 4 h

pub returns-clause-stored_too_soon : goal.returns-clause-stored_too_soon
returns-clause-stored_too_soon c = λ h. stored_too_soon 0 h
