-- Words and refusals of which the worked rows speak.
use Rattle.std.specs.Prelude.{ℕ, List, [], ◌∷◌, codes}
use Rattle.scenario_read.specs.Fault.{broken}
use Rattle.tiger_input.specs.declared.status.Status.{Status}
use Rattle.tiger_input.specs.declared.status.Status.TheVariants as statuses

-- the words to check the scenario `a`
abbrev pub checks_a : List (List ℕ)
checks_a = codes "check" ∷ codes "a" ∷ []

-- a scenario that breaks the rule of this number
abbrev pub refused_by : ℕ → Status
refused_by rule = statuses.Scenario (broken rule 1)
