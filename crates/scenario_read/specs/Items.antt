-- What the items of an array mean.
use Rattle.std.specs.Prelude.{ℕ, List, [], ◌∷◌, ◌++◌, length, Option, Some, None, Result, Ok}
use Rattle.serde_json.specs.Data.{Data}
use Rattle.scenario_read.specs.declared.stop.ScenarioFault.{ScenarioFault}
use Rattle.scenario_read.specs.Fault.{◌>>=◌, broken, found}
use Rattle.json_look.specs.Json.{sized_array}

-- what the items mean after those in front of them; the first that means nothing there breaks the rule, and is named by its index
unfoldable pub items_after : {X : Type 0} → ℕ → (List X → Data → Option X) → List X → List Data → Result (List X) ScenarioFault
items_after rule next front [] = Ok front
items_after rule next front (d ∷ ds) = found (next front d) (broken rule (length front)) >>= λ x. items_after rule next (front ++ x ∷ []) ds

-- what an array of from least to most items means; no such array breaks the rule, with a number above every index
unfoldable pub items_of : {X : Type 0} → ℕ → ℕ → ℕ → ℕ → (List X → Data → Option X) → Data → Result (List X) ScenarioFault
items_of rule least most beyond next d = found (sized_array least most d) (broken rule beyond) >>= items_after rule next []

-- what stands under a key that may be missing
abbrev pub given_or : {X : Type 0} → X → (Data → Result X ScenarioFault) → Option Data → Result X ScenarioFault
given_or absent meaning None = Ok absent
given_or absent meaning (Some d) = meaning d
