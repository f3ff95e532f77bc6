-- Meanings that may be refused: a value, or the first broken rule.
use Rattle.std.specs.Prelude.{◌≡◌, ℕ, Bool, if◌then◌else◌, Option, Some, None, Result, Ok, Err, ⊤}
use Rattle.scenario_read.specs.declared.stop.ScenarioFault.{ScenarioFault}
use Rattle.scenario_read.specs.declared.stop.ReadStop.{ReadStop}
use Rattle.scenario_read.specs.declared.stop.ReadStop.TheVariants as stops

infixl 10 ◌>>=◌
abbrev pub ◌>>=◌ : {A B : Type 0} → Result A ScenarioFault → (A → Result B ScenarioFault) → Result B ScenarioFault
(Ok x) >>= f = f x
(Err e) >>= f = Err e

-- a broken rule that names no numbers
abbrev pub broken : ℕ → ℕ → ScenarioFault
broken rule item = record { rule = rule; item = item; left = 0; right = 0 }

-- a broken rule that names a number and the most that it may be
abbrev pub exceeded : ℕ → ℕ → ℕ → ScenarioFault
exceeded rule left right = record { rule = rule; item = 0; left = left; right = right }

-- a test that holds, or the fault
abbrev pub keeps : Bool → ScenarioFault → Result ⊤ ScenarioFault
keeps test fault = if test then Ok tt else Err fault

-- a value that is there, or the fault
abbrev pub found : {A : Type 0} → Option A → ScenarioFault → Result A ScenarioFault
found (Some x) fault = Ok x
found None fault = Err fault

-- a reader stopped as the meaning says, or for want of memory
abbrev pub Stops : {X : Type 0} → ReadStop → Result X ScenarioFault → Type 0
Stops (stops.Fault fault) meaning = meaning ≡ Err fault
Stops stops.NoMemory meaning = Unit {0}

-- a reader gives what the meaning says, unless memory ran out
abbrev pub Gives : {X : Type 0} → Result X ReadStop → Result X ScenarioFault → Type 0
Gives (Ok x) meaning = meaning ≡ Ok x
Gives (Err stop) meaning = Stops stop meaning

-- the same, where what was read stands for what the meaning says
abbrev pub GivesAs : {X Y : Type 0} → (X → Y) → Result X ReadStop → Result Y ScenarioFault → Type 0
GivesAs seen (Ok x) meaning = meaning ≡ Ok (seen x)
GivesAs seen (Err stop) meaning = Stops stop meaning
