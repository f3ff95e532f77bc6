-- Of which run something is kept, from the bytes that files in memory tell, and what it says.
use Rattle.std.specs.Prelude.{◌≡◌, ℕ, ◌+◌, ◌≤◌, List, ◌++◌, map, length, Ok}
use Rattle.slot_plan.specs.declared.params.Params.{Params}
use Rattle.slot_plan.specs.Times.{time_of}
use Rattle.node_kit.specs.declared.course.Kept.{Kept}
use Rattle.node_kit.specs.declared.gate.OpenGate.{OpenGate}
use Rattle.node_kit.specs.Courses.{reading_of}
use Rattle.node_kit.specs.Links.{links_of, controller_of}
use Rattle.run_facts.specs.Order.{Noted, order_of}
use Rattle.scenario_read.specs.declared.scenario.Scenario.{Scenario}
use Rattle.scenario_read.specs.Meaning.{said_by, meaning}
use Rattle.scenario_read.specs.Sound.{IsScenario}
use Rattle.scenario_make.specs.Made.{made_scenario, made_library}
use Rattle.tiger_run.specs.Ending.{IsRingRun, IsWorld, IsAskedRun}
use Rattle.run_report.specs.Text.{report_text}
use Rattle.outside.specs.Told.{Told, bytes, FilesState}
use Rattle.outside.specs.Memory.{MemoryFiles, MemorySink, told_of}
use Rattle.tiger_input.specs.Inputs.{most_scenario, names_of}
use Rattle.promises.specs.Calls.{AskForRun}

-- ---- what it says

-- the plan of what is kept
abbrev pub plan_in : Kept → Params
plan_in k = k.course.plan.params

-- all entries of all its journals: by beat, then node, then place in the journal
abbrev pub log_in : Kept → List Noted
log_in k = order_of k.course.beats k.journals

-- the true time, in micros, at which its last beat ends
abbrev pub end_in : Kept → ℕ
end_in k = time_of (plan_in k) k.course.beats

-- what the controller's clock shows in a beat
abbrev pub clock_in : Kept → ℕ → ℕ
clock_in k = reading_of k.course (controller_of (links_of (plan_in k)))

-- ---- of which run it is kept

-- What is kept is a run of the ring for a scenario, which breaks no rule, over its files: its
-- journals are those that the nodes wrote by their own steps. It is all that can be kept of such a
-- run, and as a list of events it is one that the machine of the ring's nodes accepts.
pub record IsRunFor (scenario : Scenario) (library : List (List ℕ)) (k : Kept) : Type 0 where
  pub sound : IsScenario scenario
  pub ran : IsRingRun OpenGate scenario library k
  pub only : (other : Kept) → IsRingRun OpenGate scenario library other → other ≡ k
  pub world : IsWorld OpenGate library k

-- What is kept is a run of the scenario that is told under this name: the told bytes are that
-- scenario, the bytes of each of its files are told too, and each was read by one call.
pub record IsRunOfTold (old new : MemoryFiles) (name : List ℕ) (k : Kept) : Type 0 where
  pub text : List ℕ
  pub is_told : told_of old.entries name ≡ bytes text
  pub is_short : length text ≤ most_scenario
  pub scenario : Scenario
  pub means : meaning text ≡ Ok (said_by scenario)
  pub library : List (List ℕ)
  pub are_told : map (told_of old.entries) (names_of scenario.files) ≡ map bytes library
  pub calls : new.counts.calls ≡ old.counts.calls + (1 + length scenario.files)
  pub run : IsRunFor scenario library k

-- What is kept is a run of the scenario that is made of this number, over the files that are.
pub record IsRunOfNumber (number : ℕ) (k : Kept) : Type 0 where
  pub scenario : Scenario
  pub made : said_by scenario ≡ made_scenario number
  pub run : IsRunFor scenario (made_library number) k

-- What is kept for these words over files of which this is told is the one answer to them: of
-- whatever other words for the same scenario, with whatever number of workers, over files of which
-- the same is told, the same is kept, and its report is the same.
abbrev pub IsOneAnswer : (List ℕ → Told) → List (List ℕ) → Kept → Type 0
IsOneAnswer told words k =
    (name : List ℕ) (some more : ℕ) (others : List (List ℕ)) (was now : FilesState) (other : Kept)
    → AskForRun words name some → AskForRun others name more
    → was.told ≡ told → IsAskedRun OpenGate was now others other
    → (other ≡ k) × (report_text other ≡ report_text k)

-- ---- what was written of it

-- a front of this text was written behind what the sink had
abbrev pub IsFrontWritten : MemorySink → MemorySink → List ℕ → Type 0
IsFrontWritten old new text =
    (front : List ℕ) × (rest : List ℕ)
    × (text ≡ front ++ rest) × (new.bytes ≡ old.bytes ++ front)
