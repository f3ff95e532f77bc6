-- How many orders a run has, and which text is written of it.
use Rattle.std.proofs.Common.{◌≡◌, ℕ, suc, ◌+◌, ◌≤◌, List, [], ◌∷◌, length, Option, Some, refl, sym, ap, subst, arith}
use Rattle.stripe_layout.specs.declared.catalogue.Catalogue.{Catalogue}
use Rattle.node_kit.specs.declared.course.Kept.{Kept}
use Rattle.scenario_read.specs.declared.scenario.ScEvent.{ScEvent}
use Rattle.scenario_read.specs.declared.scenario.ScEvent.TheVariants as event
use Rattle.scenario_read.specs.declared.scenario.Scenario.{Scenario}
use Rattle.scenario_read.specs.Orders.{orders_from}
use Rattle.scenario_read.specs.Sound.{IsScenario}
use Rattle.tiger_run.specs.Ending.{IsRingRun, text_for}
use Rattle.outside.specs.Told.{FilesState}
use Rattle.outside.specs.Written.{SinkState}
use Rattle.tiger_input.specs.declared.status.Status.TheVariants as statuses
use Rattle.run_report.specs.Text.{report_text, summary_text}
use Rattle.tiger_input.specs.declared.status.Status.{Status}
use Rattle.tiger_input.specs.Words.{IsRun, IsMake, IsNoCommand}
use Rattle.tiger_input.specs.Ending.{IsWritten, IsBegun, Wrote, EndsSink, EndsInputs}

-- as many orders as events
pub length-orders_from : (c : Catalogue) (n : ℕ) (events : List ScEvent) → length (orders_from c n events) ≡ length events
length-orders_from c n [] = refl
length-orders_from c n (event.Begin beat file ∷ events) = ap suc (length-orders_from c (n + 1) events)
length-orders_from c n (event.Finish beat instance ∷ events) = ap suc (length-orders_from c n events)

-- a run has as many orders as its scenario has events
pub few_orders : (G : Type 0) (s : Scenario) (library : List (List ℕ)) (k : Kept) → IsScenario s → IsRingRun G s library k → length k.orders ≤ 4000
few_orders G s library k sound ran = omega (arith, sound.events.few, ap length ran.orders, length-orders_from k.catalogue 0 s.events)

-- words that name a scenario are not refused
pub words-run : (words : List (List ℕ)) (name : List ℕ) (workers : ℕ) (old new : FilesState) (status : Status)
    → IsRun words name workers → EndsInputs name old new status → (status ≡ statuses.Words → IsNoCommand words) × (IsNoCommand words → status ≡ statuses.Words)
words-run words name workers old new status run ends =
    (λ is. absurd (subst (λ (s : Status). EndsInputs name old new s) is ends), λ none. absurd (none.no_run name workers run))

-- the text of words that name a scenario, and of words that make one
pub text_for-run : (words : List (List ℕ)) (name : List ℕ) (workers : ℕ) → IsRun words name workers → text_for words ≡ report_text
text_for-run words name workers run = rw run.form refl

pub text_for-make : (words : List (List ℕ)) (number : ℕ) → IsMake words number → text_for words ≡ summary_text
text_for-make words number make = rw make.form refl

pub EndsSink-run : (words : List (List ℕ)) (name : List ℕ) (workers : ℕ) (old new : SinkState) (kept : Option Kept) (status : Status)
    → IsRun words name workers → EndsSink old new report_text kept status → EndsSink old new (text_for words) kept status
EndsSink-run words name workers old new kept status run ends =
    subst (λ (text : Kept → List ℕ). EndsSink old new text kept status) (sym (text_for-run words name workers run)) ends

pub EndsSink-make : (words : List (List ℕ)) (number : ℕ) (old new : SinkState) (kept : Option Kept) (status : Status)
    → IsMake words number → EndsSink old new summary_text kept status → EndsSink old new (text_for words) kept status
EndsSink-make words number old new kept status make ends =
    subst (λ (text : Kept → List ℕ). EndsSink old new text kept status) (sym (text_for-make words number make)) ends

-- the text of what is kept was written, or why it was not
pub EndsSink-wrote : (old new : SinkState) (text : Kept → List ℕ) (k : Kept) (given : List ℕ) (status : Status)
    → given ≡ text k → Wrote old new given status → EndsSink old new text (Some k) status
EndsSink-wrote old new text k given statuses.Done e wrote = subst (λ t. IsWritten old new t) e wrote
EndsSink-wrote old new text k given statuses.WriteFault e wrote = (wrote.0, subst (λ t. IsBegun old new t) e wrote.1)
EndsSink-wrote old new text k given statuses.NoMemory e wrote = subst (λ t. IsBegun old new t) e wrote
EndsSink-wrote old new text k given statuses.Words e wrote = absurd wrote
EndsSink-wrote old new text k given (statuses.Absent file) e wrote = absurd wrote
EndsSink-wrote old new text k given (statuses.ReadFault file) e wrote = absurd wrote
EndsSink-wrote old new text k given (statuses.Scenario fault) e wrote = absurd wrote
EndsSink-wrote old new text k given (statuses.TooLong file had most) e wrote = absurd wrote
