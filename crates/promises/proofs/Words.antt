-- What words ask for, and that a refusal is one, as the program's own words have it.
use Rattle.std.proofs.Common.{◌≡◌, ℕ, List}
use Rattle.tiger_input.specs.declared.status.Status.{Status}
use Rattle.tiger_input.specs.declared.status.Status.TheVariants as statuses
use Rattle.tiger_input.specs.Words.{IsRun, IsMake, IsNoRun, IsNoMake, IsNoCommand}
use Rattle.tiger_input.specs.Ending.{IsRefusal}
use Rattle.promises.specs.Calls.{AskForRun, AskForMade, AskForNoRun, AskForNothing, IsRefused}

pub run_of : (words : List (List ℕ)) (name : List ℕ) (workers : ℕ) → AskForRun words name workers → IsRun words name workers
run_of words name workers ask = record { form = ask.0; some = ask.1; few = ask.2 }

pub made_of : (words : List (List ℕ)) (number : ℕ) → AskForMade words number → IsMake words number
made_of words number ask = record { form = ask.0; fits = ask.1 }

pub no_run_of : (words : List (List ℕ)) → AskForNoRun words → IsNoRun words
no_run_of words none name workers run = none name workers (run.form, run.some, run.few)

no_run_from : (words : List (List ℕ)) → IsNoRun words → AskForNoRun words
no_run_from words none name workers ask = none name workers (run_of words name workers ask)

no_make_of : (words : List (List ℕ)) → ((number : ℕ) → ¬ AskForMade words number) → IsNoMake words
no_make_of words none number make = none number (make.form, make.fits)

no_make_from : (words : List (List ℕ)) → IsNoMake words → (number : ℕ) → ¬ AskForMade words number
no_make_from words none number ask = none number (made_of words number ask)

-- words are refused exactly if they ask for nothing
pub words_refused : (words : List (List ℕ)) (status : Status)
    → (status ≡ statuses.Words → IsNoCommand words) × (IsNoCommand words → status ≡ statuses.Words)
    → (status ≡ statuses.Words → AskForNothing words) × (AskForNothing words → status ≡ statuses.Words)
words_refused words status both = (
  λ is. (no_run_from words (both.0 is).no_run, no_make_from words (both.0 is).no_make),
  λ none. both.1 (record { no_run = no_run_of words none.0; no_make = no_make_of words none.1 }),
)

pub refusal_of : (status : Status) → IsRefused status → IsRefusal status
refusal_of statuses.Done refused = refused
refusal_of statuses.WriteFault refused = refused
refusal_of statuses.NoMemory refused = refused
refusal_of statuses.Words refused = tt
refusal_of (statuses.Absent file) refused = tt
refusal_of (statuses.ReadFault file) refused = tt
refusal_of (statuses.Scenario fault) refused = tt
refusal_of (statuses.TooLong file given most) refused = tt
