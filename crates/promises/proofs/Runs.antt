-- Of which run something is kept, and what is true of it.
use Rattle.std.proofs.Common.{◌≡◌, ℕ, List, [], ◌∷◌, length, codes, Option, Some, None, sym, ap, ◌∙◌, subst}
use Rattle.std.proofs.Common.{arith, inl, inr}
use Rattle.std.specs.Prelude.{IfSome}
use Rattle.std.specs.Fmt.{decimal}
use Rattle.std.proofs.lemmas.Fmt.{decimal_injective}
use Rattle.node_kit.specs.declared.course.Kept.{Kept}
use Rattle.node_kit.specs.declared.gate.OpenGate.{OpenGate}
use Rattle.outside.specs.Told.{Told}
use Rattle.outside.specs.Memory.{MemoryFiles, source_of}
use Rattle.run_claims.specs.Accounts.{account_of}
use Rattle.run_claims.specs.Claims.{MeetsClaims}
use Rattle.tiger_run.specs.Ending.{BelievesInTime, IsRunOf, IsNamedRun, IsMadeRun, IsAskedRun}
use Rattle.run_promises.specs.Kept.{IsKeptWell}
use Rattle.run_promises.specs.Promises.{KeepsPromises}
use Rattle.run_promises.proofs.Promises.{kept_runs_keep_promises}
use Rattle.scenario_read.specs.declared.scenario.Scenario.{Scenario}
use Rattle.tiger_input.specs.Words.{IsRun, IsMake}
use Rattle.tiger_input.specs.Inputs.{names_of}
use Rattle.tiger_input.proofs.WordLists.{IsRun-name}
use Rattle.tiger_run.specs.Answers.{IsTheAnswer}
use Rattle.tiger_run.proofs.Endings.{text_for-run}
use Rattle.promises.specs.Kept.{IsRunFor, IsRunOfTold, IsRunOfNumber, IsOneAnswer}
use Rattle.promises.proofs.Words.{run_of}
use Rattle.tiger_input.proofs.Told.{is_told, are_told}

-- words do not name a scenario and a number at once, and name one number
run_or_make : (words : List (List ℕ)) (name : List ℕ) (workers number : ℕ)
    → IsRun words name workers → IsMake words number → ⊥
run_or_make words name workers number run make =
    let e = ap length (sym run.form ∙ make.form) in absurd (omega (arith, e))

one_number : (words : List (List ℕ)) (m n : ℕ) → IsMake words m → IsMake words n → m ≡ n
one_number words m n a b =
    let e : codes "make" ∷ decimal m ∷ [] ≡ codes "make" ∷ decimal n ∷ [] = sym a.form ∙ b.form in
    let same : decimal m ≡ decimal n = cc in
    decimal_injective m n a.fits b.fits same

run_for : (s : Scenario) (library : List (List ℕ)) (k : Kept) → IsRunOf OpenGate s library k → IsRunFor s library k
run_for s library k run = record { sound = run.sound; ran = run.ran; only = run.only; world = run.world }

-- what the promises rest on
kept_well : (s : Scenario) (library : List (List ℕ)) (k : Kept) → IsRunOf OpenGate s library k → IsKeptWell k
kept_well s library k run = record {
  count = run.world.each_has_journal;
  carried = run.ran.carried;
  timed = run.ran.timed;
  claims = run.claims;
}

keeps_promises : (s : Scenario) (library : List (List ℕ)) (k : Kept) → IsRunOf OpenGate s library k → KeepsPromises k
keeps_promises s library k run = kept_runs_keep_promises k (kept_well s library k run)

-- the run of a named scenario over files in memory
abbrev IsNamed : MemoryFiles → MemoryFiles → List ℕ → Kept → Type 0
IsNamed old new name k = IsNamedRun OpenGate (source_of old) (source_of new) name k

-- and the run that words ask for
abbrev pub IsAsked : MemoryFiles → MemoryFiles → List (List ℕ) → Kept → Type 0
IsAsked old new words k = IsAskedRun OpenGate (source_of old) (source_of new) words k

told_run : (old new : MemoryFiles) (name : List ℕ) (k : Kept) → IsNamed old new name k → IsRunOfTold old new name k
told_run old new name k named =
    let scenario = named.inputs.scenario in
    let library = named.inputs.library in
    let files = named.read.files in
    record {
      text = named.read.bytes;
      is_told = is_told old.entries name named.read.bytes named.read.read.0;
      is_short = named.read.read.1;
      scenario = scenario;
      means = named.read.means;
      library = library;
      are_told = are_told old.entries (names_of scenario.files) library files.0.first files.1;
      calls = named.calls;
      run = run_for scenario library k named.run;
    }

module _ (old new : MemoryFiles) (words : List (List ℕ)) where
  run_named : (name : List ℕ) (workers : ℕ) (k : Kept) → IsRun words name workers → IsAsked old new words k
      → IsRunOfTold old new name k
  run_named name workers k run (inl asked) =
      let same : asked.0 ≡ name = IsRun-name words asked.0 name asked.1 workers asked.2 run in
      told_run old new name k (subst (λ (n : List ℕ). IsNamed old new n k) same asked.3)
  run_named name workers k run (inr asked) = absurd (run_or_make words name workers asked.0 run asked.1)

  pub if_run_named : (name : List ℕ) (workers : ℕ) (kept : Option Kept) → IsRun words name workers
      → IfSome kept (IsAsked old new words) → IfSome kept (IsRunOfTold old new name)
  if_run_named name workers None run asked = tt
  if_run_named name workers (Some k) run asked = run_named name workers k run asked

  run_made : (number : ℕ) (k : Kept) → IsMake words number → IsAsked old new words k → IsRunOfNumber number k
  run_made number k make (inl asked) = absurd (run_or_make words asked.0 asked.1 number asked.2 make)
  run_made number k make (inr asked) =
      let same : asked.0 ≡ number = one_number words asked.0 number asked.1 make in
      let made : IsMadeRun OpenGate number k = subst (λ (n : ℕ). IsMadeRun OpenGate n k) same asked.2 in
      record { scenario = made.scenario; made = made.made; run = run_for made.scenario _ k made.run }

  pub if_run_made : (number : ℕ) (kept : Option Kept) → IsMake words number
      → IfSome kept (IsAsked old new words) → IfSome kept (IsRunOfNumber number)
  if_run_made number None make asked = tt
  if_run_made number (Some k) make asked = run_made number k make asked

  -- whatever the words ask for, what is kept meets the claims, and beliefs come in time
  meets : (k : Kept) → IsAsked old new words k → MeetsClaims (account_of k)
  meets k (inl asked) = asked.3.run.claims
  meets k (inr asked) = asked.2.run.claims

  believes : (k : Kept) → IsAsked old new words k → BelievesInTime (account_of k)
  believes k (inl asked) = asked.3.run.belief_in_time
  believes k (inr asked) = asked.2.run.belief_in_time

  -- and keeps all promises
  promises : (k : Kept) → IsAsked old new words k → KeepsPromises k
  promises k (inl asked) = keeps_promises asked.3.inputs.scenario asked.3.inputs.library k asked.3.run
  promises k (inr asked) = keeps_promises asked.2.scenario _ k asked.2.run

  pub if_promises : (kept : Option Kept) → IfSome kept (IsAsked old new words) → IfSome kept KeepsPromises
  if_promises None asked = tt
  if_promises (Some k) asked = promises k asked

  -- a part of the claims, if something is kept
  pub if_meets : (P : Kept → Type 0) → ((k : Kept) → MeetsClaims (account_of k) → P k) → (kept : Option Kept)
      → IfSome kept (IsAsked old new words) → IfSome kept P
  if_meets P part None asked = tt
  if_meets P part (Some k) asked = part k (meets k asked)

  pub if_believes : (kept : Option Kept) → IfSome kept (IsAsked old new words)
      → IfSome kept (λ k. BelievesInTime (account_of k))
  if_believes None asked = tt
  if_believes (Some k) asked = believes k asked

-- the one answer, if the words name a scenario
named_answer : (told : List ℕ → Told) (words : List (List ℕ)) (k : Kept) → IsTheAnswer OpenGate told words k
    → IsOneAnswer told words k
named_answer told words k answer name some more others was now other ask asks same asked =
    let run = run_of words name some ask in
    let runs = run_of others name more asks in
    let both = answer was now others other same (inl (name, some, more, run, runs)) asked in
    let mine = ap (λ (text : Kept → List ℕ). text k) (text_for-run words name some run) in
    let theirs = ap (λ (text : Kept → List ℕ). text other) (text_for-run others name more runs) in
    (both.0, sym theirs ∙ both.1 ∙ mine)

pub if_answer : (told : List ℕ → Told) (words : List (List ℕ)) (kept : Option Kept)
    → IfSome kept (IsTheAnswer OpenGate told words) → IfSome kept (IsOneAnswer told words)
if_answer told words None answer = tt
if_answer told words (Some k) answer = named_answer told words k answer
