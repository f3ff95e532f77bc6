-- How the command ends, by what ended below it.
use Rattle.std.proofs.Common.{◌≡◌, ℕ, ◌+◌, List, [], length, None, inl, inr, ◌⊎◌, ⊎_elim, refl, subst, arith}
use Rattle.node_kit.specs.declared.course.Kept.{Kept}
use Rattle.outside.specs.Told.{FilesState}
use Rattle.outside.specs.Written.{SinkState}
use Rattle.scenario_read.specs.declared.stop.ScenarioFault.{ScenarioFault}
use Rattle.scenario_check.specs.Lines.{plan_lines, check_lines}
use Rattle.scenario_check.specs.Numbers.{OfPlan}
use Rattle.scenario_check.specs.Scenarios.{OfCatalogue}
use Rattle.tiger_input.specs.declared.inputs.Inputs.{Inputs}
use Rattle.tiger_input.specs.declared.status.Status.{Status}
use Rattle.tiger_input.specs.declared.status.Status.TheVariants as statuses
use Rattle.tiger_input.specs.Inputs.{AreInputs, InputsCause, MadeCalls}
use Rattle.tiger_input.specs.Ending.{EndsInputs, EndsSink, IsRefusal, IsWritten, IsBegun, Wrote}
use Rattle.tiger_input.specs.Runnable.{IsRunnable, NoReadFailed, NoPutFailed}
use Rattle.tiger_input.proofs.Completeness.{run_completes}
use Rattle.tiger_check.specs.declared.status.CheckStatus.{CheckStatus}
use Rattle.tiger_check.specs.declared.status.CheckStatus.TheVariants as ends
use Rattle.tiger_check.specs.Statuses.{as_run, unsound_unless, IsNoCondition, NamesConditions, IsCheckRefusal}
use Rattle.tiger_check.specs.Ends.{OfSaid, OfChecked, OfUnsound, CheckSink, SaidAll, IsUnsoundRead}

-- ---- an input was refused

pub refused_ends : (status : Status) (name : List ℕ) (old new : FilesState) → InputsCause name old new status → EndsInputs name old new status
refused_ends statuses.Done name old new cause = absurd cause
refused_ends statuses.WriteFault name old new cause = absurd cause
refused_ends statuses.Words name old new cause = cause
refused_ends (statuses.Absent file) name old new cause = cause
refused_ends (statuses.ReadFault file) name old new cause = cause
refused_ends (statuses.Scenario fault) name old new cause = cause
refused_ends statuses.NoMemory name old new cause = cause
refused_ends (statuses.TooLong file given most) name old new cause = cause

pub refused_sinks : (status : Status) (name : List ℕ) (old new : FilesState) (out : SinkState) → InputsCause name old new status
    → CheckSink name old new out out (ends.Run status)
refused_sinks statuses.Done name old new out cause = absurd cause
refused_sinks statuses.WriteFault name old new out cause = absurd cause
refused_sinks statuses.Words name old new out cause = refl
refused_sinks (statuses.Absent file) name old new out cause = refl
refused_sinks (statuses.ReadFault file) name old new out cause = refl
refused_sinks (statuses.Scenario fault) name old new out cause = refl
refused_sinks statuses.NoMemory name old new out cause = inl refl
refused_sinks (statuses.TooLong file given most) name old new out cause = refl

-- ---- something was said

-- what was written of a text says what holds of it
pub wrote_said : (status : Status) (out new : SinkState) (text : List ℕ) (Of : (List ℕ → Type 0) → Type 0)
    → ((P : List ℕ → Type 0) → P text → Of P) → Wrote out new text status → SaidAll out new Of status
wrote_said statuses.Done out new text Of of wrote = of (IsWritten out new) wrote
wrote_said statuses.WriteFault out new text Of of wrote = (wrote.0, of (IsBegun out new) wrote.1)
wrote_said statuses.NoMemory out new text Of of wrote = inr (of (IsBegun out new) wrote)
wrote_said statuses.Words out new text Of of wrote = absurd wrote
wrote_said (statuses.Absent file) out new text Of of wrote = absurd wrote
wrote_said (statuses.ReadFault file) out new text Of of wrote = absurd wrote
wrote_said (statuses.Scenario fault) out new text Of of wrote = absurd wrote
wrote_said (statuses.TooLong file given most) out new text Of of wrote = absurd wrote

-- what holds of the text of a scenario holds of what is said of it
pub of_scenario : (inputs : Inputs) (text : List ℕ) → OfCatalogue inputs.scenario inputs.library (λ c. text ≡ check_lines inputs.scenario c)
    → (P : List ℕ → Type 0) → P text → OfSaid inputs P
of_scenario inputs text said P holds = record { catalogue = said.catalogue; is = said.is; holds = subst P said.holds holds }

pub of_plan : (bytes : List ℕ) (fault : ScenarioFault) (text : List ℕ) → OfPlan bytes fault (λ p. text ≡ plan_lines p)
    → (P : List ℕ → Type 0) → P text → OfPlan bytes fault (λ p. P (plan_lines p))
of_plan bytes fault text said P holds =
    record { params = said.params; numbers = said.numbers; ranges = said.ranges; named = said.named; holds = subst P said.holds holds }

-- nothing but the output can end what is said
pub said_ends : (status : Status) (name : List ℕ) (old new : FilesState) (out out_new : SinkState) (Of : (List ℕ → Type 0) → Type 0)
    → SaidAll out out_new Of status → EndsInputs name old new status
said_ends statuses.Done name old new out out_new Of said = tt
said_ends statuses.WriteFault name old new out out_new Of said = tt
said_ends statuses.NoMemory name old new out out_new Of said = tt
said_ends statuses.Words name old new out out_new Of said = absurd said
said_ends (statuses.Absent file) name old new out out_new Of said = absurd said
said_ends (statuses.ReadFault file) name old new out out_new Of said = absurd said
said_ends (statuses.Scenario fault) name old new out out_new Of said = absurd said
said_ends (statuses.TooLong file given most) name old new out out_new Of said = absurd said

pub said_refuses : (status : Status) (out out_new : SinkState) (Of : (List ℕ → Type 0) → Type 0) → SaidAll out out_new Of status → IsRefusal status → ⊥
said_refuses statuses.Done out out_new Of said refusal = refusal
said_refuses statuses.WriteFault out out_new Of said refusal = refusal
said_refuses statuses.NoMemory out out_new Of said refusal = refusal
said_refuses statuses.Words out out_new Of said refusal = said
said_refuses (statuses.Absent file) out out_new Of said refusal = said
said_refuses (statuses.ReadFault file) out out_new Of said refusal = said
said_refuses (statuses.Scenario fault) out out_new Of said refusal = said
said_refuses (statuses.TooLong file given most) out out_new Of said refusal = said

pub said_condition : (status : Status) (out out_new : SinkState) (Of : (List ℕ → Type 0) → Type 0) → SaidAll out out_new Of status → IsNoCondition status
said_condition statuses.Done out out_new Of said = tt
said_condition statuses.WriteFault out out_new Of said = tt
said_condition statuses.NoMemory out out_new Of said = tt
said_condition statuses.Words out out_new Of said = tt
said_condition (statuses.Absent file) out out_new Of said = tt
said_condition (statuses.ReadFault file) out out_new Of said = tt
said_condition (statuses.Scenario fault) out out_new Of said = absurd said
said_condition (statuses.TooLong file given most) out out_new Of said = tt

-- ---- of a scenario that breaks no rule

checked : (name : List ℕ) (old new : FilesState) (inputs : Inputs) (P : List ℕ → Type 0) → AreInputs old.told name inputs
    → MadeCalls (1 + length inputs.scenario.files) old new → OfSaid inputs P → OfChecked old new name P
checked name old new inputs P read calls said = record { inputs = inputs; read = read; calls = calls; said = said }

pub said_sinks : (status : Status) (name : List ℕ) (old new : FilesState) (out out_new : SinkState) (inputs : Inputs) → AreInputs old.told name inputs
    → MadeCalls (1 + length inputs.scenario.files) old new → SaidAll out out_new (OfSaid inputs) status
    → CheckSink name old new out out_new (ends.Run status)
said_sinks statuses.Done name old new out out_new inputs read calls said = checked name old new inputs (IsWritten out out_new) read calls said
said_sinks statuses.WriteFault name old new out out_new inputs read calls said =
    (said.0, inl (checked name old new inputs (IsBegun out out_new) read calls said.1))
said_sinks statuses.NoMemory name old new out out_new inputs read calls (inl nothing) = inl nothing
said_sinks statuses.NoMemory name old new out out_new inputs read calls (inr said) =
    inr (inl (checked name old new inputs (IsBegun out out_new) read calls said))
said_sinks statuses.Words name old new out out_new inputs read calls said = absurd said
said_sinks (statuses.Absent file) name old new out out_new inputs read calls said = absurd said
said_sinks (statuses.ReadFault file) name old new out out_new inputs read calls said = absurd said
said_sinks (statuses.Scenario fault) name old new out out_new inputs read calls said = absurd said
said_sinks (statuses.TooLong file given most) name old new out out_new inputs read calls said = absurd said

-- ---- of a scenario that is refused for a condition of its plan

abbrev OfLines : List ℕ → ScenarioFault → (List ℕ → Type 0) → Type 0
OfLines bytes fault P = OfPlan bytes fault (λ p. P (plan_lines p))

unsound : (name bytes : List ℕ) (old : FilesState) (fault : ScenarioFault) (P : List ℕ → Type 0) → IsUnsoundRead (old.told name) fault bytes
    → OfLines bytes fault P → OfUnsound (old.told name) fault P
unsound name bytes old fault P is said = record { bytes = bytes; read = is.read; means = is.means; condition = is.condition; said = said }

pub unsound_sinks : (status : Status) (name bytes : List ℕ) (old new : FilesState) (out out_new : SinkState) (fault : ScenarioFault)
    → IsUnsoundRead (old.told name) fault bytes → SaidAll out out_new (OfLines bytes fault) status
    → CheckSink name old new out out_new (unsound_unless fault status)
unsound_sinks statuses.Done name bytes old new out out_new fault is said = unsound name bytes old fault (IsWritten out out_new) is said
unsound_sinks statuses.WriteFault name bytes old new out out_new fault is said =
    (said.0, inr (fault, unsound name bytes old fault (IsBegun out out_new) is said.1))
unsound_sinks statuses.NoMemory name bytes old new out out_new fault is (inl nothing) = inl nothing
unsound_sinks statuses.NoMemory name bytes old new out out_new fault is (inr said) =
    inr (inr (fault, unsound name bytes old fault (IsBegun out out_new) is said))
unsound_sinks statuses.Words name bytes old new out out_new fault is said = absurd said
unsound_sinks (statuses.Absent file) name bytes old new out out_new fault is said = absurd said
unsound_sinks (statuses.ReadFault file) name bytes old new out out_new fault is said = absurd said
unsound_sinks (statuses.Scenario other) name bytes old new out out_new fault is said = absurd said
unsound_sinks (statuses.TooLong file given most) name bytes old new out out_new fault is said = absurd said

pub unsound_ends : (status : Status) (name : List ℕ) (old new : FilesState) (out out_new : SinkState) (fault : ScenarioFault) (Of : (List ℕ → Type 0) → Type 0)
    → InputsCause name old new (statuses.Scenario fault) → SaidAll out out_new Of status → EndsInputs name old new (as_run (unsound_unless fault status))
unsound_ends statuses.Done name old new out out_new fault Of cause said = cause
unsound_ends statuses.WriteFault name old new out out_new fault Of cause said = tt
unsound_ends statuses.NoMemory name old new out out_new fault Of cause said = tt
unsound_ends statuses.Words name old new out out_new fault Of cause said = absurd said
unsound_ends (statuses.Absent file) name old new out out_new fault Of cause said = absurd said
unsound_ends (statuses.ReadFault file) name old new out out_new fault Of cause said = absurd said
unsound_ends (statuses.Scenario other) name old new out out_new fault Of cause said = absurd said
unsound_ends (statuses.TooLong file given most) name old new out out_new fault Of cause said = absurd said

pub unsound_names : (status : Status) (out out_new : SinkState) (fault : ScenarioFault) (Of : (List ℕ → Type 0) → Type 0) → SaidAll out out_new Of status
    → NamesConditions (unsound_unless fault status)
unsound_names statuses.Done out out_new fault Of said = tt
unsound_names statuses.WriteFault out out_new fault Of said = tt
unsound_names statuses.NoMemory out out_new fault Of said = tt
unsound_names statuses.Words out out_new fault Of said = tt
unsound_names (statuses.Absent file) out out_new fault Of said = tt
unsound_names (statuses.ReadFault file) out out_new fault Of said = tt
unsound_names (statuses.Scenario other) out out_new fault Of said = absurd said
unsound_names (statuses.TooLong file given most) out out_new fault Of said = tt

pub unsound_refuses : (status : Status) (out out_new : SinkState) (fault : ScenarioFault) (Of : (List ℕ → Type 0) → Type 0) → SaidAll out out_new Of status
    → IsCheckRefusal (unsound_unless fault status) → ⊥
unsound_refuses statuses.Done out out_new fault Of said refusal = refusal
unsound_refuses statuses.WriteFault out out_new fault Of said refusal = refusal
unsound_refuses statuses.NoMemory out out_new fault Of said refusal = refusal
unsound_refuses statuses.Words out out_new fault Of said refusal = said
unsound_refuses (statuses.Absent file) out out_new fault Of said refusal = said
unsound_refuses (statuses.ReadFault file) out out_new fault Of said refusal = said
unsound_refuses (statuses.Scenario other) out out_new fault Of said refusal = said
unsound_refuses (statuses.TooLong file given most) out out_new fault Of said refusal = said

-- ---- if nothing stands in its way

abbrev Unlike : Status → Type 0
Unlike status = (status ≡ statuses.Done → ⊥) × (status ≡ statuses.NoMemory → ⊥)

-- no input of a runnable scenario is refused but for a call that failed
never_refused : (status : Status) (name : List ℕ) (old new : FilesState) (out : SinkState) → IsRunnable old.told name → NoReadFailed old new
    → EndsInputs name old new status → EndsSink out out (λ (k : Kept). []) None status → Unlike status → ⊥
never_refused status name old new out r same ends sink unlike =
    ⊎_elim unlike.0 unlike.1 (run_completes status name old new out out (λ (k : Kept). []) None r same refl ends sink)

pub completes : (end : CheckStatus) (name : List ℕ) (old new : FilesState) (out out_new : SinkState) → IsRunnable old.told name → NoReadFailed old new
    → NoPutFailed out out_new → EndsInputs name old new (as_run end) → CheckSink name old new out out_new end
    → (end ≡ ends.Run statuses.Done) ⊎ (end ≡ ends.Run statuses.NoMemory)
completes (ends.Run statuses.Done) name old new out out_new r same puts input sink = inl refl
completes (ends.Run statuses.NoMemory) name old new out out_new r same puts input sink = inr refl
completes (ends.Run statuses.WriteFault) name old new out out_new r same puts input sink =
    let failed = sink.0 in absurd (omega (arith, failed, puts))
completes (ends.Run statuses.Words) name old new out out_new r same puts input sink = absurd input
completes (ends.Run (statuses.Absent file)) name old new out out_new r same puts input sink =
    absurd (never_refused (statuses.Absent file) name old new out r same input (refl, refl) (λ e. absurd (cc), λ e. absurd (cc)))
completes (ends.Run (statuses.ReadFault file)) name old new out out_new r same puts input sink =
    absurd (never_refused (statuses.ReadFault file) name old new out r same input (refl, refl) (λ e. absurd (cc), λ e. absurd (cc)))
completes (ends.Run (statuses.Scenario fault)) name old new out out_new r same puts input sink =
    absurd (never_refused (statuses.Scenario fault) name old new out r same input (refl, refl) (λ e. absurd (cc), λ e. absurd (cc)))
completes (ends.Run (statuses.TooLong file given most)) name old new out out_new r same puts input sink =
    absurd (never_refused (statuses.TooLong file given most) name old new out r same input (refl, refl) (λ e. absurd (cc), λ e. absurd (cc)))
completes (ends.Unsound fault) name old new out out_new r same puts input sink =
    absurd (never_refused (statuses.Scenario fault) name old new out r same input (refl, refl) (λ e. absurd (cc), λ e. absurd (cc)))
