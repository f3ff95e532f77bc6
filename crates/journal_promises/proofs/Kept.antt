-- What is kept of the run of a named scenario is writable, meets all clauses, and its text passes the audit.
use Rattle.std.proofs.Common.{◌≡◌, ℕ, List, ◌++◌, Option, Some, None, refl, sym, subst}
use Rattle.std.specs.Prelude.{IfSome, IsSomeAnd}
use Rattle.node_kit.specs.declared.course.Kept.{Kept}
use Rattle.outside.specs.Told.{FilesState}
use Rattle.outside.specs.Memory.{MemorySink, sunk_in}
use Rattle.tiger_input.specs.declared.status.Status.{Status}
use Rattle.tiger_input.specs.declared.status.Status.TheVariants as statuses
use Rattle.tiger_input.specs.Ending.{EndsSink}
use Rattle.tiger_journal.specs.Answers.{IsNamedRun}
use Rattle.audit_text.specs.Texts.{text_of}
use Rattle.audit_read.specs.Writable.{IsWritable}
use Rattle.audit_verdict.specs.Clauses.{MeetsAllClauses}
use Rattle.audit_verdict.specs.declared.judgement.Judgement.TheVariants as judgement
use Rattle.tiger_audit.proofs.Meets.{meets_clause}
use Rattle.journal_promises.specs.Numbers.{HasNumbers}
use Rattle.journal_promises.specs.Runs.{HasReadings}
use Rattle.journal_promises.specs.Promises.{IsReadBack, GetsYes, PassesAudit}
use Rattle.journal_promises.proofs.Given.{kept_runs_are_writable, kept_runs_tell_returns}
use Rattle.journal_promises.proofs.Readings.{kept_runs_have_readings, readings_in_log}
use Rattle.journal_promises.proofs.Same.{same_kept}

-- what is kept meets all clauses, since each is known of it
pub named_meets : (G : Type 0) (old new : FilesState) (name : List ℕ) (k : Kept) → IsNamedRun G old new name k → MeetsAllClauses k
named_meets G old new name k named = record {
  carried = named.run.ran.carried;
  timed = record {
    timed = named.run.ran.timed;
    apart = named.run.ran.apart;
    returns =
        kept_runs_tell_returns G named.inputs.scenario named.inputs.library k named.run.sound named.read.files.0.short named.run.ran;
  };
  clocks = readings_in_log k (kept_runs_have_readings G named.inputs.scenario named.inputs.library k named.run.ran);
  commanded = named.run.ran.commanded;
  claims = named.run.claims;
}

pub named_writable : (G : Type 0) (old new : FilesState) (name : List ℕ) (k : Kept) → IsNamedRun G old new name k → HasNumbers k → IsWritable k
named_writable G old new name k named numbers =
    kept_runs_are_writable G named.inputs.scenario named.inputs.library k named.run.sound named.read.files.0.short named.run.ran numbers

pub named_readings : (G : Type 0) (old new : FilesState) (name : List ℕ) (k : Kept) → IsNamedRun G old new name k → HasReadings k
named_readings G old new name k named = kept_runs_have_readings G named.inputs.scenario named.inputs.library k named.run.ran

-- what was written, if all was done
pub done_written : (old new : MemorySink) (kept : Option Kept) (status : Status) → EndsSink (sunk_in old) (sunk_in new) text_of kept status
    → status ≡ statuses.Done → IsSomeAnd kept (λ k. new.bytes ≡ old.bytes ++ text_of k)
done_written old new kept status ends is = subst (λ (s : Status). EndsSink (sunk_in old) (sunk_in new) text_of kept s) is ends

-- ---- what follows

pub read_back : (k : Kept) → IsWritable k → IsReadBack k
read_back k writable j other same = same_kept j k other writable same

pub gets_yes : (k : Kept) → MeetsAllClauses k → GetsYes k
gets_yes k meets (judgement.Yes counts) says = tt
gets_yes k meets (judgement.No c here) says = absurd (says.broken (meets_clause k c meets))

pub passes : (k : Kept) → IsWritable k → MeetsAllClauses k → PassesAudit k
passes k writable meets short = record {
  kept = k;
  writable = writable;
  is_told = refl;
  is_short = short;
  meets = λ j other same. subst MeetsAllClauses (sym (same_kept j k other writable same)) meets;
}

-- ---- if something is kept

module _ (G : Type 0) (old new : FilesState) (name : List ℕ) (P : Kept → Type 0) where
  pub if_named : (kept : Option Kept) → ((k : Kept) → IsNamedRun G old new name k → P k) → IfSome kept (IsNamedRun G old new name) → IfSome kept P
  if_named None each named = tt
  if_named (Some k) each named = each k named

  pub if_writable : (kept : Option Kept) → ((k : Kept) → IsWritable k → MeetsAllClauses k → P k) → IfSome kept (IsNamedRun G old new name)
      → IfSome kept HasNumbers → IfSome kept P
  if_writable None each named numbers = tt
  if_writable (Some k) each named numbers = each k (named_writable G old new name k named numbers) (named_meets G old new name k named)
