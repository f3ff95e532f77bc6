-- How the command ends, by what ended below it.
use Rattle.std.proofs.Common.{◌≡◌, ℕ, ◌≤◌, List, length, inl, inr, ◌⊎◌, ⊎_elim, refl, subst, arith}
use Rattle.node_kit.specs.declared.course.Kept.{Kept}
use Rattle.audit_text.specs.Texts.{text_of}
use Rattle.audit_verdict.specs.Clauses.{MeetsAllClauses}
use Rattle.outside.specs.Told.{Told, bytes, AreTold, NoneTold, HasBytes, FilesState}
use Rattle.outside.specs.Written.{SinkState}
use Rattle.tiger_input.specs.Ending.{IsWritten, IsBegun, Wrote}
use Rattle.tiger_input.specs.Runnable.{NoReadFailed, NoPutFailed}
use Rattle.tiger_input.specs.declared.status.Status.{Status}
use Rattle.tiger_input.specs.declared.status.Status.TheVariants as statuses
use Rattle.tiger_audit.proofs.Meets.{meets_clause}
use Rattle.tiger_audit.specs.Ends.{IsKeptIn, OfYes, OfKeptRun, AuditCause, AuditSink, IsToldText, IsSoundText, IsJudged, IsYesOf, JudgedCause, AnswerCause, AnswerSink}
use Rattle.tiger_audit.specs.declared.status.AuditStatus.{AuditStatus}
use Rattle.tiger_audit.specs.declared.status.AuditStatus.TheVariants as ends

-- ---- a run was judged

pub refused_sink : (end : AuditStatus) (k : Kept) (out : SinkState) → JudgedCause k end → AnswerSink k out out end
refused_sink (ends.Run statuses.Done) k out cause = absurd cause
refused_sink (ends.Run statuses.Words) k out cause = absurd cause
refused_sink (ends.Run (statuses.Absent file)) k out cause = absurd cause
refused_sink (ends.Run (statuses.ReadFault file)) k out cause = absurd cause
refused_sink (ends.Run (statuses.Scenario fault)) k out cause = absurd cause
refused_sink (ends.Run statuses.WriteFault) k out cause = absurd cause
refused_sink (ends.Run statuses.NoMemory) k out cause = inl refl
refused_sink (ends.Run (statuses.TooLong file given most)) k out cause = absurd cause
refused_sink (ends.Journal line) k out cause = absurd cause
refused_sink (ends.Audit c here line) k out cause = refl

-- what holds of the text holds of the lines that say so
yes_of : (k : Kept) (text : List ℕ) (P : List ℕ → Type 0) → IsYesOf k text → P text → OfYes k P
yes_of k text P says holds =
    record { meets = says.meets; counts = says.counts; counted = says.counted; holds = subst P says.holds holds }

pub said_sink : (status : Status) (k : Kept) (out new : SinkState) (text : List ℕ) → IsYesOf k text → Wrote out new text status
    → AnswerSink k out new (ends.Run status)
said_sink statuses.Done k out new text says wrote = yes_of k text (IsWritten out new) says wrote
said_sink statuses.WriteFault k out new text says wrote = (wrote.0, yes_of k text (IsBegun out new) says wrote.1)
said_sink statuses.NoMemory k out new text says wrote = inr (yes_of k text (IsBegun out new) says wrote)
said_sink statuses.Words k out new text says wrote = absurd wrote
said_sink (statuses.Absent file) k out new text says wrote = absurd wrote
said_sink (statuses.ReadFault file) k out new text says wrote = absurd wrote
said_sink (statuses.Scenario fault) k out new text says wrote = absurd wrote
said_sink (statuses.TooLong file given most) k out new text says wrote = absurd wrote

-- ---- no run was read

-- ---- the run that was read

abbrev of_run : (file : Told) (k : Kept) (P : Kept → Type 0) → IsKeptIn file k → P k → OfKeptRun file P
of_run file k P is holds = record { kept = k; is = is; holds = holds }

pub answer_cause : (end : AuditStatus) (k : Kept) (name : List ℕ) (old new : FilesState) → IsKeptIn (old.told name) k → AnswerCause k end
    → AuditCause name old new end
answer_cause (ends.Run statuses.Done) k name old new is cause = tt
answer_cause (ends.Run statuses.WriteFault) k name old new is cause = tt
answer_cause (ends.Run statuses.NoMemory) k name old new is cause = tt
answer_cause (ends.Run statuses.Words) k name old new is cause = absurd cause
answer_cause (ends.Run (statuses.Absent file)) k name old new is cause = absurd cause
answer_cause (ends.Run (statuses.ReadFault file)) k name old new is cause = absurd cause
answer_cause (ends.Run (statuses.Scenario fault)) k name old new is cause = absurd cause
answer_cause (ends.Run (statuses.TooLong file given most)) k name old new is cause = absurd cause
answer_cause (ends.Journal line) k name old new is cause = absurd cause
answer_cause (ends.Audit c here line) k name old new is cause = record { kept = k; is = is; holds = cause }

pub answer_sink : (end : AuditStatus) (k : Kept) (file : Told) (out new : SinkState) → IsKeptIn file k → AnswerSink k out new end
    → AuditSink file out new end
answer_sink (ends.Run statuses.Done) k file out new is sink = record { kept = k; is = is; holds = sink }
answer_sink (ends.Run statuses.WriteFault) k file out new is sink = (sink.0, record { kept = k; is = is; holds = sink.1 })
answer_sink (ends.Run statuses.NoMemory) k file out new is sink =
    ⊎_elim (λ same. inl same) (λ says. inr (of_run file k (λ j. OfYes j (IsBegun out new)) is says)) sink
answer_sink (ends.Run statuses.Words) k file out new is sink = sink
answer_sink (ends.Run (statuses.Absent f)) k file out new is sink = sink
answer_sink (ends.Run (statuses.ReadFault f)) k file out new is sink = sink
answer_sink (ends.Run (statuses.Scenario fault)) k file out new is sink = sink
answer_sink (ends.Run (statuses.TooLong f given most)) k file out new is sink = sink
answer_sink (ends.Journal line) k file out new is sink = sink
answer_sink (ends.Audit c here line) k file out new is sink = sink

-- ---- told bytes

-- what was read is what is told
told_is : (file : Told) (text read : List ℕ) → file ≡ bytes text → AreTold file read → read ≡ text
told_is file text read is told = subst (λ (f : Told). AreTold f read) is told

not_missing : (file : Told) (text : List ℕ) → file ≡ bytes text → NoneTold file → ⊥
not_missing file text is none = subst (λ (f : Told). NoneTold f) is none

not_longer : (file : Told) (text : List ℕ) (given : ℕ) → file ≡ bytes text → HasBytes file given → given ≤ length text
not_longer file text given is has = subst (λ (f : Told). HasBytes f given) is has

-- of bytes that are told, and are not too many, it is said what they are
pub judges : (end : AuditStatus) (name : List ℕ) (old new : FilesState) (out out_new : SinkState) → IsToldText (old.told name)
    → NoReadFailed old new → NoPutFailed out out_new → AuditCause name old new end → AuditSink (old.told name) out out_new end → IsJudged end
judges (ends.Run statuses.Done) name old new out out_new told read put cause sink = tt
judges (ends.Run statuses.NoMemory) name old new out out_new told read put cause sink = tt
judges (ends.Journal line) name old new out out_new told read put cause sink = tt
judges (ends.Audit c here line) name old new out out_new told read put cause sink = tt
judges (ends.Run statuses.Words) name old new out out_new told read put cause sink = cause
judges (ends.Run (statuses.Scenario fault)) name old new out out_new told read put cause sink = cause
judges (ends.Run statuses.WriteFault) name old new out out_new told read put cause sink =
    let failed = sink.0 in omega (arith, failed, put)
judges (ends.Run (statuses.ReadFault file)) name old new out out_new told read put cause sink =
    let failed = cause.1 in omega (arith, failed, read)
judges (ends.Run (statuses.Absent file)) name old new out out_new told read put cause sink =
    not_missing (old.told name) told.text told.is_told cause.1.1
judges (ends.Run (statuses.TooLong file given most)) name old new out out_new told read put cause sink =
    let long = cause.2.0 in
    let within : given ≤ length told.text = not_longer (old.told name) told.text given told.is_told cause.2.1 in
    let short = told.is_short in
    omega (arith, long, within, short)

sound_told : (file : Told) → IsSoundText file → IsToldText file
sound_told file sound = record { text = text_of sound.kept; is_told = sound.is_told; is_short = sound.is_short }

-- a told text of a run that meets all clauses gets its Yes
pub completes : (end : AuditStatus) (name : List ℕ) (old new : FilesState) (out out_new : SinkState) → IsSoundText (old.told name)
    → NoReadFailed old new → NoPutFailed out out_new → AuditCause name old new end → AuditSink (old.told name) out out_new end
    → (end ≡ ends.Run statuses.Done) ⊎ (end ≡ ends.Run statuses.NoMemory)
completes (ends.Run statuses.Done) name old new out out_new sound read put cause sink = inl refl
completes (ends.Run statuses.NoMemory) name old new out out_new sound read put cause sink = inr refl
completes (ends.Journal line) name old new out out_new sound read put cause sink =
    absurd (cause.faulty.none sound.kept sound.writable (told_is (old.told name) (text_of sound.kept) cause.text sound.is_told cause.read.0))
completes (ends.Audit c here line) name old new out out_new sound read put cause sink =
    let same : text_of cause.kept ≡ text_of sound.kept = told_is (old.told name) (text_of sound.kept) (text_of cause.kept) sound.is_told cause.is.read.0 in
    let meets : MeetsAllClauses cause.kept = sound.meets cause.kept cause.is.writable same in
    absurd (cause.holds.0.broken (meets_clause cause.kept c meets))
completes (ends.Run statuses.Words) name old new out out_new sound read put cause sink = absurd cause
completes (ends.Run (statuses.Scenario fault)) name old new out out_new sound read put cause sink = absurd cause
completes (ends.Run statuses.WriteFault) name old new out out_new sound read put cause sink =
    absurd (judges (ends.Run statuses.WriteFault) name old new out out_new (sound_told (old.told name) sound) read put cause sink)
completes (ends.Run (statuses.ReadFault file)) name old new out out_new sound read put cause sink =
    absurd (judges (ends.Run (statuses.ReadFault file)) name old new out out_new (sound_told (old.told name) sound) read put cause sink)
completes (ends.Run (statuses.Absent file)) name old new out out_new sound read put cause sink =
    absurd (judges (ends.Run (statuses.Absent file)) name old new out out_new (sound_told (old.told name) sound) read put cause sink)
completes (ends.Run (statuses.TooLong file given most)) name old new out out_new sound read put cause sink =
    absurd (judges (ends.Run (statuses.TooLong file given most)) name old new out out_new (sound_told (old.told name) sound) read put cause sink)
