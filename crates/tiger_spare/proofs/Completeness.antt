-- If nothing stands in its way, a run ends with `Done`, or memory ran out; and a scenario that lets a cub die is refused for
-- that.
use Rattle.std.proofs.Common.{◌≡◌, ℕ, ◌≤◌, true, false, List, [], ◌∷◌, length, Option, Some, None, Ok, refl, ap, sym, subst, ◌∙◌, inl, inr, ◌⊎◌, arith}
use Rattle.std.specs.List.{AllByRecursion}
use Rattle.node_kit.specs.declared.course.Course.{Course}
use Rattle.node_kit.specs.declared.course.Kept.{Kept}
use Rattle.outside.specs.Told.{Told, FilesState, AreTold, NoneTold, HasBytes, bytes}
use Rattle.scenario_read.specs.Fault.{broken}
use Rattle.scenario_read.specs.Meaning.{Said, meaning}
use Rattle.tiger_input.specs.declared.status.Status.{Status}
use Rattle.tiger_input.specs.declared.status.Status.TheVariants as statuses
use Rattle.tiger_input.specs.Ending.{EndsInputs}
use Rattle.tiger_input.specs.Inputs.{HasEmptyFile, InputsCause, ReadAs}
use Rattle.tiger_input.specs.Runnable.{NoReadFailed}
use Rattle.tiger_spare.specs.Ends.{IsDeadly, IsNamedSpare, IsRunnableSpare, ReadCalmAs, SpareCause, EndsSpare, lets_die}

-- what was read of a told scenario says what it says
said_is : (scenario : Told) (content : List ℕ) (said : Said) (P : Said → Type 0) → scenario ≡ bytes content → meaning content ≡ Ok said
    → ReadAs scenario P → P said
said_is scenario content said P is means read =
    let same : read.bytes ≡ content = subst (λ (t : Told). AreTold t read.bytes) is read.read.0 in
    let e : read.said ≡ said = (let a = read.means in let m = ap meaning same in cc) in
    subst P e read.holds

loosened : (scenario : Told) (P : Said → Type 0) → ReadCalmAs scenario P → ReadAs scenario P
loosened scenario P read = record { bytes = read.bytes; read = read.read; said = read.said; means = read.means; holds = read.holds.1 }

-- ---- no cub dies

-- what refuses an input of such a scenario refuses it for a run
as_inputs : (status : Status) (name : List ℕ) (old new : FilesState) → IsRunnableSpare old.told name → SpareCause name old new status
    → InputsCause name old new status
as_inputs (statuses.Absent None) name old new r cause = cause
as_inputs (statuses.Absent (Some f)) name old new r cause = (cause.0, cause.1, loosened (old.told name) _ cause.2)
as_inputs (statuses.ReadFault None) name old new r cause = cause
as_inputs (statuses.ReadFault (Some f)) name old new r cause = (cause.0, cause.1, loosened (old.told name) _ cause.2)
as_inputs (statuses.TooLong None given most) name old new r cause = cause
as_inputs (statuses.TooLong (Some f) given most) name old new r cause = (cause.0, loosened (old.told name) _ cause.1)
as_inputs (statuses.Scenario fault) name old new r (inl breaks) = inl breaks
as_inputs (statuses.Scenario fault) name old new r (inr (inl dies)) =
    let told = r.runnable in
    let die = said_is (old.told name) told.scenario told.said (λ said. lets_die said.deaths ≡ true) told.is_told told.is_sound dies.2 in
    absurd (let calm = r.calm in cc)
as_inputs (statuses.Scenario fault) name old new r (inr (inr empty)) = inr (loosened (old.told name) (HasEmptyFile old new fault) empty)
as_inputs statuses.NoMemory name old new r cause = cause
as_inputs statuses.Done name old new r cause = cause
as_inputs statuses.Words name old new r cause = cause
as_inputs statuses.WriteFault name old new r cause = cause

-- and it ends as a run ends
pub as_ends : (status : Status) (name : List ℕ) (old new : FilesState) → IsRunnableSpare old.told name → EndsSpare name old new status
    → EndsInputs name old new status
as_ends statuses.Done name old new r ends = tt
as_ends statuses.WriteFault name old new r ends = tt
as_ends (statuses.Absent file) name old new r ends = as_inputs (statuses.Absent file) name old new r ends
as_ends (statuses.ReadFault file) name old new r ends = as_inputs (statuses.ReadFault file) name old new r ends
as_ends (statuses.TooLong file given most) name old new r ends = as_inputs (statuses.TooLong file given most) name old new r ends
as_ends (statuses.Scenario fault) name old new r ends = as_inputs (statuses.Scenario fault) name old new r ends
as_ends statuses.NoMemory name old new r ends = ends
as_ends statuses.Words name old new r ends = ends

-- ---- a cub dies

-- none of its files is looked at
unlooked : (told : List ℕ → Told) (name : List ℕ) (P : Said → Type 0) → IsDeadly told name → ReadCalmAs (told name) P → ⊥
unlooked told name P d read =
    let calm = (said_is (told name) d.scenario d.said (λ said. (lets_die said.deaths ≡ false) × P said) d.is_told d.is_sound read).0 in
    let dies = d.dies in
    absurd (cc)

-- and nothing else refuses it, but for a call that failed
pub deadly_ends : (status : Status) (name : List ℕ) (old new : FilesState) → IsDeadly old.told name → NoReadFailed old new
    → SpareCause name old new status → (status ≡ statuses.Scenario (broken 14 0)) ⊎ (status ≡ statuses.NoMemory)
deadly_ends (statuses.Absent None) name old new d same cause = absurd (subst NoneTold d.is_told cause.2)
deadly_ends (statuses.Absent (Some f)) name old new d same cause = absurd (unlooked old.told name _ d cause.2)
deadly_ends (statuses.ReadFault None) name old new d same cause = absurd (omega (arith, cause.1))
deadly_ends (statuses.ReadFault (Some f)) name old new d same cause = absurd (omega (arith, cause.1))
deadly_ends (statuses.TooLong None given most) name old new d same cause =
    let why = cause.1 in
    let has : given ≤ length d.scenario = subst (λ (t : Told). HasBytes t given) d.is_told why.2 in
    absurd (omega (arith, has, d.is_short, why.0, why.1))
deadly_ends (statuses.TooLong (Some f) given most) name old new d same cause = absurd (unlooked old.told name _ d cause.1)
deadly_ends (statuses.Scenario fault) name old new d same (inl cause) =
    let breaks = cause.1 in
    let text : breaks.bytes ≡ d.scenario = subst (λ (t : Told). AreTold t breaks.bytes) d.is_told breaks.read.0 in
    let a = breaks.means in
    let b = d.is_sound in
    let m = ap meaning text in
    absurd (cc)
deadly_ends (statuses.Scenario fault) name old new d same (inr (inl dies)) = inl (ap statuses.Scenario dies.1)
deadly_ends (statuses.Scenario fault) name old new d same (inr (inr empty)) = absurd (unlooked old.told name (HasEmptyFile old new fault) d empty)
deadly_ends statuses.NoMemory name old new d same cause = inr refl
deadly_ends statuses.Done name old new d same cause = absurd cause
deadly_ends statuses.Words name old new d same cause = absurd cause
deadly_ends statuses.WriteFault name old new d same cause = absurd cause

-- no told scenario is both
pub told_apart : (told : List ℕ → Told) (name : List ℕ) → IsRunnableSpare told name → IsDeadly told name → ⊥
told_apart told name r d =
    let runs = r.runnable in
    let text : runs.scenario ≡ d.scenario = subst (λ (t : Told). AreTold t runs.scenario) d.is_told (subst (λ (t : Told). AreTold t runs.scenario) (sym runs.is_told) refl) in
    let said : runs.said ≡ d.said = (let a = runs.is_sound in let b = d.is_sound in let m = ap meaning text in cc) in
    let calm = r.calm in
    let dies = d.dies in
    absurd (cc)

all_live : (deaths : List (Option ℕ)) → AllByRecursion (λ death. death ≡ None) deaths → lets_die deaths ≡ false
all_live [] h = refl
all_live (None ∷ ds) h = all_live ds h.1
all_live (Some b ∷ ds) h = absurd (let e = h.0 in cc)

-- such a scenario is not run
pub deadly_is_not_run : (G : Type 0) (name : List ℕ) (old new : FilesState) (k : Kept) → IsDeadly old.told name → IsNamedSpare G old new name k → ⊥
deadly_is_not_run G name old new k d named =
    let read = named.read in
    let run = named.run.ran in
    let text : read.bytes ≡ d.scenario = subst (λ (t : Told). AreTold t read.bytes) d.is_told read.read.0 in
    let deaths : named.inputs.scenario.course.deaths ≡ d.said.deaths =
    (let a = read.means in let b = d.is_sound in let m = ap meaning text in cc) in
    let live : lets_die d.said.deaths ≡ false =
    all_live d.said.deaths (subst (λ (ds : List (Option ℕ)). AllByRecursion (λ death. death ≡ None) ds) (ap (λ (c : Course). c.deaths) run.course ∙ deaths) run.calm) in
    let dies = d.dies in
    absurd (cc)
