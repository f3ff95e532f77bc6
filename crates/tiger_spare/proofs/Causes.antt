-- Why an input is refused; if no cub dies none is in the list; and how the command ends.
use Rattle.std.proofs.Common.{◌≡◌, ℕ, ◌+◌, ◌≤◌, false, List, [], ◌∷◌, length, is_some, Option, Some, None, Ok, refl, ap, subst, inr, arith}
use Rattle.std.specs.List.{AllByRecursion, list_any}
use Rattle.node_kit.specs.declared.course.Kept.{Kept}
use Rattle.outside.specs.Told.{Told, FilesState}
use Rattle.outside.specs.Written.{SinkState}
use Rattle.scenario_read.specs.declared.scenario.Scenario.{Scenario}
use Rattle.scenario_read.specs.Meaning.{Said, meaning}
use Rattle.scenario_read.specs.Sound.{IsScenario}
use Rattle.spare_ring.specs.Runs.{IsSpareRun}
use Rattle.tiger_input.specs.declared.status.Status.{Status}
use Rattle.tiger_input.specs.declared.status.Status.TheVariants as statuses
use Rattle.tiger_input.specs.Inputs.{IsMissing, IsRead, IsTooLong, IsUnread, LibraryCause, StopsAt, names_of}
use Rattle.tiger_input.specs.Ending.{EndsSink}
use Rattle.tiger_input.proofs.Readings.{HasEmptyFile-of}
use Rattle.tiger_journal.proofs.Ends.{length-orders_from}
use Rattle.tiger_spare.specs.Ends.{EndsSpare, SpareCause, StopsAtCalmFile, lets_die}

-- the reading of a scenario that lets no cub die stops at a file
calm_stop : (old mid : FilesState) (name bytes : List ℕ) (said : Said) (f : ℕ) (P : ℕ → Told → Type 0)
    → mid.told ≡ old.told → IsRead (old.told name) bytes → meaning bytes ≡ Ok said → lets_die said.deaths ≡ false
    → StopsAt mid.told (names_of said.files) f P → StopsAtCalmFile old.told name f P
calm_stop old mid name bytes said f P same read means calm stops = record {
  bytes = bytes;
  read = read;
  said = said;
  means = means;
  holds = (calm, subst (λ (t : List ℕ → Told). StopsAt t (names_of said.files) f P) same stops);
}

-- a file was not read, or one is empty
pub spare_library : (status : Status) (name bytes : List ℕ) (said : Said) (old mid new : FilesState)
    → mid.told ≡ old.told → IsRead (old.told name) bytes → meaning bytes ≡ Ok said → lets_die said.deaths ≡ false
    → mid.counts.calls ≡ old.counts.calls + 1 → old.counts.faults ≤ mid.counts.faults → old.counts.absences ≤ mid.counts.absences
    → LibraryCause said.files mid new status → SpareCause name old new status
spare_library (statuses.Absent None) name bytes said old mid new same read means calm one faults absences cause = absurd cause
spare_library (statuses.Absent (Some f)) name bytes said old mid new same read means calm one faults absences cause =
    (omega (arith, cause.0, one), omega (arith, cause.1, absences), calm_stop old mid name bytes said f.0 IsMissing same read means calm cause.2)
spare_library (statuses.ReadFault None) name bytes said old mid new same read means calm one faults absences cause = absurd cause
spare_library (statuses.ReadFault (Some f)) name bytes said old mid new same read means calm one faults absences cause =
    (omega (arith, cause.0, one), omega (arith, cause.1, faults), calm_stop old mid name bytes said f.0 IsUnread same read means calm cause.2)
spare_library (statuses.TooLong None given most) name bytes said old mid new same read means calm one faults absences cause = absurd cause
spare_library (statuses.TooLong (Some f) given most) name bytes said old mid new same read means calm one faults absences cause =
    (omega (arith, cause.0, one), calm_stop old mid name bytes said f.0 (IsTooLong given most) same read means calm cause.1)
spare_library statuses.NoMemory name bytes said old mid new same read means calm one faults absences cause = tt
spare_library statuses.Done name bytes said old mid new same read means calm one faults absences cause = cause
spare_library statuses.Words name bytes said old mid new same read means calm one faults absences cause = cause
spare_library statuses.WriteFault name bytes said old mid new same read means calm one faults absences cause = cause
spare_library (statuses.Scenario fault) name bytes said old mid new same read means calm one faults absences cause =
    inr (inr (record { bytes = bytes; read = read; said = said; means = means; holds = (calm, HasEmptyFile-of fault said old mid new same one cause) }))

pub none_dies : (deaths : List (Option ℕ)) → list_any (λ death. is_some death) deaths ≡ false → AllByRecursion (λ death. death ≡ None) deaths
none_dies [] e = tt
none_dies (None ∷ ds) e = (refl, none_dies ds e)
none_dies (Some b ∷ ds) e = absurd (cc)

-- an input was refused, or there was no memory for the run
pub refused_spare : (status : Status) (name : List ℕ) (old new : FilesState) → SpareCause name old new status → EndsSpare name old new status
refused_spare statuses.Done name old new cause = absurd cause
refused_spare statuses.WriteFault name old new cause = absurd cause
refused_spare statuses.Words name old new cause = cause
refused_spare (statuses.Absent file) name old new cause = cause
refused_spare (statuses.ReadFault file) name old new cause = cause
refused_spare (statuses.Scenario fault) name old new cause = cause
refused_spare statuses.NoMemory name old new cause = cause
refused_spare (statuses.TooLong file given most) name old new cause = cause

-- then nothing was written, and nothing is kept
pub refused_sink : (status : Status) (name : List ℕ) (old new : FilesState) (out : SinkState) (text : Kept → List ℕ)
    → SpareCause name old new status → EndsSink out out text None status
refused_sink statuses.Done name old new out text cause = absurd cause
refused_sink statuses.WriteFault name old new out text cause = absurd cause
refused_sink statuses.Words name old new out text cause = (refl, refl)
refused_sink (statuses.Absent file) name old new out text cause = (refl, refl)
refused_sink (statuses.ReadFault file) name old new out text cause = (refl, refl)
refused_sink (statuses.Scenario fault) name old new out text cause = (refl, refl)
refused_sink statuses.NoMemory name old new out text cause = refl
refused_sink (statuses.TooLong file given most) name old new out text cause = (refl, refl)

-- a run has as many orders as its scenario has events
pub few_spare_orders : (G : Type 0) (s : Scenario) (library : List (List ℕ)) (k : Kept) → IsScenario s → IsSpareRun G s library k → length k.orders ≤ 4000
few_spare_orders G s library k sound ran = omega (arith, sound.events.few, ap length ran.orders, length-orders_from k.catalogue 0 s.events)
