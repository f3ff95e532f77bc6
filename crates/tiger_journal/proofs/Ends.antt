-- How the journals of a run end, by the status: an input was refused, or the text was written.
use Rattle.std.proofs.Common.{ℕ, List, None, refl}
use Rattle.node_kit.specs.declared.course.Kept.{Kept}
use Rattle.outside.specs.Told.{FilesState}
use Rattle.outside.specs.Written.{SinkState}
use Rattle.tiger_input.specs.declared.status.Status.{Status}
use Rattle.tiger_input.specs.declared.status.Status.TheVariants as statuses
use Rattle.tiger_input.specs.Inputs.{InputsCause}
use Rattle.tiger_input.specs.Ending.{EndsInputs, EndsSink, Wrote}
-- The lemmas of a run's orders and of its text are passed on with it.
pub use Rattle.tiger_run.proofs.Endings.{EndsSink-wrote, length-orders_from}

-- an input was refused, or there was no memory for the run
pub refused_ends : (status : Status) (name : List ℕ) (old new : FilesState) → InputsCause name old new status → EndsInputs name old new status
refused_ends statuses.Done name old new cause = absurd cause
refused_ends statuses.WriteFault name old new cause = absurd cause
refused_ends statuses.Words name old new cause = cause
refused_ends (statuses.Absent file) name old new cause = cause
refused_ends (statuses.ReadFault file) name old new cause = cause
refused_ends (statuses.Scenario fault) name old new cause = cause
refused_ends statuses.NoMemory name old new cause = cause
refused_ends (statuses.TooLong file given most) name old new cause = cause

-- then nothing was written, and nothing is kept
pub refused_sinks : (status : Status) (name : List ℕ) (old new : FilesState) (out : SinkState) (text : Kept → List ℕ)
    → InputsCause name old new status → EndsSink out out text None status
refused_sinks statuses.Done name old new out text cause = absurd cause
refused_sinks statuses.WriteFault name old new out text cause = absurd cause
refused_sinks statuses.Words name old new out text cause = (refl, refl)
refused_sinks (statuses.Absent file) name old new out text cause = (refl, refl)
refused_sinks (statuses.ReadFault file) name old new out text cause = (refl, refl)
refused_sinks (statuses.Scenario fault) name old new out text cause = (refl, refl)
refused_sinks statuses.NoMemory name old new out text cause = refl
refused_sinks (statuses.TooLong file given most) name old new out text cause = (refl, refl)

-- the text was written, or a front of it
pub wrote_ends : (status : Status) (name : List ℕ) (old new : FilesState) (was is : SinkState) (text : List ℕ) → Wrote was is text status
    → EndsInputs name old new status
wrote_ends statuses.Done name old new was is text wrote = tt
wrote_ends statuses.WriteFault name old new was is text wrote = tt
wrote_ends statuses.Words name old new was is text wrote = absurd wrote
wrote_ends (statuses.Absent file) name old new was is text wrote = absurd wrote
wrote_ends (statuses.ReadFault file) name old new was is text wrote = absurd wrote
wrote_ends (statuses.Scenario fault) name old new was is text wrote = absurd wrote
wrote_ends statuses.NoMemory name old new was is text wrote = tt
wrote_ends (statuses.TooLong file given most) name old new was is text wrote = absurd wrote
