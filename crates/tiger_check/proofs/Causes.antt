-- That a file which is not read is refused for no condition of a plan.
use Rattle.std.proofs.Common.{◌≡◌, ℕ, List, Option, Some, None, ap, sym, subst, arith}
use Rattle.std.specs.Prelude.{option_map}
use Rattle.outside.specs.Told.{FilesState}
use Rattle.tiger_base.specs.declared.number.FileNo.{FileNo}
use Rattle.tiger_input.specs.declared.status.Status.{Status}
use Rattle.tiger_input.specs.declared.status.Status.TheVariants as statuses
use Rattle.scenario_read.specs.Fault.{broken}
use Rattle.scenario_read.specs.declared.scenario.FileLine.{FileLine}
use Rattle.scenario_read.specs.declared.stop.ScenarioFault.{ScenarioFault}
use Rattle.tiger_input.specs.Inputs.{OneCause, LibraryCause, InputsCause, MadeCalls, first_empty, most_scenario}
use Rattle.tiger_check.specs.Statuses.{IsNoCondition, condition_rule}

pub one_refused : (status : Status) (file : Option FileNo) (name : List ℕ) (limit : ℕ) (old new : FilesState)
    → OneCause file name limit old new status → IsNoCondition status
one_refused statuses.Done file name limit old new cause = tt
one_refused statuses.Words file name limit old new cause = tt
one_refused (statuses.Absent f) file name limit old new cause = tt
one_refused (statuses.ReadFault f) file name limit old new cause = tt
one_refused (statuses.Scenario fault) file name limit old new cause = absurd cause
one_refused statuses.WriteFault file name limit old new cause = tt
one_refused statuses.NoMemory file name limit old new cause = tt
one_refused (statuses.TooLong f given most) file name limit old new cause = tt

-- nor is one that is empty: that breaks another rule
empty_breaks : (empty : Option ℕ) (fault : ScenarioFault) → option_map (λ f. broken 13 f) empty ≡ Some fault → fault.rule ≡ condition_rule → ⊥
empty_breaks None fault e = absurd (cc)
empty_breaks (Some f) fault e = λ same.
    let is : broken 13 f ≡ fault = cc in
    let rule = ap (λ (g : ScenarioFault). g.rule) is in
    omega (arith, rule, same)

pub library_refused : (status : Status) (lines : List FileLine) (old new : FilesState) → LibraryCause lines old new status → IsNoCondition status
library_refused statuses.Done lines old new cause = tt
library_refused statuses.Words lines old new cause = tt
library_refused (statuses.Absent f) lines old new cause = tt
library_refused (statuses.ReadFault f) lines old new cause = tt
library_refused (statuses.Scenario fault) lines old new cause = empty_breaks (first_empty cause.1) fault cause.3
library_refused statuses.WriteFault lines old new cause = tt
library_refused statuses.NoMemory lines old new cause = tt
library_refused (statuses.TooLong f given most) lines old new cause = tt

-- why the scenario itself was not read
pub scenario_refused : (status : Status) (name : List ℕ) (old new : FilesState) → MadeCalls 1 old new → OneCause None name most_scenario old new status
    → InputsCause name old new status
scenario_refused statuses.Done name old new calls cause = absurd cause
scenario_refused statuses.Words name old new calls cause = absurd cause
scenario_refused (statuses.Absent f) name old new calls cause =
    subst (λ (o : Option FileNo). InputsCause name old new (statuses.Absent o)) (sym cause.0) (calls, cause.1, cause.2)
scenario_refused (statuses.ReadFault f) name old new calls cause =
    subst (λ (o : Option FileNo). InputsCause name old new (statuses.ReadFault o)) (sym cause.0) (calls, cause.1)
scenario_refused (statuses.Scenario fault) name old new calls cause = absurd cause
scenario_refused statuses.WriteFault name old new calls cause = absurd cause
scenario_refused statuses.NoMemory name old new calls cause = tt
scenario_refused (statuses.TooLong f given most) name old new calls cause =
    subst (λ (o : Option FileNo). InputsCause name old new (statuses.TooLong o given most)) (sym cause.0) (calls, cause.1)
