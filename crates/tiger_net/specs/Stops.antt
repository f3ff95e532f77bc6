-- Why a plan gives no lines.
use Rattle.std.specs.Prelude.{◌≡◌, ℕ, List, Err}
use Rattle.outside.specs.Told.{Told, FilesState, HasCause}
use Rattle.outside.specs.declared.files.FileFault.{FileFault}
use Rattle.outside.specs.declared.files.FileFault.TheVariants as files
use Rattle.net_read.specs.declared.fault.NetFault.{NetFault}
use Rattle.net_read.specs.declared.fault.NetFault.TheVariants as faults
use Rattle.net_read.specs.Meaning.{net_meaning}
use Rattle.tiger_net.specs.declared.stop.NetRule.{NetRule}
use Rattle.tiger_net.specs.declared.stop.NetRule.TheVariants as rules
use Rattle.tiger_net.specs.declared.stop.NetStop.{NetStop}
use Rattle.tiger_net.specs.declared.stop.NetStop.TheVariants as stops
use Rattle.tiger_net.specs.Lines.{most_plan, IsPlanRead}

abbrev pub rule_number : NetRule → ℕ
rule_number rules.Json = 1
rule_number rules.Form = 2

-- how bytes that break a rule are not a plan
abbrev pub broken_by : NetRule → NetFault
broken_by rules.Json = faults.NoJson
broken_by rules.Form = faults.BadForm

-- what was read of a plan's file breaks this rule, and none before it
pub record BreaksNetRule (file : Told) (rule : NetRule) : Type 0 where
  pub bytes : List ℕ
  pub read : IsPlanRead file bytes
  pub means : net_meaning bytes ≡ Err (broken_by rule)

-- Why there are no lines of the plan of a name: the file is not there, or could not be read, or has more bytes than it
-- may, or what was read of it breaks a rule. Nothing is said of when there is no memory.
abbrev pub StopCause : List ℕ → FilesState → FilesState → NetStop → Type 0
StopCause name old new stops.Absent = HasCause name most_plan old new files.Absent
StopCause name old new stops.ReadFault = HasCause name most_plan old new files.Failed
StopCause name old new (stops.TooLong given most) =
    (most ≡ most_plan) × HasCause name most_plan old new (files.TooLong given)
StopCause name old new (stops.Fault rule) = BreaksNetRule (old.told name) rule
StopCause name old new stops.NoMemory = Unit {0}

-- ---- what a fault below is here

abbrev pub stop_by_file : FileFault → NetStop
stop_by_file files.Failed = stops.ReadFault
stop_by_file files.Absent = stops.Absent
stop_by_file (files.TooLong given) = stops.TooLong given most_plan
stop_by_file files.NoMemory = stops.NoMemory

abbrev pub stop_by_plan : NetFault → NetStop
stop_by_plan faults.NoJson = stops.Fault rules.Json
stop_by_plan faults.BadForm = stops.Fault rules.Form
stop_by_plan faults.NoMemory = stops.NoMemory
