-- What is said of how a command ended.
use Rattle.std.specs.Prelude.{◌≡◌, ℕ, List, ◌++◌, None, Result, Ok, Err, codes, ◌⊎◌}
use Rattle.outside.specs.declared.sink.SinkFault.{SinkFault}
use Rattle.outside.specs.declared.sink.SinkFault.TheVariants as faults
use Rattle.scenario_read.specs.declared.stop.ScenarioFault.{ScenarioFault}
use Rattle.tiger_net.specs.declared.stop.NetStop.{NetStop}
use Rattle.tiger_net.specs.declared.stop.NetStop.TheVariants as stops
use Rattle.tiger_net.specs.Stops.{rule_number}
use Rattle.tiger_disks.specs.Statuses.{disks_line}
use Rattle.tiger_disks.specs.declared.status.DisksStatus.{DisksStatus}
use Rattle.tiger_disks.specs.declared.status.DisksStatus.TheVariants as ends
use Rattle.tiger_audit.specs.Statuses.{audit_line}
use Rattle.tiger_audit.specs.declared.status.AuditStatus.{AuditStatus}
use Rattle.tiger_audit.specs.declared.status.AuditStatus.TheVariants as audits
use Rattle.tiger_check.specs.declared.status.CheckStatus.{CheckStatus}
use Rattle.tiger_check.specs.declared.status.CheckStatus.TheVariants as checks
use Rattle.tiger_input.specs.declared.status.Status.{Status}
use Rattle.tiger_input.specs.declared.status.Status.TheVariants as statuses
use Rattle.tiger_input.specs.Statuses.{worded, line_of, exit_of}
use Rattle.tiger_input.specs.Ending.{IsRefusal}
use Rattle.tiger_top.specs.declared.status.TopStatus.{TopStatus}
use Rattle.tiger_top.specs.declared.status.TopStatus.TheVariants as tops

-- the lines on standard error; none if all was done
abbrev pub top_line : TopStatus → List ℕ
top_line (tops.Tiger status) = line_of status
top_line (tops.Net rule) = worded (codes "tiger: net rule ") rule ++ codes "\n"
top_line tops.Device = disks_line ends.Device
top_line (tops.Damaged disk at kept found) = disks_line (ends.Damaged disk at kept found)
top_line tops.ImageExists = disks_line ends.ImageExists
top_line (tops.Unsound fault) = line_of (statuses.Scenario fault)
top_line (tops.Journal line) = audit_line (audits.Journal line)
top_line (tops.Audit c here line) = audit_line (audits.Audit c here line)

-- the number that the program ends with
abbrev pub top_exit : TopStatus → ℕ
top_exit (tops.Tiger status) = exit_of status
top_exit (tops.Unsound fault) = 5
top_exit (tops.Audit c here line) = 9
top_exit (tops.Journal line) = 10
top_exit tops.Device = 11
top_exit (tops.Damaged disk at kept found) = 12
top_exit (tops.Net rule) = 13
top_exit tops.ImageExists = 14

-- a status is one of those of `tiger`, and this holds of it
abbrev pub OfTiger : (Status → Type 0) → TopStatus → Type 0
OfTiger P (tops.Tiger status) = P status
OfTiger P _ = ⊥

-- if not all was done, this holds of the way in which `disks` stopped
abbrev pub IfDisksStopped : (DisksStatus → Type 0) → TopStatus → Type 0
IfDisksStopped P (tops.Tiger statuses.Done) = Unit {0}
IfDisksStopped P (tops.Tiger status) = P (ends.Run status)
IfDisksStopped P (tops.Net rule) = ⊥
IfDisksStopped P tops.Device = P ends.Device
IfDisksStopped P (tops.Damaged disk at kept found) = P (ends.Damaged disk at kept found)
IfDisksStopped P tops.ImageExists = P ends.ImageExists
IfDisksStopped P (tops.Unsound fault) = ⊥
IfDisksStopped P (tops.Journal line) = ⊥
IfDisksStopped P (tops.Audit c here line) = ⊥

-- a status is one of those of `check`, and this holds of it
abbrev pub OfCheck : (CheckStatus → Type 0) → TopStatus → Type 0
OfCheck P (tops.Tiger status) = P (checks.Run status)
OfCheck P (tops.Unsound fault) = P (checks.Unsound fault)
OfCheck P _ = ⊥

-- a status is one of those of `audit`, and this holds of it
abbrev pub OfAudit : (AuditStatus → Type 0) → TopStatus → Type 0
OfAudit P (tops.Tiger status) = P (audits.Run status)
OfAudit P (tops.Journal line) = P (audits.Journal line)
OfAudit P (tops.Audit c here line) = P (audits.Audit c here line)
OfAudit P _ = ⊥

-- all was done; and it was, unless there was no memory
abbrev pub IsDone : TopStatus → Type 0
IsDone status = status ≡ tops.Tiger statuses.Done

abbrev pub IsDoneOrNoMemory : TopStatus → Type 0
IsDoneOrNoMemory status = IsDone status ⊎ (status ≡ tops.Tiger statuses.NoMemory)

-- a scenario broke this rule, unless there was no memory
abbrev pub IsRuleOrNoMemory : ScenarioFault → TopStatus → Type 0
IsRuleOrNoMemory fault status = (status ≡ tops.Tiger (statuses.Scenario fault)) ⊎ (status ≡ tops.Tiger statuses.NoMemory)

-- the words, an input, a run that was judged or an image were refused, and it is not so that the false conditions of a plan were written
abbrev pub IsTopRefusal : TopStatus → Type 0
IsTopRefusal (tops.Tiger status) = IsRefusal status
IsTopRefusal (tops.Unsound fault) = ⊥
IsTopRefusal _ = Unit {0}

-- how a command ended that was done, or stopped with a status
abbrev pub status_of : Result (Unit {0}) TopStatus → TopStatus
status_of (Ok done) = tops.Tiger statuses.Done
status_of (Err status) = status

-- ---- what a fault below is here

abbrev pub top_by_sink : SinkFault → TopStatus
top_by_sink faults.Failed = tops.Tiger statuses.WriteFault
top_by_sink faults.NoMemory = tops.Tiger statuses.NoMemory

abbrev pub top_by_disks : DisksStatus → TopStatus
top_by_disks (ends.Run status) = tops.Tiger status
top_by_disks ends.Device = tops.Device
top_by_disks (ends.Damaged disk at kept found) = tops.Damaged disk at kept found
top_by_disks ends.ImageExists = tops.ImageExists

abbrev pub top_by_check : CheckStatus → TopStatus
top_by_check (checks.Run status) = tops.Tiger status
top_by_check (checks.Unsound fault) = tops.Unsound fault

abbrev pub top_by_audit : AuditStatus → TopStatus
top_by_audit (audits.Run status) = tops.Tiger status
top_by_audit (audits.Journal line) = tops.Journal line
top_by_audit (audits.Audit c here line) = tops.Audit c here line

abbrev pub top_by_stop : NetStop → TopStatus
top_by_stop stops.Absent = tops.Tiger (statuses.Absent None)
top_by_stop stops.ReadFault = tops.Tiger (statuses.ReadFault None)
top_by_stop (stops.TooLong given most) = tops.Tiger (statuses.TooLong None given most)
top_by_stop (stops.Fault rule) = tops.Net (rule_number rule)
top_by_stop stops.NoMemory = tops.Tiger statuses.NoMemory
