-- How `net NAME` and `disks NAME IMAGE` end.
use Rattle.std.specs.Prelude.{◌≡◌, ℕ, ◌≤◌, List, None, length, Ok, ◌⊎◌}
use Rattle.outside.specs.Told.{Told, bytes, FilesState}
use Rattle.outside.specs.Written.{SinkState}
use Rattle.net_read.specs.Meaning.{net_meaning}
use Rattle.net_read.specs.Plans.{NetSaid}
use Rattle.tiger_net.specs.declared.stop.NetRule.{NetRule}
use Rattle.tiger_net.specs.declared.stop.NetStop.TheVariants as stops
use Rattle.tiger_net.specs.Lines.{most_plan, HasLines}
use Rattle.tiger_net.specs.Stops.{StopCause, BreaksNetRule, rule_number}
use Rattle.file_disk.specs.Devices.{DeviceState}
use Rattle.stored_disks.specs.Disks.{Disks}
use Rattle.scenario_disks.specs.Images.{AreInImage, all_lines}
use Rattle.tiger_input.specs.declared.status.Status.TheVariants as statuses
use Rattle.tiger_input.specs.Ending.{IsWritten, IsBegun, PutFailed}
use Rattle.tiger_top.specs.declared.status.TopStatus.{TopStatus}
use Rattle.tiger_top.specs.declared.status.TopStatus.TheVariants as tops

-- this rule is the first that what was read of a plan's file breaks
abbrev pub BreaksNumbered : Told → ℕ → Type 0
BreaksNumbered file rule = (broken : NetRule) × (rule ≡ rule_number broken) × BreaksNetRule file broken

-- why the plan of a name was refused; the words never are, nor is a scenario, since there is none
abbrev pub NetCause : List ℕ → FilesState → FilesState → TopStatus → Type 0
NetCause name old new (tops.Tiger (statuses.Absent file)) = (file ≡ None) × StopCause name old new stops.Absent
NetCause name old new (tops.Tiger (statuses.ReadFault file)) = (file ≡ None) × StopCause name old new stops.ReadFault
NetCause name old new (tops.Tiger (statuses.TooLong file given most)) =
    (file ≡ None) × StopCause name old new (stops.TooLong given most)
NetCause name old new (tops.Tiger statuses.Words) = ⊥
NetCause name old new (tops.Tiger (statuses.Scenario fault)) = ⊥
NetCause name old new (tops.Net rule) = BreaksNumbered (old.told name) rule
NetCause name old new tops.Device = ⊥
NetCause name old new (tops.Damaged disk at kept found) = ⊥
NetCause name old new tops.ImageExists = ⊥
NetCause name old new (tops.Unsound fault) = ⊥
NetCause name old new (tops.Journal line) = ⊥
NetCause name old new (tops.Audit c here line) = ⊥
NetCause name old new _ = Unit {0}

-- What was written with each status: all lines of the plan that was read of its file, or a front of them, or nothing.
abbrev pub NetWrote : Told → SinkState → SinkState → TopStatus → Type 0
NetWrote file old new (tops.Tiger statuses.Done) = HasLines file (IsWritten old new)
NetWrote file old new (tops.Tiger statuses.WriteFault) = PutFailed old new × HasLines file (IsBegun old new)
NetWrote file old new (tops.Tiger statuses.NoMemory) =
    (new.written ≡ old.written) ⊎ HasLines file (IsBegun old new)
NetWrote file old new _ = new.written ≡ old.written

-- the told bytes are within the limit, and mean a plan
pub record IsRunnableNet (file : Told) : Type 0 where
  pub plan_bytes : List ℕ
  pub is_told : file ≡ bytes plan_bytes
  pub is_short : length plan_bytes ≤ most_plan
  pub plan : NetSaid
  pub is_sound : net_meaning plan_bytes ≡ Ok plan

-- all disks are in the image of a name, each of their parts was read once, and their lines were written
abbrev pub AreStored : List ℕ → DeviceState → DeviceState → SinkState → SinkState → Disks → Type 0
AreStored image old new out_old out_new disks = AreInImage image disks old new × IsWritten out_old out_new (all_lines disks)
