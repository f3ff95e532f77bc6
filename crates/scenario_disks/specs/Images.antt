-- The disks of a scenario, and that they are in an image.
use Rattle.std.specs.Prelude.{◌≡◌, ℕ, ◌+◌, ◌≤◌, List}
use Rattle.stripe_layout.specs.declared.catalogue.Catalogue.{Catalogue}
use Rattle.scenario_read.specs.declared.scenario.Scenario.{Scenario}
use Rattle.scenario_read.specs.Orders.{IsCatalogueOf}
use Rattle.file_disk.specs.Devices.{DeviceState, HasOpened, IsOpened, AreSameOutside}
use Rattle.stored_disks.specs.Disks.{Disks, disks_of, start_of, part_count, disk_lines}
use Rattle.stored_disks.specs.Kept.{AreDisksKept, StandEach}

-- the most parts that all disks may have
abbrev pub most_parts : ℕ
most_parts = 4000000

-- this holds of the disks of a scenario: the library's files are laid out as it says
pub record OfScenario (s : Scenario) (library : List (List ℕ)) (P : Disks → Type 0)
    : Type 0 where
  pub catalogue : Catalogue
  pub is : IsCatalogueOf s library catalogue
  pub holds : P (disks_of library catalogue s.course.plan.params.pieces)

-- the lines of all disks
abbrev pub all_lines : Disks → List ℕ
all_lines s = disk_lines s s.catalogue.disks

-- The image of a name was opened, and no other one; all disks were stored in it one behind the other, and each part was
-- read once: so if the device tells its bytes, those of each disk stand at its place, and nothing else.
pub record AreInImage (name : List ℕ) (s : Disks) (old new : DeviceState) : Type 0 where
  pub few : part_count s.catalogue s.pieces ≤ most_parts
  pub opened : DeviceState
  pub begun : IsOpened name old opened
  pub kept : AreDisksKept s s.catalogue.disks opened new
  pub stand : StandEach s s.catalogue.disks new.told
  pub outside : AreSameOutside opened.told new.told 0 (start_of s s.catalogue.disks)
  pub named : HasOpened name old new
  pub faults : new.faults ≡ old.faults
  pub reads : new.reads ≡ old.reads + part_count s.catalogue s.pieces
  pub refusals : new.refusals ≡ old.refusals
