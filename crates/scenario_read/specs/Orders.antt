-- The catalogue of a scenario, and the orders that its events are.
use Rattle.std.specs.Prelude.{◌≡◌, ℕ, ◌+◌, List, [], ◌∷◌, map, length, Option, Some, None, slice_get}
use Rattle.tiger_base.specs.declared.number.DiskNo.{DiskNo}
use Rattle.tiger_base.specs.declared.number.FileNo.{FileNo}
use Rattle.stripe_layout.specs.declared.catalogue.FileInfo.{FileInfo}
use Rattle.stripe_layout.specs.declared.catalogue.Catalogue.{Catalogue}
use Rattle.stripe_layout.specs.Places.{block_count}
use Rattle.slot_plan.specs.Times.{disk_count}
use Rattle.node_kit.specs.declared.course.Order.{Order}
use Rattle.node_kit.specs.declared.course.OrderKind.TheVariants as kinds
use Rattle.scenario_read.specs.declared.scenario.FileLine.{FileLine}
use Rattle.scenario_read.specs.declared.scenario.ScEvent.{ScEvent}
use Rattle.scenario_read.specs.declared.scenario.ScEvent.TheVariants.{Begin, Finish}
use Rattle.scenario_read.specs.declared.scenario.Scenario.{Scenario}

-- the first disks of the catalogue's files are those of the scenario's
abbrev pub HasDisks : Scenario → Catalogue → Type 0
HasDisks s c = map (λ info. info.disk) c.files ≡ map (λ line. line.disk) s.files

-- the catalogue has the library's lengths, the scenario's disks, and the plan's block and number of disks
pub record IsCatalogueOf (s : Scenario) (library : List (List ℕ)) (c : Catalogue) : Type 0 where
  pub lengths : map (λ bytes. length bytes) library ≡ map (λ info. info.len) c.files
  pub first_disks : HasDisks s c
  pub block : c.block ≡ s.course.plan.params.block
  pub disks : c.disks ≡ disk_count s.course.plan.params

-- the length of each file in the library, with the disk of its first block
abbrev pub infos_of : List FileLine → List (List ℕ) → List FileInfo
infos_of [] library = []
infos_of (line ∷ lines) [] = []
infos_of (line ∷ lines) (bytes ∷ library) = record { len = length bytes; disk = line.disk } ∷ infos_of lines library

abbrev pub disk_in : Option FileInfo → DiskNo
disk_in (Some info) = info.disk
disk_in None = record { 0 = 0 }

-- the disk of a file's first block
unfoldable pub first_disk : Catalogue → ℕ → DiskNo
first_disk c file = disk_in (slice_get c.files file)

-- the start that makes the instance of this number
abbrev pub start_order : Catalogue → ℕ → ℕ → FileNo → Order
start_order c number beat file =
    record { beat = beat; what = kinds.Begin (record { instance = record { 0 = number }; file = file; count = block_count c file.0; disk = first_disk c file.0 }) }

-- the order that an event is, behind so many starts
abbrev pub order_of : Catalogue → ℕ → ScEvent → Order
order_of c starts (Begin beat file) = start_order c starts beat file
order_of c starts (Finish beat instance) = record { beat = beat; what = kinds.Finish instance }

-- the orders that events are, where so many starts stand in front: each start makes the next instance
abbrev pub orders_from : Catalogue → ℕ → List ScEvent → List Order
orders_from c starts [] = []
orders_from c starts (Begin beat file ∷ events) = start_order c starts beat file ∷ orders_from c (starts + 1) events
orders_from c starts (Finish beat instance ∷ events) = record { beat = beat; what = kinds.Finish instance } ∷ orders_from c starts events
