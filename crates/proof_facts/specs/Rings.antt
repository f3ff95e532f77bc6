-- Histories of a ring in which cubs may die and return: cubs, disks, a controller and the viewers, each by its rules.
use Rattle.std.specs.Prelude.{◌≡◌, ℕ, zero, suc, ◌+◌, ◌<◌, ◌≤◌, true, false, List, [], ◌++◌}
use Rattle.std.specs.List.{AllByRecursion}
use Rattle.tiger_base.specs.Limits.{most_reading}
use Rattle.tiger_base.specs.declared.tenancy.Ask.{Ask}
use Rattle.tiger_base.specs.declared.message.Msg.{Msg}
use Rattle.tiger_base.specs.Notes.{noted}
use Rattle.slot_plan.specs.declared.params.Params.{Params}
use Rattle.slot_plan.specs.Times.{cub_of, disk_count}
use Rattle.stripe_layout.specs.declared.catalogue.Catalogue.{Catalogue}
use Rattle.node_kit.specs.declared.course.Order.{Order}
use Rattle.node_kit.specs.Links.{links_of, viewers_of}
use Rattle.node_kit.specs.Steps.{Deed, Input, stamp_of as input_stamp}
use Rattle.node_kit.specs.declared.outbox.Out.{Out}
use Rattle.cub_rules.specs.Cubs.{coming_back}
use Rattle.run_facts.specs.Events.{is_death}
use Rattle.run_facts.specs.Histories.{History, IsRun, IsUp, open_beat, outs, reading}
use Rattle.disk_core.specs.State.{DiskState}
use Rattle.disk_core.specs.Rules.{disk_step}
use Rattle.controller_core.specs.Orders.{Starts}
use Rattle.proof_lives.specs.Lives.{outs_in, store_at}
use Rattle.proof_controller.specs.Controllers.{controller, commands_at}
use Rattle.proof_controller.specs.Orders.{AreCounted}
use Rattle.proof_service.specs.Files.{IsOfFile}
use Rattle.proof_facts.specs.Beside.{Additions, IsAddition, nothing_added}
use Rattle.proof_facts.specs.Lives.{lives_of, later_lives_of, acting, later_from}

-- The cubs, the disks, the controller and the viewers of a plan.
abbrev pub node_count : Params → ℕ
node_count p = p.cubs + disk_count p + 2

-- The node of a disk, and that of the viewers.
abbrev pub node_of_disk : Params → ℕ → ℕ
node_of_disk p disk = p.cubs + disk

abbrev pub viewers : Params → ℕ
viewers p = viewers_of (links_of p)

-- Only cubs die, and of two neighbours at most one.
pub record DieAlone {S : Type 0} (p : Params) (h : History Msg S) : Type 0 where
  pub mortal : (n i : ℕ)
      → n < node_count p → p.cubs ≤ n → i < h.count n → is_death (h.event n i) ≡ false
  pub apart : (c d i j : ℕ)
      → c < p.cubs → d < p.cubs → i < h.count c → j < h.count d
      → is_death (h.event c i) ≡ true → is_death (h.event d j) ≡ true
      → d ≡ cub_of p (c + 1) → ⊥

-- Disk number d is a disk of the plan.
pub record IsDiskOf (p : Params) (d : ℕ) (s : DiskState) : Type 0 where
  pub params : s.params ≡ p
  pub number : s.disk ≡ d

-- What tells of a return goes out at the first input of the life that begins with it, before all else.
abbrev pub return_outs : Params → ℕ → (ℕ → Input Msg) → ℕ → List (Out Msg)
return_outs p c inputs zero = (coming_back p c (input_stamp (inputs 0)) (store_at p c inputs 0)).outs
return_outs p c inputs (suc i) = []

-- What each node puts out is what its rules make of what befell it, as far as its death lets it; and
-- for a cub, in its first life, what is added at the input. A disk never changes, so its state is one
-- for all events.
pub record PutsOutWith {S : Type 0} (step : S → Input Msg → Deed Msg S) (p : Params)
    (orders : List Order) (disk_at : ℕ → DiskState) (added : Additions) (h : History Msg S)
    : Type 0 where
  pub cubs : (c i : ℕ)
      → c < p.cubs → i < acting h c
      → outs noted step h c i ≡ outs_in p (lives_of h) c i ++ added c i
  pub few : (c i : ℕ) → c < p.cubs → i < acting h c → AllByRecursion (IsAddition p c) (added c i)
  pub back : (c i : ℕ)
      → c < p.cubs → i < (later_lives_of h).count c
      → outs noted step h c (later_from h c + i)
      ≡ return_outs p c ((later_lives_of h).input c) i ++ outs_in p (later_lives_of h) c i
  pub disks : (d i : ℕ)
      → d < disk_count p → i < h.count (node_of_disk p d)
      → outs noted step h (node_of_disk p d) i
      ≡ (disk_step (disk_at d) ((lives_of h).input (node_of_disk p d) i)).outs
  pub are_disks : (d : ℕ) → d < disk_count p → IsDiskOf p d (disk_at d)
  pub controls : (i : ℕ)
      → i < h.count (controller p)
      → outs noted step h (controller p) i
      ≡ commands_at p orders ((lives_of h).input (controller p)) i
  pub views : (i : ℕ) → i < h.count (viewers p) → outs noted step h (viewers p) i ≡ []

-- A history of a run whose nodes put out what their rules say, and cubs what is added, and of which no
-- two neighbours die. A death may come in the middle of an event, and a cub that died may return. Time
-- is not too long.
pub record IsRingWith {S : Type 0} (step : S → Input Msg → Deed Msg S) (p : Params)
    (orders : List Order) (disk_at : ℕ → DiskState) (added : Additions) (h : History Msg S)
    : Type 0 where
  pub run : IsRun noted step p (node_count p) h
  pub deaths : DieAlone p h
  pub rules : PutsOutWith step p orders disk_at added h
  pub counted : AreCounted p orders
  pub short : (n i : ℕ) → n < node_count p → i < h.count n → reading h n i ≤ most_reading

-- The same, and nothing is added.
abbrev pub IsRingHistory : {S : Type 0} → (S → Input Msg → Deed Msg S) → Params → List Order
    → (ℕ → DiskState) → History Msg S → Type 0
IsRingHistory step p orders disk_at h = IsRingWith step p orders disk_at nothing_added h

-- Each node that is up has ended each beat below a number.
pub record IsUpTo {S : Type 0} (p : Params) (end : ℕ) (h : History Msg S) : Type 0 where
  pub until : (n : ℕ) → n < node_count p → IsUp h n → end ≤ open_beat h n (h.count n)

-- Each order is for a whole file of the catalogue, which has the plan's disks and blocks.
pub record AreOfCatalogue (p : Params) (catalogue : Catalogue) (orders : List Order) : Type 0 where
  pub disks : catalogue.disks ≡ disk_count p
  pub files : (k : ℕ) (ask : Ask) → Starts orders k ask → IsOfFile catalogue ask

-- Each disk has the image of the catalogue that is its own.
pub record HaveImages (p : Params) (catalogue : Catalogue) (disk_at : ℕ → DiskState) : Type 0 where
  pub files : (d : ℕ) → d < disk_count p → (disk_at d).image.catalogue ≡ catalogue
  pub pieces : (d : ℕ) → d < disk_count p → (disk_at d).image.pieces ≡ p.pieces
  pub disk : (d : ℕ) → d < disk_count p → (disk_at d).image.disk ≡ d
