-- Who presses play in a house that is never full, in which nothing fails, gets every block.
use Rattle.std.specs.Prelude.{◌≡◌, ℕ, ◌+◌, ◌%◌, ◌<◌, ◌≤◌, false, List, [], ◌∷◌, length, None}
use Rattle.std.specs.List.{flat_map}
use Rattle.tiger_base.specs.declared.tenancy.Ask.{Ask}
use Rattle.tiger_base.specs.declared.tenancy.Tenancy.{Tenancy}
use Rattle.slot_plan.specs.Times.{due, disk_count, time_of}
use Rattle.node_kit.specs.declared.course.Kept.{Kept}
use Rattle.node_kit.specs.declared.course.Order.{Order}
use Rattle.node_kit.specs.declared.course.OrderKind.{OrderKind}
use Rattle.node_kit.specs.declared.course.OrderKind.TheVariants as kind
use Rattle.node_kit.specs.Life.{lifetime_of}
use Rattle.run_facts.specs.Commanded.{stop_ordered}
use Rattle.run_model.specs.Orders.{IsOrdered, IsTenancyFor}
use Rattle.run_model.specs.Served.{IsPut}
use Rattle.run_promises.specs.Windows.{IsWide}
use Rattle.run_promises.specs.Kept.{after_tick, IsOrderedIn, WasPut}
use Rattle.run_promises.specs.Waits.{IsATurn}
use Rattle.run_promises.specs.Placing.{NobodyIsStoppedIn}
use Rattle.run_promises.specs.Served.{IsSettledVisit, Came}

-- the instances that orders begin
abbrev pub begun_by : OrderKind → List ℕ
begun_by (kind.Begin ask) = ask.instance.0 ∷ []
begun_by (kind.Finish instance) = []

abbrev pub begun : List Order → List ℕ
begun orders = flat_map (λ o. begun_by o.what) orders

-- no cub dies, and no disk has a read fault
pub record NothingFails (k : Kept) : Type 0 where
  pub deaths : (n : ℕ) → n < k.course.plan.params.cubs → (lifetime_of k.course n).death ≡ None
  pub faults : k.course.faults ≡ []

-- Who presses play: a start of this is ordered in a beat, for a disk of the ring; no other start is of its instance,
-- and no order stops it.
pub record PressesPlay (k : Kept) (ask : Ask) (beat : ℕ) : Type 0 where
  pub ordered : IsOrderedIn k.orders ask beat
  pub disk : ask.disk.0 < disk_count k.course.plan.params
  pub alone : (other : Ask) → IsOrdered k.orders other → other.instance ≡ ask.instance → other ≡ ask
  pub unstopped : (b : ℕ) → stop_ordered k.orders ask.instance.0 b ≡ false

-- A house that is never full, from one beat to another: no more starts are ordered in all than there are slots, and
-- nobody is stopped in these beats, or up to a block play time before them.
pub record IsNeverFull (k : Kept) (from last : ℕ) : Type 0 where
  pub few : length (begun k.orders) ≤ k.course.plan.params.slots
  pub stops : NobodyIsStoppedIn k from last

-- A start is served by a beat: it was put as it was asked, by the end of that beat's tick of the cub of the disk; its first
-- block is due soon after the beat; and each of its blocks that is settled at the end of the run comes.
pub record IsServed (k : Kept) (ask : Ask) (last : ℕ) : Type 0 where
  pub tenancy : Tenancy
  pub put : IsPut k.journals tenancy
  pub asked : IsTenancyFor k.course.plan.params ask tenancy
  pub in_time : WasPut (after_tick k (ask.disk.0 % k.course.plan.params.cubs) last) ask.instance.0
  pub soon : due k.course.plan.params tenancy.slot.0 tenancy.first
      ≤ time_of k.course.plan.params last + k.course.plan.params.skew + k.course.plan.params.window_a
  pub blocks : (visit : ℕ) → IsSettledVisit k tenancy visit → Came k tenancy visit

-- in such a house, in which nothing fails, who presses play is served by the end of a turn that begins the greatest delay
-- after the order; all that is asked can be read off the scenario
abbrev pub WhoPressesPlayIsServed : Kept → Type 0
WhoPressesPlayIsServed k = (ask : Ask) (ordered last : ℕ) → IsWide k.course.plan.params
    → PressesPlay k ask ordered → IsATurn k.course.plan.params (ordered + k.course.plan.params.delay) last
    → last < k.course.beats
    → IsNeverFull k (ordered + k.course.plan.params.delay) last → NothingFails k → IsServed k ask last
