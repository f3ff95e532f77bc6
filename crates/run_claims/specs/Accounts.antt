-- What a run is judged by: what it was given, what its nodes wrote, and which cub ticked when.
use Rattle.std.specs.Prelude.{◌≡◌, ℕ, ◌+◌, ◌<◌, Bool, ◌&&◌, ◌==◌, List, length, filter, find, option_map, unwrap_or}
use Rattle.slot_plan.specs.declared.params.Params.{Params}
use Rattle.slot_plan.specs.Times.{time_of}
use Rattle.stripe_layout.specs.declared.catalogue.Catalogue.{Catalogue}
use Rattle.node_kit.specs.declared.course.Course.{Course}
use Rattle.node_kit.specs.declared.course.Kept.{Kept}
use Rattle.node_kit.specs.declared.course.Order.{Order}
use Rattle.node_kit.specs.declared.course.ReadFault.{ReadFault}
use Rattle.node_kit.specs.declared.journal.Entry.{Entry}
use Rattle.node_kit.specs.Courses.{reading_of}
use Rattle.node_kit.specs.Life.{lifetime_of}
use Rattle.node_kit.specs.Links.{links_of, controller_of}
use Rattle.run_facts.specs.Order.{Noted, order_of}
use Rattle.run_model.specs.Fronts.{AnyByRecursion}
use Rattle.run_model.specs.Runs.{EndsBeat}

-- An account of a run, whoever ran it: the plan, the catalogue, the read faults and the orders that it was given; one
-- journal for each node, over a number of beats; which cub ticked in which beat at which reading; and in how many beats
-- the controller ticked, with its reading in each. Deaths are those that the journals tell.
pub record Account : Type 1 where
  pub plan : Params
  pub catalogue : Catalogue
  pub faults : List ReadFault
  pub orders : List Order
  pub journals : List (List Entry)
  pub beats : ℕ
  pub ticked : ℕ → ℕ → ℕ → Type 0
  pub commands : ℕ
  pub clock : ℕ → ℕ

-- the log of a run: all entries of its beats, by beat, then node, then place in the journal
abbrev pub log_of : Account → List Noted
log_of a = order_of a.beats a.journals

-- the true time, in micros, at which the last beat ends
abbrev pub end_of : Account → ℕ
end_of a = time_of a.plan a.beats

-- ---- of a kept run

-- in a course a cub ticks in each beat of the run that it ends, at the reading of its clock
abbrev pub ticks_in : Course → ℕ → ℕ → ℕ → Type 0
ticks_in course cub beat reading =
    (beat < course.beats) × EndsBeat (lifetime_of course cub) beat × (reading ≡ reading_of course cub beat)

-- the account of a kept run, in which the controller ticks in each beat
abbrev pub account_of : Kept → Account
account_of k = record {
  plan = k.course.plan.params;
  catalogue = k.catalogue;
  faults = k.course.faults;
  orders = k.orders;
  journals = k.journals;
  beats = k.course.beats;
  ticked = ticks_in k.course;
  commands = k.course.beats;
  clock = reading_of k.course (controller_of (links_of k.course.plan.params));
}

-- ---- of a list of ticks

-- a node ticked in a beat, and its clock showed this reading
pub record Ticking : Type 0 where
  pub node : ℕ
  pub beat : ℕ
  pub reading : ℕ

abbrev pub is_tick_of : ℕ → Ticking → Bool
is_tick_of node tick = tick.node == node

abbrev pub is_tick_at : ℕ → ℕ → Ticking → Bool
is_tick_at node beat tick = is_tick_of node tick && (tick.beat == beat)

-- a list of ticks has the tick of a cub in a beat at a reading
abbrev pub HasTick : List Ticking → ℕ → ℕ → ℕ → Type 0
HasTick ticks cub beat reading =
    AnyByRecursion (λ tick. (tick.node ≡ cub) × (tick.beat ≡ beat) × (tick.reading ≡ reading)) ticks

-- the reading of the first tick of a node in a beat; 0 if it has none there
abbrev pub reading_at : List Ticking → ℕ → ℕ → ℕ
reading_at ticks node beat = unwrap_or (option_map (λ tick. tick.reading) (find (is_tick_at node beat) ticks)) 0

-- the account of a run up to the end of a beat, if its ticks are listed
abbrev pub account_by : Params → Catalogue → List ReadFault → List Order → List (List Entry) → ℕ → List Ticking → Account
account_by p catalogue faults orders journals beat ticks = record {
  plan = p;
  catalogue = catalogue;
  faults = faults;
  orders = orders;
  journals = journals;
  beats = beat + 1;
  ticked = HasTick ticks;
  commands = length (filter (is_tick_of (controller_of (links_of p))) ticks);
  clock = reading_at ticks (controller_of (links_of p));
}
