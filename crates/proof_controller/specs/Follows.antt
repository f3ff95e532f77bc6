-- A controller in a run: that it follows its orders, and what it knows of places.
use Rattle.std.specs.Prelude.{◌≡◌, ℕ, ◌<◌, List, true, false}
use Rattle.tiger_base.specs.declared.number.Instance.{Instance}
use Rattle.tiger_base.specs.declared.message.Msg.{Msg}
use Rattle.tiger_base.specs.Notes.{noted}
use Rattle.slot_plan.specs.declared.params.Params.{Params}
use Rattle.slot_plan.specs.Conditions.{IsPlan}
use Rattle.node_kit.specs.declared.course.Order.{Order}
use Rattle.run_facts.specs.Events.{is_tick, is_death}
use Rattle.run_facts.specs.Histories.{History, last_of, beat, ticks}
use Rattle.run_facts.specs.Histories as history
use Rattle.run_facts.specs.Commanded.{IsCommanded, place_known}
use Rattle.controller_core.specs.Orders.{AreOrders}
use Rattle.controller_core.specs.State.{ControllerState, fresh_controller, tenancy_of}
use Rattle.controller_core.specs.Rules.{controller_step}

-- Node n of a history is in a run as a controller is: one tick ends each beat, at the beat's reading, and it does
-- not die. What it takes is left open.
pub record IsControllersRun {S : Type 0} (beats : ℕ) (reading : ℕ → ℕ) (h : History Msg S) (n : ℕ) : Type 0 where
  pub lives : (i : ℕ) → i < h.count n → is_death (h.event n i) ≡ false
  pub in_beat : (i : ℕ) → i < h.count n → beat h n i ≡ ticks h n i
  pub all_beats : ticks h n (h.count n) ≡ beats
  pub reads : (i : ℕ) → i < h.count n → is_tick (h.event n i) ≡ true → history.reading h n i ≡ reading (beat h n i)

-- whatever a controller takes from its opening on, its journal follows its orders
abbrev pub ControllersFollow : Type 0
ControllersFollow = (p : Params) (orders : List Order) (beats : ℕ) (reading : ℕ → ℕ) (h : History Msg ControllerState) (n : ℕ)
    → IsPlan p → AreOrders p orders → h.first n ≡ fresh_controller p orders → IsControllersRun beats reading h n
    → IsCommanded p beats reading orders (last_of noted controller_step h n).journal

-- and at the end the tenancy that it knows of an instance is the first one in form that it got, as its journal
-- says; it knows none exactly if it got none
abbrev pub ControllersKnowPlaces : Type 0
ControllersKnowPlaces = (p : Params) (orders : List Order) (beats : ℕ) (reading : ℕ → ℕ) (h : History Msg ControllerState) (n : ℕ)
    → IsPlan p → AreOrders p orders → h.first n ≡ fresh_controller p orders → IsControllersRun beats reading h n → (v : Instance)
    → tenancy_of (last_of noted controller_step h n).state.known.placed v ≡ place_known p (last_of noted controller_step h n).journal v.0 beats
