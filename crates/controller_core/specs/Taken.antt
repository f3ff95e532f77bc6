-- What a controller knows of all that it has taken: the first place of each instance.
use Rattle.std.specs.Prelude.{◌≡◌, ◌==◌, List, [], ◌∷◌, Option, Some, None, if◌then◌else◌}
use Rattle.std.specs.Option.{option_or}
use Rattle.tiger_base.specs.declared.number.Instance.{Instance}
use Rattle.tiger_base.specs.declared.tenancy.Tenancy.{Tenancy}
use Rattle.tiger_base.specs.declared.message.Msg.{Msg}
use Rattle.tiger_base.specs.declared.message.Msg.TheVariants as msg
use Rattle.slot_plan.specs.declared.params.Params.{Params}
use Rattle.node_kit.specs.declared.course.Order.{Order}
use Rattle.node_kit.specs.Form.{is_tenancy}
use Rattle.node_kit.specs.Steps.{Input}
use Rattle.node_kit.specs.Steps.Input.{Take, Tick}
use Rattle.controller_core.specs.State.{ControllerState, fresh_controller, tenancy_of}
use Rattle.controller_core.specs.Rules.{controller_step}

-- the tenancy that a message tells of an instance: it is Placed of that instance, in form
abbrev pub place_told : Params → Instance → Msg → Option Tenancy
place_told p v (msg.Placed t) = if is_tenancy p t then (if t.instance.0 == v.0 then Some t else None) else None
place_told p v other = None

abbrev pub place_in : Params → Instance → Input Msg → Option Tenancy
place_in p v (Take stamp link m) = place_told p v m
place_in p v (Tick stamp) = None

-- the first tenancy that several inputs tell of an instance, if one does; the oldest input stands first
abbrev pub first_place : Params → Instance → List (Input Msg) → Option Tenancy
first_place p v [] = None
first_place p v (i ∷ is) = option_or (place_in p v i) (first_place p v is)

-- a controller after several inputs
abbrev pub controller_after : List (Input Msg) → ControllerState → ControllerState
controller_after [] s = s
controller_after (i ∷ is) s = controller_after is (controller_step s i).state

-- Whatever a controller takes and whenever it ticks, the tenancy that it knows of an instance is the first one in
-- form that it was told, and it knows none exactly if it was told none.
abbrev pub FirstPlacesAreKept : Type 0
FirstPlacesAreKept = (p : Params) (orders : List Order) (v : Instance) (inputs : List (Input Msg))
    → tenancy_of (controller_after inputs (fresh_controller p orders)).known.placed v ≡ first_place p v inputs
