-- What a controller is seen as, and where it stands.
use Rattle.std.specs.Prelude.{◌≡◌, ◌==◌, ℕ, ◌+◌, Bool, List, [], All, IsTrue, Option, find}
use Rattle.std.specs.List.{list_any}
use Rattle.tiger_base.specs.declared.number.Instance.{Instance}
use Rattle.tiger_base.specs.declared.tenancy.Tenancy.{Tenancy}
use Rattle.slot_plan.specs.declared.params.Params.{Params}
use Rattle.slot_plan.specs.Conditions.{IsPlan}
use Rattle.slot_plan.specs.Times.{disk_count}
use Rattle.node_kit.specs.declared.course.Order.{Order}
use Rattle.node_kit.specs.Form.{is_tenancy}
use Rattle.controller_core.specs.declared.known.Known.{Known}

-- a controller: its plan, its orders, and what it knows of the instances
pub record ControllerState : Type 0 where
  pub params : Params
  pub orders : List Order
  pub known : Known

-- a controller that knows nothing yet
abbrev pub fresh_controller : Params → List Order → ControllerState
fresh_controller p orders = record { params = p; orders = orders; known = record { placed = []; gone = [] } }

-- the tenancy that is known of an instance: the first one of it, if there is one
abbrev pub tenancy_of : List Tenancy → Instance → Option Tenancy
tenancy_of placed v = find (λ t. t.instance.0 == v.0) placed

-- whether an instance was stopped
abbrev pub is_gone : List Instance → Instance → Bool
is_gone gone v = list_any (λ w. w.0 == v.0) gone

-- every tenancy that it knows is in form
abbrev pub AreInForm : Params → Known → Type 0
AreInForm p known = All (λ t. IsTrue (is_tenancy p t)) known.placed

-- it is the controller of a ring with these numbers
pub record IsController (s : ControllerState) (p : Params) (n : ℕ) : Type 0 where
  pub params : s.params ≡ p
  pub number : s.params.cubs + disk_count s.params ≡ n
  pub plan : IsPlan s.params
  pub in_form : AreInForm s.params s.known
