-- The first place of each instance is kept.
use Rattle.std.proofs.Common.{◌≡◌, ℕ, List, [], ◌∷◌, Bool, true, false, cond, ◌==◌, nat_lt, Option, Some, None, arith, refl, sym, ap, ◌∙◌}
use Rattle.std.specs.Option.{option_or}
use Rattle.std.proofs.lemmas.Bool.Decides.{nat_tests}
use Rattle.std.proofs.lemmas.List.Folds.{find-append}
use Rattle.tiger_base.specs.declared.number.Stamp.{Stamp}
use Rattle.tiger_base.specs.declared.number.Instance.{Instance}
use Rattle.tiger_base.specs.declared.tenancy.Ask.{Ask}
use Rattle.tiger_base.specs.declared.tenancy.Tenancy.{Tenancy}
use Rattle.tiger_base.specs.declared.message.Msg.{Msg}
use Rattle.tiger_base.specs.declared.message.Msg.TheVariants as msg
use Rattle.tiger_base.specs.Notes.{noted}
use Rattle.slot_plan.specs.declared.params.Params.{Params}
use Rattle.node_kit.specs.declared.course.Order.{Order}
use Rattle.node_kit.specs.declared.course.OrderKind.{OrderKind}
use Rattle.node_kit.specs.declared.course.OrderKind.TheVariants.{Begin, Finish}
use Rattle.node_kit.specs.Form.{is_in_form, is_tenancy}
use Rattle.node_kit.specs.Steps.{Deed, Input}
use Rattle.node_kit.specs.Steps.Input.{Take, Tick}
use Rattle.node_kit.specs.Deeds.{nothing, each_in_turn}
use Rattle.controller_core.specs.declared.known.Known.{Known}
use Rattle.controller_core.specs.Orders.{orders_in, start_of}
use Rattle.controller_core.specs.State.{ControllerState, fresh_controller, tenancy_of, is_gone}
use Rattle.controller_core.specs.Rules.{gone_from, visit_due, stops_at, stops_start, stops, stopping, carries, carrying, commanding, placed_once, placing, hearing, taking, controller_step}
use Rattle.controller_core.specs.Taken.{place_told, place_in, first_place, controller_after, FirstPlacesAreKept}

-- ---- a tick changes no place

abbrev KeepsPlaces : Known → Deed Msg Known → Type 0
KeepsPlaces known d = d.state.placed ≡ known.placed

by_test : (known : Known) (b : Bool) (one other : Deed Msg Known) → KeepsPlaces known one → KeepsPlaces known other → KeepsPlaces known (cond b one other)
by_test known true one other e f = e
by_test known false one other e f = f

stops_at_keeps : (p : Params) (v : Instance) (t : Tenancy) (n : ℕ) (known : Known) → KeepsPlaces known (stops_at p v t n known)
unfolding gone_from
stops_at_keeps p v t n known =
    by_test known (nat_lt t.last n) (nothing known) (gone_from p v (Some (record { slot = t.slot; visit = n })) n known) refl refl

stops_start_keeps : (p : Params) (v : Instance) (o : Option Ask) (known : Known) → KeepsPlaces known (stops_start p v o known)
unfolding gone_from
stops_start_keeps p v None known = refl
stops_start_keeps p v (Some ask) known = refl

stops_keeps : (p : Params) (orders : List Order) (reading : ℕ) (v : Instance) (o : Option Tenancy) (known : Known) → KeepsPlaces known (stops p orders reading v o known)
stops_keeps p orders reading v (Some t) known = stops_at_keeps p v t (visit_due p t reading) known
stops_keeps p orders reading v None known = stops_start_keeps p v (start_of orders v) known

carries_keeps : (p : Params) (orders : List Order) (reading : ℕ) (kind : OrderKind) (known : Known) → KeepsPlaces known (carries p orders reading kind known)
unfolding stopping
carries_keeps p orders reading (Begin ask) known = refl
carries_keeps p orders reading (Finish v) known =
    by_test known (is_gone known.gone v) (nothing known) (stops p orders reading v (tenancy_of known.placed v) known) refl
    (stops_keeps p orders reading v (tenancy_of known.placed v) known)

all_keep : (p : Params) (orders : List Order) (reading : ℕ) (os : List Order) (known : Known) → KeepsPlaces known (each_in_turn (carrying p orders reading) os known)
unfolding carrying
all_keep p orders reading [] known = refl
all_keep p orders reading (o ∷ os) known =
    all_keep p orders reading os (carrying p orders reading o known).state ∙ carries_keeps p orders reading o.what known

pub commanding_keeps : (p : Params) (orders : List Order) (stamp : Stamp) (known : Known) → (commanding p orders stamp known).state.placed ≡ known.placed
unfolding commanding
commanding_keeps p orders stamp known = all_keep p orders stamp.reading (orders_in stamp.beat orders) known

-- ---- a message tells a place

equal : (a b : ℕ) → (a == b) ≡ true → a ≡ b
equal a b e = grind (arith, nat_tests)

or_none : (o : Option Tenancy) → option_or o None ≡ o
or_none None = refl
or_none (Some t) = refl

or_assoc : (a b c : Option Tenancy) → option_or (option_or a b) c ≡ option_or a (option_or b c)
or_assoc None b c = refl
or_assoc (Some x) b c = refl

-- a tenancy of an instance of which one is known already
known_before : (t u : Tenancy) (placed : List Tenancy) (v : Instance) (b : Bool) → (t.instance.0 == v.0) ≡ b
    → tenancy_of placed t.instance ≡ Some u → tenancy_of placed v ≡ option_or (tenancy_of placed v) (cond b (Some t) None)
known_before t u placed v true e there =
    let same : tenancy_of placed v ≡ Some u =
    ap (λ n. tenancy_of placed (record { 0 = n })) (sym (equal t.instance.0 v.0 e)) ∙ there in
    rw same refl
known_before t u placed v false e there = sym (or_none (tenancy_of placed v))

placed_tells : (t : Tenancy) (known : Known) (v : Instance) (o : Option Tenancy) → tenancy_of known.placed t.instance ≡ o
    → tenancy_of (placed_once t o known).placed v ≡ option_or (tenancy_of known.placed v) (cond (t.instance.0 == v.0) (Some t) None)
placed_tells t known v None e = find-append (λ (u : Tenancy). u.instance.0 == v.0) known.placed (t ∷ [])
placed_tells t known v (Some u) e = known_before t u known.placed v (t.instance.0 == v.0) refl e

told_if : (t : Tenancy) (known : Known) (v : Instance) (b : Bool)
    → tenancy_of (cond b (placing t known) known).placed v
    ≡ option_or (tenancy_of known.placed v) (cond b (cond (t.instance.0 == v.0) (Some t) None) None)
unfolding placing
told_if t known v true = placed_tells t known v (tenancy_of known.placed t.instance) refl
told_if t known v false = sym (or_none (tenancy_of known.placed v))

untold : (b : Bool) (known : Known) (v : Instance) → tenancy_of (cond b known known).placed v ≡ option_or (tenancy_of known.placed v) None
untold true known v = sym (or_none (tenancy_of known.placed v))
untold false known v = sym (or_none (tenancy_of known.placed v))

-- what is known after a message: what was known, and else what the message tells
pub taking_tells : (p : Params) (m : Msg) (known : Known) (v : Instance)
    → tenancy_of (taking p m known).placed v ≡ option_or (tenancy_of known.placed v) (place_told p v m)
unfolding taking hearing
taking_tells p (msg.Placed t) known v = told_if t known v (is_tenancy p t)
taking_tells p other known v = untold (is_in_form p (noted other)) known v

-- ---- a controller among its inputs

step_tells : (s : ControllerState) (v : Instance) (i : Input Msg)
    → tenancy_of (controller_step s i).state.known.placed v ≡ option_or (tenancy_of s.known.placed v) (place_in s.params v i)
step_tells s v (Take stamp link m) = taking_tells s.params m s.known v
step_tells s v (Tick stamp) = ap (λ placed. tenancy_of placed v) (commanding_keeps s.params s.orders stamp s.known) ∙ sym (or_none _)

same_params : (s : ControllerState) (i : Input Msg) → (controller_step s i).state.params ≡ s.params
same_params s (Take stamp link m) = refl
same_params s (Tick stamp) = refl

told_from : (s : ControllerState) (p : Params) (v : Instance) (is : List (Input Msg)) → s.params ≡ p
    → tenancy_of (controller_after is s).known.placed v ≡ option_or (tenancy_of s.known.placed v) (first_place p v is)
told_from s p v [] e = sym (or_none (tenancy_of s.known.placed v))
told_from s p v (i ∷ is) e =
    told_from (controller_step s i).state p v is (same_params s i ∙ e)
    ∙ (ap (λ o. option_or o (first_place p v is)) (step_tells s v i ∙ ap (λ q. option_or (tenancy_of s.known.placed v) (place_in q v i)) e)
    ∙ or_assoc (tenancy_of s.known.placed v) (place_in p v i) (first_place p v is))

pub first_places : FirstPlacesAreKept
first_places p orders v inputs = told_from (fresh_controller p orders) p v inputs refl
