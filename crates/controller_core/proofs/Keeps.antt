-- The controller stays where it stands, and what it sends is in form, on its own links.
use Rattle.std.proofs.Common.{◌≡◌, ℕ, ◌+◌, ◌%◌, ◌<◌, List, Bool, true, false, cond, nat_lt, Option, Some, None, IsTrue, IfSome, arith, refl, subst}
use Rattle.std.specs.List.{AllByRecursion}
use Rattle.tiger_base.specs.declared.number.Stamp.{Stamp}
use Rattle.tiger_base.specs.declared.number.Instance.{Instance}
use Rattle.tiger_base.specs.declared.tenancy.Ask.{Ask}
use Rattle.tiger_base.specs.declared.tenancy.Tag.{Tag}
use Rattle.tiger_base.specs.declared.tenancy.Tenancy.{Tenancy}
use Rattle.tiger_base.specs.declared.message.Msg.{Msg}
use Rattle.tiger_base.specs.declared.message.Msg.TheVariants as msg
use Rattle.tiger_base.specs.Notes.{noted}
use Rattle.slot_plan.specs.declared.params.Params.{Params}
use Rattle.slot_plan.specs.Conditions.{IsPlan}
use Rattle.slot_plan.specs.Times.{disk_count}
use Rattle.node_kit.specs.declared.course.Order.{Order}
use Rattle.node_kit.specs.declared.course.OrderKind.{OrderKind}
use Rattle.node_kit.specs.declared.course.OrderKind.TheVariants.{Begin, Finish}
use Rattle.node_kit.specs.declared.outbox.Out.{Out}
use Rattle.node_kit.specs.Form.{IsInForm, is_in_form, is_tenancy, is_tag}
use Rattle.node_kit.specs.Steps.{Deed, IsAllowed}
use Rattle.node_kit.specs.Steps.Input.{Take, Tick}
use Rattle.node_kit.specs.Deeds.{nothing}
use Rattle.node_kit.proofs.Places.{KeepsPlace, IsRightAt, nothing_right, chosen_right, each_in_turn_right}
use Rattle.node_kit.proofs.Ways.{to_cub_leads}
use Rattle.controller_core.specs.declared.known.Known.{Known}
use Rattle.controller_core.specs.Orders.{orders_in, start_of}
use Rattle.controller_core.specs.State.{ControllerState, IsController, AreInForm, tenancy_of, is_gone}
use Rattle.controller_core.specs.Rules.{to_both, starts, gone_from, visit_due, stops_at, stops_start, stops, stopping, carries, carrying, commanding, hearing, taking, controller_step}
use Rattle.controller_core.proofs.InForm.{found_in_form, placing_in_form, tag_in_form}

-- the deed is right at the controller
abbrev IsRight : Params → Deed Msg Known → Type 0
IsRight p d = IsRightAt (λ (known : Known). AreInForm p known) p (p.cubs + disk_count p) d

both_allowed : (p : Params) (n : ℕ) (first second : Msg) → IsPlan p → IsInForm p (noted first) → IsInForm p (noted second)
    → AllByRecursion (IsAllowed noted p (p.cubs + disk_count p)) (to_both p n first second)
both_allowed p n first second plan one two =
    let some : 0 < p.cubs = omega (arith, plan.ranges.cubs) in
    ((to_cub_leads p (n % p.cubs) (omega arith), one), ((to_cub_leads p ((n + 1) % p.cubs) (omega arith), two), tt))

gone_right : (p : Params) (v : Instance) (tag : Option Tag) (n : ℕ) (known : Known) → IsPlan p → IsTrue (is_tag p tag) → AreInForm p known
    → IsRight p (gone_from p v tag n known)
unfolding gone_from
gone_right p v tag n known plan form kept =
    record { keeps = kept; allowed = (tt, both_allowed p n (msg.Deschedule v tag) (msg.Deschedule v tag) plan form form) }

stops_at_right : (p : Params) (v : Instance) (t : Tenancy) (n : ℕ) (known : Known) → IsPlan p → IsTrue (is_tenancy p t) → AreInForm p known
    → IsRight p (stops_at p v t n known)
stops_at_right p v t n known plan form kept =
    chosen_right (λ (k : Known). AreInForm p k) p (p.cubs + disk_count p) (nat_lt t.last n) (nothing known) _
    (λ over. nothing_right (λ (k : Known). AreInForm p k) p (p.cubs + disk_count p) known kept)
    (λ on. gone_right p v (Some (record { slot = t.slot; visit = n })) n known plan (tag_in_form p t n form on) kept)

stops_start_right : (p : Params) (v : Instance) (o : Option Ask) (known : Known) → IsPlan p → AreInForm p known → IsRight p (stops_start p v o known)
stops_start_right p v None known plan kept = nothing_right (λ (k : Known). AreInForm p k) p (p.cubs + disk_count p) known kept
stops_start_right p v (Some ask) known plan kept = gone_right p v None ask.disk.0 known plan refl kept

stops_right : (p : Params) (orders : List Order) (reading : ℕ) (v : Instance) (o : Option Tenancy) (known : Known) → IsPlan p
    → IfSome o (λ t. IsTrue (is_tenancy p t)) → AreInForm p known → IsRight p (stops p orders reading v o known)
stops_right p orders reading v (Some t) known plan form kept = stops_at_right p v t (visit_due p t reading) known plan form kept
stops_right p orders reading v None known plan form kept = stops_start_right p v (start_of orders v) known plan kept

stopping_right : (p : Params) (orders : List Order) (reading : ℕ) (v : Instance) (known : Known) → IsPlan p → AreInForm p known
    → IsRight p (stopping p orders reading v known)
unfolding stopping
stopping_right p orders reading v known plan kept =
    chosen_right (λ (k : Known). AreInForm p k) p (p.cubs + disk_count p) (is_gone known.gone v) (nothing known) _
    (λ gone. nothing_right (λ (k : Known). AreInForm p k) p (p.cubs + disk_count p) known kept)
    (λ here. stops_right p orders reading v (tenancy_of known.placed v) known plan (found_in_form p known v kept) kept)

starts_allowed : (p : Params) (ask : Ask) → IsPlan p → AllByRecursion (IsAllowed noted p (p.cubs + disk_count p)) (starts p ask)
unfolding starts
starts_allowed p ask plan = both_allowed p ask.disk.0 (msg.Start false ask) (msg.Start true ask) plan refl refl

carries_right : (p : Params) (orders : List Order) (reading : ℕ) (kind : OrderKind) (known : Known) → IsPlan p → AreInForm p known
    → IsRight p (carries p orders reading kind known)
carries_right p orders reading (Begin ask) known plan kept = record { keeps = kept; allowed = starts_allowed p ask plan }
carries_right p orders reading (Finish v) known plan kept = stopping_right p orders reading v known plan kept

carrying_right : (p : Params) (orders : List Order) (reading : ℕ) (o : Order) (known : Known) → IsPlan p → AreInForm p known
    → IsRight p (carrying p orders reading o known)
unfolding carrying
carrying_right p orders reading o known plan kept = carries_right p orders reading o.what known plan kept

commanding_right : (p : Params) (orders : List Order) (stamp : Stamp) (known : Known) → IsPlan p → AreInForm p known
    → IsRight p (commanding p orders stamp known)
unfolding commanding
commanding_right p orders stamp known plan kept =
    each_in_turn_right (λ (k : Known). AreInForm p k) p (p.cubs + disk_count p) (carrying p orders stamp.reading)
    (λ o k h. carrying_right p orders stamp.reading o k plan h) (orders_in stamp.beat orders) known kept

hearing_in_form : (p : Params) (m : Msg) (known : Known) → IsTrue (is_in_form p (noted m)) → AreInForm p known → AreInForm p (hearing m known)
unfolding hearing
hearing_in_form p (msg.Placed t) known form kept = placing_in_form p t known form kept
hearing_in_form p other known form kept = kept

taken_in_form : (p : Params) (m : Msg) (b : Bool) (known : Known) → is_in_form p (noted m) ≡ b → AreInForm p known
    → AreInForm p (cond b (hearing m known) known)
taken_in_form p m true known form kept = hearing_in_form p m known form kept
taken_in_form p m false known form kept = kept

taking_in_form : (p : Params) (m : Msg) (known : Known) → AreInForm p known → AreInForm p (taking p m known)
unfolding taking
taking_in_form p m known kept = taken_in_form p m (is_in_form p (noted m)) known refl kept

-- the controller stays where it stands, whatever in form it knows
stays_at : (s : ControllerState) (p : Params) (n : ℕ) (known : Known) → IsController s p n → AreInForm s.params known
    → IsController (record s { known = known }) p n
stays_at s p n known at kept = record { params = at.params; number = at.number; plan = at.plan; in_form = kept }

moved_place : (p q : Params) (m n : ℕ) (outs : List (Out Msg)) → p ≡ q → m ≡ n → AllByRecursion (IsAllowed noted p m) outs
    → AllByRecursion (IsAllowed noted q n) outs
moved_place p q m n outs e f h =
    subst (λ r. AllByRecursion (IsAllowed noted r n) outs) e (subst (λ k. AllByRecursion (IsAllowed noted p k) outs) f h)

pub controller_keeps : KeepsPlace controller_step IsController
controller_keeps s (Take stamp link m) p n at = (stays_at s p n (taking s.params m s.known) at (taking_in_form s.params m s.known at.in_form), tt)
controller_keeps s (Tick stamp) p n at =
    let right = commanding_right s.params s.orders stamp s.known at.plan at.in_form in
    let d = commanding s.params s.orders stamp s.known in
    (stays_at s p n d.state at right.keeps, moved_place s.params p (s.params.cubs + disk_count s.params) n d.outs at.params at.number right.allowed)
