-- The starts that a controller sends in a beat are those of its orders.
use Rattle.std.proofs.Common.{◌≡◌, ℕ, zero, suc, ◌+◌, ◌%◌, ◌<◌, List, [], ◌∷◌, ◌++◌, Bool, true, false, cond, ◌==◌, nat_lt, Option, Some, None, arith, refl, sym, ap, subst, ◌∙◌}
use Rattle.std.specs.Prelude.{slice_get, filter}
use Rattle.std.specs.Option.{option_or}
use Rattle.std.specs.List.{flat_map, AllByRecursion}
use Rattle.std.proofs.lemmas.Bool.{lt-ltb}
use Rattle.std.proofs.lemmas.Bool.Decides.{nat_tests}
use Rattle.std.proofs.lemmas.Grind.{flat_map-append}
use Rattle.tiger_base.specs.declared.number.Instance.{Instance}
use Rattle.tiger_base.specs.declared.tenancy.Ask.{Ask}
use Rattle.tiger_base.specs.declared.tenancy.Tag.{Tag}
use Rattle.tiger_base.specs.declared.tenancy.Tenancy.{Tenancy}
use Rattle.tiger_base.specs.declared.message.Msg.{Msg}
use Rattle.tiger_base.specs.Notes.{noted}
use Rattle.slot_plan.specs.declared.params.Params.{Params}
use Rattle.slot_plan.specs.Conditions.{IsPlan}
use Rattle.node_kit.specs.declared.course.Order.{Order}
use Rattle.node_kit.specs.declared.course.OrderKind.{OrderKind}
use Rattle.node_kit.specs.declared.course.OrderKind.TheVariants.{Begin, Finish}
use Rattle.node_kit.specs.declared.outbox.Out.{Out}
use Rattle.node_kit.specs.Steps.{Deed, what_of}
use Rattle.node_kit.specs.Ways.{way_to_cub}
use Rattle.node_kit.specs.Deeds.{nothing, each_in_turn}
use Rattle.run_facts.specs.Commanded.{Dispatch, end_of, start_of, starts_for, starts_at, starts_ordered}
use Rattle.controller_core.specs.declared.known.Known.{Known}
use Rattle.controller_core.specs.Orders as orders
use Rattle.controller_core.specs.Orders.{AreOrders, Starts, Stops, orders_in}
use Rattle.controller_core.specs.State.{tenancy_of, is_gone}
use Rattle.controller_core.specs.Rules.{starts, gone_from, visit_due, stops_start, stops, stopping, carries, carrying}
use Rattle.proof_controller.proofs.Carrying.{HasStart}
use Rattle.proof_controller.proofs.Noted.{flat_out}

to_cub : (p : Params) (c : ℕ) → c < p.cubs → end_of p (way_to_cub p c) ≡ Some c
unfolding way_to_cub
to_cub p c here = let inside : nat_lt c p.cubs ≡ true = lt-ltb _ _ here in rw inside refl

begin_sends : (p : Params) (ask : Ask) → IsPlan p → flat_out (start_of p) (starts p ask) ≡ starts_for p (Begin ask)
unfolding starts
begin_sends p ask plan =
    let some : 0 < p.cubs = omega (arith, plan.ranges.cubs) in
    rw (to_cub p (ask.disk.0 % p.cubs) (omega arith), to_cub p ((ask.disk.0 + 1) % p.cubs) (omega arith)) refl

gone_sends : (p : Params) (v : Instance) (tag : Option Tag) (n : ℕ) (known : Known) → flat_out (start_of p) (gone_from p v tag n known).outs ≡ []
unfolding gone_from
gone_sends p v tag n known = refl

chosen_sends : (p : Params) (b : Bool) (d e : Deed Msg Known) → flat_out (start_of p) d.outs ≡ [] → flat_out (start_of p) e.outs ≡ []
    → flat_out (start_of p) (cond b d e).outs ≡ []
chosen_sends p true d e one two = one
chosen_sends p false d e one two = two

stops_start_sends : (p : Params) (v : Instance) (o : Option Ask) (known : Known) → flat_out (start_of p) (stops_start p v o known).outs ≡ []
stops_start_sends p v None known = refl
stops_start_sends p v (Some ask) known = gone_sends p v None ask.disk.0 known

stops_sends : (p : Params) (os : List Order) (r : ℕ) (v : Instance) (o : Option Tenancy) (known : Known)
    → flat_out (start_of p) (stops p os r v o known).outs ≡ []
stops_sends p os r v (Some t) known =
    let n = visit_due p t r in
    chosen_sends p (nat_lt t.last n) (nothing known) (gone_from p v (Some (record { slot = t.slot; visit = n })) n known) refl
    (gone_sends p v (Some (record { slot = t.slot; visit = n })) n known)
stops_sends p os r v None known = stops_start_sends p v (orders.start_of os v) known

stopping_sends : (p : Params) (os : List Order) (r : ℕ) (v : Instance) (known : Known) → flat_out (start_of p) (stopping p os r v known).outs ≡ []
unfolding stopping
stopping_sends p os r v known =
    chosen_sends p (is_gone known.gone v) (nothing known) (stops p os r v (tenancy_of known.placed v) known) refl
    (stops_sends p os r v (tenancy_of known.placed v) known)

carries_sends : (p : Params) (os : List Order) (r : ℕ) (kind : OrderKind) (known : Known) → IsPlan p
    → flat_out (start_of p) (carries p os r kind known).outs ≡ starts_for p kind
carries_sends p os r (Begin ask) known plan = begin_sends p ask plan
carries_sends p os r (Finish v) known plan = stopping_sends p os r v known

carrying_sends : (p : Params) (os : List Order) (r : ℕ) (o : Order) (known : Known) → IsPlan p
    → flat_out (start_of p) (carrying p os r o known).outs ≡ starts_for p o.what
unfolding carrying
carrying_sends p os r o known plan = carries_sends p os r o.what known plan

each_sends : (p : Params) (all : List Order) (r : ℕ) (os : List Order) (known : Known) → IsPlan p
    → flat_out (start_of p) (each_in_turn (carrying p all r) os known).outs ≡ flat_map (λ o. starts_for p o.what) os
each_sends p all r [] known plan = refl
each_sends p all r (o ∷ os) known plan =
    let next = (carrying p all r o known).state in
    flat_map-append (λ (x : Out Msg). start_of p (what_of noted x)) (carrying p all r o known).outs (each_in_turn (carrying p all r) os next).outs
    ∙ (ap (λ xs. xs ++ flat_out (start_of p) (each_in_turn (carrying p all r) os next).outs) (carrying_sends p all r o known plan)
    ∙ ap (λ xs. starts_for p o.what ++ xs) (each_sends p all r os next plan))

-- the starts of the orders of a beat
filtered_starts : (p : Params) (beat : ℕ) (os : List Order)
    → flat_map (λ o. starts_for p o.what) (filter (λ o. o.beat == beat) os) ≡ flat_map (starts_at p beat) os
filtered_starts p beat [] = refl
filtered_starts p beat (o ∷ os) = by_test p (o.beat == beat) o _ _ (filtered_starts p beat os)
  where
    by_test : (p : Params) (b : Bool) (o : Order) (xs : List Order) (ys : List Dispatch) → flat_map (λ (x : Order). starts_for p x.what) xs ≡ ys
        → flat_map (λ (x : Order). starts_for p x.what) (cond b (o ∷ xs) xs) ≡ (cond b (starts_for p o.what) []) ++ ys
    by_test p true o xs ys e = ap (λ zs. starts_for p o.what ++ zs) e
    by_test p false o xs ys e = e

pub beat_sends : (p : Params) (all : List Order) (r beat : ℕ) (known : Known) → IsPlan p
    → flat_out (start_of p) (each_in_turn (carrying p all r) (orders_in beat all) known).outs ≡ starts_ordered p beat all
unfolding orders_in starts_ordered
beat_sends p all r beat known plan = each_sends p all r (filter (λ o. o.beat == beat) all) known plan ∙ filtered_starts p beat all

-- each stop's instance has a start
or_some : (o : Option Ask) (ask : Ask) → (x : Ask) × (option_or o (Some ask) ≡ Some x)
or_some None ask = (ask, refl)
or_some (Some y) ask = (y, refl)

abbrev kind_at : Option Order → OrderKind
kind_at None = Finish (record { 0 = 0 })
kind_at (Some o) = o.what

begins : (kind : OrderKind) (ask : Ask) (v : Instance) → kind ≡ Begin ask → ask.instance.0 ≡ v.0 → orders.start_by v kind ≡ Some ask
begins kind ask v e same =
    let test : (ask.instance.0 == v.0) ≡ true = grind (arith, nat_tests) in
    subst (λ k. orders.start_by v k ≡ Some ask) (sym e) (rw test refl)

start_found : (os : List Order) (j : ℕ) (ask : Ask) (v : Instance) → Starts os j ask → ask.instance.0 ≡ v.0
    → (x : Ask) × (orders.start_of os v ≡ Some x)
start_found [] j ask v s same = absurd (cc)
start_found (o ∷ os) zero ask v s same =
    (ask, rw (begins o.what ask v (ap kind_at s.1) same) refl)
start_found (o ∷ os) (suc j) ask v s same =
    let found = start_found os j ask v s same in
    let either = or_some (orders.start_by v o.what) found.0 in
    (either.0, rw found.1 either.1)

all_from_get : (P : Order → Type 0) (os : List Order) → ((k : ℕ) (o : Order) → slice_get os k ≡ Some o → P o) → AllByRecursion P os
all_from_get P [] h = tt
all_from_get P (o ∷ os) h = (h 0 o refl, all_from_get P os (λ k x e. h (suc k) x e))

all_filter : (P : Order → Type 0) (test : Order → Bool) (os : List Order) → AllByRecursion P os → AllByRecursion P (filter test os)
all_filter P test [] h = tt
all_filter P test (o ∷ os) h =
    elim (test o) as (λ b. AllByRecursion P (cond b (o ∷ filter test os) (filter test os))) [ true ↦ (h.0, all_filter P test os h.1) | false ↦ all_filter P test os h.1 ]

pub have_starts : (p : Params) (all : List Order) (beat : ℕ) → AreOrders p all → AllByRecursion (HasStart all) (orders_in beat all)
unfolding orders_in
have_starts p all beat are =
    all_filter (HasStart all) (λ o. o.beat == beat) all
    (all_from_get (HasStart all) all (λ k o e w kind.
    let stop : Stops all k w = (o.beat, e ∙ ap (λ (x : OrderKind). Some (record { beat = o.beat; what = x })) kind) in
    let start = are.after_start k w stop in
    start_found all start.0 start.1 w start.3 start.4))
