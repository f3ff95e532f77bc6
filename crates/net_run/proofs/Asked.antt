-- What was asked for stays so, and each ask of a plan is asked in its step.
use Rattle.std.proofs.Common.{◌≡◌, ◌∙◌, ℕ, zero, suc, ◌+◌, ◌/◌, ◌<◌, ◌≤◌, ◌||◌, ◌==◌, Bool, true, false, cond, nat_lt, List, [], ◌∷◌, Some, None, Option, refl, sym, ap, subst, arith, eq-eqb, ⊎_elim, eq-or-lt_of_le}
use Rattle.std.specs.Prelude.{find, option_map}
use Rattle.std.specs.List.{fold, range_with_len, flat_map, list_any, AllByRecursion}
use Rattle.std.specs.Option.{is_some}
use Rattle.std.proofs.lemmas.Bool.{eqb-true}
use Rattle.std.proofs.lemmas.List.{get_or-set_same}
use Rattle.std.proofs.lemmas.List.Sums.{fold_push}
use Rattle.tiger_base.specs.declared.number.Instance.{Instance}
use Rattle.net_schedule.specs.declared.ring.NetRing.{NetRing}
use Rattle.net_schedule.specs.declared.ring.Entry.{Entry}
use Rattle.net_schedule.specs.declared.ring.Own.{Own}
use Rattle.net_schedule.specs.declared.world.NetEvent.{NetEvent}
use Rattle.net_schedule.specs.declared.world.NetEvent.TheVariants as event
use Rattle.net_schedule.specs.Cubs.{CubState, fresh_cub, is_of, is_asked, number_of, put_in, asked_entry, with_ask}
use Rattle.net_schedule.specs.Worlds.{WorldState, cub_at, after, asked_at, state_at, fault_of, IsPossible}
use Rattle.net_schedule.specs.Links.{IsWorld}
use Rattle.net_schedule.proofs.Finds.{clash}
use Rattle.net_schedule.proofs.Linked.{all_map}
use Rattle.net_schedule.proofs.Talks.{or_right}
use Rattle.net_schedule.proofs.Worldly.{ask_low}
use Rattle.net_read.specs.declared.plan.NetOrder.{NetOrder}
use Rattle.net_read.specs.declared.plan.NetOrder.TheVariants as order
use Rattle.net_read.specs.Orders.{step_of, asks_of, AreOrdersFrom}
use Rattle.net_run.specs.Runs.{event_of, is_in, ordered, entry_of, EachStands}
use Rattle.net_run.proofs.Ranges.{range_next}
use Rattle.net_run.proofs.Sums.{unused}
use Rattle.net_run.proofs.Unasked.{asked_stays}

abbrev pub WasAsked : WorldState → Instance → Type 0
WasAsked w v = is_some (asked_at w v) ≡ true

-- ---- one event

find_there : (p : ℕ → Bool) (a n k : ℕ) → a ≤ k → k < a + n → p k ≡ true → is_some (find p (range_with_len a n)) ≡ true
find_there p a zero k low high is = absurd (omega (arith, low, high))
find_there p a (suc n) k low high is = cases (p a) refl (λ less. find_there p (a + 1) n k less (omega (arith, high)) is)
  where
    cases : (b : Bool) → p a ≡ b → (a + 1 ≤ k → is_some (find p (range_with_len (a + 1) n)) ≡ true) → is_some (cond b (Some a) (find p (range_with_len (a + 1) n))) ≡ true
    cases true e ih = refl
    cases false e ih =
        ⊎_elim (λ (same : a ≡ k). absurd (clash is (ap p (sym same) ∙ e))) (λ (less : a < k). ih (omega (arith, less))) (eq-or-lt_of_le low)

in_put : (v : Instance) (o : Own) (own : List Own) → is_of v o ≡ true → is_asked (put_in number_of o own) v ≡ true
in_put v o [] is = rw is refl
in_put v o (y ∷ ys) is = cases (nat_lt (number_of o) (number_of y)) (in_put v o ys is)
  where
    cases : (b : Bool) → is_asked (put_in number_of o ys) v ≡ true → is_asked (cond b (o ∷ y ∷ ys) (y ∷ put_in number_of o ys)) v ≡ true
    cases true ih = rw is refl
    cases false ih = or_right (is_of v y) (is_asked (put_in number_of o ys) v) ih

-- an instance that is asked for was asked for then
ask_asks : (w : WorldState) (v : Instance) (at rate : ℕ) → IsWorld w → IsPossible w.ring (event.Ask v at rate) → WasAsked (after w (event.Ask v at rate)) v
ask_asks w v at rate h can =
    let c = (ask_low w at h can.0).0 in
    let low = subst (λ (n : ℕ). at / w.ring.quanta < n) (sym h.count) (ask_low w at h can.0).0 in
    let here : cub_at (after w (event.Ask v at rate)) (at / w.ring.quanta) ≡ with_ask (cub_at w (at / w.ring.quanta)) v at rate
    = get_or-set_same w.cubs (at / w.ring.quanta) (with_ask (cub_at w (at / w.ring.quanta)) v at rate) (fresh_cub w.ring 0) low in
    find_there (λ k. is_asked (cub_at (after w (event.Ask v at rate)) k).own v) 0 w.ring.cubs (at / w.ring.quanta) (omega arith) (omega (arith, c))
    (ap (λ (y : CubState). is_asked y.own v) here ∙ in_put v (asked_entry (cub_at w (at / w.ring.quanta)) v at rate) (cub_at w (at / w.ring.quanta)).own (eq-eqb v.0 v.0 refl))

abbrev instance_of : ℕ → Instance
instance_of n = record { 0 = n }

pub keeps_asked : (w : WorldState) (e : NetEvent) → IsWorld w → IsPossible w.ring e → fault_of w e ≡ None → (u : Instance) → WasAsked w u → WasAsked (after w e) u
keeps_asked w (event.Ask v at rate) h can none u was = cases (v.0 == u.0) refl
  where
    cases : (b : Bool) → (v.0 == u.0) ≡ b → WasAsked (after w (event.Ask v at rate)) u
    cases true e =
        let same : v ≡ u = ap instance_of (eqb-true v.0 u.0 e) in
        let free : asked_at w u ≡ None = subst (λ (x : Instance). asked_at w x ≡ None) same (unused (asked_at w v) none) in
        absurd (clash was (ap is_some free))
    cases false e = ap is_some (asked_stays w (event.Ask v at rate) h can none u e) ∙ was
keeps_asked w (event.Stop v) h can none u was = ap is_some (asked_stays w (event.Stop v) h can none u refl) ∙ was
keeps_asked w (event.Renew c) h can none u was = ap is_some (asked_stays w (event.Renew c) h can none u refl) ∙ was
keeps_asked w (event.Deliver n) h can none u was = ap is_some (asked_stays w (event.Deliver n) h can none u refl) ∙ was

-- ---- many events

-- the instances that an event asks for, with those before
abbrev pub asks_by : NetEvent → List Instance → List Instance
asks_by (event.Ask v at rate) vs = v ∷ vs
asks_by (event.Stop v) vs = vs
asks_by (event.Renew c) vs = vs
asks_by (event.Deliver n) vs = vs

abbrev pub asks_behind : List NetEvent → List Instance → List Instance
asks_behind [] vs = vs
asks_behind (e ∷ es) vs = asks_behind es (asks_by e vs)

-- those of a step, with those before
abbrev pub asks_in : List NetOrder → List Instance → ℕ → List Instance
asks_in orders vs i = asks_behind (ordered orders i) vs

-- those of so many steps
abbrev pub asks_to : List NetOrder → ℕ → List Instance
asks_to orders n = fold (asks_in orders) [] (range_with_len 0 n)

pub all_asked : (w : WorldState) (e : NetEvent) (vs : List Instance) → IsWorld w → IsPossible w.ring e → fault_of w e ≡ None → AllByRecursion (WasAsked w) vs
    → AllByRecursion (WasAsked (after w e)) (asks_by e vs)
all_asked w (event.Ask v at rate) vs h can none all =
    (ask_asks w v at rate h can, all_map (WasAsked w) (WasAsked (after w (event.Ask v at rate))) vs (λ u. keeps_asked w (event.Ask v at rate) h can none u) all)
all_asked w (event.Stop v) vs h can none all = all_map (WasAsked w) (WasAsked (after w (event.Stop v))) vs (λ u. keeps_asked w (event.Stop v) h can none u) all
all_asked w (event.Renew c) vs h can none all = all_map (WasAsked w) (WasAsked (after w (event.Renew c))) vs (λ u. keeps_asked w (event.Renew c) h can none u) all
all_asked w (event.Deliver n) vs h can none all = all_map (WasAsked w) (WasAsked (after w (event.Deliver n))) vs (λ u. keeps_asked w (event.Deliver n) h can none u) all

pub asks_more : (orders : List NetOrder) (i : ℕ) → asks_in orders (asks_to orders i) i ≡ asks_to orders (i + 1)
asks_more orders i = sym (ap (λ (xs : List ℕ). fold (asks_in orders) [] xs) (range_next i) ∙ fold_push (asks_in orders) [] (range_with_len 0 i) i)

-- ---- all steps

abbrev IsOfAsked : (Instance → Type 0) → NetEvent → Type 0
IsOfAsked Q (event.Ask v at rate) = Q v
IsOfAsked Q (event.Stop v) = Unit {0}
IsOfAsked Q (event.Renew c) = Unit {0}
IsOfAsked Q (event.Deliver n) = Unit {0}

one_event : (Q : Instance → Type 0) (e : NetEvent) (vs : List Instance) → AllByRecursion Q (asks_by e vs) → IsOfAsked Q e × AllByRecursion Q vs
one_event Q (event.Ask v at rate) vs h = (h.0, h.1)
one_event Q (event.Stop v) vs h = (tt, h)
one_event Q (event.Renew c) vs h = (tt, h)
one_event Q (event.Deliver n) vs h = (tt, h)

each_event : (Q : Instance → Type 0) (es : List NetEvent) (vs : List Instance) → AllByRecursion Q (asks_behind es vs) → AllByRecursion (IsOfAsked Q) es × AllByRecursion Q vs
each_event Q [] vs h = (tt, h)
each_event Q (e ∷ es) vs h =
    let later = each_event Q es (asks_by e vs) h in
    let here = one_event Q e vs later.1 in
    ((here.0, later.0), here.1)

each_step : (Q : Instance → Type 0) (orders : List NetOrder) (is : List ℕ) (vs : List Instance) → AllByRecursion Q (fold (asks_in orders) vs is)
    → AllByRecursion (λ i. AllByRecursion (IsOfAsked Q) (ordered orders i)) is × AllByRecursion Q vs
each_step Q orders [] vs h = (tt, h)
each_step Q orders (i ∷ is) vs h =
    let later = each_step Q orders is (asks_in orders vs i) h in
    let here = each_event Q (ordered orders i) vs later.1 in
    ((here.0, later.0), here.1)

at_each : (P : ℕ → Type 0) (a n k : ℕ) → AllByRecursion P (range_with_len a n) → a ≤ k → k < a + n → P k
at_each P a zero k h low high = absurd (omega (arith, low, high))
at_each P a (suc n) k h low high =
    ⊎_elim (λ (same : a ≡ k). subst P same h.0) (λ (less : a < k). at_each P (a + 1) n k h.1 (omega (arith, less)) (omega (arith, high))) (eq-or-lt_of_le low)

with_order : (Q : Instance → Type 0) (o : NetOrder) (os : List NetOrder) → IsOfAsked Q (event_of o) → AllByRecursion (λ e. Q e.instance) (flat_map entry_of os)
    → AllByRecursion (λ e. Q e.instance) (flat_map entry_of (o ∷ os))
with_order Q (order.Ask step entry) os here rest = (here, rest)
with_order Q (order.Stop step v) os here rest = rest

behind_order : (Q : Instance → Type 0) (o : NetOrder) (os : List NetOrder) (j : ℕ) (b : Bool) → is_in j o ≡ b → AllByRecursion (IsOfAsked Q) (ordered (o ∷ os) j)
    → AllByRecursion (IsOfAsked Q) (ordered os j)
behind_order Q o os j true is h =
    let first : ordered (o ∷ os) j ≡ event_of o ∷ ordered os j = rw is refl in
    (subst (AllByRecursion (IsOfAsked Q)) first h).1
behind_order Q o os j false is h =
    let first : ordered (o ∷ os) j ≡ ordered os j = rw is refl in
    subst (AllByRecursion (IsOfAsked Q)) first h

each_entry : (Q : Instance → Type 0) (r : NetRing) (n latest asks : ℕ) (os : List NetOrder) → AreOrdersFrom r n latest asks os
    → ((j : ℕ) → j < n → AllByRecursion (IsOfAsked Q) (ordered os j)) → AllByRecursion (λ e. Q e.instance) (flat_map entry_of os)
each_entry Q r n latest asks [] may h = tt
each_entry Q r n latest asks (o ∷ os) may h =
    let first : ordered (o ∷ os) (step_of o) ≡ event_of o ∷ ordered os (step_of o) = rw (eq-eqb (step_of o) (step_of o) refl) refl in
    let here = (subst (AllByRecursion (IsOfAsked Q)) first (h (step_of o) may.0.early)).0 in
    with_order Q o os here (each_entry Q r n (step_of o) (asks + asks_of o) os may.1 (λ j low. behind_order Q o os j (is_in j o) refl (h j low)))

-- ---- how it stands

found_passes : (p : ℕ → Bool) (xs : List ℕ) (c : ℕ) → find p xs ≡ Some c → p c ≡ true
found_passes p [] c e = absurd (cc)
found_passes p (x ∷ xs) c e = cases (p x) refl e (found_passes p xs c)
  where
    cases : (b : Bool) → p x ≡ b → cond b (Some x) (find p xs) ≡ Some c → (find p xs ≡ Some c → p c ≡ true) → p c ≡ true
    cases true is g ih = let same : x ≡ c = cc in subst (λ (n : ℕ). p n ≡ true) same is
    cases false is g ih = ih g

any_stands : (p : Own → Bool) (own : List Own) → list_any p own ≡ true → is_some (option_map (λ (o : Own). o.state) (find p own)) ≡ true
any_stands p [] e = absurd (cc)
any_stands p (o ∷ os) e = cases (p o) e (any_stands p os)
  where
    cases : (b : Bool) → (b || list_any p os) ≡ true → (list_any p os ≡ true → is_some (option_map (λ (o : Own). o.state) (find p os)) ≡ true)
        → is_some (option_map (λ (o : Own). o.state) (cond b (Some o) (find p os))) ≡ true
    cases true g ih = refl
    cases false g ih = ih g

stands : (w : WorldState) (v : Instance) → WasAsked w v → is_some (state_at w (asked_at w v) v) ≡ true
stands w v was = cases (asked_at w v) refl was
  where
    cases : (o : Option ℕ) → asked_at w v ≡ o → is_some o ≡ true → is_some (state_at w o v) ≡ true
    cases None e g = absurd (cc)
    cases (Some c) e g = any_stands (is_of v) (cub_at w c).own (found_passes (λ k. is_asked (cub_at w k).own v) (range_with_len 0 w.ring.cubs) c e)

pub each_stands : (w : WorldState) (r : NetRing) (n : ℕ) (orders : List NetOrder) → AreOrdersFrom r n 0 0 orders → AllByRecursion (WasAsked w) (asks_to orders n) → EachStands orders w
each_stands w r n orders may all =
    let steps = (each_step (WasAsked w) orders (range_with_len 0 n) [] all).0 in
    all_map (λ (e : Entry). WasAsked w e.instance) (λ (e : Entry). is_some (state_at w (asked_at w e.instance) e.instance) ≡ true) (flat_map entry_of orders) (λ e was. stands w e.instance was)
    (each_entry (WasAsked w) r n 0 0 orders may (λ j low. at_each (λ i. AllByRecursion (IsOfAsked (WasAsked w)) (ordered orders i)) 0 n j steps (omega arith) (omega (arith, low))))
