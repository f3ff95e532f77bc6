-- The orders of a step, one after the other, and the steps.
use Rattle.std.proofs.Common.{◌≡◌, ◌∙◌, ℕ, zero, suc, ◌+◌, ◌<◌, ◌≤◌, ◌==◌, ◌||◌, ◌-◌, Bool, true, false, cond, List, [], ◌∷◌, ◌++◌, length, drop, map, Some, None, Option, refl, sym, ap, subst, arith, eq-eqb, get_or, ⊎_elim, eq-or-lt_of_le}
use Rattle.std.specs.Prelude.{slice_get, find}
use Rattle.std.specs.List.{range_with_len, fold}
use Rattle.std.proofs.lemmas.Bool.{eqb-true}
use Rattle.tiger_base.specs.declared.number.Instance.{Instance}
use Rattle.net_schedule.specs.declared.ring.NetRing.{NetRing}
use Rattle.net_schedule.specs.declared.world.NetEvent.{NetEvent}
use Rattle.net_schedule.specs.declared.world.NetEvent.TheVariants as event
use Rattle.net_schedule.specs.Worlds.{WorldState, fresh_world, cub_at, fault_of, IsPossible}
use Rattle.net_schedule.specs.declared.ring.Own.{Own}
use Rattle.net_schedule.specs.Cubs.{fresh_cub, is_asked}
use Rattle.net_schedule.proofs.Places.{not_same}
use Rattle.net_schedule.proofs.Finds.{clash}
use Rattle.net_read.specs.declared.plan.NetOrder.{NetOrder}
use Rattle.net_read.specs.declared.plan.NetOrder.TheVariants as order
use Rattle.net_read.specs.Orders.{step_of, asks_of, IsOrderIn, AreOrdersFrom, AreOrders}
use Rattle.net_read.specs.Plans.{NetSaid}
use Rattle.net_run.specs.Runs.{Running, done, came, fated, drawn, draw_of, taking_first, delivered, happened, is_renewal, event_of, is_in, if_in, ordered}
use Rattle.net_run.specs.Shortened.{has_enough, is_quiet, renewed_by, renewed_in, shortly_renewed, shortly_stepped}
use Rattle.net_run.specs.Sent.{OnlyBelow, StaysUnasked, NoneIsAsked, IsAtStep}

-- ---- the place of the next order

pub at_some : (xs : List NetOrder) (n : ℕ) (o : NetOrder) → slice_get xs n ≡ Some o → (drop n xs ≡ o ∷ drop (n + 1) xs) × (n < length xs)
at_some [] n o e = absurd (cc)
at_some (x ∷ xs) zero o e = let same : x ≡ o = cc in (ap (λ (y : NetOrder). y ∷ xs) same, omega arith)
at_some (x ∷ xs) (suc n) o e =
    let h = at_some xs n o e in
    let count : suc n + 1 ≡ suc (n + 1) = omega arith in
    (h.0 ∙ ap (λ (m : ℕ). o ∷ drop m (x ∷ xs)) (sym count), omega (arith, h.1))

at_none : (xs : List NetOrder) (n : ℕ) → slice_get xs n ≡ None → drop n xs ≡ []
at_none [] zero e = refl
at_none [] (suc n) e = refl
at_none (x ∷ xs) zero e = absurd (cc)
at_none (x ∷ xs) (suc n) e = at_none xs n e

pub if_in_some : (i : ℕ) (p : Option NetOrder) (o : NetOrder) → if_in i p ≡ Some o → (p ≡ Some o) × (is_in i o ≡ true)
if_in_some i None o e = absurd (cc)
if_in_some i (Some x) o e = cases (is_in i x) refl e
  where
    cases : (b : Bool) → is_in i x ≡ b → cond b (Some x) None ≡ Some o → (Some x ≡ Some o) × (is_in i o ≡ true)
    cases true t g = let same : x ≡ o = cc in (g, subst (λ (y : NetOrder). is_in i y ≡ true) same t)
    cases false t g = absurd (cc)

-- what is ordered in a step and in later ones, while the step's orders are done
pub record IsAmid (w : WorldState) (orders : List NetOrder) (step next : ℕ) : Type 0 where
  pub rest : (j : ℕ) → step + 1 ≤ j → ordered (drop next orders) j ≡ ordered orders j
  pub steps : ℕ
  pub asks : ℕ
  pub possible : AreOrdersFrom w.ring steps step asks (drop next orders)
  pub new : OnlyBelow w asks

-- the next order may be done
pub head : (w : WorldState) (n step asks : ℕ) (o : NetOrder) → IsOrderIn w.ring n step asks o → OnlyBelow w asks → IsPossible w.ring (event_of o) × (fault_of w (event_of o) ≡ None)
head w n step asks (order.Ask at entry) h new =
    let fresh = new entry.instance (omega (arith, h.possible.0)) in
    ((h.possible.1.at, h.possible.1.some, h.possible.1.few), rw fresh refl)
head w n step asks (order.Stop at instance) h new = (tt, refl)

pub amid_can : (w : WorldState) (orders : List NetOrder) (step next : ℕ) (o : NetOrder) → IsAmid w orders step next → if_in step (slice_get orders next) ≡ Some o
    → IsPossible w.ring (event_of o) × (fault_of w (event_of o) ≡ None)
amid_can w orders step next o h e =
    let p = if_in_some step (slice_get orders next) o e in
    let d = at_some orders next o p.0 in
    let each = subst (AreOrdersFrom w.ring h.steps step h.asks) d.0 h.possible in
    head w h.steps step h.asks o each.0 h.new

-- and then the place is that of the one behind it
pub fresh_behind : (w v : WorldState) (n step asks : ℕ) (o : NetOrder) → IsOrderIn w.ring n step asks o → StaysUnasked (event_of o) w v → OnlyBelow w asks → OnlyBelow v (asks + asks_of o)
fresh_behind w v n step asks (order.Ask at entry) h stays new u low =
    stays u (not_same entry.instance.0 u.0 (λ e. absurd (omega (arith, low, e, h.possible.0)))) (new u (omega (arith, low)))
fresh_behind w v n step asks (order.Stop at instance) h stays new u low = stays u refl (new u (omega (arith, low)))

skip : (o : NetOrder) (os : List NetOrder) (i j : ℕ) → is_in i o ≡ true → i + 1 ≤ j → ordered os j ≡ ordered (o ∷ os) j
skip o os i j is low =
    let at : step_of o ≡ i = eqb-true (step_of o) i is in
    let other : is_in j o ≡ false = not_same (step_of o) j (λ e. absurd (omega (arith, at, e, low))) in
    rw other refl

pub amid_next : (w v : WorldState) (orders : List NetOrder) (step next : ℕ) (o : NetOrder) → IsAmid w orders step next → if_in step (slice_get orders next) ≡ Some o
    → v.ring ≡ w.ring → StaysUnasked (event_of o) w v → IsAmid v orders step (next + 1)
amid_next w v orders step next o h e er stays =
    let p = if_in_some step (slice_get orders next) o e in
    let d = at_some orders next o p.0 in
    let each = subst (AreOrdersFrom w.ring h.steps step h.asks) d.0 h.possible in
    let at : step_of o ≡ step = eqb-true (step_of o) step p.1 in
    record {
      rest = λ j low. skip o (drop (next + 1) orders) step j p.1 low ∙ ap (λ (xs : List NetOrder). ordered xs j) (sym d.0) ∙ h.rest j low;
      steps = h.steps;
      asks = h.asks + asks_of o;
      possible = subst (λ (r : NetRing). AreOrdersFrom r h.steps step (h.asks + asks_of o) (drop (next + 1) orders)) (sym er)
          (subst (λ (s : ℕ). AreOrdersFrom w.ring h.steps s (h.asks + asks_of o) (drop (next + 1) orders)) at each.1);
      new = fresh_behind w v h.steps step h.asks o each.0 stays h.new;
    }

-- what is left to do of a step, with its next order done
pub did_next : (r q : Running) (orders : List NetOrder) (step next : ℕ) (o : NetOrder) → if_in step (slice_get orders next) ≡ Some o → q ≡ done r (event_of o)
    → happened q (ordered (drop (next + 1) orders) step) ≡ happened r (ordered (drop next orders) step)
did_next r q orders step next o e eq =
    let p = if_in_some step (slice_get orders next) o e in
    let d = at_some orders next o p.0 in
    let first : ordered (drop next orders) step ≡ event_of o ∷ ordered (drop (next + 1) orders) step = ap (λ (xs : List NetOrder). ordered xs step) (d.0) ∙ rw (p.1) refl in
    ap (λ (s : Running). happened s (ordered (drop (next + 1) orders) step)) eq ∙ sym (ap (happened r) first)

-- no order is left in a step
pub none_from : (r : NetRing) (n i asks : ℕ) (xs : List NetOrder) → AreOrdersFrom r n (i + 1) asks xs → ordered xs i ≡ []
none_from r n i asks [] h = refl
none_from r n i asks (o ∷ os) h =
    let other : is_in i o ≡ false = not_same (step_of o) i (λ e. absurd (omega (arith, e, h.0.late))) in
    rw other (none_from r n i (asks + asks_of o) os (later r n (step_of o) (i + 1) (asks + asks_of o) os (omega (arith, h.0.late)) h.1))
  where
    later : (r : NetRing) (n a b asks : ℕ) (xs : List NetOrder) → b ≤ a → AreOrdersFrom r n a asks xs → AreOrdersFrom r n b asks xs
    later r n a b asks [] le g = tt
    later r n a b asks (x ∷ xs) le g = (record { late = omega (arith, le, g.0.late); early = g.0.early; possible = g.0.possible }, g.1)

pub raised : (r : NetRing) (n i asks : ℕ) (orders : List NetOrder) (p : ℕ) → if_in i (slice_get orders p) ≡ None → AreOrdersFrom r n i asks (drop p orders) → AreOrdersFrom r n (i + 1) asks (drop p orders)
raised r n i asks orders p e h = cases (slice_get orders p) refl e
  where
    cases : (x : Option NetOrder) → slice_get orders p ≡ x → if_in i x ≡ None → AreOrdersFrom r n (i + 1) asks (drop p orders)
    cases None g f = subst (AreOrdersFrom r n (i + 1) asks) (sym (at_none orders p g)) tt
    cases (Some o) g f =
        let d = at_some orders p o g in
        let each = subst (AreOrdersFrom r n i asks) d.0 h in
        subst (AreOrdersFrom r n (i + 1) asks) (sym d.0) (record { late = above (is_in i o) refl f each.0.late; early = each.0.early; possible = each.0.possible }, each.1)
      where
        above : (b : Bool) → is_in i o ≡ b → cond b (Some o) None ≡ None → i ≤ step_of o → i + 1 ≤ step_of o
        above true t f low = absurd (cc)
        above false t f low = ⊎_elim (λ (same : i ≡ step_of o). absurd (clash (eq-eqb (step_of o) i (sym same)) t)) (λ (less : i < step_of o). omega (arith, less)) (eq-or-lt_of_le low)

pub did_all : (w : WorldState) (r : Running) (orders : List NetOrder) (step next : ℕ) → IsAmid w orders step next → if_in step (slice_get orders next) ≡ None → r ≡ happened r (ordered (drop next orders) step)
did_all w r orders step next h e =
    sym (ap (happened r) (none_from w.ring h.steps step h.asks (drop next orders) (raised w.ring h.steps step h.asks orders next e h.possible)))

pub amid_end : (w : WorldState) (orders : List NetOrder) (step next : ℕ) → IsAmid w orders step next → if_in step (slice_get orders next) ≡ None → IsAtStep w orders (step + 1) next
amid_end w orders step next h e = record { rest = h.rest; steps = h.steps; asks = h.asks; possible = raised w.ring h.steps step h.asks orders next e h.possible; new = h.new }

-- ---- the steps

pub at_first : (r : NetRing) (n : ℕ) (orders : List NetOrder) → AreOrders r n orders → IsAtStep (fresh_world r) orders 0 0
at_first r n orders h = record { rest = λ j low. refl; steps = n; asks = 0; possible = h.each; new = λ v low. none v (range_with_len 0 r.cubs) }
  where
    none : (v : Instance) (xs : List ℕ) → find (λ c. is_asked (cub_at (fresh_world r) c).own v) xs ≡ None
    none v [] = refl
    none v (x ∷ xs) = rw (idle x) (none v xs)
      where
        at : (ys : List ℕ) (k : ℕ) → (get_or (map (fresh_cub r) ys) k (fresh_cub r 0)).own ≡ []
        at [] k = refl
        at (y ∷ ys) zero = refl
        at (y ∷ ys) (suc k) = at ys k

        idle : (k : ℕ) → is_asked (cub_at (fresh_world r) k).own v ≡ false
        idle k = ap (λ (own : List Own). is_asked own v) (at (range_with_len 0 r.cubs) k)

pub at_later : (w v : WorldState) (orders : List NetOrder) (step first : ℕ) → IsAtStep w orders step first → v.ring ≡ w.ring → NoneIsAsked w v → IsAtStep v orders step first
at_later w v orders step first h er none = record {
  rest = h.rest;
  steps = h.steps;
  asks = h.asks;
  possible = subst (λ (r : NetRing). AreOrdersFrom r h.steps step h.asks (drop first orders)) (sym er) h.possible;
  new = λ u low. none u (h.new u low);
}

pub happened_ring : (r : Running) (es : List NetEvent) → (happened r es).scene.world.ring ≡ r.scene.world.ring
happened_ring r [] = refl
happened_ring r (e ∷ es) = happened_ring (done r e) es

pub renewed_by_ring : (left : ℕ) (r : Running) (c : ℕ) → (renewed_by left r c).scene.world.ring ≡ r.scene.world.ring
renewed_by_ring left r c = cases (has_enough left r || is_quiet (cub_at r.scene.world c))
  where
    cases : (b : Bool) → (cond b r (done r (event.Renew (record { 0 = c })))).scene.world.ring ≡ r.scene.world.ring
    cases true = refl
    cases false = refl

renewed_in_ring : (left : ℕ) (r : Running) (cs : List ℕ) → (fold (renewed_by left) r cs).scene.world.ring ≡ r.scene.world.ring
renewed_in_ring left r [] = refl
renewed_in_ring left r (c ∷ cs) = renewed_in_ring left (renewed_by left r c) cs ∙ renewed_by_ring left r c

pub shortly_renewed_ring : (p : NetSaid) (r : Running) (i : ℕ) → (shortly_renewed p r i).scene.world.ring ≡ r.scene.world.ring
shortly_renewed_ring p r i = cases (is_renewal p.renew i)
  where
    cases : (b : Bool) → (cond b (renewed_in (p.steps - i) r p.ring.cubs) r).scene.world.ring ≡ r.scene.world.ring
    cases true = renewed_in_ring (p.steps - i) r (range_with_len 0 p.ring.cubs)
    cases false = refl

pub delivered_ring : (r : Running) → (delivered r).scene.world.ring ≡ r.scene.world.ring
delivered_ring r = firsts r.out
  where
    fates : (s : Running) (n : ℕ) (d : Option ℕ) → s.scene.world.ring ≡ r.scene.world.ring → (fated s n d).scene.world.ring ≡ r.scene.world.ring
    fates s n None h = h
    fates s n (Some d) h = cases (d == 0) (d == 1)
      where
        cases : (a b : Bool) → (cond a s (cond b (came (record s { out = s.out ++ n ∷ [] }) n) (came s n))).scene.world.ring ≡ r.scene.world.ring
        cases true b = h
        cases false true = h
        cases false false = h

    firsts : (out : List ℕ) → (taking_first r out).scene.world.ring ≡ r.scene.world.ring
    firsts [] = refl
    firsts (n ∷ rest) = fates (record r { out = rest; draws = drawn r.draws }) n (draw_of r.draws) refl

pub shortly_stepped_ring : (p : NetSaid) (r : Running) (i : ℕ) → (shortly_stepped p r i).scene.world.ring ≡ r.scene.world.ring
shortly_stepped_ring p r i =
    delivered_ring (shortly_renewed p (happened r (ordered p.orders i)) i) ∙ shortly_renewed_ring p (happened r (ordered p.orders i)) i
    ∙ happened_ring r (ordered p.orders i)
