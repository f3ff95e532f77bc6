-- What holds of a ring of which nothing was asked, and stays by each event that may be given, holds along the run of a plan.
use Rattle.std.proofs.Common.{◌≡◌, ◌∙◌, ℕ, zero, suc, ◌+◌, ◌<◌, ◌≤◌, ◌==◌, Bool, true, false, cond, List, [], ◌∷◌, ◌++◌, length, map, nat_lt, None, Some, Option, refl, sym, subst, arith, eq-eqb, ⊎_elim, eq-or-lt_of_le}
use Rattle.std.specs.List.{fold, range_with_len, AllByRecursion}
use Rattle.std.proofs.lemmas.Bool.{eqb-true}
use Rattle.net_schedule.specs.declared.ring.NetRing.{NetRing}
use Rattle.net_schedule.specs.declared.world.NetEvent.{NetEvent}
use Rattle.net_schedule.specs.declared.world.NetEvent.TheVariants as event
use Rattle.net_schedule.specs.Worlds.{WorldState, fresh_world, after, fault_of, IsPossible}
use Rattle.net_schedule.specs.Links.{IsWorld}
use Rattle.net_schedule.specs.Rings.{quanta_in}
use Rattle.net_schedule.specs.Claims.{ring_sum, KeepsToCapacity}
use Rattle.net_schedule.proofs.Capacity.{capacity}
use Rattle.net_schedule.proofs.Places.{not_same}
use Rattle.net_read.specs.declared.plan.NetOrder.{NetOrder}
use Rattle.net_read.specs.Orders.{step_of, asks_of, AreOrdersFrom}
use Rattle.net_read.specs.Plans.{NetSaid, IsNetPlan}
use Rattle.net_run.specs.declared.peak.Peak.{Peak}
use Rattle.net_run.specs.Peaks.{higher, sums_of, peak_after}
use Rattle.net_run.specs.Runs.{Running, begun, done, came, fated, drawn, draw_of, taking_first, delivered, happened, renewed, renewals, is_renewal, event_of, is_in, ordered, stepped, run_to}
use Rattle.net_run.specs.Sent.{WereSent, OnlyBelow, StaysUnasked}
use Rattle.net_run.proofs.Packets.{sent_done, below_append}
use Rattle.net_run.proofs.Ranges.{there, run_first, run_more}
use Rattle.net_run.proofs.Steps.{head, fresh_behind, none_from, at_first}
use Rattle.net_run.proofs.Unasked.{unasked_stays}

-- ---- the peak

few_high : (most : ℕ) (p : Peak) (ps : List Peak) → p.sum ≤ most → AllByRecursion (λ q. q.sum ≤ most) ps → (fold higher p ps).sum ≤ most
few_high most p [] low all = low
few_high most p (q ∷ qs) low all = few_high most (higher p q) qs (one (nat_lt p.sum q.sum)) all.1
  where
    one : (b : Bool) → (cond b q p).sum ≤ most
    one true = all.0
    one false = low

few_sums : (w : WorldState) (most a n : ℕ) → ((k : ℕ) → k < a + n → ring_sum w k ≤ most)
    → AllByRecursion (λ (q : Peak). q.sum ≤ most) (map (λ k. record { sum = ring_sum w k; quantum = k }) (range_with_len a n))
few_sums w most a zero low = tt
few_sums w most a (suc n) low = (low a (omega arith), few_sums w most (a + 1) n (λ k less. low k (omega (arith, less))))

few_after : (p : Peak) (w : WorldState) → KeepsToCapacity w → p.sum ≤ w.ring.capacity → (peak_after p w).sum ≤ w.ring.capacity
few_after p w keeps low = few_high w.ring.capacity p (sums_of w) low (few_sums w w.ring.capacity 0 (quanta_in w.ring) (λ k less. keeps k (omega (arith, less))))

-- ---- a run

-- a run of a ring of which something holds, between two events: only instances below a number were asked for, what is
-- under way was sent, and the peak is no more than the capacity
pub record IsGood (ring : NetRing) (Q : WorldState → Type 0) (asks : ℕ) (r : Running) : Type 0 where
  pub same : r.scene.world.ring ≡ ring
  pub holds : Q r.scene.world
  pub sent : WereSent r.scene.world r.out
  pub few : r.scene.peak.sum ≤ r.scene.world.ring.capacity
  pub new : OnlyBelow r.scene.world asks

-- so it is before a step, from which on these orders are left
pub record IsGoodAt (p : NetSaid) (Q : WorldState → Type 0) (step : ℕ) (r : Running) : Type 0 where
  pub steps : ℕ
  pub asks : ℕ
  pub good : IsGood p.ring Q asks r
  pub left : List NetOrder
  pub possible : AreOrdersFrom p.ring steps step asks left
  pub rest : (j : ℕ) → step ≤ j → ordered left j ≡ ordered p.orders j

module _ (p : NetSaid) (Q : WorldState → Type 0) (world : (w : WorldState) → Q w → IsWorld w)
    (next : (w : WorldState) (e : NetEvent) → Q w → IsPossible w.ring e → fault_of w e ≡ None → Q (after w e)) where
  -- ---- an event

  good_next : (asks more : ℕ) (r : Running) (e : NetEvent) → IsGood p.ring Q asks r → IsPossible r.scene.world.ring e → fault_of r.scene.world e ≡ None
      → (StaysUnasked e r.scene.world (after r.scene.world e) → OnlyBelow (after r.scene.world e) more) → IsGood p.ring Q more (done r e)
  good_next asks more r e h can none new = record {
    same = h.same;
    holds = next r.scene.world e h.holds can none;
    sent = sent_done r e h.sent;
    few = h.few;
    new = new (unasked_stays r.scene.world e (world r.scene.world h.holds) can none);
  }

  -- ---- what is ordered in a step

  order_next : (n step asks : ℕ) (r : Running) (o : NetOrder) (os : List NetOrder) → IsGood p.ring Q asks r → AreOrdersFrom p.ring n step asks (o ∷ os)
      → IsGood p.ring Q (asks + asks_of o) (done r (event_of o))
  order_next n step asks r o os h each =
      let mine = subst (λ (ring : NetRing). AreOrdersFrom ring n step asks (o ∷ os)) (sym h.same) each in
      let can = head r.scene.world n step asks o mine.0 h.new in
      good_next asks (asks + asks_of o) r (event_of o) h can.0 can.1
      (λ stays. fresh_behind r.scene.world (after r.scene.world (event_of o)) n step asks o mine.0 stays h.new)

  orders_good : (n step asks : ℕ) (os : List NetOrder) (r : Running) → IsGood p.ring Q asks r → AreOrdersFrom p.ring n step asks os
      → ((j : ℕ) → step + 1 ≤ j → ordered os j ≡ ordered p.orders j) → IsGoodAt p Q (step + 1) (happened r (ordered os step))
  orders_good n step asks [] r h each rest = record { steps = n; asks = asks; good = h; left = []; possible = tt; rest = rest }
  orders_good n step asks (o ∷ os) r h each rest =
      cases (is_in step o) refl (λ good possible same. orders_good n step (asks + asks_of o) os (done r (event_of o)) good possible same)
    where
      cases : (b : Bool) → is_in step o ≡ b
          → (IsGood p.ring Q (asks + asks_of o) (done r (event_of o)) → AreOrdersFrom p.ring n step (asks + asks_of o) os
          → ((j : ℕ) → step + 1 ≤ j → ordered os j ≡ ordered p.orders j) → IsGoodAt p Q (step + 1) (happened (done r (event_of o)) (ordered os step)))
          → IsGoodAt p Q (step + 1) (happened r (ordered (o ∷ os) step))
      cases true is again =
          let at : step_of o ≡ step = eqb-true (step_of o) step is in
          let first : ordered (o ∷ os) step ≡ event_of o ∷ ordered os step = rw is refl in
          let skip : (j : ℕ) → step + 1 ≤ j → ordered os j ≡ ordered (o ∷ os) j = λ j low.
          let other : is_in j o ≡ false = not_same (step_of o) j (λ e. absurd (omega (arith, at, e, low))) in
          rw other refl in
          subst (λ (es : List NetEvent). IsGoodAt p Q (step + 1) (happened r es)) (sym first)
          (again (order_next n step asks r o os h each) (subst (λ (s : ℕ). AreOrdersFrom p.ring n s (asks + asks_of o) os) at each.1)
          (λ j low. skip j low ∙ rest j low))
      cases false is again =
          let late : step + 1 ≤ step_of o =
          ⊎_elim (λ (same : step ≡ step_of o). absurd (clash (eq-eqb (step_of o) step (sym same)) is))
          (λ (less : step < step_of o). omega (arith, less)) (eq-or-lt_of_le each.0.late) in
          let later : AreOrdersFrom p.ring n (step + 1) asks (o ∷ os) = (record { late = late; early = each.0.early; possible = each.0.possible }, each.1) in
          let none : ordered (o ∷ os) step ≡ [] = none_from p.ring n step asks (o ∷ os) later in
          subst (λ (es : List NetEvent). IsGoodAt p Q (step + 1) (happened r es)) (sym none)
          (record { steps = n; asks = asks; good = h; left = o ∷ os; possible = later; rest = rest })
        where
          clash : is_in step o ≡ true → is_in step o ≡ false → ⊥
          clash t f = absurd (cc)

  -- ---- what is sent again, and delivered

  renew_good : (asks : ℕ) (cs : List ℕ) (r : Running) → IsGood p.ring Q asks r → AllByRecursion (λ c. c < p.ring.cubs) cs
      → IsGood p.ring Q asks (happened r (map (λ c. event.Renew (record { 0 = c })) cs))
  renew_good asks [] r h low = h
  renew_good asks (c ∷ cs) r h low =
      let can = subst (λ (ring : NetRing). c < ring.cubs) (sym h.same) low.0 in
      renew_good asks cs (done r (event.Renew (record { 0 = c })))
      (good_next asks asks r (event.Renew (record { 0 = c })) h can refl (λ stays v below. stays v refl (h.new v below))) low.1

  low_range : (a n m : ℕ) → a + n ≤ m → AllByRecursion (λ c. c < m) (range_with_len a n)
  low_range a zero m le = tt
  low_range a (suc n) m le = (omega (arith, le), low_range (a + 1) n m (omega (arith, le)))

  renewed_good : (asks : ℕ) (r : Running) (i : ℕ) → IsGood p.ring Q asks r → IsGood p.ring Q asks (renewed p r i)
  renewed_good asks r i h = cases (is_renewal p.renew i)
    where
      cases : (b : Bool) → IsGood p.ring Q asks (cond b (happened r (renewals p.ring.cubs)) r)
      cases true = renew_good asks (range_with_len 0 p.ring.cubs) r h (low_range 0 p.ring.cubs p.ring.cubs (omega arith))
      cases false = h

  came_good : (asks : ℕ) (r : Running) (n : ℕ) → IsGood p.ring Q asks r → n < length r.scene.world.sent → IsGood p.ring Q asks (came r n)
  came_good asks r n h low =
      good_next asks asks r (event.Deliver n) h tt (rw (there r.scene.world.sent n low) refl) (λ stays v below. stays v refl (h.new v below))

  fated_good : (asks : ℕ) (r : Running) (n : ℕ) (d : Option ℕ) → IsGood p.ring Q asks r → n < length r.scene.world.sent → IsGood p.ring Q asks (fated r n d)
  fated_good asks r n None h low = came_good asks r n h low
  fated_good asks r n (Some d) h low = cases (d == 0) (d == 1)
    where
      again : IsGood p.ring Q asks (record r { out = r.out ++ n ∷ [] })
      again = record { same = h.same; holds = h.holds; sent = below_append (length r.scene.world.sent) r.out (n ∷ []) h.sent (low, tt); few = h.few; new = h.new }

      cases : (a b : Bool) → IsGood p.ring Q asks (cond a r (cond b (came (record r { out = r.out ++ n ∷ [] }) n) (came r n)))
      cases true b = h
      cases false true = came_good asks (record r { out = r.out ++ n ∷ [] }) n again low
      cases false false = came_good asks r n h low

  delivered_good : (asks : ℕ) (r : Running) → IsGood p.ring Q asks r → IsGood p.ring Q asks (delivered r)
  delivered_good asks r h = cases r.out h.sent
    where
      cases : (out : List ℕ) → WereSent r.scene.world out → IsGood p.ring Q asks (taking_first r out)
      cases [] low = h
      cases (n ∷ rest) low =
          fated_good asks (record r { out = rest; draws = drawn r.draws }) n (draw_of r.draws)
          (record { same = h.same; holds = h.holds; sent = low.1; few = h.few; new = h.new }) low.0

  -- ---- the steps

  step_good : (i : ℕ) (r : Running) → IsGoodAt p Q i r → IsGoodAt p Q (i + 1) (stepped p r i)
  step_good i r at =
      let bound : i ≤ i = omega arith in
      let did = orders_good at.steps i at.asks at.left r at.good at.possible (λ j low. at.rest j (omega (arith, low))) in
      let all = subst (λ (es : List NetEvent). IsGoodAt p Q (i + 1) (happened r es)) (at.rest i bound) did in
      let sent = renewed_good all.asks (happened r (ordered p.orders i)) i all.good in
      let end = delivered_good all.asks (renewed p (happened r (ordered p.orders i)) i) sent in
      let ring = (delivered (renewed p (happened r (ordered p.orders i)) i)).scene in
      record {
        steps = all.steps;
        asks = all.asks;
        good = record {
          same = end.same;
          holds = end.holds;
          sent = end.sent;
          few = few_after ring.peak ring.world (capacity ring.world (world ring.world end.holds)) end.few;
          new = end.new;
        };
        left = all.left;
        possible = all.possible;
        rest = all.rest;
      }

  first_good : IsNetPlan p → Q (fresh_world p.ring) → IsGoodAt p Q 0 (begun p)
  first_good plan holds =
      let at = at_first p.ring p.steps p.orders plan.orders in
      record {
        steps = at.steps;
        asks = at.asks;
        good = record { same = refl; holds = holds; sent = tt; few = omega arith; new = at.new };
        left = p.orders;
        possible = at.possible;
        rest = at.rest;
      }

  run_good : (n : ℕ) → IsNetPlan p → Q (fresh_world p.ring) → IsGoodAt p Q n (run_to p n)
  run_good zero plan holds = subst (IsGoodAt p Q 0) (run_first p (begun p) refl) (first_good plan holds)
  run_good (suc n) plan holds =
      let more : n + 1 ≡ suc n = omega arith in
      subst (λ (m : ℕ). IsGoodAt p Q m (run_to p m)) more
      (subst (IsGoodAt p Q (n + 1)) (run_more p (run_to p n) n refl) (step_good n (run_to p n) (run_good n plan holds)))

  -- it holds after n steps, and the peak is no more than the capacity
  pub few_after_steps : (n : ℕ) → IsNetPlan p → Q (fresh_world p.ring) → (run_to p n).scene.peak.sum ≤ p.ring.capacity
  few_after_steps n plan holds =
      let at = run_good n plan holds in
      subst (λ (ring : NetRing). (run_to p n).scene.peak.sum ≤ ring.capacity) at.good.same at.good.few

  pub ring_stays : (n : ℕ) → IsNetPlan p → Q (fresh_world p.ring) → (run_to p n).scene.world.ring ≡ p.ring
  ring_stays n plan holds = (run_good n plan holds).good.same

  pub holds_after : (n : ℕ) → IsNetPlan p → Q (fresh_world p.ring) → Q (run_to p n).scene.world
  holds_after n plan holds = (run_good n plan holds).good.holds
