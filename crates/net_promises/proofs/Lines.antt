-- The lines of a plan's run, and what is true of them.
use Rattle.std.proofs.Common.{◌≡◌, ℕ, ◌+◌, ◌/◌, ◌<◌, ◌≤◌, List, [], ◌∷◌, ◌++◌, map, take, None, refl, sym, ap, subst, arith, append_assoc}
use Rattle.std.specs.Prelude.{codes}
use Rattle.std.specs.Fmt.{decimal}
use Rattle.std.specs.List.{fold, flat_map}
use Rattle.net_schedule.specs.declared.ring.Entry.{Entry}
use Rattle.net_schedule.specs.declared.ring.NetRing.{NetRing}
use Rattle.net_schedule.specs.declared.ring.Own.{Own}
use Rattle.net_schedule.specs.declared.world.NetEvent.{NetEvent}
use Rattle.net_schedule.specs.Rings.{quanta_in}
use Rattle.net_schedule.specs.Worlds.{WorldState, fresh_world, after, fault_of, IsPossible}
use Rattle.net_schedule.specs.Links.{IsWorld}
use Rattle.net_schedule.specs.Settled.{Traffic, passed, history}
use Rattle.net_schedule.specs.Claims.{ring_sum, KeepsToCapacity}
use Rattle.net_schedule.proofs.Capacity.{capacity}
use Rattle.net_schedule.proofs.Worldly.{fresh_is_world}
use Rattle.net_read.specs.declared.plan.NetOrder.{NetOrder}
use Rattle.net_read.specs.declared.plan.NetOrder.TheVariants as order
use Rattle.net_read.specs.Orders.{AreOrdersFrom}
use Rattle.net_read.specs.Plans.{NetSaid, IsNetPlan}
use Rattle.net_run.specs.Peaks.{AlwaysKeeps}
use Rattle.net_run.specs.Runs.{entry_of, standing_of, standings}
use Rattle.net_run.specs.Text.{state_text, entry_line, peak_line, lines_of}
use Rattle.net_run.proofs.Scenes.{always_first, always_next}
use Rattle.net_run.proofs.Turned.{world_next}
use Rattle.net_promises.specs.Promises.{AreNumberedFrom, IsPrintedOf, NeverExceeds, asked_in, line_for, peak_in, ring_after, ring_at_end}
use Rattle.net_promises.proofs.Kept.{holds_after, ring_stays, few_after_steps}

-- ---- the lines

entries_stay : (w : WorldState) (es : List Entry) → map (λ (o : Own). o.entry) (map (standing_of w) es) ≡ es
entries_stay w [] = refl
entries_stay w (e ∷ es) = ap (λ (xs : List Entry). e ∷ xs) (entries_stay w es)

numbered : (r : NetRing) (n step asks : ℕ) (os : List NetOrder) → AreOrdersFrom r n step asks os → AreNumberedFrom asks (flat_map entry_of os)
numbered r n step asks [] each = tt
numbered r n step asks (order.Ask at entry ∷ os) each = (each.0.possible.0, numbered r n at (asks + 1) os each.1)
numbered r n step asks (order.Stop at instance ∷ os) each =
    let same : asks + 0 ≡ asks = omega arith in
    subst (λ (k : ℕ). AreNumberedFrom k (flat_map entry_of os)) same (numbered r n at (asks + 0) os each.1)

flat : (a b c d e f g h s t : List ℕ)
    → (a ++ b) ++ (c ++ d) ++ (e ++ f) ++ (g ++ h) ++ s ++ t ≡ a ++ b ++ c ++ d ++ e ++ f ++ g ++ h ++ s ++ t
flat a b c d e f g h s t = simp append_assoc

line_is : (r : NetRing) (o : Own) → entry_line r o ≡ line_for r o
unfolding entry_line
line_is r o =
    flat (codes "entry ") (decimal o.entry.instance.0) (codes " cub ") (decimal (o.entry.at / r.quanta)) (codes " at ") (decimal o.entry.at)
    (codes " rate ") (decimal o.entry.rate) (state_text o.state) (codes "\n")

lines_are : (r : NetRing) (os : List Own) → flat_map (entry_line r) os ≡ flat_map (line_for r) os
lines_are r [] = refl
lines_are r (o ∷ os) = rw (line_is r o, lines_are r os) refl

pub printed : (p : NetSaid) → IsNetPlan p → IsPrintedOf p (standings p.orders (ring_at_end p))
unfolding lines_of
printed p plan = record {
  asks = entries_stay (ring_at_end p) (asked_in p);
  numbers = numbered p.ring p.steps 0 0 p.orders plan.orders.each;
  lines = ap (λ (xs : List ℕ). xs ++ peak_line (peak_in p)) (lines_are p.ring (standings p.orders (ring_at_end p)));
}

-- ---- the capacity

abbrev Keeps : WorldState → Type 0
Keeps w = IsWorld w × AlwaysKeeps w

keeps_next : (w : WorldState) (e : NetEvent) → Keeps w → IsPossible w.ring e → fault_of w e ≡ None → Keeps (after w e)
keeps_next w e h can none =
    let is = world_next w e h.0 can none in
    (is, always_next w e is.made (capacity (after w e) is) h.1)

keeps : (p : NetSaid) → IsNetPlan p → Keeps (ring_at_end p)
keeps p plan =
    let is = fresh_is_world p.ring plan.ring in
    holds_after p Keeps (λ w h. h.0) keeps_next p.steps plan (is, always_first p.ring is.made (capacity (fresh_world p.ring) is))

ring_kept : (es : List NetEvent) (t : Traffic) → (fold passed t es).world.ring ≡ t.world.ring
ring_kept [] t = refl
ring_kept (e ∷ es) t = ring_kept es (passed t e)

history_ring : (r : NetRing) (es : List NetEvent) → (history r es).world.ring ≡ r
unfolding history
history_ring r es = ring_kept es (record { world = fresh_world r; out = [] })

pub never_exceeds : (p : NetSaid) → IsNetPlan p → NeverExceeds p
never_exceeds p plan n k low =
    let is = fresh_is_world p.ring plan.ring in
    let same = ring_stays p Keeps (λ w h. h.0) keeps_next p.steps plan (is, always_first p.ring is.made (capacity (fresh_world p.ring) is)) in
    let at : KeepsToCapacity (history p.ring (take n (ring_at_end p).events)).world =
    subst (λ (r : NetRing). KeepsToCapacity (history r (take n (ring_at_end p).events)).world) same ((keeps p plan).1 n) in
    let ring : (history p.ring (take n (ring_at_end p).events)).world.ring ≡ p.ring = history_ring p.ring (take n (ring_at_end p).events) in
    subst (λ (r : NetRing). ring_sum (ring_after p n) k ≤ r.capacity) ring (at k (subst (λ (r : NetRing). k < quanta_in r) (sym ring) low))

pub few_peak : (p : NetSaid) → IsNetPlan p → (peak_in p).sum ≤ p.ring.capacity
few_peak p plan =
    let is = fresh_is_world p.ring plan.ring in
    few_after_steps p Keeps (λ w h. h.0) keeps_next p.steps plan (is, always_first p.ring is.made (capacity (fresh_world p.ring) is))
