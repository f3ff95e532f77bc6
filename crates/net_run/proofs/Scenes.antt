-- What always holds of a ring that is looked at.
use Rattle.std.proofs.Common.{◌≡◌, ◌∙◌, ℕ, zero, suc, ◌+◌, ◌<◌, ◌≤◌, ◌||◌, Bool, true, false, cond, List, [], ◌∷◌, ◌++◌, length, get_or, map, take, replicate, Some, None, Option, inl, inr, refl, sym, ap, subst, arith, ⊎_elim}
use Rattle.std.specs.Prelude.{sum_by, find, IfSome, ◌⊎◌}
use Rattle.std.specs.List.{range_with_len, flat_map, fold, AllByRecursion}
use Rattle.net_schedule.specs.declared.ring.NetRing.{NetRing}
use Rattle.net_schedule.specs.declared.ring.Entry.{Entry}
use Rattle.net_schedule.specs.declared.ring.Own.{Own}
use Rattle.net_schedule.specs.declared.world.NetEvent.{NetEvent}
use Rattle.net_schedule.specs.Rings.{IsRing, quanta_in, most_quanta, most_capacity}
use Rattle.net_schedule.specs.Cubs.{CubState, fresh_cub, is_of, is_placed, IsOwnOf}
use Rattle.net_schedule.specs.Worlds.{WorldState, fresh_world, cub_at, after, fault_of, IsPossible}
use Rattle.net_schedule.specs.Links.{IsWorld}
use Rattle.net_schedule.specs.Settled.{history, IsMadeByEvents}
use Rattle.net_schedule.specs.Claims.{placed_rate, ring_sum, KeepsToCapacity}
use Rattle.net_schedule.proofs.Sound.{own_low}
use Rattle.net_run.specs.declared.peak.Peak.{Peak}
use Rattle.net_run.specs.declared.place.Place.{Place}
use Rattle.net_run.specs.Peaks.{no_peak, higher, if_placed, placed_at, place_of, rises, IsFew, IsUnder, IsChanged, IsScene, AlwaysKeeps}
use Rattle.net_run.proofs.Sums.{Changes, event_changes}
use Rattle.net_run.proofs.Loads.{peaks_in, row_low, row_next, stays_same, under_next, peak_over, peak_low}
use Rattle.net_schedule.proofs.Capacity.{capacity}
use Rattle.std.proofs.lemmas.Nat.{mul-le}

-- ---- a ring of which nothing was asked

no_own : (r : NetRing) (xs : List ℕ) → flat_map (λ (s : CubState). s.own) (map (fresh_cub r) xs) ≡ []
no_own r [] = refl
no_own r (x ∷ xs) = no_own r xs

no_sum : (r : NetRing) (k : ℕ) → ring_sum (fresh_world r) k ≡ 0
no_sum r k = ap (λ (own : List Own). sum_by (placed_rate r k) own) (no_own r (range_with_len 0 r.cubs))

abbrev pub zeros : ℕ → List ℕ
zeros n = replicate n 0

length-zeros : (n : ℕ) → length (zeros n) ≡ n
length-zeros zero = refl
length-zeros (suc n) = ap suc (length-zeros n)

at-zeros : (n k : ℕ) → get_or (zeros n) k 0 ≡ 0
at-zeros zero k = refl
at-zeros (suc n) zero = refl
at-zeros (suc n) (suc k) = at-zeros n k

abbrev no_events : List NetEvent
no_events = []

take-nil : (n : ℕ) → take n no_events ≡ no_events
take-nil zero = refl
take-nil (suc n) = refl

pub always_first : (r : NetRing) → IsMadeByEvents (fresh_world r) → KeepsToCapacity (fresh_world r) → AlwaysKeeps (fresh_world r)
always_first r made keeps n = subst KeepsToCapacity (sym (ap (λ (es : List NetEvent). (history r es).world) (take-nil n) ∙ made)) keeps

pub scene_first : (r : NetRing) (w : WorldState) (row : List ℕ) → w ≡ fresh_world r → row ≡ zeros (quanta_in r) → IsWorld w
    → IsScene r w no_peak row false
scene_first r w row ew er is = rw (ew, er) (record {
  ring = refl;
  world = subst IsWorld ew is;
  carried = record { len = length-zeros (quanta_in r); is = λ k low. at-zeros (quanta_in r) k ∙ sym (no_sum r k) };
  seen = λ e k low. omega (arith, at-zeros (quanta_in r) k);
  few = omega arith;
})

-- ---- a further event

take_front : (xs ys : List NetEvent) (n : ℕ) → n ≤ length xs → take n (xs ++ ys) ≡ take n xs
take_front xs ys zero low = refl
take_front [] ys (suc n) low = absurd (omega (arith, low))
take_front (x ∷ xs) ys (suc n) low = ap (λ (zs : List NetEvent). x ∷ zs) (take_front xs ys n (omega (arith, low)))

take_whole : (xs : List NetEvent) (n : ℕ) → length xs ≤ n → take n xs ≡ xs
take_whole [] zero low = refl
take_whole [] (suc n) low = refl
take_whole (x ∷ xs) zero low = absurd (omega (arith, low))
take_whole (x ∷ xs) (suc n) low = ap (λ (zs : List NetEvent). x ∷ zs) (take_whole xs n (omega (arith, low)))

count_more : (xs : List NetEvent) (e : NetEvent) → length (xs ++ e ∷ []) ≡ length xs + 1
count_more [] e = refl
count_more (x ∷ xs) e = omega (arith, count_more xs e)

pub always_next : (w : WorldState) (e : NetEvent) → IsMadeByEvents (after w e) → KeepsToCapacity (after w e) → AlwaysKeeps w → AlwaysKeeps (after w e)
always_next w e made keeps before n = ⊎_elim early late (two n (length w.events))
  where
    two : (a b : ℕ) → (a ≤ b) ⊎ (b < a)
    two zero b = inl (omega arith)
    two (suc a) zero = inr (omega arith)
    two (suc a) (suc b) = ⊎_elim (λ (l : a ≤ b). inl (omega (arith, l))) (λ (l : b < a). inr (omega (arith, l))) (two a b)

    early : n ≤ length w.events → KeepsToCapacity (history w.ring (take n (w.events ++ e ∷ []))).world
    early low = subst (λ (es : List NetEvent). KeepsToCapacity (history w.ring es).world) (sym (take_front w.events (e ∷ []) n low)) (before n)

    late : length w.events < n → KeepsToCapacity (history w.ring (take n (w.events ++ e ∷ []))).world
    late high = subst KeepsToCapacity (sym (ap (λ (es : List NetEvent). (history w.ring es).world) (take_whole (w.events ++ e ∷ []) n (omega (arith, high, count_more w.events e))) ∙ made)) keeps

-- ---- an entry that is placed

all_of_found : (P : Own → Type 0) (p : Own → Bool) (xs : List Own) (o : Own) → AllByRecursion P xs → find p xs ≡ Some o → P o
all_of_found P p [] o h e = absurd (cc)
all_of_found P p (x ∷ xs) o h e = cases (p x) e (λ g. all_of_found P p xs o h.1 g)
  where
    cases : (b : Bool) → cond b (Some x) (find p xs) ≡ Some o → (find p xs ≡ Some o → P o) → P o
    cases true g ih = subst P (cc) h.0
    cases false g ih = ih g

pub placed_few : (w : WorldState) (p : Option Place) → IsWorld w → IfSome p (λ q. q.cub < w.ring.cubs) → IfSome (placed_at w p) IsFew
placed_few w None h low = tt
placed_few w (Some p) h low = cases (find (is_of p.instance) (cub_at w p.cub).own) refl
  where
    cases : (f : Option Own) → find (is_of p.instance) (cub_at w p.cub).own ≡ f → IfSome (if_placed f) IsFew
    cases None f = tt
    cases (Some o) f = tested (is_placed o.state)
      where
        seat : IsOwnOf (cub_at w p.cub).ring (cub_at w p.cub).no o
        seat = all_of_found (IsOwnOf (cub_at w p.cub).ring (cub_at w p.cub).no) (is_of p.instance) (cub_at w p.cub).own o (h.seated p.cub low).sound.own f

        few : IsFew o.entry
        few =
            let capacity : (cub_at w p.cub).ring.capacity ≤ most_capacity = (h.seated p.cub low).sound.ring.few in
            record {
              at = own_low (cub_at w p.cub) o.entry (h.seated p.cub low).sound seat.entry;
              rate = omega (arith, seat.entry.few, capacity);
            }

        tested : (b : Bool) → IfSome (cond b (Some o.entry) None) IsFew
        tested true = few
        tested false = tt

-- ---- the ring, once an event was done and once it was looked at

pub few_quanta_in : (r : NetRing) → IsRing r → quanta_in r ≤ most_quanta
few_quanta_in r ring = mul-le r.cubs r.quanta 64 1000 ring.few_cubs ring.few_quanta

pub row_few : (r : NetRing) (w : WorldState) (p : Peak) (row : List ℕ) (risen : Bool) → IsScene r w p row risen → length row ≤ most_quanta
row_few r w p row risen h = omega (arith, h.carried.len, few_quanta_in w.ring h.world.ring)

pub row_under : (r : NetRing) (w : WorldState) (p : Peak) (row : List ℕ) (risen : Bool) → IsScene r w p row risen → IsUnder row most_capacity
row_under r w p row risen h k low =
    omega (arith, row_low w row h.carried (capacity w h.world) k low, h.world.ring.few)

-- what an event changed, as it was seen before and behind it
pub changes_are : (w v : WorldState) (e : NetEvent) (p : Option Place) (was now : Option Entry) → IsWorld w → IsPossible w.ring e → fault_of w e ≡ None
    → v ≡ after w e → p ≡ place_of w e → was ≡ placed_at w p → now ≡ placed_at v p → Changes w v was now
changes_are w v e p was now h can none ev ep ew en = rw (en, ew, ep, ev) (event_changes w e h can none)

pub scene_next : (r : NetRing) (w v : WorldState) (e : NetEvent) (p : Peak) (row new : List ℕ) (risen then_risen : Bool) (was now : Option Entry) → IsScene r w p row risen → IsWorld v
    → v ≡ after w e → Changes w v was now → IsChanged r row new was now → then_risen ≡ (risen || rises was now) → IsScene r v p new then_risen
scene_next r w v e p row new risen then_risen was now h is ev c d er = record {
  ring = h.ring ∙ sym (ap (λ (y : WorldState). y.ring) ev);
  world = is;
  carried = row_next w v was now row new (ap (λ (y : WorldState). y.ring) ev) h.carried c (subst (λ (q : NetRing). IsChanged q row new was now) h.ring d);
  seen = λ idle. under risen (rises was now) refl refl (sym er ∙ idle);
  few = subst (λ (q : NetRing). p.sum ≤ q.capacity) (sym (ap (λ (y : WorldState). y.ring) ev)) h.few;
}
  where
    under : (a b : Bool) → risen ≡ a → rises was now ≡ b → (a || b) ≡ false → IsUnder new p.sum
    under true b ea eb g = absurd (cc)
    under false true ea eb g = absurd (cc)
    under false false ea eb g = under_next r was now row new p.sum eb (stays_same w v was now c) d (h.seen ea)

pub scene_looked : (r : NetRing) (w : WorldState) (p q : Peak) (row : List ℕ) (risen : Bool) → IsScene r w p row risen → q ≡ fold higher p (peaks_in row 0 (length row)) → IsScene r w q row false
scene_looked r w p q row risen h eq = rw eq (record {
  ring = h.ring;
  world = h.world;
  carried = h.carried;
  seen = λ idle. peak_over p row;
  few = peak_low p row w.ring.capacity h.few (row_low w row h.carried (capacity w h.world));
})
