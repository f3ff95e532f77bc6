-- The row of sums, and the peak.
use Rattle.std.proofs.Common.{◌≡◌, ◌∙◌, ℕ, zero, suc, ◌+◌, ◌-◌, ◌<◌, ◌≤◌, Bool, true, false, cond, List, ◌∷◌, length, get_or, map, nat_lt, Some, None, Option, refl, sym, ap, subst, arith, ⊎_elim, eq-or-lt_of_le}
use Rattle.std.specs.List.{fold, range_with_len}
use Rattle.std.proofs.lemmas.Bool.{ltb-true, ltb-false}
use Rattle.net_schedule.specs.declared.ring.NetRing.{NetRing}
use Rattle.net_schedule.specs.declared.ring.Entry.{Entry}
use Rattle.net_schedule.specs.Rings.{quanta_in}
use Rattle.net_schedule.specs.Cubs.{kept_rate}
use Rattle.net_schedule.specs.Worlds.{WorldState}
use Rattle.net_schedule.specs.Claims.{ring_sum, KeepsToCapacity}
use Rattle.net_run.specs.declared.peak.Peak.{Peak}
use Rattle.net_run.specs.Peaks.{higher, peak_after, rises, IsRow, IsUnder, IsMoreIn, IsChanged, HasEnded, StaysSame}
use Rattle.net_run.proofs.Sums.{Changes}

-- ---- the row

pub changed_up : (r : NetRing) (e : Entry) (old new : List ℕ) → IsMoreIn r e old new → IsChanged r old new None (Some e)
changed_up r e old new h = record { len = h.len; sums = λ k low. omega (arith, h.more k low) }

pub changed_down : (r : NetRing) (e : Entry) (old new : List ℕ) → IsMoreIn r e new old → IsChanged r old new (Some e) None
changed_down r e old new h = record { len = sym h.len; sums = λ k low. omega (arith, h.more k (omega (arith, low, h.len))) }

pub changed_not : (r : NetRing) (a b : Entry) (row : List ℕ) → a ≡ b → IsChanged r row row (Some a) (Some b)
changed_not r a b row same = record { len = refl; sums = λ k low. ap (λ (e : Entry). get_or row k 0 + kept_rate r k e) same }

pub changed_none : (r : NetRing) (row : List ℕ) → IsChanged r row row None None
changed_none r row = record { len = refl; sums = λ k low. refl }

-- the row of a ring that changed
pub row_next : (w v : WorldState) (was now : Option Entry) (row new : List ℕ) → v.ring ≡ w.ring → IsRow w row → Changes w v was now → IsChanged w.ring row new was now → IsRow v new
row_next w v was now row new er h c d = record {
  len = d.len ∙ h.len ∙ ap quanta_in (sym er);
  is = λ k low.
      let less : k < quanta_in w.ring = subst (λ (r : NetRing). k < quanta_in r) er low in
      omega (arith, d.sums k (omega (arith, less, h.len)), h.is k less, c.sums k);
}

-- what a row must have for that
pub has_ended : (w v : WorldState) (was now : Option Entry) (row : List ℕ) → IsRow w row → Changes w v was now → HasEnded w.ring row was now
has_ended w v None now row h c = tt
has_ended w v (Some e) None row h c = λ k low. omega (arith, h.is k (omega (arith, low, h.len)), c.sums k)
has_ended w v (Some e) (Some f) row h c = tt

pub stays_same : (w v : WorldState) (was now : Option Entry) → Changes w v was now → StaysSame was now
stays_same w v None now c = tt
stays_same w v (Some a) None c = tt
stays_same w v (Some a) (Some b) c = c.same a b refl refl

-- if nothing was placed, what a row was under it is under still
pub under_next : (r : NetRing) (was now : Option Entry) (row new : List ℕ) (most : ℕ) → rises was now ≡ false → StaysSame was now → IsChanged r row new was now → IsUnder row most → IsUnder new most
under_next r None None row new most idle same d h k low = omega (arith, d.sums k (omega (arith, low, d.len)), h k (omega (arith, low, d.len)))
under_next r None (Some e) row new most idle same d h k low = absurd (cc)
under_next r (Some e) None row new most idle same d h k low = omega (arith, d.sums k (omega (arith, low, d.len)), h k (omega (arith, low, d.len)))
under_next r (Some a) (Some b) row new most idle same d h k low =
    let as_much : kept_rate r k a ≡ kept_rate r k b = ap (kept_rate r k) same in
    omega (arith, d.sums k (omega (arith, low, d.len)), h k (omega (arith, low, d.len)), as_much)

-- a row is under the capacity
pub row_low : (w : WorldState) (row : List ℕ) → IsRow w row → KeepsToCapacity w → IsUnder row w.ring.capacity
row_low w row h keeps k low =
    let less : k < quanta_in w.ring = omega (arith, low, h.len) in
    omega (arith, h.is k less, keeps k less)

-- ---- the peak

-- what a row has, as sums
abbrev pub peaks_in : List ℕ → ℕ → ℕ → List Peak
peaks_in row a n = map (λ k. record { sum = get_or row k 0; quantum = k }) (range_with_len a n)

sums_same : (w : WorldState) (row : List ℕ) (a n : ℕ) → ((k : ℕ) → a ≤ k → k < a + n → get_or row k 0 ≡ ring_sum w k)
    → peaks_in row a n ≡ map (λ k. record { sum = ring_sum w k; quantum = k }) (range_with_len a n)
sums_same w row a zero is = refl
sums_same w row a (suc n) is =
    let here : ◌≡◌ {A = Peak} (record { sum = get_or row a 0; quantum = a }) (record { sum = ring_sum w a; quantum = a }) = rw (is a (omega arith) (omega arith)) refl in
    let rest = sums_same w row (a + 1) n (λ k low high. is k (omega (arith, low)) (omega (arith, high))) in
    ap (λ (p : Peak). p ∷ peaks_in row (a + 1) n) here ∙ ap (λ (ps : List Peak). record { sum = ring_sum w a; quantum = a } ∷ ps) rest

-- the peak of a ring is that of its row
pub peak_is : (p : Peak) (w : WorldState) (row : List ℕ) → IsRow w row → fold higher p (peaks_in row 0 (length row)) ≡ peak_after p w
peak_is p w row h =
    ap (λ (n : ℕ). fold higher p (peaks_in row 0 n)) h.len
    ∙ ap (λ (ps : List Peak). fold higher p ps) (sums_same w row 0 (quanta_in w.ring) (λ k low high. h.is k (omega (arith, high))))

-- the peak, or what a row has at a place if that is greater
abbrev at_place : Bool → Peak → List ℕ → ℕ → Peak
at_place b p row a = cond b (record { sum = get_or row a 0; quantum = a }) p

-- a row under the peak leaves it
same_peak : (p : Peak) (row : List ℕ) (a n : ℕ) → ((k : ℕ) → a ≤ k → k < a + n → get_or row k 0 ≤ p.sum) → fold higher p (peaks_in row a n) ≡ p
same_peak p row a zero under = refl
same_peak p row a (suc n) under =
    cases (nat_lt p.sum (get_or row a 0)) refl (same_peak p row (a + 1) n (λ k low high. under k (omega (arith, low)) (omega (arith, high))))
  where
    cases : (b : Bool) → nat_lt p.sum (get_or row a 0) ≡ b → fold higher p (peaks_in row (a + 1) n) ≡ p → fold higher (at_place b p row a) (peaks_in row (a + 1) n) ≡ p
    cases true e ih = absurd (omega (arith, ltb-true _ _ e, under a (omega arith) (omega arith)))
    cases false e ih = ih

pub peak_stays : (p : Peak) (w : WorldState) (row : List ℕ) → IsRow w row → IsUnder row p.sum → p ≡ peak_after p w
peak_stays p w row h under = sym (same_peak p row 0 (length row) (λ k low high. under k (omega (arith, high)))) ∙ peak_is p w row h

-- what was looked through is under the peak, which is no greater than what it is all under
pub record IsOver (p q : Peak) (row : List ℕ) (a n : ℕ) : Type 0 where
  pub grows : p.sum ≤ q.sum
  pub under : (k : ℕ) → a ≤ k → k < a + n → get_or row k 0 ≤ q.sum

over : (p : Peak) (row : List ℕ) (a n : ℕ) → IsOver p (fold higher p (peaks_in row a n)) row a n
over p row a zero = record { grows = omega arith; under = λ k low high. absurd (omega (arith, low, high)) }
over p row a (suc n) = cases (nat_lt p.sum (get_or row a 0)) refl (λ m. over m row (a + 1) n)
  where
    join : (m q : Peak) → p.sum ≤ m.sum → get_or row a 0 ≤ m.sum → IsOver m q row (a + 1) n → IsOver p q row a (suc n)
    join m q up here h = record {
      grows = omega (arith, up, h.grows);
      under = λ k low high. ⊎_elim
          (λ (same : a ≡ k). subst (λ (i : ℕ). get_or row i 0 ≤ q.sum) same (omega (arith, here, h.grows)))
          (λ (less : a < k). h.under k (omega (arith, less)) (omega (arith, high)))
          (eq-or-lt_of_le low);
    }

    cases : (b : Bool) → nat_lt p.sum (get_or row a 0) ≡ b → ((m : Peak) → IsOver m (fold higher m (peaks_in row (a + 1) n)) row (a + 1) n)
        → IsOver p (fold higher (at_place b p row a) (peaks_in row (a + 1) n)) row a (suc n)
    cases true e ih =
        let up : p.sum < get_or row a 0 = ltb-true _ _ e in
        join (at_place true p row a) _ (omega (arith, up)) (omega arith) (ih (at_place true p row a))
    cases false e ih = join p _ (omega arith) (ltb-false _ _ e) (ih p)

pub peak_over : (p : Peak) (row : List ℕ) → IsUnder row (fold higher p (peaks_in row 0 (length row))).sum
peak_over p row k low = (over p row 0 (length row)).under k (omega arith) (omega (arith, low))

most_over : (p : Peak) (row : List ℕ) (most a n : ℕ) → p.sum ≤ most → ((k : ℕ) → a ≤ k → k < a + n → get_or row k 0 ≤ most) → (fold higher p (peaks_in row a n)).sum ≤ most
most_over p row most a zero low under = low
most_over p row most a (suc n) low under =
    cases (nat_lt p.sum (get_or row a 0)) (λ m less. most_over m row most (a + 1) n less (λ k above high. under k (omega (arith, above)) (omega (arith, high))))
  where
    cases : (b : Bool) → ((m : Peak) → m.sum ≤ most → (fold higher m (peaks_in row (a + 1) n)).sum ≤ most) → (fold higher (at_place b p row a) (peaks_in row (a + 1) n)).sum ≤ most
    cases true ih = ih (at_place true p row a) (under a (omega arith) (omega arith))
    cases false ih = ih p low

pub peak_low : (p : Peak) (row : List ℕ) (most : ℕ) → p.sum ≤ most → IsUnder row most → (fold higher p (peaks_in row 0 (length row))).sum ≤ most
peak_low p row most low under = most_over p row most 0 (length row) low (λ k above high. under k (omega (arith, high)))

-- one more turn of looking through a row
pub peak_turn : (p : Peak) (row : List ℕ) (k n : ℕ) → k < n
    → fold higher p (peaks_in row k (n - k)) ≡ fold higher (higher p (record { sum = get_or row k 0; quantum = k })) (peaks_in row (k + 1) (n - (k + 1)))
peak_turn p row k n less =
    let next : n - k ≡ suc (n - (k + 1)) = omega (arith, less) in
    ap (λ (m : ℕ). fold higher p (peaks_in row k m)) next
