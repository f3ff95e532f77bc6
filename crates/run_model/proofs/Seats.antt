-- Lists of tenancies by slot, with one more and with some fewer.
use Rattle.std.proofs.Common.{◌≡◌, ℕ, suc, ◌<◌, ◌≤◌, Bool, true, false, not, nat_lt, List, [], ◌∷◌, filter, Some, None, slice_get, slice_set, refl, sym, ap, ◌∙◌, cond, arith}
use Rattle.std.specs.Prelude.{◌==◌, if◌then◌else◌, insert}
use Rattle.std.specs.List.{AllByRecursion}
use Rattle.std.proofs.lemmas.Bool.{eqb-true, eq-eqb, ne_eqb, false≢true, ltb-true}
use Rattle.std.proofs.lemmas.Bool.Decides.{nat_tests}
use Rattle.tiger_base.specs.declared.tenancy.Tenancy.{Tenancy}
use Rattle.run_model.specs.Schedule.{unless_of}
use Rattle.run_model.specs.Slots.{AreBySlot, tenancy_at, lower_slots, is_of_slot, seated}

-- where two numbers are the same, a third is the one exactly where it is the other
same_test : (a b c : ℕ) → (a == b) ≡ true → (a == c) ≡ (b == c)
same_test a b c e = ap (λ (m : ℕ). m == c) (eqb-true a b e)

-- the tenancy of a slot, after one was seated
pub at_seated : (t : Tenancy) (slot : ℕ) (us : List Tenancy) → tenancy_at slot (seated t us) ≡ (if t.slot.0 == slot then Some t else tenancy_at slot us)
at_seated t slot [] = refl
at_seated t slot (u ∷ us) = go (u.slot.0 == t.slot.0) (nat_lt t.slot.0 u.slot.0) (u.slot.0 == slot) (t.slot.0 == slot) refl refl refl refl (at_seated t slot us) where
  go : (a b d f : Bool) → (u.slot.0 == t.slot.0) ≡ a → nat_lt t.slot.0 u.slot.0 ≡ b → (u.slot.0 == slot) ≡ d → (t.slot.0 == slot) ≡ f
      → tenancy_at slot (seated t us) ≡ cond (t.slot.0 == slot) (Some t) (tenancy_at slot us)
      → tenancy_at slot (cond a (t ∷ us) (cond b (t ∷ u ∷ us) (u ∷ seated t us))) ≡ cond f (Some t) (cond d (Some u) (tenancy_at slot us))
  go true b true true ea eb ed ef ih = rw ef refl
  go true b false false ea eb ed ef ih = rw ef refl
  go true b true false ea eb ed ef ih = absurd (false≢true (sym ef ∙ sym (same_test u.slot.0 t.slot.0 slot ea) ∙ ed))
  go true b false true ea eb ed ef ih = absurd (false≢true (sym ed ∙ same_test u.slot.0 t.slot.0 slot ea ∙ ef))
  go false true true f ea eb ed ef ih = rw (ef, ed) refl
  go false true false f ea eb ed ef ih = rw (ef, ed) refl
  go false false true true ea eb ed ef ih =
      let both : u.slot.0 ≡ t.slot.0 = eqb-true _ _ ed ∙ sym (eqb-true _ _ ef) in
      absurd (false≢true (sym ea ∙ eq-eqb _ _ both))
  go false false true false ea eb ed ef ih = rw ed refl
  go false false false f ea eb ed ef ih = rw (ed, ih, ef) refl

-- all seats stay above a slot that the new one is above
seated_above : (s : ℕ) (t : Tenancy) (us : List Tenancy) → s < t.slot.0 → AllByRecursion (λ u. s < u.slot.0) us → AllByRecursion (λ u. s < u.slot.0) (seated t us)
seated_above s t [] l h = (l, tt)
seated_above s t (u ∷ us) l h = go (u.slot.0 == t.slot.0) (nat_lt t.slot.0 u.slot.0) (seated_above s t us l h.1) where
  go : (a b : Bool) → AllByRecursion (λ v. s < v.slot.0) (seated t us) → AllByRecursion (λ v. s < v.slot.0) (cond a (t ∷ us) (cond b (t ∷ u ∷ us) (u ∷ seated t us)))
  go true b ih = (l, h.1)
  go false true ih = (l, h)
  go false false ih = (h.0, ih)

-- those above a slot are above a lower one
above_more : (s r : ℕ) (us : List Tenancy) → s ≤ r → AllByRecursion (λ u. r < u.slot.0) us → AllByRecursion (λ u. s < u.slot.0) us
above_more s r [] l h = tt
above_more s r (u ∷ us) l h = (let a = h.0 in omega arith, above_more s r us l h.1)

pub seated_by_slot : (t : Tenancy) (us : List Tenancy) → AreBySlot us → AreBySlot (seated t us)
seated_by_slot t [] h = (tt, tt)
seated_by_slot t (u ∷ us) h = go (u.slot.0 == t.slot.0) (nat_lt t.slot.0 u.slot.0) (seated_by_slot t us h.1) refl refl where
  go : (a b : Bool) → AreBySlot (seated t us) → (u.slot.0 == t.slot.0) ≡ a → nat_lt t.slot.0 u.slot.0 ≡ b → AreBySlot (cond a (t ∷ us) (cond b (t ∷ u ∷ us) (u ∷ seated t us)))
  go true b ih ea eb =
      let same : u.slot.0 ≡ t.slot.0 = eqb-true _ _ ea in
      (above_more t.slot.0 u.slot.0 us (omega arith) h.0, h.1)
  go false true ih ea eb =
      let below : t.slot.0 < u.slot.0 = ltb-true _ _ eb in
      ((below, above_more t.slot.0 u.slot.0 us (omega arith) h.0), h)
  go false false ih ea eb =
      let above : u.slot.0 < t.slot.0 = grind (arith, nat_tests) in
      (seated_above u.slot.0 t us above h.0, ih)

-- no tenancy of a slot stands above it
none_above : (slot : ℕ) (us : List Tenancy) → AllByRecursion (λ u. slot < u.slot.0) us → tenancy_at slot us ≡ None
none_above slot [] h = refl
none_above slot (u ∷ us) h =
    let other : (u.slot.0 == slot) ≡ false = ne_eqb _ _ (λ e. let a = h.0 in absurd (omega arith)) in
    rw other (none_above slot us h.1)

-- the tenancy of a slot, after an instance's were taken out
pub at_filtered : (v slot : ℕ) (us : List Tenancy) → AreBySlot us → tenancy_at slot (filter (λ u. not (u.instance.0 == v)) us) ≡ unless_of v (tenancy_at slot us)
at_filtered v slot [] h = refl
at_filtered v slot (u ∷ us) h = go (u.instance.0 == v) (u.slot.0 == slot) (at_filtered v slot us h.1) refl refl where
  go : (a b : Bool) → tenancy_at slot (filter (λ w. not (w.instance.0 == v)) us) ≡ unless_of v (tenancy_at slot us) → (u.instance.0 == v) ≡ a → (u.slot.0 == slot) ≡ b
      → tenancy_at slot (cond (not a) (u ∷ filter (λ w. not (w.instance.0 == v)) us) (filter (λ w. not (w.instance.0 == v)) us)) ≡ unless_of v (cond b (Some u) (tenancy_at slot us))
  go true true ih ea eb =
      let at : tenancy_at slot us ≡ None = none_above slot us (above_more slot u.slot.0 us (let e = eqb-true _ _ eb in omega arith) h.0) in
      rw (ih, at, ea) refl
  go true false ih ea eb = ih
  go false true ih ea eb = rw (eb, ea) refl
  go false false ih ea eb = rw eb ih

filtered_above : (s : ℕ) (test : Tenancy → Bool) (us : List Tenancy) → AllByRecursion (λ u. s < u.slot.0) us → AllByRecursion (λ u. s < u.slot.0) (filter test us)
filtered_above s test [] h = tt
filtered_above s test (u ∷ us) h = go (test u) (filtered_above s test us h.1) where
  go : (a : Bool) → AllByRecursion (λ w. s < w.slot.0) (filter test us) → AllByRecursion (λ w. s < w.slot.0) (cond a (u ∷ filter test us) (filter test us))
  go true ih = (h.0, ih)
  go false ih = ih

pub filtered_by_slot : (test : Tenancy → Bool) (us : List Tenancy) → AreBySlot us → AreBySlot (filter test us)
filtered_by_slot test [] h = tt
filtered_by_slot test (u ∷ us) h = go (test u) (filtered_by_slot test us h.1) where
  go : (a : Bool) → AreBySlot (filter test us) → AreBySlot (cond a (u ∷ filter test us) (filter test us))
  go true ih = (filtered_above u.slot.0 test us h.0, ih)
  go false ih = ih

-- the list is written where the slot's place is
pub seated_set : (t : Tenancy) (us : List Tenancy) → is_of_slot t.slot.0 (slice_get us (lower_slots t.slot.0 us)) ≡ true
    → slice_set us (lower_slots t.slot.0 us) t ≡ seated t us
seated_set t [] h = absurd (false≢true h)
seated_set t (u ∷ us) h = go (nat_lt u.slot.0 t.slot.0) (λ k. seated_set t us k) refl h where
  go : (a : Bool) → (is_of_slot t.slot.0 (slice_get us (lower_slots t.slot.0 us)) ≡ true → slice_set us (lower_slots t.slot.0 us) t ≡ seated t us) → nat_lt u.slot.0 t.slot.0 ≡ a
      → is_of_slot t.slot.0 (slice_get (u ∷ us) (cond a (suc (lower_slots t.slot.0 us)) 0)) ≡ true
      → slice_set (u ∷ us) (cond a (suc (lower_slots t.slot.0 us)) 0) t ≡ seated t (u ∷ us)
  go true ih e k =
      let below : u.slot.0 < t.slot.0 = ltb-true _ _ e in
      let other : (u.slot.0 == t.slot.0) ≡ false = ne_eqb _ _ (λ q. absurd (omega arith)) in
      let past : nat_lt t.slot.0 u.slot.0 ≡ false = grind (arith, nat_tests) in
      rw (other, past) (ap (λ ws. u ∷ ws) (ih k))
  go false ih e k = rw k refl

pub seated_inserted : (t : Tenancy) (us : List Tenancy) → is_of_slot t.slot.0 (slice_get us (lower_slots t.slot.0 us)) ≡ false
    → insert us (lower_slots t.slot.0 us) t ≡ seated t us
seated_inserted t [] h = refl
seated_inserted t (u ∷ us) h = go (nat_lt u.slot.0 t.slot.0) (λ k. seated_inserted t us k) refl h where
  go : (a : Bool) → (is_of_slot t.slot.0 (slice_get us (lower_slots t.slot.0 us)) ≡ false → insert us (lower_slots t.slot.0 us) t ≡ seated t us) → nat_lt u.slot.0 t.slot.0 ≡ a
      → is_of_slot t.slot.0 (slice_get (u ∷ us) (cond a (suc (lower_slots t.slot.0 us)) 0)) ≡ false
      → insert (u ∷ us) (cond a (suc (lower_slots t.slot.0 us)) 0) t ≡ seated t (u ∷ us)
  go true ih e k =
      let below : u.slot.0 < t.slot.0 = ltb-true _ _ e in
      let other : (u.slot.0 == t.slot.0) ≡ false = ne_eqb _ _ (λ q. absurd (omega arith)) in
      let past : nat_lt t.slot.0 u.slot.0 ≡ false = grind (arith, nat_tests) in
      rw (other, past) (ap (λ ws. u ∷ ws) (ih k))
  go false ih e k =
      let after : nat_lt t.slot.0 u.slot.0 ≡ true = grind (arith, nat_tests) in
      rw (k, after) refl
