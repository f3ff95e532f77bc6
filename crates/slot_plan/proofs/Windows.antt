-- The visit that the function finds is the one before all others in the window.
use Rattle.std.proofs.Common.{◌≡◌, ℕ, ◌+◌, ◌<◌, zero, suc, Bool, true, false, ◌&&◌, ◌==◌, cond, Option, Some, None, MatchOption, sym, ap, subst, refl, ⊎_elim, arith, eq-eqb}
use Rattle.std.proofs.lemmas.Bool.{and_parts, and_from, eqb-true, both_ways, cases_order, false_from_ne_true}
use Rattle.slot_plan.specs.declared.params.Params.{Params}
use Rattle.slot_plan.specs.Conditions.{IsPlan}
use Rattle.slot_plan.specs.Times.{disk_of, in_window, visit_by}
use Rattle.slot_plan.specs.Keys.{Key, is_earlier, sooner}
use Rattle.slot_plan.specs.Windows.{IsOpen, IsLeastOpen, is_open, passing, slot_visit, least_below, least_visit}
use Rattle.slot_plan.proofs.Times.{in_window_visit_by}
use Rattle.slot_plan.proofs.Keys.{is_earlier-irreflexive, is_earlier-asymmetric, is_earlier-neither, is_earlier-total}

-- it is the visit of a slot below a number, and no such visit comes before it
record IsLeastOf (p : Params) (visits : ℕ → Option Key) (s : ℕ) (k : Key) : Type 0 where
  slot : ℕ
  below : slot < s
  here : visits slot ≡ Some k
  least : (t : ℕ) (j : Key) → t < s → visits t ≡ Some j → is_earlier p j k ≡ false

abbrev Says : Params → (ℕ → Option Key) → ℕ → Option Key → Type 0
Says p visits s None = (t : ℕ) → t < s → visits t ≡ None
Says p visits s (Some k) = IsLeastOf p visits s k

-- below suc s is below s, or s
split_below : (P : ℕ → Type 0) (s : ℕ) → ((t : ℕ) → t < s → P t) → P s → (t : ℕ) → t < suc s → P t
split_below P s below here t h =
    ⊎_elim (λ e. subst P (sym e) here) (λ o. ⊎_elim (λ l. below t l) (λ g. absurd (omega arith)) o) (cases_order t s)

some_same : (a b : Key) (o : Option Key) → o ≡ Some a → o ≡ Some b → a ≡ b
some_same a b o h g = cc

none_some : (a : Key) (o : Option Key) → o ≡ None → o ≡ Some a → ⊥
none_some a o h g = cc

-- the first of two that both are there
take_earlier : (p : Params) (visits : ℕ → Option Key) (s : ℕ) (a b : Key) (t : Bool) → is_earlier p b a ≡ t → visits s ≡ Some a → IsLeastOf p visits s b
    → Says p visits (suc s) (cond t (Some b) (Some a))
take_earlier p visits s a b true e here says = record {
  slot = says.slot;
  below = omega (arith, says.below);
  here = says.here;
  least = λ t j h v. split_below (λ t. visits t ≡ Some j → is_earlier p j b ≡ false) s (λ t l. says.least t j l)
      (λ w. subst (λ (x : Key). is_earlier p x b ≡ false) (some_same a j _ here w) (is_earlier-asymmetric p b a e)) t h v;
}
take_earlier p visits s a b false e here says = record {
  slot = s;
  below = omega arith;
  here = here;
  least = λ t j h v. split_below (λ t. visits t ≡ Some j → is_earlier p j a ≡ false) s (λ t l w. is_earlier-neither p j b a (says.least t j l w) e)
      (λ w. subst (λ (x : Key). is_earlier p x a ≡ false) (some_same a j _ here w) (is_earlier-irreflexive p a)) t h v;
}

-- one slot more
more : (p : Params) (visits : ℕ → Option Key) (s : ℕ) (one rest : Option Key) → visits s ≡ one → Says p visits s rest → Says p visits (suc s) (sooner p one rest)
unfolding sooner
more p visits s None None here says = split_below (λ t. visits t ≡ None) s says here
more p visits s None (Some b) here says = record {
  slot = says.slot;
  below = omega (arith, says.below);
  here = says.here;
  least = λ t j h v. split_below (λ t. visits t ≡ Some j → is_earlier p j b ≡ false) s (λ t l. says.least t j l)
      (λ w. absurd (none_some j _ here w)) t h v;
}
more p visits s (Some a) None here says = record {
  slot = s;
  below = omega arith;
  here = here;
  least = λ t j h v. split_below (λ t. visits t ≡ Some j → is_earlier p j a ≡ false) s (λ t l w. absurd (none_some j _ (says t l) w))
      (λ w. subst (λ (x : Key). is_earlier p x a ≡ false) (some_same a j _ here w) (is_earlier-irreflexive p a)) t h v;
}
more p visits s (Some a) (Some b) here says = take_earlier p visits s a b (is_earlier p b a) refl here says

least_below_says : (p : Params) (reading : ℕ) (test : Key → Bool) (s : ℕ) → Says p (slot_visit p reading test) s (least_below p reading test s)
unfolding least_below
least_below_says p reading test zero = λ t h. absurd (omega arith)
least_below_says p reading test (suc s) =
    more p (slot_visit p reading test) s (slot_visit p reading test s) (least_below p reading test s) refl (least_below_says p reading test s)

-- the visit of a slot that is open is the slot's one
open_visit : (p : Params) (reading disk : ℕ) (test : Key → Bool) (k : Key) → IsPlan p → IsOpen p reading disk test k
    → slot_visit p reading (is_open p reading disk test) k.0.0 ≡ Some k
unfolding slot_visit
open_visit p reading disk test k ok o =
    let passes : is_open p reading disk test k ≡ true =
    and_from (disk_of p k.1 == disk && in_window p reading k.0.0 k.1) (test k)
    (and_from (disk_of p k.1 == disk) (in_window p reading k.0.0 k.1) (eq-eqb _ _ o.on_disk) o.window) o.passes in
    rw (in_window_visit_by p reading k.0.0 k.1 ok o.window, passes)

passing_open : (p : Params) (reading disk : ℕ) (test : Key → Bool) (s : ℕ) (o : Option ℕ) (k : Key) → s < p.slots
    → passing (is_open p reading disk test) s o ≡ Some k → IsOpen p reading disk test k
passing_open p reading disk test s None k h e = absurd (none_some k None refl e)
passing_open p reading disk test s (Some n) k h e =
    at_test (is_open p reading disk test (record { 0 = s }, n)) refl e
  where
    at_test : (t : Bool) → is_open p reading disk test (record { 0 = s }, n) ≡ t → cond t (Some (record { 0 = s }, n)) None ≡ Some k → IsOpen p reading disk test k
    at_test false _ e = absurd (none_some k None refl e)
    at_test true b e =
        let both = and_parts (disk_of p n == disk && in_window p reading s n) (test (record { 0 = s }, n)) b in
        let first = and_parts (disk_of p n == disk) (in_window p reading s n) both.0 in
        subst (λ (x : Key). IsOpen p reading disk test x) (some_same (record { 0 = s }, n) k _ refl e)
        (record { in_plan = h; on_disk = eqb-true _ _ first.0; window = first.1; passes = both.1 })

least_of_open : (p : Params) (reading disk : ℕ) (test : Key → Bool) (k : Key) → IsPlan p
    → IsLeastOf p (slot_visit p reading (is_open p reading disk test)) p.slots k → IsLeastOpen p reading disk test k
unfolding slot_visit
least_of_open p reading disk test k ok says = record {
  here = passing_open p reading disk test says.slot (visit_by p says.slot (reading + p.window_a)) k says.below says.here;
  least = λ j o t. absurd (both_ways (is_earlier p j k) (says.least j.0.0 j o.in_plan (open_visit p reading disk test j ok o)) t);
}

-- the visit that is found is the one before all others, and where none is found there is none
pub least_visit_says : (p : Params) (reading disk : ℕ) (test : Key → Bool) (o : Option Key) → IsPlan p → o ≡ least_visit p reading disk test
    → MatchOption o ((k : Key) → ¬ IsOpen p reading disk test k) (λ k. IsLeastOpen p reading disk test k)
unfolding least_visit
least_visit_says p reading disk test o ok e =
    cases o (subst (Says p (slot_visit p reading (is_open p reading disk test)) p.slots) (sym e) (least_below_says p reading (is_open p reading disk test) p.slots))
  where
    cases : (o : Option Key) → Says p (slot_visit p reading (is_open p reading disk test)) p.slots o
        → MatchOption o ((k : Key) → ¬ IsOpen p reading disk test k) (λ k. IsLeastOpen p reading disk test k)
    cases None says = λ k open_k. none_some k _ (says k.0.0 open_k.in_plan) (open_visit p reading disk test k ok open_k)
    cases (Some k) says = least_of_open p reading disk test k ok says

pub least_visit_found : (p : Params) (reading disk : ℕ) (test : Key → Bool) (k : Key) → IsPlan p → least_visit p reading disk test ≡ Some k → IsLeastOpen p reading disk test k
least_visit_found p reading disk test k ok e = least_visit_says p reading disk test (Some k) ok (sym e)

pub least_visit_none : (p : Params) (reading disk : ℕ) (test : Key → Bool) (k : Key) → IsPlan p → least_visit p reading disk test ≡ None → ¬ IsOpen p reading disk test k
least_visit_none p reading disk test k ok e = least_visit_says p reading disk test None ok (sym e) k

-- only one visit is before all others, and it is found
pub least_visit_is : (p : Params) (reading disk : ℕ) (test : Key → Bool) (k : Key) → IsPlan p → IsLeastOpen p reading disk test k → least_visit p reading disk test ≡ Some k
least_visit_is p reading disk test k ok least = cases (least_visit p reading disk test) refl
  where
    cases : (o : Option Key) → least_visit p reading disk test ≡ o → o ≡ Some k
    cases None e = absurd (least_visit_none p reading disk test k ok e least.here)
    cases (Some j) e =
        let found = least_visit_found p reading disk test j ok e in
        ap (λ (x : Key). Some x) (is_earlier-total p j k
        (false_from_ne_true (is_earlier p j k) (least.least j found.here))
        (false_from_ne_true (is_earlier p k j) (found.least k least.here)))

-- where no visit is open, none is found
pub least_visit_is_none : (p : Params) (reading disk : ℕ) (test : Key → Bool) → IsPlan p → ((k : Key) → ¬ IsOpen p reading disk test k) → least_visit p reading disk test ≡ None
least_visit_is_none p reading disk test ok none = cases (least_visit p reading disk test) refl
  where
    cases : (o : Option Key) → least_visit p reading disk test ≡ o → o ≡ None
    cases None e = refl
    cases (Some j) e = absurd (none j (least_visit_found p reading disk test j ok e).here)
