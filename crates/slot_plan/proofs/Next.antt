-- The first visit of a disk from a time on leads to the next visit in the window.
use Rattle.std.proofs.Common.{◌≡◌, ℕ, ◌+◌, ◌<◌, ◌≤◌, Bool, true, false, Option, Some, None, MatchOption, refl, sym, ◌∙◌, subst, ⊎_elim, arith}
use Rattle.std.proofs.lemmas.Bool.{and_from, le-leb, lt-ltb, both_ways, cases_lt}
use Rattle.slot_plan.specs.declared.params.Params.{Params}
use Rattle.slot_plan.specs.Conditions.{IsInRange, IsPlan}
use Rattle.slot_plan.specs.Times.{disk_count, in_window}
use Rattle.slot_plan.specs.Keys.{Key, due_of, is_earlier, is_behind}
use Rattle.slot_plan.specs.Searches.{from_of, IsBetween, IsFirstBetween}
use Rattle.slot_plan.specs.Windows.{IsOpen, IsLeastOpen, least_visit}
use Rattle.slot_plan.proofs.Times.{window_parts, disk_below}
use Rattle.slot_plan.proofs.Keys.{is_earlier-irreflexive, key_same, earlier_due, due_earlier}
use Rattle.slot_plan.proofs.Turns.{one_due}
use Rattle.slot_plan.proofs.Windows.{least_visit_is, least_visit_is_none}

behind_from : (p : Params) (reading : ℕ) (after : Option Key) (k : Key) → reading + p.window_b < due_of p k → is_behind p after k ≡ true → from_of p reading after ≤ due_of p k
unfolding is_behind
behind_from p reading None k h b = omega arith
behind_from p reading (Some a) k h b = omega (arith, earlier_due p a k b)

later_behind : (p : Params) (reading : ℕ) (after : Option Key) (k : Key) → from_of p reading after < due_of p k → is_behind p after k ≡ true
unfolding is_behind
later_behind p reading None k h = refl
later_behind p reading (Some a) k h = due_earlier p a k (omega arith)

opens : (p : Params) (reading : ℕ) (after : Option Key) (k : Key) → from_of p reading after ≤ due_of p k → reading + p.window_b < due_of p k
opens p reading None k h = omega arith
opens p reading (Some a) k h = omega arith

-- an open visit is due between the times
open_between : (p : Params) (reading disk : ℕ) (after : Option Key) (k : Key) → IsOpen p reading disk (is_behind p after) k
    → IsBetween p disk (from_of p reading after) (reading + p.window_a) k
open_between p reading disk after k o =
    let parts = window_parts p reading k.0.0 k.1 o.window in
    record { in_plan = o.in_plan; on_disk = o.on_disk; from = behind_from p reading after k parts.1 o.passes; last = parts.0 }

between_open : (p : Params) (reading disk : ℕ) (after : Option Key) (k : Key) → IsBetween p disk (from_of p reading after) (reading + p.window_a) k → is_behind p after k ≡ true
    → IsOpen p reading disk (is_behind p after) k
unfolding in_window
between_open p reading disk after k b t = record {
  in_plan = b.in_plan;
  on_disk = b.on_disk;
  window = and_from _ _ (le-leb _ _ b.last) (lt-ltb _ _ (opens p reading after k b.from));
  passes = t;
}

-- no visit of the disk between the times comes before the first one
first_least : (p : Params) (disk from last : ℕ) (k j : Key) → IsPlan p → IsFirstBetween p disk from last k → IsBetween p disk from last j → is_earlier p j k ≡ true → ⊥
first_least p disk from last k j ok f b e =
    let same : due_of p j ≡ due_of p k = omega (arith, f.first j b, earlier_due p j k e) in
    let one : j ≡ k = key_same j k (one_due p disk j k ok.ranges b.in_plan f.here.in_plan b.on_disk f.here.on_disk same) in
    both_ways (is_earlier p j k) (subst (λ (x : Key). is_earlier p x k ≡ false) (sym one) (is_earlier-irreflexive p k)) e

-- where the first one is behind the given visit, it is the next
pub next_first : (p : Params) (reading disk : ℕ) (after : Option Key) (k : Key) → IsPlan p → IsFirstBetween p disk (from_of p reading after) (reading + p.window_a) k → is_behind p after k ≡ true
    → IsLeastOpen p reading disk (is_behind p after) k
next_first p reading disk after k ok f t = record {
  here = between_open p reading disk after k f.here t;
  least = λ j o e. first_least p disk _ _ k j ok f (open_between p reading disk after j o) e;
}

-- where it is not, an open visit is due later
beyond : (p : Params) (reading disk : ℕ) (after : Option Key) (k j : Key) → IsPlan p → IsFirstBetween p disk (from_of p reading after) (reading + p.window_a) k → is_behind p after k ≡ false
    → IsOpen p reading disk (is_behind p after) j → IsBetween p disk (due_of p k + 1) (reading + p.window_a) j
beyond p reading disk after k j ok f t o =
    let b = open_between p reading disk after j o in
    record {
      in_plan = b.in_plan;
      on_disk = b.on_disk;
      last = b.last;
      from = ⊎_elim
          (λ l. absurd (omega (arith, f.first j b)))
          (λ g. ⊎_elim (λ l. omega arith) (λ h. absurd (both_ways (is_behind p after j) (same_behind (omega arith)) o.passes)) (cases_lt (due_of p k) (due_of p j)))
          (cases_lt (due_of p j) (due_of p k));
    }
  where
    same_behind : due_of p j ≡ due_of p k → is_behind p after j ≡ false
    same_behind e =
        let one : j ≡ k = key_same j k (one_due p disk j k ok.ranges o.in_plan f.here.in_plan o.on_disk f.here.on_disk e) in
        subst (λ (x : Key). is_behind p after x ≡ false) (sym one) t

pub next_second : (p : Params) (reading disk : ℕ) (after o : Option Key) (k : Key) → IsPlan p → IsFirstBetween p disk (from_of p reading after) (reading + p.window_a) k → is_behind p after k ≡ false
    → MatchOption o ((j : Key) → ¬ IsBetween p disk (due_of p k + 1) (reading + p.window_a) j) (λ j. IsFirstBetween p disk (due_of p k + 1) (reading + p.window_a) j)
    → MatchOption o ((j : Key) → ¬ IsOpen p reading disk (is_behind p after) j) (λ j. IsLeastOpen p reading disk (is_behind p after) j)
next_second p reading disk after None k ok f t none = λ j o. none j (beyond p reading disk after k j ok f t o)
next_second p reading disk after (Some n) k ok f t g =
    let b : IsBetween p disk (from_of p reading after) (reading + p.window_a) n = record {
      in_plan = g.here.in_plan;
      on_disk = g.here.on_disk;
      from = omega (arith, f.here.from, g.here.from);
      last = g.here.last;
    } in
    record {
      here = between_open p reading disk after n b (later_behind p reading after n (omega (arith, f.here.from, g.here.from)));
      least = λ j o e. first_least p disk _ _ n j ok g (beyond p reading disk after k j ok f t o) e;
    }

pub next_none : (p : Params) (reading disk : ℕ) (after : Option Key) → ((j : Key) → ¬ IsBetween p disk (from_of p reading after) (reading + p.window_a) j) → (j : Key) → ¬ IsOpen p reading disk (is_behind p after) j
next_none p reading disk after none j o = none j (open_between p reading disk after j o)

-- between the times there is no visit of a disk that is not there, nor where the times are turned
pub no_such_disk : (p : Params) (d e low high : ℕ) → IsInRange p → e ≡ d → disk_count p ≤ e → (k : Key) → ¬ IsBetween p d low high k
no_such_disk p d e low high r same h k b = omega (arith, disk_below p k.1 r, b.on_disk)

pub no_such_time : (p : Params) (d low high : ℕ) → high < low → (k : Key) → ¬ IsBetween p d low high k
no_such_time p d low high h k b = omega (arith, b.from, b.last)

-- what is the next visit is what the function finds
pub found_is_least : (p : Params) (reading disk : ℕ) (test : Key → Bool) (o : Option Key) → IsPlan p
    → MatchOption o ((j : Key) → ¬ IsOpen p reading disk test j) (λ j. IsLeastOpen p reading disk test j) → o ≡ least_visit p reading disk test
found_is_least p reading disk test None ok none = sym (least_visit_is_none p reading disk test ok none)
found_is_least p reading disk test (Some k) ok least = sym (least_visit_is p reading disk test k ok least)

-- the same for the values that the search computes
abbrev pub Finds : Params → ℕ → ℕ → Option Key → Option Key → Type 0
Finds p reading disk after o = MatchOption o ((j : Key) → ¬ IsOpen p reading disk (is_behind p after) j) (λ j. IsLeastOpen p reading disk (is_behind p after) j)

pub finds_none : (p : Params) (reading disk : ℕ) (after o : Option Key) (low : ℕ) → low ≡ from_of p reading after → o ≡ None
    → ((j : Key) → ¬ IsBetween p disk low (reading + p.window_a) j) → Finds p reading disk after o
finds_none p reading disk after o low e none h =
    subst (λ (x : Option Key). Finds p reading disk after x) (sym none)
    (next_none p reading disk after (subst (λ (x : ℕ). (j : Key) → ¬ IsBetween p disk x (reading + p.window_a) j) e h))

pub finds_first : (p : Params) (reading disk : ℕ) (after : Option Key) (low : ℕ) (k : Key) (b : Bool) → IsPlan p → low ≡ from_of p reading after
    → IsFirstBetween p disk low (reading + p.window_a) k → b ≡ is_behind p after k → b ≡ true → IsLeastOpen p reading disk (is_behind p after) k
finds_first p reading disk after low k b ok e f g t =
    next_first p reading disk after k ok (subst (λ (x : ℕ). IsFirstBetween p disk x (reading + p.window_a) k) e f) (sym g ∙ t)

pub finds_second : (p : Params) (reading disk : ℕ) (after o : Option Key) (low time : ℕ) (k : Key) (b : Bool) → IsPlan p → low ≡ from_of p reading after
    → IsFirstBetween p disk low (reading + p.window_a) k → b ≡ is_behind p after k → b ≡ false → time ≡ due_of p k
    → MatchOption o ((j : Key) → ¬ IsBetween p disk (time + 1) (reading + p.window_a) j) (λ j. IsFirstBetween p disk (time + 1) (reading + p.window_a) j)
    → Finds p reading disk after o
finds_second p reading disk after o low time k b ok e f g t d h =
    next_second p reading disk after o k ok (subst (λ (x : ℕ). IsFirstBetween p disk x (reading + p.window_a) k) e f) (sym g ∙ t)
    (subst (λ (x : ℕ). MatchOption o ((j : Key) → ¬ IsBetween p disk (x + 1) (reading + p.window_a) j) (λ j. IsFirstBetween p disk (x + 1) (reading + p.window_a) j)) d h)
