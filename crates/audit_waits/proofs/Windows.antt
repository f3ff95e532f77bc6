-- A search for a visit that is not taken, which goes from one visit of the disk in the window to the next.
use Rattle.std.proofs.Common.{◌≡◌, ℕ, ◌+◌, ◌*◌, ◌-◌, ◌<◌, ◌≤◌, Bool, true, false, cond, Option, Some, None, ◌==◌, eq-eqb, refl, sym, subst, arith}
use Rattle.std.specs.Option.{ForSome}
use Rattle.std.proofs.lemmas.Bool.{both_ways, false_from_ne_true, eqb-true}
use Rattle.std.proofs.lemmas.Option.{same_Some}
use Rattle.slot_plan.specs.declared.params.Params.{Params}
use Rattle.slot_plan.specs.Conditions.{IsPlan}
use Rattle.slot_plan.specs.Keys.{Key, IsKey, due_of, is_earlier, is_behind}
use Rattle.slot_plan.specs.Times.{disk_of}
use Rattle.slot_plan.specs.Windows.{IsOpen, IsLeastOpen}
use Rattle.slot_plan.proofs.Times.{window_parts}
use Rattle.slot_plan.proofs.Keys.{key_same, earlier_due, is_earlier-irreflexive, is_earlier-total}
use Rattle.slot_plan.proofs.Turns.{one_due}
use Rattle.audit_waits.specs.Seen.{IsIn, IsSoughtBehind}

-- the time from the last visit's due time to the end of the window, doubled, and one more if the visit is of another disk, since the next one of the disk may be due with it
abbrev pub time_behind : Params → ℕ → ℕ → Option Key → ℕ
time_behind p reading disk None = 2 * (reading + p.window_a) + 1
time_behind p reading disk (Some k) = 2 * (reading + p.window_a - due_of p k) + cond (disk_of p k.1 == disk) 0 1

-- the visit of the disk that is first in the window behind the last one
abbrev pub IsNextOpen : Params → ℕ → ℕ → Option Key → Key → Type 0
IsNextOpen p reading disk last k = IsLeastOpen p reading disk (is_behind p last) k

with_test : (p : Params) (reading disk : ℕ) (test other : Key → Bool) (k : Key) → IsOpen p reading disk test k → other k ≡ true → IsOpen p reading disk other k
with_test p reading disk test other k o t = record { in_plan = o.in_plan; on_disk = o.on_disk; window = o.window; passes = t }

module _ (p : Params) (reading disk : ℕ) (missed : Key → Bool) (last : Option Key) (sought : IsSoughtBehind p reading disk missed last) where
  behind_last : (k : Key) → IsOpen p reading disk missed k → IsOpen p reading disk (is_behind p last) k
  behind_last k o = with_test p reading disk missed (is_behind p last) k o (sought k o)

  -- none is missed if none comes behind the last one
  pub none_missed : ((k : Key) → IsOpen p reading disk (is_behind p last) k → ⊥) → (k : Key) → IsOpen p reading disk missed k → ⊥
  none_missed none k o = none k (behind_last k o)

  -- if the next one is not missed, one that is comes behind it
  pub search_goes_on : (k : Key) → IsNextOpen p reading disk last k → missed k ≡ false → IsSoughtBehind p reading disk missed (Some k)
  unfolding is_behind
  search_goes_on k next fails j o = cases (is_earlier p k j) refl
    where
      cases : (t : Bool) → is_earlier p k j ≡ t → is_earlier p k j ≡ true
      cases true e = e
      cases false e =
          let not_before : is_earlier p j k ≡ false = false_from_ne_true (is_earlier p j k) (next.least j (behind_last j o)) in
          absurd (both_ways (missed k) fails (subst (λ (x : Key). missed x ≡ true) (is_earlier-total p j k not_before e) o.passes))

-- the next one is missed if it passes the test
pub one_missed : (p : Params) (reading disk : ℕ) (missed : Key → Bool) (last : Option Key) (k : Key) → IsNextOpen p reading disk last k
    → missed k ≡ true → ((j : Key) → IsOpen p reading disk missed j → ⊥) → ⊥
one_missed p reading disk missed last k next t none = none k (with_test p reading disk (is_behind p last) missed k next.here t)

-- the next one has come in
pub next_in : (p : Params) (reading disk : ℕ) (last : Option Key) (k : Key) → IsNextOpen p reading disk last k → IsKey p k → ForSome (Some k) (IsIn p reading)
next_in p reading disk last k next key j e =
    let parts = window_parts p reading k.0.0 k.1 next.here.window in
    subst (λ (x : Key). IsIn p reading x) (same_Some k j e) (key, parts.0)

-- less time is left behind the next one
pub time_goes : (p : Params) (reading disk : ℕ) (last : Option Key) (k : Key) → IsPlan p → ForSome last (IsIn p reading) → IsNextOpen p reading disk last k
    → time_behind p reading disk (Some k) < time_behind p reading disk last
unfolding is_behind
time_goes p reading disk None k ok entered next = rw (eq-eqb (disk_of p k.1) disk next.here.on_disk) (omega arith)
time_goes p reading disk (Some a) k ok entered next = rw (eq-eqb (disk_of p k.1) disk next.here.on_disk) (cases (disk_of p a.1 == disk) refl)
  where
    a_entered : IsIn p reading a
    a_entered = entered a refl

    due_k : due_of p k ≤ reading + p.window_a
    due_k = (window_parts p reading k.0.0 k.1 next.here.window).0

    not_before : due_of p a ≤ due_of p k
    not_before = earlier_due p a k next.here.passes

    apart : disk_of p a.1 ≡ disk → ¬ (due_of p a ≡ due_of p k)
    apart on e =
        let same : a ≡ k = key_same a k (one_due p disk a k ok.ranges a_entered.0.0 next.here.in_plan on next.here.on_disk e) in
        both_ways (is_earlier p a a) (is_earlier-irreflexive p a) (subst (λ (x : Key). is_earlier p a x ≡ true) (sym same) next.here.passes)

    cases : (t : Bool) → (disk_of p a.1 == disk) ≡ t → 2 * (reading + p.window_a - due_of p k) + 0 < 2 * (reading + p.window_a - due_of p a) + cond t 0 1
    cases true e = omega (arith, due_k, not_before, apart (eqb-true _ _ e))
    cases false e = omega (arith, due_k, not_before)
