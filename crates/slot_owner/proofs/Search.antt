-- A search for a free visit, which goes from one visit of the disk to the next.
use Rattle.std.proofs.Common.{◌≡◌, ℕ, ◌+◌, ◌*◌, ◌-◌, ◌<◌, ◌≤◌, List, Bool, true, false, cond, not, Option, Some, None, ◌==◌, eq-eqb, refl, sym, ap, subst, ◌∙◌, arith}
use Rattle.std.specs.Option.{is_some, option_map, ForSome}
use Rattle.std.proofs.lemmas.Bool.{both_ways, false_from_ne_true, eqb-true}
use Rattle.std.proofs.lemmas.Option.{same_Some}
use Rattle.tiger_base.specs.declared.number.Instance.{Instance}
use Rattle.slot_plan.specs.declared.params.Params.{Params}
use Rattle.slot_plan.specs.Conditions.{IsPlan}
use Rattle.slot_plan.specs.Keys.{Key, IsKey, due_of, is_earlier, is_behind}
use Rattle.slot_plan.specs.Times.{disk_of}
use Rattle.slot_plan.specs.Windows.{IsOpen, IsLeastOpen}
use Rattle.slot_plan.proofs.Times.{window_parts}
use Rattle.slot_plan.proofs.Keys.{key_same, earlier_due, is_earlier-irreflexive, is_earlier-total}
use Rattle.slot_plan.proofs.Turns.{one_due}
use Rattle.partial_view.specs.declared.line.Line.{Line}
use Rattle.partial_view.specs.Free.{is_free, IsTakenTo, HasEntered}
use Rattle.partial_view.specs.Lines.{instance_of}
use Rattle.partial_view.specs.Views.{line_at}

-- the time from the last visit's due time to the end of the window, doubled, and one more if the visit is of another disk, since the next one of the disk may be due with it
abbrev pub time_left : Params → ℕ → ℕ → Option Key → ℕ
time_left p reading disk None = 2 * (reading + p.window_a) + 1
time_left p reading disk (Some k) = 2 * (reading + p.window_a - due_of p k) + cond (disk_of p k.1 == disk) 0 1

-- the visit of the disk that is first in the window behind the last one
abbrev pub IsNext : Params → ℕ → ℕ → Option Key → Key → Type 0
IsNext p reading disk last k = IsLeastOpen p reading disk (is_behind p last) k

with_test : (p : Params) (reading disk : ℕ) (test other : Key → Bool) (k : Key) → IsOpen p reading disk test k → other k ≡ true → IsOpen p reading disk other k
with_test p reading disk test other k o t = record { in_plan = o.in_plan; on_disk = o.on_disk; window = o.window; passes = t }

module _ (p : Params) (reading disk : ℕ) (lines : List Line) (last : Option Key) (taken : IsTakenTo p disk reading last lines) where
  behind_last : (k : Key) → IsOpen p reading disk (is_free lines) k → IsOpen p reading disk (is_behind p last) k
  behind_last k o = with_test p reading disk (is_free lines) (is_behind p last) k o (taken k o)

  -- none is free if none comes behind the last one
  pub none_free : ((k : Key) → ¬ IsOpen p reading disk (is_behind p last) k) → (k : Key) → ¬ IsOpen p reading disk (is_free lines) k
  none_free none k o = none k (behind_last k o)

  -- the next one is the first that is free, if it is free
  pub ends_at : (k : Key) → IsNext p reading disk last k → is_free lines k ≡ true → IsLeastOpen p reading disk (is_free lines) k
  ends_at k next free = record {
    here = with_test p reading disk (is_behind p last) (is_free lines) k next.here free;
    least = λ j o t. next.least j (behind_last j o) t;
  }

  -- and if it is not, one that is comes behind it
  pub goes_on : (k : Key) → IsNext p reading disk last k → is_free lines k ≡ false → IsTakenTo p disk reading (Some k) lines
  unfolding is_behind
  goes_on k next fails j o = cases (is_earlier p k j) refl
    where
      cases : (t : Bool) → is_earlier p k j ≡ t → is_earlier p k j ≡ true
      cases true e = e
      cases false e =
          let not_before : is_earlier p j k ≡ false = false_from_ne_true (is_earlier p j k) (next.least j (behind_last j o)) in
          absurd (both_ways (is_free lines k) fails (subst (λ (x : Key). is_free lines x ≡ true) (is_earlier-total p j k not_before e) o.passes))

-- the next one has entered
pub next_entered : (p : Params) (reading disk : ℕ) (last : Option Key) (k : Key) → IsNext p reading disk last k → IsKey p k → ForSome (Some k) (HasEntered p reading)
next_entered p reading disk last k next key j e =
    let parts = window_parts p reading k.0.0 k.1 next.here.window in
    subst (λ (x : Key). HasEntered p reading x) (same_Some k j e) (key, parts.0)

-- less time is left behind the next one
pub time_passes : (p : Params) (reading disk : ℕ) (last : Option Key) (k : Key) → IsPlan p → ForSome last (HasEntered p reading) → IsNext p reading disk last k
    → time_left p reading disk (Some k) < time_left p reading disk last
unfolding is_behind
time_passes p reading disk None k ok entered next = rw (eq-eqb (disk_of p k.1) disk next.here.on_disk) (omega arith)
time_passes p reading disk (Some a) k ok entered next = rw (eq-eqb (disk_of p k.1) disk next.here.on_disk) (cases (disk_of p a.1 == disk) refl)
  where
    a_entered : HasEntered p reading a
    a_entered = entered a refl

    due_k : due_of p k ≤ reading + p.window_a
    due_k = (window_parts p reading k.0.0 k.1 next.here.window).0

    not_before : due_of p a ≤ due_of p k
    not_before = earlier_due p a k next.here.passes

    apart : disk_of p a.1 ≡ disk → ¬ (due_of p a ≡ due_of p k)
    apart on e =
        let one : a ≡ k = key_same a k (one_due p disk a k ok.ranges a_entered.0.0 next.here.in_plan on next.here.on_disk e) in
        both_ways (is_earlier p a a) (is_earlier-irreflexive p a) (subst (λ (x : Key). is_earlier p a x ≡ true) (sym one) next.here.passes)

    cases : (t : Bool) → (disk_of p a.1 == disk) ≡ t → 2 * (reading + p.window_a - due_of p k) + 0 < 2 * (reading + p.window_a - due_of p a) + cond t 0 1
    cases true e = omega (arith, due_k, not_before, apart (eqb-true _ _ e))
    cases false e = omega (arith, due_k, not_before)

twice : (t : Bool) → t ≡ not (not t)
twice true = refl
twice false = refl

-- a visit is free where it has no instance
pub free_where_none : (lines : List Line) (k : Key) {o : Option Instance} {t : Bool} → o ≡ option_map instance_of (line_at k lines) → is_some o ≡ not t → t ≡ is_free lines k
unfolding is_free
free_where_none lines k {o} {t} e h =
    twice t ∙ ap not (sym h ∙ (ap (λ (r : Option Instance). is_some r) e ∙ by_cases (line_at k lines)))
  where
    by_cases : (l : Option Line) → is_some (option_map instance_of l) ≡ is_some l
    by_cases None = refl
    by_cases (Some x) = refl
