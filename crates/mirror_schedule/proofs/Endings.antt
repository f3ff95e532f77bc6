-- Split visits beside the ends of their play times, and what is left when the first of these are gone.
use Rattle.std.proofs.Common.{◌≡◌, ℕ, ◌-◌, ◌^◌, ◌&&◌, ◌==◌, nat_le, Bool, true, false, cond, not, List, [], ◌∷◌, length, count_by, Option, Some, None, is_some, refl, ap, sym, ◌∙◌, arith}
use Rattle.std.specs.List.{AllByRecursion, filter}
use Rattle.std.proofs.lemmas.Bool.{and_parts, and_from, eqb-true, lt-ltb, le-leb}
use Rattle.std.proofs.lemmas.Bool.Decides.{nat_tests}
use Rattle.std.proofs.lemmas.List.Filters.{length-filter_both}
use Rattle.std.proofs.lemmas.List.Sums.{length-filter}
use Rattle.slot_plan.specs.declared.params.Params.{Params}
use Rattle.mirror_schedule.specs.Sorted.{IsSorted, first_if, but_first_if}
use Rattle.mirror_schedule.specs.Splits.{Split, IsSplitOf, ends_before, is_over, kept_end, key_of}
use Rattle.mirror_schedule.specs.Timed.{end_of, has_same_times}
use Rattle.mirror_schedule.proofs.Orders.{none_pass}
use Rattle.mirror_schedule.proofs.Ranks.{ends_rise}
use Rattle.mirror_schedule.proofs.Timed.{all_stay, ends_alike}

module _ (reading : ℕ) where
  -- what ends by the reading
  abbrev ended : Split × ℕ → Bool
  ended x = nat_le x.1 reading

  -- if the first ends later, all do, and none is taken
  later : (x y : Split × ℕ) → ended x ≡ false → ends_before x y ≡ true → ended y ≡ false
  later x y e f =
      let rise = ends_rise x y f in
      grind (arith, nat_tests)

  none_ended : (xs : List (Split × ℕ)) → IsSorted ends_before xs → is_some (first_if ended xs) ≡ false → AllByRecursion (λ x. ended x ≡ false) xs
  none_ended xs s none = none_pass ends_before ended later xs s none

  none_taken : (xs : List (Split × ℕ)) → is_some (first_if ended xs) ≡ false → but_first_if ended xs ≡ xs
  none_taken [] none = refl
  none_taken (x ∷ xs) none = at (ended x) none
    where
      at : (t : Bool) → is_some (cond t (Some x) None) ≡ false → cond t xs (x ∷ xs) ≡ x ∷ xs
      at true none = absurd (cc)
      at false none = refl

  -- then all that ended are gone
  module _ (old items now : List (Split × ℕ)) (o : Option (Split × ℕ)) (sorted : IsSorted ends_before items) (same : filter (λ x. not (ended x)) items ≡ filter (λ x. not (ended x)) old)
      (first : o ≡ first_if ended items) (none : is_some o ≡ false) (left : now ≡ but_first_if ended items) where
    pub all_gone : now ≡ filter (λ x. not (ended x)) old
    all_gone =
        let stop : is_some (first_if ended items) ≡ false = sym (ap is_some first) ∙ none in
        left ∙ (none_taken items stop ∙ (sym (all_stay ended items (none_ended items sorted stop)) ∙ same))

    pub many_gone : (m n : ℕ) → m ≡ length old → n ≡ length now → m - n ≡ count_by ended old
    many_gone m n e f =
        let both = length-filter_both ended (λ x. not (ended x)) (λ x. refl) old in
        let long : length now ≡ length (filter (λ x. not (ended x)) old) = ap length all_gone in
        omega (arith, both, length-filter ended old, long, e, f)

-- the end that stands beside a visit of the plan
kept_is : (p : Params) (x : Split) → IsSplitOf p x → kept_end p (key_of x) ≡ end_of p (key_of x)
kept_is p x h = at _ (and_from _ _ (lt-ltb x.1.0 p.slots h.0) (le-leb x.2 (2 ^ 32) h.1))
  where
    at : (t : Bool) → t ≡ true → cond t (end_of p (key_of x)) 0 ≡ end_of p (key_of x)
    at true e = refl
    at false e = absurd (cc)

-- plans with the same times have the same slots
same_slots : (p q : Params) → has_same_times p q ≡ true → p.slots ≡ q.slots
same_slots p q alike =
    let three = and_parts (p.cubs == q.cubs && p.disks == q.disks && p.slots == q.slots) (p.play == q.play) alike in
    let two = and_parts (p.cubs == q.cubs && p.disks == q.disks) (p.slots == q.slots) three.0 in
    eqb-true _ _ two.1

-- so the end tells under both whether a play time is over
over_told : (p q : Params) (reading : ℕ) (x : Split × ℕ) → has_same_times p q ≡ true → IsSplitOf q x.0 → x.1 ≡ kept_end p (key_of x.0) → nat_le x.1 reading ≡ is_over q reading x.0
unfolding is_over
over_told p q reading x alike here own =
    let mine : IsSplitOf p x.0 = (omega (arith, here.0, same_slots p q alike), here.1) in
    ap (λ (n : ℕ). nat_le n reading) (own ∙ (kept_is p x.0 mine ∙ ends_alike p q (key_of x.0) alike))

pub over_told_all : (p q : Params) (reading : ℕ) → has_same_times p q ≡ true → (xs : List (Split × ℕ)) → AllByRecursion (λ x. IsSplitOf q x.0) xs → AllByRecursion (λ x. x.1 ≡ kept_end p (key_of x.0)) xs
    → AllByRecursion (λ x. nat_le x.1 reading ≡ is_over q reading x.0) xs
over_told_all p q reading alike [] here own = tt
over_told_all p q reading alike (x ∷ xs) here own = (over_told p q reading x alike here.0 own.0, over_told_all p q reading alike xs here.1 own.1)

pub same_told : (q : Params) (reading : ℕ) (xs : List (Split × ℕ)) → AllByRecursion (λ x. is_over q reading x.0 ≡ is_over q reading x.0) xs
same_told q reading [] = tt
same_told q reading (x ∷ xs) = (refl, same_told q reading xs)
