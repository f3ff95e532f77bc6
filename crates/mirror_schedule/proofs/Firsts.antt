-- The first split visit of an instance among those that were looked at.
use Rattle.std.proofs.Common.{◌≡◌, ℕ, ◌+◌, ◌<◌, Bool, true, false, List, [], ◌∷◌, ◌++◌, length, get_or, take, Option, Some, None, refl, subst, sym, ap, ◌∙◌, add-one}
use Rattle.std.specs.List.{AllByRecursion}
use Rattle.std.proofs.Math.Seq.{take-suc}
use Rattle.std.proofs.lemmas.Bool.{both_ways}
use Rattle.std.proofs.lemmas.List.{get_or_default}
use Rattle.tiger_base.specs.declared.number.Instance.{Instance}
use Rattle.mirror_schedule.specs.Splits.{Split, IsSoonestOf, IsFoundFor, is_of, is_sooner, split_before}
use Rattle.mirror_schedule.proofs.Orders.{all_more}
use Rattle.mirror_schedule.proofs.Ranks.{splits_order}
use Rattle.mirror_schedule.proofs.Timed.{all_joined}

module _ (instance : Instance) (items : List (Split × ℕ)) (i : ℕ) (x : Split × ℕ) (inside : i < length items) (at : x ≡ get_or items i x) where
  -- one more is looked at
  one_more : (P : Split × ℕ → Type 0) → AllByRecursion P (take i items) → P x → AllByRecursion P (take (i + 1) items)
  one_more P h own =
      let more : take i items ++ x ∷ [] ≡ take (i + 1) items = rw add-one (ap (λ (y : Split × ℕ). take i items ++ y ∷ []) at ∙ sym (take-suc items i x inside)) in
      subst (λ (ys : List (Split × ℕ)). AllByRecursion P ys) more (all_joined P (take i items) (x ∷ []) h (own, tt))

  -- a visit of the instance does not come before another one
  abbrev IsNotAhead : Split → Split × ℕ → Type 0
  IsNotAhead y z = is_of instance z.0 ≡ true → split_before z.0 y ≡ false

  -- none comes before the one if it comes before the one that was found
  not_ahead : (y : Split) → split_before x.0 y ≡ true → (z : Split × ℕ) → IsNotAhead y z → IsNotAhead x.0 z
  not_ahead y e z h own = by_test (split_before z.0 x.0) refl
    where
      by_test : (t : Bool) → split_before z.0 x.0 ≡ t → split_before z.0 x.0 ≡ false
      by_test false f = f
      by_test true f = absurd (both_ways (split_before z.0 y) (h own) (splits_order.transitive z.0 x.0 y f e))

  others : (o : Option (Split × ℕ)) → IsSoonestOf instance items i o → is_sooner x.0 o ≡ true → AllByRecursion (IsNotAhead x.0) (take i items)
  others None h e = all_more (λ z. is_of instance z.0 ≡ false) (IsNotAhead x.0) (λ z f own. absurd (both_ways (is_of instance z.0) f own)) (take i items) h
  others (Some found) h e = all_more (IsNotAhead found.0) (IsNotAhead x.0) (not_ahead found.0 e) (take i items) h.first

  -- one that comes before the one that was found
  pub taken_on : (o : Option (Split × ℕ)) → IsSoonestOf instance items i o → is_of instance x.0 ≡ true → is_sooner x.0 o ≡ true → IsFoundFor instance items (i + 1) (x.0, i)
  taken_on o h own e = record {
    inside = inside;
    at = ap (λ (y : Split × ℕ). y.0) (get_or_default items i (x.0, i) x inside ∙ sym at);
    own = own;
    first = one_more (IsNotAhead x.0) (others o h e) (λ f. splits_order.irreflexive x.0);
  }

  -- any other
  pub passed_on : (o : Option (Split × ℕ)) → IsSoonestOf instance items i o → (is_of instance x.0 ≡ true → is_sooner x.0 o ≡ false) → IsSoonestOf instance items (i + 1) o
  passed_on None h e = one_more (λ z. is_of instance z.0 ≡ false) h (by_test (is_of instance x.0) refl)
    where
      by_test : (t : Bool) → is_of instance x.0 ≡ t → is_of instance x.0 ≡ false
      by_test false f = f
      by_test true f = absurd (cc (e f))
  passed_on (Some found) h e = record {
    inside = h.inside;
    at = h.at;
    own = h.own;
    first = one_more (IsNotAhead found.0) h.first e;
  }
