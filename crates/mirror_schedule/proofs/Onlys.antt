-- Of some split visits one at most is of an instance: whether it is so is kept as more are looked at, and none is left without it.
use Rattle.std.proofs.Common.{◌≡◌, ℕ, ◌+◌, ◌<◌, ◌≤◌, ◌==◌, zero, suc, Bool, true, false, cond, not, List, [], ◌∷◌, ◌++◌, length, get_or, take, Option, Some, None, is_some, option_map, refl, subst, sym, ap, ◌∙◌, add-one, arith}
use Rattle.std.specs.Prelude.{IfSome}
use Rattle.std.specs.List.{AllByRecursion, filter, remove}
use Rattle.std.proofs.Math.Seq.{take-length, take-suc}
use Rattle.std.proofs.lemmas.Bool.{both_ways}
use Rattle.tiger_base.specs.declared.number.Instance.{Instance}
use Rattle.instance_marks.specs.Marks.{IsNoted}
use Rattle.mirror_schedule.specs.Splits.{Split, AreNoted, HasOneOf, IsFoundFor, IsSoonestOf, is_of}
use Rattle.mirror_schedule.proofs.NotedSplits.{noted_fewer}

module _ {X : Type 0} (test : X → Bool) where
  left_joined : (xs : List X) (x : X) → length (filter test (xs ++ x ∷ [])) ≡ length (filter test xs) + cond (test x) 1 0
  left_joined [] x =
      elim (test x) as (λ t. length (cond t (x ∷ []) []) ≡ 0 + cond t 1 0) [
        | true ↦ omega arith
        | false ↦ omega arith
      ]
  left_joined (y ∷ ys) x =
      let rest = left_joined ys x in
      elim (test y) as (λ t. length (cond t (y ∷ filter test (ys ++ x ∷ [])) (filter test (ys ++ x ∷ []))) ≡ length (cond t (y ∷ filter test ys) (filter test ys)) + cond (test x) 1 0) [
        | true ↦ omega (arith, rest)
        | false ↦ rest
      ]

  none_left : (xs : List X) → AllByRecursion (λ x. test x ≡ false) xs → length (filter test xs) ≡ 0
  none_left [] h = omega arith
  none_left (x ∷ xs) h = ap (λ t. length (cond t (x ∷ filter test xs) (filter test xs))) h.0 ∙ none_left xs h.1

  none_counted : (xs : List X) → length (filter test xs) ≤ 0 → AllByRecursion (λ x. test x ≡ false) xs
  none_counted [] e = tt
  none_counted (x ∷ xs) e = at (test x) refl e (none_counted xs)
    where
      at : (t : Bool) → test x ≡ t → length (cond t (x ∷ filter test xs) (filter test xs)) ≤ 0 → (length (filter test xs) ≤ 0 → AllByRecursion (λ y. test y ≡ false) xs) → AllByRecursion (λ y. test y ≡ false) (x ∷ xs)
      at true is e rest = absurd (omega (arith, e))
      at false is e rest = (is, rest e)

  none_at : (xs : List X) (i : ℕ) (d : X) → AllByRecursion (λ x. test x ≡ false) xs → i < length xs → test (get_or xs i d) ≡ false
  none_at [] i d h l = absurd (omega (arith, l))
  none_at (x ∷ xs) zero d h l = h.0
  none_at (x ∷ xs) (suc i) d h l = none_at xs i d h.1 (omega (arith, l))

  -- the only one that passes the test is taken out
  one_removed : (xs : List X) (i : ℕ) (d : X) → length (filter test xs) ≤ 1 → i < length xs → test (get_or xs i d) ≡ true → AllByRecursion (λ x. test x ≡ false) (remove xs i)
  one_removed [] i d e l own = absurd (omega (arith, l))
  one_removed (x ∷ xs) zero d e l own =
      let one : length (x ∷ filter test xs) ≤ 1 = subst (λ (t : Bool). length (cond t (x ∷ filter test xs) (filter test xs)) ≤ 1) own e in
      none_counted xs (omega (arith, one))
  one_removed (x ∷ xs) (suc i) d e l own = at (test x) refl e (λ f. one_removed xs i d f (omega (arith, l)) own)
    where
      at : (t : Bool) → test x ≡ t → length (cond t (x ∷ filter test xs) (filter test xs)) ≤ 1 → (length (filter test xs) ≤ 1 → AllByRecursion (λ y. test y ≡ false) (remove xs i)) → AllByRecursion (λ y. test y ≡ false) (x ∷ remove xs i)
      at true is e rest = absurd (both_ways (test (get_or xs i d)) (none_at xs i d (none_counted xs (omega (arith, e))) (omega (arith, l))) own)
      at false is e rest = (is, rest e)

-- one more is looked at
pub only_on : (instance : Instance) (items : List (Split × ℕ)) (i : ℕ) (x : Split × ℕ) (o : Option (Split × ℕ)) (only now : Bool) → i < length items → x ≡ get_or items i x → IsSoonestOf instance items i o
    → (only ≡ true → HasOneOf instance (take i items)) → now ≡ cond (is_of instance x.0) (not (is_some o)) only → now ≡ true → HasOneOf instance (take (i + 1) items)
only_on instance items i x o only now inside at first before is e = by_test (is_of instance x.0) refl o first (sym is ∙ e)
  where
    test : Split × ℕ → Bool
    test y = is_of instance y.0

    more : length (filter test (take (i + 1) items)) ≡ length (filter test (take i items)) + cond (is_of instance x.0) 1 0
    more =
        ap (λ (ys : List (Split × ℕ)). length (filter test ys)) (rw add-one (take-suc items i x inside) ∙ sym (ap (λ (y : Split × ℕ). take i items ++ y ∷ []) at))
        ∙ left_joined test (take i items) x

    counted : (k : ℕ) → cond (is_of instance x.0) 1 0 ≡ k → length (filter test (take i items)) + k ≤ 1 → HasOneOf instance (take (i + 1) items)
    counted k q l = omega (arith, more, q, l)

    by_test : (t : Bool) → is_of instance x.0 ≡ t → (p : Option (Split × ℕ)) → IsSoonestOf instance items i p → cond t (not (is_some p)) only ≡ true → HasOneOf instance (take (i + 1) items)
    by_test true f None h q = counted 1 (ap (λ t. cond t 1 0) f) (omega (arith, none_left test (take i items) h))
    by_test true f (Some y) h q = absurd (cc)
    by_test false f p h q = counted 0 (ap (λ t. cond t 1 0) f) (omega (arith, before q))

-- all are looked at
pub only_all : (instance : Instance) (items : List (Split × ℕ)) (i : ℕ) → i ≡ length items → HasOneOf instance (take i items) → HasOneOf instance items
only_all instance items i e h = subst (λ (ys : List (Split × ℕ)). HasOneOf instance ys) (ap (λ (n : ℕ). take n items) e ∙ take-length items) h

-- what was found, beside whether it is the only one
abbrev beside : Bool → Option (Split × ℕ) → Option ((Split × ℕ) × Bool)
beside only o = option_map (λ f. (f, only)) o

pub beside_first : (instance : Instance) (items : List (Split × ℕ)) (n : ℕ) (o : Option (Split × ℕ)) (only : Bool) (r : Option ((Split × ℕ) × Bool)) → r ≡ option_map (λ f. (f, only)) o → IsSoonestOf instance items n o → IsSoonestOf instance items n (option_map (λ f. f.0) r)
beside_first instance items n o only r e h = subst (λ (p : Option ((Split × ℕ) × Bool)). IsSoonestOf instance items n (option_map (λ f. f.0) p)) (sym e) (same o h)
  where
    same : (o : Option (Split × ℕ)) → IsSoonestOf instance items n o → IsSoonestOf instance items n (option_map (λ f. f.0) (beside only o))
    same None h = h
    same (Some found) h = h

pub beside_only : (P : Type 0) (o : Option (Split × ℕ)) (only : Bool) (r : Option ((Split × ℕ) × Bool)) → r ≡ option_map (λ f. (f, only)) o → (only ≡ true → P) → IfSome r (λ f. f.1 ≡ true → P)
beside_only P o only r e h = subst (λ (p : Option ((Split × ℕ) × Bool)). IfSome p (λ f. f.1 ≡ true → P)) (sym e) (same o)
  where
    same : (o : Option (Split × ℕ)) → IfSome (beside only o) (λ f. f.1 ≡ true → P)
    same None = tt
    same (Some found) = h

-- the others stay noted, and those of the instance if it is not the only one
noted_rest : (marks now : List Bool) (v : Instance) (items : List (Split × ℕ)) (only : Bool) → ((w : Instance) → IsNoted marks w → (only ≡ true → (w.0 == v.0) ≡ false) → IsNoted now w)
    → (only ≡ true → AllByRecursion (λ x. is_of v x.0 ≡ false) items) → AreNoted marks items → AreNoted now items
noted_rest marks now v [] only keeps none h = tt
noted_rest marks now v (x ∷ xs) only keeps none h = (keeps x.0.0 h.0 (λ e. (none e).0), noted_rest marks now v xs only keeps (λ e. (none e).1) h.1)

-- after one was taken out
pub noted_taken : (marks now : List Bool) (v : Instance) (items left : List (Split × ℕ)) (found : Split × ℕ) (only : Bool) → left ≡ remove items found.1 → ((w : Instance) → IsNoted marks w → (only ≡ true → (w.0 == v.0) ≡ false) → IsNoted now w)
    → (only ≡ true → HasOneOf v items) → IsFoundFor v items (length items) found → AreNoted marks items → AreNoted now left
noted_taken marks now v items left found only out keeps one is h =
    noted_rest marks now v left only keeps
    (λ e. subst (λ (ys : List (Split × ℕ)). AllByRecursion (λ x. is_of v x.0 ≡ false) ys) (sym out) (one_removed (λ x. is_of v x.0) items found.1 found (one e) is.inside (ap (is_of v) is.at ∙ is.own)))
    (noted_fewer marks items left found.1 out h)
