-- What becomes of the split visits of an instance while they are killed.
use Rattle.std.proofs.Common.{◌≡◌, ◌++◌, ◌+◌, ◌-◌, ◌<◌, ◌≤◌, ℕ, suc, Bool, true, false, cond, not, List, [], ◌∷◌, length, Option, Some, None, option_map, filter, find, map, refl, sym, ap, subst, zero, ◌∙◌, arith, append_assoc}
use Rattle.std.specs.List.{flat_map, range_with_len}
use Rattle.std.proofs.lemmas.Bool.{eqb-true}
use Rattle.std.proofs.lemmas.List.{append-nil}
use Rattle.tiger_base.specs.declared.number.Instance.{Instance}
use Rattle.tiger_base.specs.declared.number.LinkNo.{LinkNo}
use Rattle.tiger_base.specs.declared.number.SlotNo.{SlotNo}
use Rattle.tiger_base.specs.declared.message.Msg.{Msg}
use Rattle.tiger_base.specs.declared.message.Msg.TheVariants as msg
use Rattle.slot_plan.specs.declared.params.Params.{Params}
use Rattle.slot_plan.specs.Keys.{Key}
use Rattle.node_kit.specs.declared.outbox.Out.{Out}
use Rattle.node_kit.specs.declared.outbox.Out.TheVariants as out
use Rattle.mirror_schedule.specs.Sorted.{without_first}
use Rattle.mirror_schedule.specs.Splits.{Split, key_of, is_of}
use Rattle.node_kit.specs.Ways.{way_ahead}
use Rattle.node_kit.specs.Deeds.{Did}
use Rattle.cub_rules.specs.declared.store.Store.{Store}
use Rattle.cub_rules.specs.Messages.{kills, killing_splits}

instance_same : (a b : Instance) → a.0 ≡ b.0 → a ≡ b
instance_same a b e = let f : ℕ → Instance = λ n. record { 0 = n } in ap f e

split_same : (x : Split) (v : Instance) (k : Key) → x.0.0 ≡ v.0 → k ≡ key_of x → x ≡ (v, k.0, k.1)
split_same x v k e f =
    let at : Instance → Key → Split = λ i j. (i, j.0, j.1) in
    ap (λ (i : Instance). at i (key_of x)) (instance_same x.0 v e) ∙ ap (λ (j : Key). at v j) (sym f)

-- the first element that passes a test, and the others
record IsFirst {X : Type 0} (test : X → Bool) (xs : List X) (x : X) : Type 0 where
  here : test x ≡ true
  first : filter test xs ≡ x ∷ filter test (without_first test xs)
  others : filter (λ y. not (test y)) (without_first test xs) ≡ filter (λ y. not (test y)) xs
  fewer : length (without_first test xs) < length xs

module _ {X : Type 0} (test : X → Bool) where
  first_at : (x y : X) (xs : List X) (t : Bool) → test x ≡ t → (find test xs ≡ Some y → IsFirst test xs y) → cond t (Some x) (find test xs) ≡ Some y → IsFirst test (x ∷ xs) y
  first_at x y xs true is rest e =
      let same : x ≡ y = cc in
      subst (λ (z : X). IsFirst test (x ∷ xs) z) same (record { here = is; first = rw is refl; others = rw is refl; fewer = rw is (omega arith) })
  first_at x y xs false is rest e =
      let r = rest e in
      record {
        here = r.here;
        first = rw (is, is) r.first;
        others = rw (is, is) (ap (λ (ys : List X). x ∷ ys) r.others);
        fewer = rw is (omega (arith, r.fewer));
      }

  first_in : (xs : List X) (y : X) → find test xs ≡ Some y → IsFirst test xs y
  first_in [] y e = absurd (cc)
  first_in (x ∷ xs) y e = first_at x y xs (test x) refl (first_in xs y) e

-- none passes the test
record IsNone {X : Type 0} (test : X → Bool) (xs : List X) : Type 0 where
  none : filter test xs ≡ []
  others : filter (λ y. not (test y)) xs ≡ xs
  same : without_first test xs ≡ xs

module _ {X : Type 0} (test : X → Bool) where
  none_at : (x : X) (xs : List X) (t : Bool) → test x ≡ t → (find test xs ≡ None → IsNone test xs) → cond t (Some x) (find test xs) ≡ None → IsNone test (x ∷ xs)
  none_at x xs true is rest e = absurd (cc)
  none_at x xs false is rest e =
      let r = rest e in
      record {
        none = rw is r.none;
        others = rw is (ap (λ (ys : List X). x ∷ ys) r.others);
        same = rw is (ap (λ (ys : List X). x ∷ ys) r.same);
      }

  none_in : (xs : List X) → find test xs ≡ None → IsNone test xs
  none_in [] e = record { none = refl; others = refl; same = refl }
  none_in (x ∷ xs) e = none_at x xs (test x) refl (none_in xs) e

-- the first split visit of an instance, and the others
pub record IsFirstOf (v : Instance) (k : Key) (xs : List Split) : Type 0 where
  pub first : filter (is_of v) xs ≡ (v, k.0, k.1) ∷ filter (is_of v) (without_first (is_of v) xs)
  pub others : filter (λ x. not (is_of v x)) (without_first (is_of v) xs) ≡ filter (λ x. not (is_of v x)) xs
  pub fewer : length (without_first (is_of v) xs) < length xs

pub first_of : (v : Instance) (k : Key) (xs : List Split) → Some k ≡ option_map key_of (find (is_of v) xs) → IsFirstOf v k xs
first_of v k xs e = by_split (find (is_of v) xs) refl e
  where
    by_split : (o : Option Split) → find (is_of v) xs ≡ o → Some k ≡ option_map key_of o → IsFirstOf v k xs
    by_split None f e = absurd (cc)
    by_split (Some x) f e =
        let r = first_in (is_of v) xs x f in
        let same : k ≡ key_of x = cc in
        let that : x ≡ (v, k.0, k.1) = split_same x v k (eqb-true _ _ r.here) same in
        record {
          first = r.first ∙ ap (λ (y : Split). y ∷ filter (is_of v) (without_first (is_of v) xs)) that;
          others = r.others;
          fewer = r.fewer;
        }

none_of : (v : Instance) (xs : List Split) → None ≡ option_map key_of (find (is_of v) xs) → IsNone (is_of v) xs
none_of v xs e = by_split (find (is_of v) xs) refl e
  where
    by_split : (o : Option Split) → find (is_of v) xs ≡ o → None ≡ option_map key_of o → IsNone (is_of v) xs
    by_split None f e = none_in (is_of v) xs f
    by_split (Some x) f e = absurd (cc)

-- some split visits of an instance were killed and forgotten
pub record Killing (p : Params) (cub : ℕ) (v : Instance) (before : List Split) (outs_before : List (Out Msg)) (now : List Split) (outs_now : List (Out Msg)) : Type 0 where
  pub outs : outs_now ++ flat_map (kills p cub) (filter (is_of v) now) ≡ outs_before ++ flat_map (kills p cub) (filter (is_of v) before)
  pub left : filter (λ x. not (is_of v x)) now ≡ filter (λ x. not (is_of v x)) before

module _ (p : Params) (cub : ℕ) (v : Instance) (before : List Split) (outs_before : List (Out Msg)) (now : List Split) (outs_now : List (Out Msg)) (h : Killing p cub v before outs_before now outs_now) where
  pub killed_one : (k : Key) (after : List Split) (outs_after : List (Out Msg)) → Some k ≡ option_map key_of (find (is_of v) now) → after ≡ without_first (is_of v) now
      → outs_after ≡ outs_now ++ kills p cub (v, k.0, k.1) → Killing p cub v before outs_before after outs_after
  killed_one k after outs_after e is outs =
      let r = first_of v k now e in
      let rest = flat_map (kills p cub) (filter (is_of v) (without_first (is_of v) now)) in
      record {
        outs = rw (is, outs) (append_assoc outs_now (kills p cub (v, k.0, k.1)) rest ∙ ap (λ (ys : List Split). outs_now ++ flat_map (kills p cub) ys) (sym r.first) ∙ h.outs);
        left = rw is (r.others ∙ h.left);
      }

  pub killed_all_outs : None ≡ option_map key_of (find (is_of v) now) → outs_now ≡ outs_before ++ flat_map (kills p cub) (filter (is_of v) before)
  killed_all_outs e =
      sym (append-nil outs_now) ∙ ap (λ (ys : List Split). outs_now ++ flat_map (kills p cub) ys) (sym (none_of v now e).none) ∙ h.outs

  pub killed_all_left : (after : List Split) → None ≡ option_map key_of (find (is_of v) now) → after ≡ without_first (is_of v) now → after ≡ filter (λ x. not (is_of v x)) before
  killed_all_left after e is =
      let r = none_of v now e in
      is ∙ r.same ∙ sym r.others ∙ h.left

-- the messages to the first cubs that are told of a split visit
abbrev pub told_first : Params → ℕ → Instance → SlotNo → ℕ → ℕ → List (Out Msg)
told_first p cub v slot visit n = map (λ k. out.Send (way_ahead p cub k) (msg.Kill v slot visit)) (range_with_len 1 n)

-- one more message of a range
pub sent_more : (f : ℕ → Out Msg) (outs_before outs_now : List (Out Msg)) (a n : ℕ) → outs_now ≡ outs_before ++ map f (range_with_len a n)
    → outs_now ++ f (a + n) ∷ [] ≡ outs_before ++ map f (range_with_len a (suc n))
sent_more f outs_before outs_now a n e =
    ap (λ (ys : List (Out Msg)). ys ++ f (a + n) ∷ []) e ∙ append_assoc outs_before (map f (range_with_len a n)) (f (a + n) ∷ []) ∙ ap (λ (ys : List (Out Msg)). outs_before ++ ys) (sym (more a n))
  where
    more : (a n : ℕ) → map f (range_with_len a (suc n)) ≡ map f (range_with_len a n) ++ f (a + n) ∷ []
    more a zero = let e : a + 0 ≡ a = omega arith in rw e refl
    more a (suc n) =
        let e : a + 1 + n ≡ a + suc n = omega arith in
        ap (λ (ys : List (Out Msg)). f a ∷ ys) (more (a + 1) n ∙ ap (λ (m : ℕ). map f (range_with_len (a + 1) n) ++ f m ∷ []) e)

-- one more cub is told of a split visit
pub told_more : (p : Params) (cub : ℕ) (v : Instance) (slot : SlotNo) (visit : ℕ) (outs_before outs_now : List (Out Msg)) (link : LinkNo) (steps : ℕ) → 1 ≤ steps
    → outs_now ≡ outs_before ++ told_first p cub v slot visit (steps - 1) → link ≡ way_ahead p cub steps
    → outs_now ++ out.Send link (msg.Kill v slot visit) ∷ [] ≡ outs_before ++ told_first p cub v slot visit (steps + 1 - 1)
told_more p cub v slot visit outs_before outs_now link steps some e to =
    let f : ℕ → Out Msg = λ k. out.Send (way_ahead p cub k) (msg.Kill v slot visit) in
    let here : steps ≡ 1 + (steps - 1) = omega arith in
    let next : suc (steps - 1) ≡ steps + 1 - 1 = omega arith in
    ap (λ (l : LinkNo). outs_now ++ out.Send l (msg.Kill v slot visit) ∷ []) to
    ∙ ap (λ (k : ℕ). outs_now ++ f k ∷ []) here
    ∙ sent_more f outs_before outs_now 1 (steps - 1) e
    ∙ ap (λ (n : ℕ). outs_before ++ map f (range_with_len 1 n)) next

-- the split visits of an instance are killed
pub killed : (p : Params) (cub : ℕ) (v : Instance) (h : Store) (outs_before outs_after : List (Out Msg)) (after : List Split)
    → outs_after ≡ outs_before ++ flat_map (kills p cub) (filter (is_of v) h.splits) → after ≡ filter (λ x. not (is_of v x)) h.splits
    → Did (killing_splits p cub v h) outs_before outs_after (record h { splits = after })
unfolding killing_splits
killed p cub v h outs_before outs_after after outs left = (outs, ap (λ (xs : List Split). record h { splits = xs }) left)
