-- What a list in order has.
use Rattle.std.proofs.Common.{◌≡◌, ℕ, ◌+◌, Bool, true, false, cond, ◌||◌, List, [], ◌∷◌, Some, None, refl}
use Rattle.std.specs.List.{AllByRecursion, list_any}
use Rattle.mirror_schedule.specs.Sorted.{IsSorted, gap_from}
use Rattle.mirror_schedule.proofs.Orders.{IsOrder, all_more}

-- a test that tells an element from those that come before it or behind it, and from no other
pub record IsSame {X : Type 0} (before same : X → X → Bool) : Type 0 where
  pub ahead : (x y : X) → before x y ≡ true → same x y ≡ false
  pub behind : (x y : X) → before y x ≡ true → same x y ≡ false
  pub neither : (x y : X) → before x y ≡ false → before y x ≡ false → same x y ≡ true

module _ {X : Type 0} (before same : X → X → Bool) (order : IsOrder before) (law : IsSame before same) (x : X) where
  none_behind : (ys : List X) → AllByRecursion (λ z. before x z ≡ true) ys → list_any (same x) ys ≡ false
  none_behind [] h = refl
  none_behind (y ∷ ys) h = rw (law.ahead x y h.0) (none_behind ys h.1)

  there_at : (y : X) (n : ℕ) (ys : List X) (a b : Bool) → before x y ≡ a → before y x ≡ b → (gap_from before x (n + 1) ys ≡ None → list_any (same x) ys ≡ true)
      → cond a (Some n) (cond b (gap_from before x (n + 1) ys) None) ≡ None → (same x y || list_any (same x) ys) ≡ true
  there_at y n ys true b f g rest e = absurd (cc)
  there_at y n ys false true f g rest e = rw (law.behind x y g) (rest e)
  there_at y n ys false false f g rest e = rw (law.neither x y f g) refl

  -- where there is no place for it, it is there
  pub is_there : (n : ℕ) (xs : List X) → gap_from before x n xs ≡ None → list_any (same x) xs ≡ true
  is_there n [] e = absurd (cc)
  is_there n (y ∷ ys) e = there_at y n ys (before x y) (before y x) refl refl (is_there (n + 1) ys) e

  new_at : (y : X) (n place : ℕ) (ys : List X) (a b : Bool) → before x y ≡ a → before y x ≡ b → AllByRecursion (λ z. before y z ≡ true) ys
      → (gap_from before x (n + 1) ys ≡ Some place → list_any (same x) ys ≡ false)
      → cond a (Some n) (cond b (gap_from before x (n + 1) ys) None) ≡ Some place → (same x y || list_any (same x) ys) ≡ false
  new_at y n place ys true b f g later rest e =
      rw (law.ahead x y f) (none_behind ys (all_more (λ z. before y z ≡ true) (λ z. before x z ≡ true) (λ z h. order.transitive x y z f h) ys later))
  new_at y n place ys false true f g later rest e = rw (law.behind x y g) (rest e)
  new_at y n place ys false false f g later rest e = absurd (cc)

  -- where there is one, it is not
  pub is_new : (n place : ℕ) (xs : List X) → IsSorted before xs → gap_from before x n xs ≡ Some place → list_any (same x) xs ≡ false
  is_new n place [] h e = refl
  is_new n place (y ∷ ys) h e = new_at y n place ys (before x y) (before y x) refl refl h.0 (is_new (n + 1) place ys h.1) e
