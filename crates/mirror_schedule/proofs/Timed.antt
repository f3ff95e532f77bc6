-- Things beside their times: what is left of them; what holds of all elements; and plans under which play times end alike.
use Rattle.std.proofs.Common.{◌≡◌, ℕ, ◌+◌, ◌*◌, ◌/◌, ◌==◌, ◌&&◌, ◌||◌, Bool, true, false, cond, not, List, [], ◌∷◌, ◌++◌, suc, zero, take, drop, find, Some, is_some, refl, ap}
use Rattle.std.specs.List.{AllByRecursion, list_any, filter, insert, remove}
use Rattle.std.proofs.lemmas.Bool.{and_parts, eqb-true}
use Rattle.slot_plan.specs.declared.params.Params.{Params}
use Rattle.slot_plan.specs.Times.{due, first_due}
use Rattle.slot_plan.specs.Keys.{Key}
use Rattle.mirror_schedule.specs.Timed.{untimed, end_of, has_same_times}

module _ {X : Type 0} where
  -- the thing of a pair
  abbrev first : X × ℕ → X
  first x = x.0

  -- a test of the things alone
  pub untimed-filter : (test : X → Bool) (xs : List (X × ℕ)) → untimed (filter (λ x. test x.0) xs) ≡ filter test (untimed xs)
  untimed-filter test [] = refl
  untimed-filter test (x ∷ xs) =
      elim (test x.0) as (λ t. untimed (cond t (x ∷ filter (λ x. test x.0) xs) (filter (λ x. test x.0) xs)) ≡ cond t (x.0 ∷ filter test (untimed xs)) (filter test (untimed xs))) [
        | true ↦ ap (λ ys. x.0 ∷ ys) (untimed-filter test xs)
        | false ↦ untimed-filter test xs
      ]

  pub untimed-any : (test : X → Bool) (xs : List (X × ℕ)) → is_some (find (λ x. test x.0) xs) ≡ list_any test (untimed xs)
  untimed-any test [] = refl
  untimed-any test (x ∷ xs) =
      elim (test x.0) as (λ t. is_some (cond t (Some x) (find (λ x. test x.0) xs)) ≡ (t || list_any test (untimed xs))) [
        | true ↦ refl
        | false ↦ untimed-any test xs
      ]

module _ {X : Type 0} (P : X → Type 0) where
  all_front : (i : ℕ) (xs : List X) → AllByRecursion P xs → AllByRecursion P (take i xs)
  all_front zero xs h = tt
  all_front (suc i) [] h = tt
  all_front (suc i) (x ∷ xs) h = (h.0, all_front i xs h.1)

  all_back : (i : ℕ) (xs : List X) → AllByRecursion P xs → AllByRecursion P (drop i xs)
  all_back zero xs h = h
  all_back (suc i) [] h = tt
  all_back (suc i) (x ∷ xs) h = all_back i xs h.1

  pub all_joined : (xs ys : List X) → AllByRecursion P xs → AllByRecursion P ys → AllByRecursion P (xs ++ ys)
  all_joined [] ys h g = g
  all_joined (x ∷ xs) ys h g = (h.0, all_joined xs ys h.1 g)

  pub all_insert : (xs : List X) (i : ℕ) (x : X) → AllByRecursion P xs → P x → AllByRecursion P (insert xs i x)
  all_insert xs i x h here = all_joined (take i xs) (x ∷ drop i xs) (all_front i xs h) (here, all_back i xs h)

  pub all_remove : (xs : List X) (i : ℕ) → AllByRecursion P xs → AllByRecursion P (remove xs i)
  all_remove xs i h = all_joined (take i xs) (drop (suc i) xs) (all_front i xs h) (all_back (suc i) xs h)

module _ {X : Type 0} (test : X → Bool) where
  -- where none passes a test all stay
  pub all_stay : (xs : List X) → AllByRecursion (λ x. test x ≡ false) xs → filter (λ x. not (test x)) xs ≡ xs
  all_stay [] h = refl
  all_stay (x ∷ xs) h = rw h.0 (ap (λ ys. x ∷ ys) (all_stay xs h.1))

-- a play time ends alike under plans that are the same in these numbers
pub ends_alike : (p q : Params) (k : Key) → has_same_times p q ≡ true → end_of p k ≡ end_of q k
unfolding due first_due
ends_alike p q k h =
    let three = and_parts (p.cubs == q.cubs && p.disks == q.disks && p.slots == q.slots) (p.play == q.play) h in
    let two = and_parts (p.cubs == q.cubs && p.disks == q.disks) (p.slots == q.slots) three.0 in
    let one = and_parts (p.cubs == q.cubs) (p.disks == q.disks) two.0 in
    let cubs : p.cubs ≡ q.cubs = eqb-true _ _ one.0 in
    let disks : p.disks ≡ q.disks = eqb-true _ _ one.1 in
    let slots : p.slots ≡ q.slots = eqb-true _ _ two.1 in
    let play : p.play ≡ q.play = eqb-true _ _ three.1 in
    alike _ _ _ _ _ _ _ _ _ _ cubs disks slots play
  where
    alike : (a b c d e f g h slot visit : ℕ) → a ≡ e → b ≡ f → c ≡ g → d ≡ h
        → slot * (a * b) * d / c + visit * d + d ≡ slot * (e * f) * h / g + visit * h + h
    alike a b c d e f g h slot visit i j k l = rw (i, j, k, l) refl
