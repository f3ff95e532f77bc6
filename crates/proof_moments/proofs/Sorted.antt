-- Lists of which no element stands behind one that goes after it, cut by a test or at a key.
use Rattle.std.proofs.Common.{◌≡◌, ℕ, ◌<◌, ◌≤◌, List, [], ◌∷◌, ◌++◌, filter, not, Bool, true, false, refl, sym, ap, subst, ◌∙◌, arith, ⊎_elim, inl, inr}
use Rattle.std.specs.List.{AllByRecursion, fold}
use Rattle.std.proofs.lemmas.Bool.{cases_Bool, cases_lt}
use Rattle.run_facts.specs.Accounts.{Rising}
use Rattle.run_facts.specs.Order.{Noted, beat_of}
use Rattle.run_facts.proofs.Rows.{all-append, all-left, all-weaker}
use Rattle.lists.specs.Elements.{In}
use Rattle.lists.proofs.Elements.{in_right}
use Rattle.lists.proofs.Each.{all_in, all_by}

-- each element goes before those behind it
abbrev pub Sorted : {X : Type 0} → (X → X → Type 0) → List X → Type 0
Sorted R [] = Unit {0}
Sorted R (x ∷ xs) = AllByRecursion (R x) xs × Sorted R xs

pub sorted_joined : {X : Type 0} (R : X → X → Type 0) (xs ys : List X) → Sorted R xs → Sorted R ys → ((x y : X) → In x xs → In y ys → R x y) → Sorted R (xs ++ ys)
sorted_joined R [] ys s t h = t
sorted_joined R (x ∷ xs) ys s t h = (all-append (R x) xs ys s.0 (all_by (R x) ys (λ y i. h x y (inl refl) i)), sorted_joined R xs ys s.1 t (λ a b i k. h a b (inr i) k))

-- if all pairs go so, the list does
pub sorted_flat : {X : Type 0} (R : X → X → Type 0) (xs : List X) → ((x y : X) → In x xs → In y xs → R x y) → Sorted R xs
sorted_flat R [] h = tt
sorted_flat R (x ∷ xs) h = (all_by (R x) xs (λ y i. h x y (inl refl) (inr i)), sorted_flat R xs (λ a b i k. h a b (inr i) (inr k)))

pub sorted_rises : {X : Type 0} (R : X → X → Type 0) (f : X → ℕ) → ((x y : X) → R x y → f x ≤ f y) → (xs : List X) → Sorted R xs → Rising f xs
sorted_rises R f h [] s = tt
sorted_rises R f h (x ∷ xs) s = (all-weaker (R x) (λ y. f x ≤ f y) xs (λ y q. h x y q) s.0, sorted_rises R f h xs s.1)

-- a front of it is such a list, and goes before what is behind it
sorted_front : {X : Type 0} (R : X → X → Type 0) (xs ys : List X) → Sorted R (xs ++ ys) → Sorted R xs
sorted_front R [] ys s = tt
sorted_front R (x ∷ xs) ys s = (all-left (R x) xs ys s.0, sorted_front R xs ys s.1)

sorted_across : {X : Type 0} (R : X → X → Type 0) (xs ys : List X) (x y : X) → Sorted R (xs ++ ys) → In x xs → In y ys → R x y
sorted_across R [] ys x y s i k = absurd i
sorted_across R (z ∷ zs) ys x y s i k = ⊎_elim
    (λ e. subst (λ v. R v y) (sym e) (all_in (R z) y (zs ++ ys) s.0 (in_right y zs ys k)))
    (λ j. sorted_across R zs ys x y s.1 j k)
    i

-- ---- keys that never fall

sorted_by : {X : Type 0} (f : X → ℕ) (xs : List X) → Rising f xs → Sorted (λ x y. f x ≤ f y) xs
sorted_by f [] r = tt
sorted_by f (x ∷ xs) r = (r.0, sorted_by f xs r.1)

pub rises_before : {X : Type 0} (f : X → ℕ) (xs ys : List X) → Rising f (xs ++ ys) → Rising f xs
rises_before {X} f xs ys r =
    let R : X → X → Type 0 = λ x y. f x ≤ f y in
    sorted_rises R f (λ x y l. l) xs (sorted_front R xs ys (sorted_by f (xs ++ ys) r))

pub not_above : {X : Type 0} (f : X → ℕ) (xs ys : List X) (x y : X) → Rising f (xs ++ ys) → In x xs → In y ys → f x ≤ f y
not_above {X} f xs ys x y r i k = let R : X → X → Type 0 = λ x y. f x ≤ f y in sorted_across R xs ys x y (sorted_by f (xs ++ ys) r) i k

-- if none passes, the test keeps nothing
none_kept : {X : Type 0} (test : X → Bool) (xs : List X) → AllByRecursion (λ y. test y ≡ false) xs → (filter test xs ≡ []) × (filter (λ x. not (test x)) xs ≡ xs)
none_kept test [] f = (refl, refl)
none_kept test (x ∷ xs) f =
    let more = none_kept test xs f.1 in
    let e : test x ≡ false = f.0 in
    rw e (more.0, ap (λ ys. x ∷ ys) more.1)

-- if a test that fails of an element fails of those that go after it, what passes is a front
pub passing_front : {X : Type 0} (R : X → X → Type 0) (test : X → Bool) → ((x y : X) → R x y → test x ≡ false → test y ≡ false) → (xs : List X) → Sorted R xs
    → filter test xs ++ filter (λ x. not (test x)) xs ≡ xs
passing_front R test h [] s = refl
passing_front R test h (x ∷ xs) s = ⊎_elim
    (λ (t : test x ≡ true). rw t (ap (λ ys. x ∷ ys) (passing_front R test h xs s.1)))
    (λ (f : test x ≡ false).
    let k = none_kept test xs (all-weaker (R x) (λ y. test y ≡ false) xs (λ y q. h x y q f) s.0) in
    rw f (ap (λ ys. ys ++ x ∷ filter (λ y. not (test y)) xs) k.0 ∙ ap (λ ys. x ∷ ys) k.1))
    (cases_Bool (test x))

-- what has lower keys, and the rest
pub record IsSplit {X : Type 0} (f : X → ℕ) (b : ℕ) (xs : List X) : Type 0 where
  pub lower : List X
  pub upper : List X
  pub is : lower ++ upper ≡ xs
  pub below : (x : X) → In x lower → f x < b
  pub above : (x : X) → In x upper → b ≤ f x

pub split_at : {X : Type 0} (f : X → ℕ) (b : ℕ) (xs : List X) → Rising f xs → IsSplit f b xs
split_at f b [] rise = record { lower = []; upper = []; is = refl; below = λ x i. absurd i; above = λ x i. absurd i }
split_at f b (x ∷ xs) rise = ⊎_elim
    (λ (l : f x < b).
    let s = split_at f b xs rise.1 in
    record {
      lower = x ∷ s.lower;
      upper = s.upper;
      is = ap (λ ys. x ∷ ys) s.is;
      below = λ y i. ⊎_elim (λ e. let q = ap f e in omega arith) (λ k. s.below y k) i;
      above = s.above;
    })
    (λ (h : b ≤ f x). record {
      lower = [];
      upper = x ∷ xs;
      is = refl;
      below = λ y i. absurd i;
      above = λ y i. ⊎_elim (λ e. let q = ap f e in omega arith) (λ k. let g = all_in (λ z. f x ≤ f z) y xs rise.0 k in omega arith) i;
    })
    (cases_lt (f x) b)

-- the last beat of a log is that of an entry, and none has a higher one
pub record IsLast (log : List Noted) (b : ℕ) : Type 0 where
  pub entry : Noted
  pub there : In entry log
  pub beat : b ≡ beat_of entry
  pub high : (y : Noted) → In y log → beat_of y ≤ beat_of entry

last_from : (b : ℕ) (x : Noted) (xs : List Noted) → Rising beat_of (x ∷ xs) → IsLast (x ∷ xs) (fold (λ beat y. beat_of y) b (x ∷ xs))
last_from b x [] rise = record { entry = x; there = inl refl; beat = refl; high = λ y i. ⊎_elim (λ e. let q = ap beat_of e in omega arith) (λ k. absurd k) i }
last_from b x (y ∷ ys) rise =
    let l = last_from (beat_of x) y ys rise.1 in
    record {
      entry = l.entry;
      there = inr l.there;
      beat = l.beat;
      high = λ z i. ⊎_elim (λ e. let q = ap beat_of e in let h = all_in (λ k. beat_of x ≤ beat_of k) l.entry (y ∷ ys) rise.0 l.there in omega arith) (λ k. l.high z k) i;
    }

pub last_is : (front : List Noted) (y : Noted) → In y front → Rising beat_of front → IsLast front (fold (λ beat x. beat_of x) 0 front)
last_is [] y i rise = absurd i
last_is (x ∷ xs) y i rise = last_from 0 x xs rise
