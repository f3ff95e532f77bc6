-- How many lines of an instance the buckets have, and what is left of them when those are gone.
use Rattle.std.proofs.Common.{◌≡◌, ℕ, ◌+◌, ◌*◌, ◌^◌, ◌<◌, ◌≤◌, zero, suc, Bool, true, false, cond, not, List, [], ◌∷◌, ◌++◌, map, length, get_or, take, drop, count_by, Some, refl, sym, ap, subst, ◌∙◌, arith}
use Rattle.std.specs.List.{AllByRecursion, filter, slice_get, slice_set}
use Rattle.std.proofs.lemmas.List.Sums.{sum_by-cons}
use Rattle.tiger_base.specs.declared.number.Instance.{Instance}
use Rattle.slot_plan.specs.declared.params.Params.{Params}
use Rattle.slot_plan.specs.Keys.{is_earlier}
use Rattle.partial_view.specs.declared.line.Line.{Line}
use Rattle.partial_view.specs.Lines.{key_of, is_of}
use Rattle.partial_view.specs.Views.{Seen, with_line, without_instance}
use Rattle.partial_view.specs.Wheel.{bucket_of, joined, merged, lines_of, all_lines, IsWheel}
use Rattle.partial_view.proofs.Calls.{record_of}
use Rattle.partial_view.proofs.Dues.{stands_at}
use Rattle.partial_view.proofs.Order.{all_filter, walk_without_instance}
use Rattle.partial_view.proofs.Merged.{all-fit, some-merged}
use Rattle.partial_view.proofs.Rounds.{bucket-at, wheel-set, lines-set, length-set}

module _ (test : Line → Bool) where
  count-cons : (x : Line) (xs : List Line) → count_by test (x ∷ xs) ≡ cond (test x) 1 0 + count_by test xs
  count-cons x xs = sum_by-cons (λ y. cond (test y) 1 0) x xs

  count-with-at : (p : Params) (x y : Line) (ys : List Line) (t : Bool) → count_by test (with_line p x ys) ≡ cond (test x) 1 0 + count_by test ys → count_by test (cond t (x ∷ y ∷ ys) (y ∷ with_line p x ys)) ≡ cond (test x) 1 0 + count_by test (y ∷ ys)
  count-with-at p x y ys true r = count-cons x (y ∷ ys)
  count-with-at p x y ys false r = omega (arith, count-cons y (with_line p x ys), count-cons y ys, r)

  count-with : (p : Params) (x : Line) (ys : List Line) → count_by test (with_line p x ys) ≡ cond (test x) 1 0 + count_by test ys
  unfolding with_line
  count-with p x [] = count-cons x []
  count-with p x (y ∷ ys) = count-with-at p x y ys (is_earlier p (key_of x) (key_of y)) (count-with p x ys)

  count-joined : (p : Params) (xs ys : List Line) → count_by test (joined p xs ys) ≡ count_by test xs + count_by test ys
  count-joined p [] ys = let none : count_by test [] ≡ 0 = refl in omega (arith, none)
  count-joined p (x ∷ xs) ys = omega (arith, count-with p x (joined p xs ys), count-joined p xs ys, count-cons x xs)

  -- the count changes by that of the bucket which is changed
  count-set : (p : Params) (cs : List (List Line)) (i : ℕ) (b b' : List Line) → slice_get cs i ≡ Some b → count_by test (merged p (slice_set cs i b')) + count_by test b ≡ count_by test (merged p cs) + count_by test b'
  count-set p [] i b b' e = absurd (cc)
  count-set p (c ∷ cs) zero b b' e =
      let same : c ≡ b = cc in
      omega (arith, count-joined p b' (merged p cs), count-joined p c (merged p cs), ap (count_by test) same)
  count-set p (c ∷ cs) (suc i) b b' e =
      omega (arith, count-joined p c (merged p (slice_set cs i b')), count-joined p c (merged p cs), count-set p cs i b b' e)

  count-none : (xs : List Line) → count_by test (filter (λ x. not (test x)) xs) ≡ 0
  count-none [] = refl
  count-none (x ∷ xs) = at_test (test x) refl (count-none xs)
    where
      at_test : (t : Bool) → test x ≡ t → count_by test (filter (λ y. not (test y)) xs) ≡ 0 → count_by test (cond (not t) (x ∷ filter (λ y. not (test y)) xs) (filter (λ y. not (test y)) xs)) ≡ 0
      at_test true is r = r
      at_test false is r = omega (arith, count-cons x (filter (λ y. not (test y)) xs), ap {B = ℕ} (λ b. cond b 1 0) is, r)

-- the first elements changed, and one more
set-done : {X : Type 0} (f : X → X) (cs : List X) (i : ℕ) (b : X) → slice_get (map f (take i cs) ++ drop i cs) i ≡ Some b → slice_set (map f (take i cs) ++ drop i cs) i (f b) ≡ map f (take (suc i) cs) ++ drop (suc i) cs
set-done f [] zero b e = absurd (cc)
set-done f [] (suc i) b e = absurd (cc)
set-done f (c ∷ cs) zero b e = ap (λ z. f z ∷ cs) (let same : b ≡ c = cc in same)
set-done f (c ∷ cs) (suc i) b e = ap (λ zs. f c ∷ zs) (set-done f cs i b e)

all-done : {X : Type 0} (f : X → X) (cs : List X) (i : ℕ) → length cs ≤ i → map f (take i cs) ++ drop i cs ≡ map f cs
all-done f [] zero l = refl
all-done f [] (suc i) l = refl
all-done f (c ∷ cs) zero l = absurd (omega arith)
all-done f (c ∷ cs) (suc i) l = ap (λ zs. f c ∷ zs) (all-done f cs i (omega arith))

-- the lines of an instance are gone from the first buckets
pub record AreWithout (p : Params) (v : Instance) (before now : List Seen) (count i : ℕ) : Type 0 where
  pub wheel : IsWheel p now
  pub long : length now ≡ length before
  pub done : lines_of now ≡ map (λ c. without_instance v c) (take i (lines_of before)) ++ drop i (lines_of before)
  pub total : count + count_by (is_of v) (all_lines p now) ≡ count_by (is_of v) (all_lines p before)
  pub fits : count ≤ i * 2 ^ 57

pub without-first : (p : Params) (v : Instance) (bs : List Seen) → IsWheel p bs → AreWithout p v bs bs 0 0
without-first p v bs h = record { wheel = h; long = refl; done = refl; total = omega arith; fits = omega arith }

none-of : (v : Instance) (lines : List Line) → count_by (is_of v) (without_instance v lines) ≡ 0
unfolding without_instance
none-of v lines = count-none (is_of v) lines

own-left : (p : Params) (v : Instance) (i : ℕ) (lines : List Line) → AllByRecursion (λ x. bucket_of p (key_of x) ≡ i) lines → AllByRecursion (λ x. bucket_of p (key_of x) ≡ i) (without_instance v lines)
unfolding without_instance
own-left p v i lines h = all_filter (λ x. bucket_of p (key_of x) ≡ i) (λ x. not (is_of v x)) lines h

pub without-next : (p : Params) (v : Instance) (before now : List Seen) (count i : ℕ) (b b' : Seen) (gone : ℕ) → AreWithout p v before now count i → i < length now → b ≡ get_or now i b → b' ≡ record_of b.params (without_instance v b.lines) → gone ≡ count_by (is_of v) b.lines → gone ≤ 2 ^ 57
    → AreWithout p v before (slice_set now i b') (count + gone) (i + 1)
without-next p v before now count i b b' gone h l e e' g fits =
    let at = bucket-at p now i b h.wheel (stands_at now i b e l) in
    let new : b' ≡ record_of p (without_instance v b.lines) = e' ∙ ap (λ q. record_of q (without_instance v b.lines)) at.plan in
    let set : lines_of (slice_set now i b') ≡ slice_set (lines_of now) i (without_instance v b.lines) = ap (λ (c : Seen). lines_of (slice_set now i c)) new ∙ lines-set now i (record_of p (without_instance v b.lines)) in
    let next : suc i ≡ i + 1 = omega arith in
    record {
      wheel = subst (λ (c : Seen). IsWheel p (slice_set now i c)) (sym new)
          (wheel-set p now i (record_of p (without_instance v b.lines)) h.wheel refl (walk_without_instance p v b.lines at.walk) (own-left p v i b.lines at.own));
      long = length-set now i b' ∙ h.long;
      done = set ∙ (ap (λ ls. slice_set ls i (without_instance v b.lines)) h.done
          ∙ (set-done (λ c. without_instance v c) (lines_of before) i b.lines (ap (λ ls. slice_get ls i) (sym h.done) ∙ at.there) ∙ ap (λ n. map (λ c. without_instance v c) (take n (lines_of before)) ++ drop n (lines_of before)) next));
      total = omega (arith, h.total, g, count-set (is_of v) p (lines_of now) i b.lines (without_instance v b.lines) at.there, none-of v b.lines, ap (λ ls. count_by (is_of v) (merged p ls)) set);
      fits = omega (arith, h.fits, fits);
    }

merged-without : (p : Params) (v : Instance) (bs : List Seen) → IsWheel p bs → merged p (map (λ c. without_instance v c) (lines_of bs)) ≡ without_instance v (all_lines p bs)
unfolding without_instance
merged-without p v bs h = sym (some-merged p (λ x. not (is_of v x)) (lines_of bs) (all-fit p 0 (lines_of bs) h.own).0)

length-of : (bs : List Seen) → length (lines_of bs) ≡ length bs
length-of [] = refl
length-of (b ∷ bs) = ap suc (length-of bs)

pub without-all : (p : Params) (v : Instance) (before now : List Seen) (count i : ℕ) → AreWithout p v before now count i → IsWheel p before → length now ≤ i → all_lines p now ≡ without_instance v (all_lines p before)
without-all p v before now count i h w l =
    ap (merged p) (h.done ∙ all-done (λ c. without_instance v c) (lines_of before) i (omega (arith, length-of before, h.long, l))) ∙ merged-without p v before w

pub without-count : (p : Params) (v : Instance) (before now : List Seen) (count i : ℕ) → AreWithout p v before now count i → IsWheel p before → length now ≤ i → count ≡ count_by (is_of v) (all_lines p before)
without-count p v before now count i h w l =
    omega (arith, h.total, ap (count_by (is_of v)) (without-all p v before now count i h w l), none-of v (all_lines p before))
