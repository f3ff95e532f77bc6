-- What the words of a view say of the lines of all buckets is what they say of each bucket.
use Rattle.std.proofs.Common.{◌≡◌, ◌≢◌, ◌==◌, ℕ, ◌<◌, ◌+◌, zero, suc, Bool, true, false, cond, not, List, [], ◌∷◌, map, Some, None, refl, sym, ap, subst, ◌∙◌, arith, eq-eqb}
use Rattle.std.specs.List.{AllByRecursion, filter, find, slice_get, slice_set}
use Rattle.std.proofs.lemmas.Bool.{both_ways, eqb-true}
use Rattle.slot_plan.specs.declared.params.Params.{Params}
use Rattle.slot_plan.specs.Keys.{Key, IsKey, is_earlier}
use Rattle.slot_plan.proofs.Keys.{is_earlier-asymmetric, is_earlier-transitive}
use Rattle.partial_view.specs.declared.line.Line.{Line}
use Rattle.partial_view.specs.declared.line.Flag.{Flag}
use Rattle.partial_view.specs.Lines.{key_of, same, is_at, marked}
use Rattle.partial_view.specs.Views.{IsBefore, IsWalk, line_at, with_line, with_mark, without}
use Rattle.partial_view.specs.Wheel.{bucket_of, joined, merged, AreBuckets}
use Rattle.partial_view.proofs.Order.{same_is, earlier_apart, other_earlier, all_implies, all_filter, walk_filter, key_of-marked}
use Rattle.partial_view.proofs.Places.{later_all}
use Rattle.partial_view.proofs.Laws.{with_line-back}

-- no line is of the visit
abbrev pub AreApart : Key → List Line → Type 0
AreApart k lines = AllByRecursion (λ y. same k (key_of y) ≡ false) lines

-- what holds of each line, where one more is put in
all-with-at : (P : Line → Type 0) (p : Params) (x y : Line) (ys : List Line) (t : Bool) → P x → P y → AllByRecursion P ys → AllByRecursion P (with_line p x ys)
    → AllByRecursion P (cond t (x ∷ y ∷ ys) (y ∷ with_line p x ys))
all-with-at P p x y ys true hx hy h r = (hx, (hy, h))
all-with-at P p x y ys false hx hy h r = (hy, r)

pub all-with : (P : Line → Type 0) (p : Params) (x : Line) (ys : List Line) → P x → AllByRecursion P ys → AllByRecursion P (with_line p x ys)
unfolding with_line
all-with P p x [] hx h = (hx, tt)
all-with P p x (y ∷ ys) hx h = all-with-at P p x y ys (is_earlier p (key_of x) (key_of y)) hx h.0 h.1 (all-with P p x ys hx h.1)

-- a walk with one more line of another visit
walk-with-at : (p : Params) (x y : Line) (ys : List Line) (t : Bool) → is_earlier p (key_of x) (key_of y) ≡ t → IsKey p (key_of x) → same (key_of x) (key_of y) ≡ false
    → IsWalk p (y ∷ ys) → IsWalk p (with_line p x ys) → IsWalk p (cond t (x ∷ y ∷ ys) (y ∷ with_line p x ys))
walk-with-at p x y ys true e key apart w r = (key, (e, later_all p (key_of x) y ys e w.1), w)
walk-with-at p x y ys false e key apart w r =
    (w.0, all-with (λ z. is_earlier p (key_of y) (key_of z) ≡ true) p x ys (other_earlier p (key_of x) (key_of y) apart e) w.1, r)

pub walk-with : (p : Params) (x : Line) (ys : List Line) → IsWalk p ys → IsKey p (key_of x) → AreApart (key_of x) ys → IsWalk p (with_line p x ys)
unfolding with_line
walk-with p x [] w key apart = (key, tt, tt)
walk-with p x (y ∷ ys) w key apart = walk-with-at p x y ys (is_earlier p (key_of x) (key_of y)) refl key apart.0 w (walk-with p x ys w.2 key apart.1)

-- some lines of a walk with one more
with-later : (p : Params) (x : Line) (ys : List Line) → IsBefore p (key_of x) ys → with_line p x ys ≡ x ∷ ys
with-later p x ys h = with_line-back p x ys h

some-late : (p : Params) (x y : Line) (fs : List Line) (a b : Bool) → is_earlier p (key_of x) (key_of y) ≡ false
    → cond b (y ∷ cond a (with_line p x fs) fs) (cond a (with_line p x fs) fs) ≡ cond a (with_line p x (cond b (y ∷ fs) fs)) (cond b (y ∷ fs) fs)
unfolding with_line
some-late p x y fs true true e = rw e refl
some-late p x y fs true false e = refl
some-late p x y fs false true e = refl
some-late p x y fs false false e = refl

some-with-at : (p : Params) (test : Line → Bool) (x y : Line) (ys : List Line) (t : Bool) → is_earlier p (key_of x) (key_of y) ≡ t → IsWalk p (y ∷ ys)
    → filter test (with_line p x ys) ≡ cond (test x) (with_line p x (filter test ys)) (filter test ys)
    → filter test (cond t (x ∷ y ∷ ys) (y ∷ with_line p x ys)) ≡ cond (test x) (with_line p x (filter test (y ∷ ys))) (filter test (y ∷ ys))
some-with-at p test x y ys true e w r =
    let later : IsBefore p (key_of x) (filter test (y ∷ ys)) = all_filter (λ z. is_earlier p (key_of x) (key_of z) ≡ true) test (y ∷ ys) (e, later_all p (key_of x) y ys e w.1) in
    ap (λ zs. cond (test x) zs (filter test (y ∷ ys))) (sym (with-later p x (filter test (y ∷ ys)) later))
some-with-at p test x y ys false e w r =
    ap (λ zs. cond (test y) (y ∷ zs) zs) r ∙ some-late p x y (filter test ys) (test x) (test y) e

pub some-with : (p : Params) (test : Line → Bool) (x : Line) (ys : List Line) → IsWalk p ys
    → filter test (with_line p x ys) ≡ cond (test x) (with_line p x (filter test ys)) (filter test ys)
unfolding with_line
some-with p test x [] w = refl
some-with p test x (y ∷ ys) w = some-with-at p test x y ys (is_earlier p (key_of x) (key_of y)) refl w (some-with p test x ys w.2)

-- lines that can be put into others: their visits are the plan's, and others than those that are there
abbrev pub Fit : Params → List Line → List Line → Type 0
Fit p [] ys = IsWalk p ys
Fit p (x ∷ xs) ys = IsKey p (key_of x) × AreApart (key_of x) (joined p xs ys) × Fit p xs ys

pub walk-joined : (p : Params) (xs ys : List Line) → Fit p xs ys → IsWalk p (joined p xs ys)
walk-joined p [] ys f = f
walk-joined p (x ∷ xs) ys f = walk-with p x (joined p xs ys) (walk-joined p xs ys f.2) f.0 f.1

pub all-joined : (P : Line → Type 0) (p : Params) (xs ys : List Line) → AllByRecursion P xs → AllByRecursion P ys → AllByRecursion P (joined p xs ys)
all-joined P p [] ys h g = g
all-joined P p (x ∷ xs) ys h g = all-with P p x (joined p xs ys) h.0 (all-joined P p xs ys h.1 g)

some-put : (p : Params) (x : Line) (fs gs : List Line) (a : Bool) → cond a (with_line p x (joined p fs gs)) (joined p fs gs) ≡ joined p (cond a (x ∷ fs) fs) gs
some-put p x fs gs true = refl
some-put p x fs gs false = refl

pub some-joined : (p : Params) (test : Line → Bool) (xs ys : List Line) → Fit p xs ys → filter test (joined p xs ys) ≡ joined p (filter test xs) (filter test ys)
some-joined p test [] ys f = refl
some-joined p test (x ∷ xs) ys f =
    some-with p test x (joined p xs ys) (walk-joined p xs ys f.2)
    ∙ (ap (λ zs. cond (test x) (with_line p x zs) zs) (some-joined p test xs ys f.2) ∙ some-put p x (filter test xs) (filter test ys) (test x))

-- buckets whose lines can be put together
abbrev pub AllFit : Params → List (List Line) → Type 0
AllFit p [] = Unit {0}
AllFit p (b ∷ bs) = Fit p b (merged p bs) × AllFit p bs

-- some lines of all buckets are some lines of each
pub some-merged : (p : Params) (test : Line → Bool) (bs : List (List Line)) → AllFit p bs → filter test (merged p bs) ≡ merged p (map (λ b. filter test b) bs)
some-merged p test [] f = refl
some-merged p test (b ∷ bs) f = some-joined p test b (merged p bs) f.0 ∙ ap (joined p (filter test b)) (some-merged p test bs f.1)

-- lines that are changed, but not their visits
changed-at : (p : Params) (f : Line → Line) (x y : Line) (ys : List Line) (t : Bool) → map f (with_line p x ys) ≡ with_line p (f x) (map f ys)
    → map f (cond t (x ∷ y ∷ ys) (y ∷ with_line p x ys)) ≡ cond t (f x ∷ f y ∷ map f ys) (f y ∷ with_line p (f x) (map f ys))
changed-at p f x y ys true r = refl
changed-at p f x y ys false r = ap (λ zs. f y ∷ zs) r

pub changed-with : (p : Params) (f : Line → Line) → ((x : Line) → key_of (f x) ≡ key_of x) → (x : Line) (ys : List Line) → map f (with_line p x ys) ≡ with_line p (f x) (map f ys)
unfolding with_line
changed-with p f keeps x [] = refl
changed-with p f keeps x (y ∷ ys) =
    changed-at p f x y ys (is_earlier p (key_of x) (key_of y)) (changed-with p f keeps x ys)
    ∙ (ap (λ k. cond (is_earlier p k (key_of y)) (f x ∷ f y ∷ map f ys) (f y ∷ with_line p (f x) (map f ys))) (sym (keeps x))
    ∙ ap (λ k. cond (is_earlier p (key_of (f x)) k) (f x ∷ f y ∷ map f ys) (f y ∷ with_line p (f x) (map f ys))) (sym (keeps y)))

pub changed-joined : (p : Params) (f : Line → Line) → ((x : Line) → key_of (f x) ≡ key_of x) → (xs ys : List Line) → map f (joined p xs ys) ≡ joined p (map f xs) (map f ys)
changed-joined p f keeps [] ys = refl
changed-joined p f keeps (x ∷ xs) ys = changed-with p f keeps x (joined p xs ys) ∙ ap (with_line p (f x)) (changed-joined p f keeps xs ys)

pub changed-merged : (p : Params) (f : Line → Line) → ((x : Line) → key_of (f x) ≡ key_of x) → (bs : List (List Line)) → map f (merged p bs) ≡ merged p (map (λ b. map f b) bs)
changed-merged p f keeps [] = refl
changed-merged p f keeps (b ∷ bs) = changed-joined p f keeps b (merged p bs) ∙ ap (joined p (map f b)) (changed-merged p f keeps bs)

-- two lines of visits that differ, put in one after the other
both-put : (p : Params) (x y : Line) (t : Bool) → is_earlier p (key_of x) (key_of y) ≡ t → same (key_of x) (key_of y) ≡ false → (zs : List Line)
    → cond t (x ∷ y ∷ zs) (y ∷ x ∷ zs) ≡ cond (is_earlier p (key_of y) (key_of x)) (y ∷ x ∷ zs) (x ∷ y ∷ zs)
both-put p x y true e apart zs = rw (is_earlier-asymmetric p (key_of x) (key_of y) e) refl
both-put p x y false e apart zs = rw (other_earlier p (key_of x) (key_of y) apart e) refl

-- a visit that comes before another that comes before a line
not-before : (p : Params) (x y z : Line) → is_earlier p (key_of x) (key_of z) ≡ true → is_earlier p (key_of y) (key_of z) ≡ false → is_earlier p (key_of y) (key_of x) ≡ false
not-before p x y z hx hy = at_test (is_earlier p (key_of y) (key_of x)) refl
  where
    at_test : (t : Bool) → is_earlier p (key_of y) (key_of x) ≡ t → is_earlier p (key_of y) (key_of x) ≡ false
    at_test false e = e
    at_test true e = absurd (both_ways (is_earlier p (key_of y) (key_of z)) hy (is_earlier-transitive p (key_of y) (key_of x) (key_of z) e hx))

both-at : (p : Params) (x y z : Line) (zs : List Line) (a b : Bool) → is_earlier p (key_of x) (key_of z) ≡ a → is_earlier p (key_of y) (key_of z) ≡ b → same (key_of x) (key_of y) ≡ false
    → with_line p x (with_line p y zs) ≡ with_line p y (with_line p x zs)
    → with_line p x (cond b (y ∷ z ∷ zs) (z ∷ with_line p y zs)) ≡ with_line p y (cond a (x ∷ z ∷ zs) (z ∷ with_line p x zs))
unfolding with_line
both-at p x y z zs true true hx hy apart r = rw (hx, hy) (both-put p x y (is_earlier p (key_of x) (key_of y)) refl apart (z ∷ zs))
both-at p x y z zs true false hx hy apart r = rw (hx, not-before p x y z hx hy) (rw hy refl)
both-at p x y z zs false true hx hy apart r = rw (hy, not-before p y x z hy hx) (rw hx refl)
both-at p x y z zs false false hx hy apart r = rw (hx, hy) (ap (λ us. z ∷ us) r)

pub both-with : (p : Params) (x y : Line) (zs : List Line) → same (key_of x) (key_of y) ≡ false → with_line p x (with_line p y zs) ≡ with_line p y (with_line p x zs)
unfolding with_line
both-with p x y [] apart = both-put p x y (is_earlier p (key_of x) (key_of y)) refl apart []
both-with p x y (z ∷ zs) apart = both-at p x y z zs (is_earlier p (key_of x) (key_of z)) (is_earlier p (key_of y) (key_of z)) refl refl apart (both-with p x y zs apart)

-- one more line in the lines below, and in the bucket
with-below : (p : Params) (x : Line) (xs ys : List Line) → AreApart (key_of x) xs → joined p xs (with_line p x ys) ≡ with_line p x (joined p xs ys)
with-below p x [] ys apart = refl
with-below p x (z ∷ xs) ys apart = ap (with_line p z) (with-below p x xs ys apart.1) ∙ sym (both-with p x z (joined p xs ys) apart.0)

with-bucket-at : (p : Params) (x z : Line) (xs ys : List Line) (t : Bool) → same (key_of x) (key_of z) ≡ false → joined p (with_line p x xs) ys ≡ with_line p x (joined p xs ys)
    → joined p (cond t (x ∷ z ∷ xs) (z ∷ with_line p x xs)) ys ≡ with_line p x (with_line p z (joined p xs ys))
with-bucket-at p x z xs ys true apart r = refl
with-bucket-at p x z xs ys false apart r = ap (with_line p z) r ∙ sym (both-with p x z (joined p xs ys) apart)

with-bucket : (p : Params) (x : Line) (xs ys : List Line) → AreApart (key_of x) xs → joined p (with_line p x xs) ys ≡ with_line p x (joined p xs ys)
unfolding with_line
with-bucket p x [] ys apart = refl
with-bucket p x (z ∷ xs) ys apart = with-bucket-at p x z xs ys (is_earlier p (key_of x) (key_of z)) apart.0 (with-bucket p x xs ys apart.1)

abbrev pub AllApart : Key → List (List Line) → Type 0
AllApart k bs = AllByRecursion (λ b. AreApart k b) bs

pub put-merged : (p : Params) (x : Line) (bs : List (List Line)) (i : ℕ) (b : List Line) → slice_get bs i ≡ Some b → AllApart (key_of x) bs
    → merged p (slice_set bs i (with_line p x b)) ≡ with_line p x (merged p bs)
put-merged p x [] i b e apart = absurd (cc)
put-merged p x (c ∷ bs) zero b e apart =
    let is : c ≡ b = cc in
    ap (λ zs. joined p (with_line p x zs) (merged p bs)) (sym is) ∙ with-bucket p x c (merged p bs) apart.0
put-merged p x (c ∷ bs) (suc i) b e apart =
    ap (joined p c) (put-merged p x bs i b e apart.1) ∙ with-below p x c (merged p bs) apart.0

-- lines of other buckets than number n
abbrev pub AreElse : Params → ℕ → List Line → Type 0
AreElse p n lines = AllByRecursion (λ x. bucket_of p (key_of x) ≢ n) lines

pub else-of : (p : Params) (n j : ℕ) (lines : List Line) → j ≢ n → AllByRecursion (λ x. bucket_of p (key_of x) ≡ j) lines → AreElse p n lines
else-of p n j lines ne h = all_implies (λ x. bucket_of p (key_of x) ≡ j) (λ x. bucket_of p (key_of x) ≢ n) (λ x is e. ne (sym is ∙ e)) lines h

pub apart-else : (p : Params) (k : Key) (lines : List Line) → AreElse p (bucket_of p k) lines → AreApart k lines
apart-else p k lines h =
    all_implies (λ x. bucket_of p (key_of x) ≢ bucket_of p k) (λ y. same k (key_of y) ≡ false) (λ x ne. not-same k (key_of x) (λ e. ne (ap (bucket_of p) (sym e)))) lines h
  where
    not-same : (a b : Key) → a ≢ b → same a b ≡ false
    not-same a b ne = at_test (same a b) refl
      where
        at_test : (t : Bool) → same a b ≡ t → same a b ≡ false
        at_test false e = e
        at_test true e = absurd (ne (same_is a b e))

apart-before : (p : Params) (k : Key) (lines : List Line) → IsBefore p k lines → AreApart k lines
apart-before p k lines h = all_implies (λ y. is_earlier p k (key_of y) ≡ true) (λ y. same k (key_of y) ≡ false) (λ y e. earlier_apart p k (key_of y) e) lines h

pub all-merged : (P : Line → Type 0) (p : Params) (bs : List (List Line)) → AllByRecursion (λ b. AllByRecursion P b) bs → AllByRecursion P (merged p bs)
all-merged P p [] h = tt
all-merged P p (b ∷ bs) h = all-joined P p b (merged p bs) h.0 (all-merged P p bs h.1)

-- the buckets from one on are others than those before
else-later : (p : Params) (n j : ℕ) (bs : List (List Line)) → n < j → AreBuckets p j bs → AllByRecursion (λ b. AreElse p n b) bs
else-later p n j [] low h = tt
else-later p n j (b ∷ bs) low h = (else-of p n j b (λ e. absurd (omega (arith, low, e))) h.1, else-later p n (suc j) bs (omega arith) h.2)

-- buckets can be put together
fits-bucket : (p : Params) (j : ℕ) (b ys : List Line) → IsWalk p b → AllByRecursion (λ x. bucket_of p (key_of x) ≡ j) b → IsWalk p ys → AreElse p j ys → Fit p b ys
fits-bucket p j [] ys w own wy others = wy
fits-bucket p j (x ∷ xs) ys w own wy others = (
  w.0,
  all-joined (λ y. same (key_of x) (key_of y) ≡ false) p xs ys (apart-before p (key_of x) xs w.1)
      (apart-else p (key_of x) ys (subst (λ n. AreElse p n ys) (sym own.0) others)),
  fits-bucket p j xs ys w.2 own.1 wy others,
)

pub all-fit : (p : Params) (j : ℕ) (bs : List (List Line)) → AreBuckets p j bs → AllFit p bs × IsWalk p (merged p bs)
all-fit p j [] h = (tt, tt)
all-fit p j (b ∷ bs) h =
    let rest = all-fit p (suc j) bs h.2 in
    let fit : Fit p b (merged p bs) = fits-bucket p j b (merged p bs) h.0 h.1 rest.1 (all-merged (λ x. bucket_of p (key_of x) ≢ j) p bs (else-later p j (suc j) bs (omega arith) h.2)) in
    ((fit, rest.0), walk-joined p b (merged p bs) fit)

-- a bucket put into nothing
joined-none : (p : Params) (b : List Line) → IsWalk p b → joined p b [] ≡ b
joined-none p [] w = refl
joined-none p (x ∷ xs) w = ap (with_line p x) (joined-none p xs w.2) ∙ with_line-back p x xs w.1

-- what leaves nothing of lines of other buckets leaves its own of all
none-else : (p : Params) (n : ℕ) (f : List Line → List Line) (bs : List (List Line)) → ((c : List Line) → AreElse p n c → f c ≡ []) → AllByRecursion (λ b. AreElse p n b) bs → merged p (map f bs) ≡ []
none-else p n f [] none h = refl
none-else p n f (b ∷ bs) none h = ap (λ c. joined p c (merged p (map f bs))) (none b h.0) ∙ none-else p n f bs none h.1

only-one : (p : Params) (n j i : ℕ) (f : List Line → List Line) (bs : List (List Line)) (b : List Line) → ((c : List Line) → AreElse p n c → f c ≡ []) → ((c : List Line) → IsWalk p c → IsWalk p (f c))
    → n ≡ j + i → slice_get bs i ≡ Some b → AreBuckets p j bs → merged p (map f bs) ≡ f b
only-one p n j i f [] b none walks is here h = absurd (cc)
only-one p n j zero f (c ∷ bs) b none walks is here h =
    let same_bucket : c ≡ b = cc in
    let rest : merged p (map f bs) ≡ [] = none-else p n f bs none (else-later p n (suc j) bs (omega (arith, is)) h.2) in
    ap (joined p (f c)) rest ∙ (joined-none p (f c) (walks c h.0) ∙ ap f same_bucket)
only-one p n j (suc i) f (c ∷ bs) b none walks is here h =
    ap (λ d. joined p d (merged p (map f bs))) (none c (else-of p n j c (λ e. absurd (omega (arith, is, e))) h.1))
    ∙ only-one p n (suc j) i f bs b none walks (omega (arith, is)) here h.2

-- what leaves lines of other buckets as they are changes one bucket
same-else : (p : Params) (n : ℕ) (f : List Line → List Line) (bs : List (List Line)) → ((c : List Line) → AreElse p n c → f c ≡ c) → AllByRecursion (λ b. AreElse p n b) bs → map f bs ≡ bs
same-else p n f [] keeps h = refl
same-else p n f (b ∷ bs) keeps h = ap (λ c. c ∷ map f bs) (keeps b h.0) ∙ ap (λ cs. b ∷ cs) (same-else p n f bs keeps h.1)

changed-one : (p : Params) (n j i : ℕ) (f : List Line → List Line) (bs : List (List Line)) (b : List Line) → ((c : List Line) → AreElse p n c → f c ≡ c) → n ≡ j + i → slice_get bs i ≡ Some b → AreBuckets p j bs
    → slice_set bs i (f b) ≡ map f bs
changed-one p n j i f [] b keeps is here h = refl
changed-one p n j zero f (c ∷ bs) b keeps is here h =
    let same_bucket : c ≡ b = cc in
    ap (λ d. f d ∷ bs) (sym same_bucket) ∙ ap (λ ds. f c ∷ ds) (sym (same-else p n f bs keeps (else-later p n (suc j) bs (omega (arith, is)) h.2)))
changed-one p n j (suc i) f (c ∷ bs) b keeps is here h =
    ap (λ ds. c ∷ ds) (changed-one p n (suc j) i f bs b keeps (omega (arith, is)) here h.2)
    ∙ ap (λ d. d ∷ map f bs) (sym (keeps c (else-of p n j c (λ e. absurd (omega (arith, is, e))) h.1)))

-- lines of which none passes a test, or is of a visit
pub none-pass : (test : Line → Bool) (lines : List Line) → AllByRecursion (λ x. test x ≡ false) lines → filter test lines ≡ []
none-pass test [] h = refl
none-pass test (x ∷ xs) h = rw h.0 (none-pass test xs h.1)

found-first : (test : Line → Bool) (lines : List Line) → find test lines ≡ slice_get (filter test lines) 0
found-first test [] = refl
found-first test (x ∷ xs) = elim (test x) as (λ t. cond t (Some x) (find test xs) ≡ slice_get (cond t (x ∷ filter test xs) (filter test xs)) 0) [ true ↦ refl | false ↦ found-first test xs ]

pub all-stay : (k : Key) (lines : List Line) → AreApart k lines → without k lines ≡ lines
unfolding without
all-stay k [] h = refl
all-stay k (x ∷ xs) h = rw h.0 (ap (λ ys. x ∷ ys) (all-stay k xs h.1))

pub none-marked : (k : Key) (flag : Flag) (lines : List Line) → AreApart k lines → with_mark k flag lines ≡ lines
unfolding with_mark
none-marked k flag [] h = refl
none-marked k flag (x ∷ xs) h = rw h.0 (ap (λ ys. x ∷ ys) (none-marked k flag xs h.1))

pub neq-test : (a b : ℕ) → a ≢ b → (a == b) ≡ false
neq-test a b ne = at_test (a == b) refl
  where
    at_test : (t : Bool) → (a == b) ≡ t → (a == b) ≡ false
    at_test false e = e
    at_test true e = absurd (ne (eqb-true a b e))

all-pass : (p : Params) (n : ℕ) (lines : List Line) → AllByRecursion (λ x. bucket_of p (key_of x) ≡ n) lines → filter (λ x. bucket_of p (key_of x) == n) lines ≡ lines
all-pass p n [] h = refl
all-pass p n (x ∷ xs) h = rw (eq-eqb (bucket_of p (key_of x)) n h.0) (ap (λ ys. x ∷ ys) (all-pass p n xs h.1))

pub own-lines : (p : Params) (j i : ℕ) (bs : List (List Line)) (b : List Line) → slice_get bs i ≡ Some b → AreBuckets p j bs → AllByRecursion (λ x. bucket_of p (key_of x) ≡ j + i) b
own-lines p j i [] b here h = absurd (cc)
own-lines p j zero (c ∷ bs) b here h =
    let same_bucket : c ≡ b = cc in
    let e : j ≡ j + 0 = omega arith in
    subst (λ n. AllByRecursion (λ x. bucket_of p (key_of x) ≡ n) b) e (subst (λ d. AllByRecursion (λ x. bucket_of p (key_of x) ≡ j) d) same_bucket h.1)
own-lines p j (suc i) (c ∷ bs) b here h =
    let e : suc j + i ≡ j + suc i = omega arith in
    subst (λ n. AllByRecursion (λ x. bucket_of p (key_of x) ≡ n) b) e (own-lines p (suc j) i bs b here h.2)

none-apart-at : (k : Key) (x : Line) (xs : List Line) (t : Bool) → is_at k x ≡ t → cond t (Some x) (line_at k xs) ≡ None → (line_at k xs ≡ None → AreApart k xs) → AreApart k (x ∷ xs)
none-apart-at k x xs true e none rest = absurd (cc)
none-apart-at k x xs false e none rest = (e, rest none)

pub none-apart : (k : Key) (lines : List Line) → line_at k lines ≡ None → AreApart k lines
unfolding line_at
none-apart k [] e = tt
none-apart k (x ∷ xs) e = none-apart-at k x xs (is_at k x) refl e (none-apart k xs)

module _ (p : Params) (bs : List (List Line)) (h : AreBuckets p 0 bs) where
  -- the lines of all buckets are a walk
  pub walk-merged : IsWalk p (merged p bs)
  walk-merged = (all-fit p 0 bs h).1

  -- a bucket has the lines that are of it
  pub bucket-lines : (i : ℕ) (b : List Line) → slice_get bs i ≡ Some b → b ≡ filter (λ x. bucket_of p (key_of x) == i) (merged p bs)
  bucket-lines i b here =
      let test : Line → Bool = λ x. bucket_of p (key_of x) == i in
      sym (some-merged p test bs (all-fit p 0 bs h).0
      ∙ (only-one p i 0 i (λ c. filter test c) bs b (λ c e. none-pass test c (all_implies (λ x. bucket_of p (key_of x) ≢ i) (λ x. test x ≡ false) (λ x ne. neq-test (bucket_of p (key_of x)) i ne) c e))
      (λ c w. walk_filter p test c w) (omega arith) here h ∙ all-pass p i b (let e : 0 + i ≡ i = omega arith in subst (λ n. AllByRecursion (λ x. bucket_of p (key_of x) ≡ n) b) e (own-lines p 0 i bs b here h))))

  module _ (k : Key) (i : ℕ) (b : List Line) (is : bucket_of p k ≡ i) (here : slice_get bs i ≡ Some b) where
    -- a visit's line is in its bucket
    pub line-merged : line_at k b ≡ line_at k (merged p bs)
    unfolding line_at
    line-merged =
        found-first (is_at k) b
        ∙ (ap (λ ys. slice_get ys 0) (sym (some-merged p (is_at k) bs (all-fit p 0 bs h).0 ∙ only-one p i 0 i (λ c. filter (is_at k) c) bs b (λ c e. none-pass (is_at k) c (apart-else p k c (subst (λ n. AreElse p n c) (sym is) e))) (λ c w. walk_filter p (is_at k) c w) (omega arith) here h))
        ∙ sym (found-first (is_at k) (merged p bs)))

    -- it leaves its bucket alone
    pub without-merged : merged p (slice_set bs i (without k b)) ≡ without k (merged p bs)
    unfolding without
    without-merged =
        ap (merged p) (changed-one p i 0 i (λ c. without k c) bs b (λ c e. all-stay k c (apart-else p k c (subst (λ n. AreElse p n c) (sym is) e))) (omega arith) here h)
        ∙ sym (some-merged p (λ x. not (is_at k x)) bs (all-fit p 0 bs h).0)

    -- and is marked in it
    pub mark-merged : (flag : Flag) → merged p (slice_set bs i (with_mark k flag b)) ≡ with_mark k flag (merged p bs)
    unfolding with_mark
    mark-merged flag =
        ap (merged p) (changed-one p i 0 i (λ c. with_mark k flag c) bs b (λ c e. none-marked k flag c (apart-else p k c (subst (λ n. AreElse p n c) (sym is) e))) (omega arith) here h)
        ∙ sym (changed-merged p (λ x. cond (is_at k x) (marked flag x) x)
        (λ x. elim (is_at k x) as (λ t. key_of (cond t (marked flag x) x) ≡ key_of x) [ true ↦ key_of-marked flag x | false ↦ refl ]) bs)

    -- a visit that its bucket does not have, no bucket has
    pub apart-all : line_at k b ≡ None → AllApart k bs
    apart-all none = apart-from 0 i bs (omega (arith, is)) here h
      where
        apart-from : (j m : ℕ) (cs : List (List Line)) → bucket_of p k ≡ j + m → slice_get cs m ≡ Some b → AreBuckets p j cs → AllApart k cs
        apart-from j m [] at there hs = absurd (cc)
        apart-from j zero (c ∷ cs) at there hs =
            let same_bucket : c ≡ b = cc in (
              subst (λ d. AreApart k d) (sym same_bucket) (none-apart k b none),
              all_implies (λ d. AreElse p (bucket_of p k) d) (λ d. AreApart k d) (λ d e. apart-else p k d e) cs (else-later p (bucket_of p k) (suc j) cs (omega (arith, at)) hs.2),
            )
        apart-from j (suc m) (c ∷ cs) at there hs = (
          apart-else p k c (else-of p (bucket_of p k) j c (λ e. absurd (omega (arith, at, e))) hs.1),
          apart-from (suc j) m cs (omega (arith, at)) there hs.2,
        )
