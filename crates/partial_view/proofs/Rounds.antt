-- A wheel of which one bucket is changed, and what is seen of it then.
use Rattle.std.proofs.Common.{◌≡◌, ◌==◌, ℕ, ◌≢◌, ◌<◌, ◌≤◌, ◌+◌, ◌++◌, zero, suc, Bool, true, false, ◌⊎◌, inl, inr, take, option_map, min, List, [], ◌∷◌, length, get_or, Option, Some, None, Result, Ok, Err, OnOk, OnErr, IfSome, is_some, refl, sym, ap, subst, ◌∙◌, arith}
use Rattle.std.specs.List.{AllByRecursion, slice_get, slice_set}
use Rattle.std.proofs.lemmas.Bool.{both_ways}
use Rattle.tiger_base.specs.declared.tenancy.Rec.{Rec}
use Rattle.tiger_base.specs.declared.number.Instance.{Instance}
use Rattle.slot_plan.specs.declared.params.Params.{Params}
use Rattle.slot_plan.specs.Keys.{Key, IsKey, due_of}
use Rattle.partial_view.specs.declared.line.Line.{Line}
use Rattle.partial_view.specs.declared.line.Flag.{Flag}
use Rattle.partial_view.specs.declared.turn.Found.{Found}
use Rattle.partial_view.specs.declared.turn.Place.{Place}
use Rattle.partial_view.specs.declared.turn.Turn.{Turn}
use Rattle.partial_view.specs.Lines.{key_of, visit_of, unmarked, is_at, is_of}
use Rattle.partial_view.specs.Views.{Seen, IsWalk, line_at, without, with_mark, with_record, without_instance}
use Rattle.partial_view.specs.Wheel.{bucket_at, bucket_of, bucket_lines, joined, merged, AreBuckets, lines_of, all_lines, IsTurn, IsTurnOf, IsThere, IsWheel}
use Rattle.partial_view.specs.Work.{first_between, NoneBetween}
use Rattle.partial_view.proofs.Order.{same_is, key_of-marked, walk_mark, all_append, all_implies, all_marked, all_without, walk_without}
use Rattle.partial_view.proofs.Calls.{record_of, seen-with, with_record-known, with_record-new}
use Rattle.partial_view.proofs.Dues.{stands_at}
use Rattle.partial_view.proofs.Removals.{IsLeft}
use Rattle.partial_view.proofs.Turns.{found-passes, first-empty, first-in-turn, first-on, first-soon, none-in-turn, none-sooner}
use Rattle.partial_view.proofs.Merged.{AreApart, AreElse, apart-else, none-marked, all-stay, mark-merged, else-of, all-merged, none-pass, neq-test, all-with, walk-with, none-apart, own-lines, put-merged, apart-all, walk-merged, line-merged, without-merged, bucket-lines}

pub all-get : {X : Type 0} (P : X → Type 0) (xs : List X) (i : ℕ) (x : X) → AllByRecursion P xs → slice_get xs i ≡ Some x → P x
all-get P [] i x h e = absurd (cc)
all-get P (y ∷ ys) zero x h e = subst P (let same : y ≡ x = cc in same) h.0
all-get P (y ∷ ys) (suc i) x h e = all-get P ys i x h.1 e

all-set : {X : Type 0} (P : X → Type 0) (xs : List X) (i : ℕ) (x : X) → AllByRecursion P xs → P x → AllByRecursion P (slice_set xs i x)
all-set P [] i x h here = tt
all-set P (y ∷ ys) zero x h here = (here, h.1)
all-set P (y ∷ ys) (suc i) x h here = (h.0, all-set P ys i x h.1 here)

pub length-set : {X : Type 0} (xs : List X) (i : ℕ) (x : X) → length (slice_set xs i x) ≡ length xs
length-set [] i x = refl
length-set (y ∷ ys) zero x = refl
length-set (y ∷ ys) (suc i) x = ap suc (length-set ys i x)

set-same : {X : Type 0} (xs : List X) (i : ℕ) (x : X) → slice_get xs i ≡ Some x → slice_set xs i x ≡ xs
set-same [] i x e = refl
set-same (y ∷ ys) zero x e = ap (λ z. z ∷ ys) (let same : y ≡ x = cc in sym same)
set-same (y ∷ ys) (suc i) x e = ap (λ zs. y ∷ zs) (set-same ys i x e)

pub lines-get : (bs : List Seen) (i : ℕ) (b : Seen) → slice_get bs i ≡ Some b → slice_get (lines_of bs) i ≡ Some b.lines
lines-get [] i b e = absurd (cc)
lines-get (c ∷ cs) zero b e = ap (λ (s : Seen). Some s.lines) (let same : c ≡ b = cc in same)
lines-get (c ∷ cs) (suc i) b e = lines-get cs i b e

pub lines-set : (bs : List Seen) (i : ℕ) (b : Seen) → lines_of (slice_set bs i b) ≡ slice_set (lines_of bs) i b.lines
lines-set [] i b = refl
lines-set (c ∷ cs) zero b = refl
lines-set (c ∷ cs) (suc i) b = ap (λ zs. c.lines ∷ zs) (lines-set cs i b)

own-walk : (p : Params) (j i : ℕ) (bs : List (List Line)) (b : List Line) → slice_get bs i ≡ Some b → AreBuckets p j bs → IsWalk p b
own-walk p j i [] b e h = absurd (cc)
own-walk p j zero (c ∷ cs) b e h = subst (λ d. IsWalk p d) (let same : c ≡ b = cc in same) h.0
own-walk p j (suc i) (c ∷ cs) b e h = own-walk p (suc j) i cs b e h.2

buckets-set : (p : Params) (j i n : ℕ) (bs : List (List Line)) (b : List Line) → n ≡ j + i → IsWalk p b → AllByRecursion (λ x. bucket_of p (key_of x) ≡ n) b → AreBuckets p j bs → AreBuckets p j (slice_set bs i b)
buckets-set p j i n [] b is w own h = tt
buckets-set p j zero n (c ∷ cs) b is w own h = (w, subst (λ m. AllByRecursion (λ x. bucket_of p (key_of x) ≡ m) b) (let e : n ≡ j = omega (arith, is) in e) own, h.2)
buckets-set p j (suc i) n (c ∷ cs) b is w own h = (h.0, h.1, buckets-set p (suc j) i n cs b (omega (arith, is)) w own h.2)

-- a wheel with one bucket changed
pub wheel-set : (p : Params) (bs : List Seen) (i : ℕ) (b : Seen) → IsWheel p bs → b.params ≡ p → IsWalk p b.lines → AllByRecursion (λ x. bucket_of p (key_of x) ≡ i) b.lines → IsWheel p (slice_set bs i b)
wheel-set p bs i b h plan w own = record {
  count = omega (arith, length-set bs i b, h.count);
  plans = all-set (λ (s : Seen). s.params ≡ p) bs i b h.plans plan;
  own = subst (λ ls. AreBuckets p 0 ls) (sym (lines-set bs i b)) (buckets-set p 0 i i (lines_of bs) b.lines (omega arith) w own h.own);
}

-- what holds of the bucket of a visit
pub record IsBucket (p : Params) (bs : List Seen) (i : ℕ) (b : Seen) : Type 0 where
  pub plan : b.params ≡ p
  pub there : slice_get (lines_of bs) i ≡ Some b.lines
  pub walk : IsWalk p b.lines
  pub own : AllByRecursion (λ x. bucket_of p (key_of x) ≡ i) b.lines

pub bucket-at : (p : Params) (bs : List Seen) (i : ℕ) (b : Seen) → IsWheel p bs → slice_get bs i ≡ Some b → IsBucket p bs i b
bucket-at p bs i b h here = record {
  plan = all-get (λ (s : Seen). s.params ≡ p) bs i b h.plans here;
  there = lines-get bs i b here;
  walk = own-walk p 0 i (lines_of bs) b.lines (lines-get bs i b here) h.own;
  own = let e : 0 + i ≡ i = omega arith in subst (λ n. AllByRecursion (λ x. bucket_of p (key_of x) ≡ n) b.lines) e (own-lines p 0 i (lines_of bs) b.lines (lines-get bs i b here) h.own);
}

-- a record more in its bucket
record-at : (p : Params) (r : Rec) (bs : List (List Line)) (i : ℕ) (b : List Line) (o : Option Line) → AreBuckets p 0 bs → bucket_of p (visit_of r) ≡ i → slice_get bs i ≡ Some b → line_at (visit_of r) b ≡ o
    → merged p (slice_set bs i (with_record p r b)) ≡ with_record p r (merged p bs)
record-at p r bs i b (Some x) h is here e =
    ap (λ c. merged p (slice_set bs i c)) (with_record-known p r b x e)
    ∙ (ap (merged p) (set-same bs i b here) ∙ sym (with_record-known p r (merged p bs) x (sym (line-merged p bs h (visit_of r) i b is here) ∙ e)))
record-at p r bs i b None h is here e =
    ap (λ c. merged p (slice_set bs i c)) (with_record-new p r b e)
    ∙ (put-merged p (unmarked r) bs i b here (apart-all p bs h (visit_of r) i b is here e) ∙ sym (with_record-new p r (merged p bs) (sym (line-merged p bs h (visit_of r) i b is here) ∙ e)))

pub record-merged : (p : Params) (r : Rec) (bs : List (List Line)) (i : ℕ) (b : List Line) → AreBuckets p 0 bs → bucket_of p (visit_of r) ≡ i → slice_get bs i ≡ Some b
    → merged p (slice_set bs i (with_record p r b)) ≡ with_record p r (merged p bs)
record-merged p r bs i b h is here = record-at p r bs i b (line_at (visit_of r) b) h is here refl

record-kept : (p : Params) (r : Rec) (i : ℕ) (b : List Line) (o : Option Line) → line_at (visit_of r) b ≡ o → IsKey p (visit_of r) → bucket_of p (visit_of r) ≡ i → IsWalk p b
    → AllByRecursion (λ x. bucket_of p (key_of x) ≡ i) b → IsWalk p (with_record p r b) × AllByRecursion (λ x. bucket_of p (key_of x) ≡ i) (with_record p r b)
record-kept p r i b (Some x) e key is w own =
    subst (λ c. IsWalk p c × AllByRecursion (λ x. bucket_of p (key_of x) ≡ i) c) (sym (with_record-known p r b x e)) (w, own)
record-kept p r i b None e key is w own =
    subst (λ c. IsWalk p c × AllByRecursion (λ x. bucket_of p (key_of x) ≡ i) c) (sym (with_record-new p r b e))
    (walk-with p (unmarked r) b w key (none-apart (visit_of r) b e), all-with (λ x. bucket_of p (key_of x) ≡ i) p (unmarked r) b is own)

pub record-wheel : (p : Params) (r : Rec) (bs : List Seen) (i : ℕ) (b b' : Seen) → IsWheel p bs → IsBucket p bs i b → IsKey p (visit_of r) → bucket_of p (visit_of r) ≡ i
    → b' ≡ record_of b.params (with_record b.params r b.lines) → IsWheel p (slice_set bs i b')
record-wheel p r bs i b b' h at key is e =
    let now : b' ≡ record_of p (with_record p r b.lines) = e ∙ ap (λ q. record_of q (with_record q r b.lines)) at.plan in
    let kept = record-kept p r i b.lines (line_at (visit_of r) b.lines) refl key is at.walk at.own in
    subst (λ (c : Seen). IsWheel p (slice_set bs i c)) (sym now) (wheel-set p bs i (record_of p (with_record p r b.lines)) h refl kept.0 kept.1)

pub without-wheel : (p : Params) (k : Key) (bs : List Seen) (i : ℕ) (b b' : Seen) → IsWheel p bs → IsBucket p bs i b → b' ≡ record_of b.params (without k b.lines) → IsWheel p (slice_set bs i b')
without-wheel p k bs i b b' h at e =
    let now : b' ≡ record_of p (without k b.lines) = e ∙ ap (λ q. record_of q (without k b.lines)) at.plan in
    subst (λ (c : Seen). IsWheel p (slice_set bs i c)) (sym now)
    (wheel-set p bs i (record_of p (without k b.lines)) h refl (walk_without p k b.lines at.walk) (all_without (λ x. bucket_of p (key_of x) ≡ i) k b.lines at.own))

-- one bucket more, with no line
append-more : (p : Params) (j : ℕ) (cs : List (List Line)) → AreBuckets p j cs → AreBuckets p j (cs ++ [] ∷ [])
append-more p j [] h = (tt, tt, tt)
append-more p j (c ∷ cs) h = (h.0, h.1, append-more p (suc j) cs h.2)

merged-more : (p : Params) (cs : List (List Line)) → merged p (cs ++ [] ∷ []) ≡ merged p cs
merged-more p [] = refl
merged-more p (c ∷ cs) = ap (joined p c) (merged-more p cs)

lines-of-more : (bs : List Seen) (b : Seen) → lines_of (bs ++ b ∷ []) ≡ lines_of bs ++ b.lines ∷ []
lines-of-more [] b = refl
lines-of-more (c ∷ cs) b = ap (λ ls. c.lines ∷ ls) (lines-of-more cs b)

length-more : {X : Type 0} (xs : List X) (x : X) → length (xs ++ x ∷ []) ≡ suc (length xs)
length-more [] x = refl
length-more (y ∷ ys) x = ap suc (length-more ys x)

pub wheel-more : (p : Params) (bs : List Seen) (b : Seen) → IsWheel p bs → length bs < p.cubs → b ≡ record_of p [] → IsWheel p (bs ++ b ∷ [])
wheel-more p bs b h room e = record {
  count = omega (arith, length-more bs b, room);
  plans = all_append (λ (s : Seen). s.params ≡ p) bs (b ∷ []) h.plans (ap (λ (s : Seen). s.params) e, tt);
  own = subst (λ ls. AreBuckets p 0 ls) (sym (lines-of-more bs b ∙ ap (λ (s : Seen). lines_of bs ++ s.lines ∷ []) e)) (append-more p 0 (lines_of bs) h.own);
}

pub lines-more : (p : Params) (bs : List Seen) (b : Seen) → b ≡ record_of p [] → all_lines p (bs ++ b ∷ []) ≡ all_lines p bs
lines-more p bs b e = ap (merged p) (lines-of-more bs b ∙ ap (λ (s : Seen). lines_of bs ++ s.lines ∷ []) e) ∙ merged-more p (lines_of bs)

-- a bucket that is there has its lines of all
pub bucket-found : (p : Params) (bs : List Seen) (i : ℕ) (b : Seen) → IsWheel p bs → i < length bs → b ≡ get_or bs i b → (b.params ≡ p) × (b.lines ≡ bucket_lines p i (all_lines p bs))
bucket-found p bs i b h l e =
    let at = bucket-at p bs i b h (stands_at bs i b e l) in
    (at.plan, bucket-lines p (lines_of bs) h.own i b.lines at.there)

-- and one that is not there has none
else-all : (p : Params) (j i : ℕ) (cs : List (List Line)) → AreBuckets p j cs → j + length cs ≤ i → AllByRecursion (λ c. AreElse p i c) cs
else-all p j i [] h l = tt
else-all p j i (c ∷ cs) h l = (else-of p i j c (λ e. absurd (omega (arith, l, e))) h.1, else-all p (suc j) i cs h.2 (omega (arith, l)))

length-lines : (bs : List Seen) → length (lines_of bs) ≡ length bs
length-lines [] = refl
length-lines (b ∷ bs) = ap suc (length-lines bs)

pub else-past : (p : Params) (bs : List Seen) (i : ℕ) → IsWheel p bs → length bs ≤ i → AreElse p i (all_lines p bs)
else-past p bs i h l = all-merged (λ x. bucket_of p (key_of x) ≢ i) p (lines_of bs) (else-all p 0 i (lines_of bs) h.own (omega (arith, l, length-lines bs)))

pub bucket-missed : (p : Params) (bs : List Seen) (i : ℕ) → IsWheel p bs → length bs ≤ i → bucket_lines p i (all_lines p bs) ≡ []
bucket-missed p bs i h l =
    none-pass (λ x. bucket_of p (key_of x) == i) (all_lines p bs)
    (all_implies (λ x. bucket_of p (key_of x) ≢ i) (λ x. (bucket_of p (key_of x) == i) ≡ false) (λ x ne. neq-test (bucket_of p (key_of x)) i ne) (all_lines p bs) (else-past p bs i h l))

-- the lines of all buckets are a walk
pub walk-of : (p : Params) (bs : List Seen) → IsWheel p bs → IsWalk p (all_lines p bs)
walk-of p bs h = walk-merged p (lines_of bs) h.own

-- the bucket of a visit whose due time is at hand
pub bucket-is : (p : Params) (k : Key) {i d : ℕ} → i ≡ bucket_at p d → d ≡ due_of p k → bucket_of p k ≡ i
unfolding bucket_of
bucket-is p k {i} {d} e f = sym (e ∙ ap (bucket_at p) f)

-- a visit whose bucket is not there has no line
none-line : (k : Key) (lines : List Line) → AreApart k lines → line_at k lines ≡ None
unfolding line_at
none-line k [] h = refl
none-line k (x ∷ xs) h = rw h.0 (none-line k xs h.1)

module _ (p : Params) (bs : List Seen) (k : Key) {i : ℕ} (h : IsWheel p bs) (is : bucket_of p k ≡ i) (past : length bs ≤ i) where
  apart-past : AreApart k (all_lines p bs)
  apart-past = apart-else p k (all_lines p bs) (subst (λ n. AreElse p n (all_lines p bs)) (sym is) (else-past p bs i h past))

  pub line-past : line_at k (all_lines p bs) ≡ None
  line-past = none-line k (all_lines p bs) apart-past

-- what a change of the bucket of a visit is as a change of all lines
module _ (p : Params) (bs : List Seen) (i : ℕ) (b : Seen) (h : IsWheel p bs) (l : i < length bs) (e : b ≡ get_or bs i b) where
  here : slice_get bs i ≡ Some b
  here = stands_at bs i b e l

  at : IsBucket p bs i b
  at = bucket-at p bs i b h here

  pub line-in : (k : Key) → bucket_of p k ≡ i → line_at k b.lines ≡ line_at k (all_lines p bs)
  line-in k is = line-merged p (lines_of bs) h.own k i b.lines is at.there

  module _ (r : Rec) (b' : Seen) (is : bucket_of p (visit_of r) ≡ i) (e' : b' ≡ record_of b.params (with_record b.params r b.lines)) where
    now-added : b' ≡ record_of p (with_record p r b.lines)
    now-added = e' ∙ ap (λ q. record_of q (with_record q r b.lines)) at.plan

    pub add-wheel : IsKey p (visit_of r) → IsWheel p (slice_set bs i b')
    add-wheel key = record-wheel p r bs i b b' h at key is e'

    pub add-lines : all_lines p (slice_set bs i b') ≡ with_record p r (all_lines p bs)
    add-lines =
        ap (λ (c : Seen). all_lines p (slice_set bs i c)) now-added
        ∙ (ap (merged p) (lines-set bs i (record_of p (with_record p r b.lines))) ∙ record-merged p r (lines_of bs) i b.lines h.own is at.there)

  -- a record that may have been added, or not for want of memory
  module _ {T E : Type 0} (r : Rec) (b' : Seen) (is : bucket_of p (visit_of r) ≡ i) where
    pub tried-wheel : (o : Result T E) → IsKey p (visit_of r) → OnOk o (b' ≡ record_of b.params (with_record b.params r b.lines)) → OnErr o (b' ≡ b) → IsWheel p (slice_set bs i b')
    tried-wheel (Ok x) key ok err = add-wheel r b' is ok key
    tried-wheel (Err x) key ok err = subst (λ (c : Seen). IsWheel p (slice_set bs i c)) (sym err) (subst (λ (cs : List Seen). IsWheel p cs) (sym (set-same bs i b here)) h)

    pub tried-lines : (o : Result T E) → OnOk o (b' ≡ record_of b.params (with_record b.params r b.lines)) → OnOk o (all_lines p (slice_set bs i b') ≡ with_record p r (all_lines p bs))
    tried-lines (Ok x) ok = add-lines r b' is ok
    tried-lines (Err x) ok = ok

  module _ (k : Key) (flag : Flag) (b' : Seen) (is : bucket_of p k ≡ i) (e' : b' ≡ record_of b.params (with_mark k flag b.lines)) where
    now-marked : b' ≡ record_of p (with_mark k flag b.lines)
    now-marked = e' ∙ ap (λ q. record_of q (with_mark k flag b.lines)) at.plan

    pub mark-wheel : IsWheel p (slice_set bs i b')
    mark-wheel =
        subst (λ (c : Seen). IsWheel p (slice_set bs i c)) (sym now-marked)
        (wheel-set p bs i (record_of p (with_mark k flag b.lines)) h refl (walk_mark p k flag b.lines at.walk)
        (all_marked (λ x. bucket_of p (key_of x) ≡ i) k flag (λ x f. ap (bucket_of p) (key_of-marked flag x) ∙ f) b.lines at.own))

    pub mark-lines : all_lines p (slice_set bs i b') ≡ with_mark k flag (all_lines p bs)
    mark-lines =
        ap (λ (c : Seen). all_lines p (slice_set bs i c)) now-marked
        ∙ (ap (merged p) (lines-set bs i (record_of p (with_mark k flag b.lines))) ∙ mark-merged p (lines_of bs) h.own k i b.lines is at.there flag)

  module _ (k : Key) (b' : Seen) (is : bucket_of p k ≡ i) (e' : b' ≡ record_of b.params (without k b.lines)) where
    now-without : b' ≡ record_of p (without k b.lines)
    now-without = e' ∙ ap (λ q. record_of q (without k b.lines)) at.plan

    pub remove-wheel : IsWheel p (slice_set bs i b')
    remove-wheel = without-wheel p k bs i b b' h at e'

    pub remove-lines : all_lines p (slice_set bs i b') ≡ without k (all_lines p bs)
    remove-lines =
        ap (λ (c : Seen). all_lines p (slice_set bs i c)) now-without
        ∙ (ap (merged p) (lines-set bs i (record_of p (without k b.lines))) ∙ without-merged p (lines_of bs) h.own k i b.lines is at.there)

-- what is seen of a view after a change
pub seen-now : (p : Params) (lines now : List Line) {s : Seen} (f : Params → List Line → List Line) → record_of p lines ≡ s → now ≡ f p lines → record_of p now ≡ record_of s.params (f s.params s.lines)
seen-now p lines now {s} f v e = seen-with p lines now s f v e

-- what is seen of a view is a walk
pub walk-seen : (p : Params) (bs : List Seen) {s : Seen} → record_of p (all_lines p bs) ≡ s → IsWheel p bs → IsWalk s.params s.lines
walk-seen p bs v h = subst (λ (q : Seen). IsWalk q.params q.lines) v (walk-of p bs h)

-- what is seen of a wheel whose buckets are lent
pub seen-of : (p : Params) (bs cs : List Seen) {s : Seen} → record_of p (all_lines p bs) ≡ s → cs ≡ bs → record_of p (all_lines p cs) ≡ s
seen-of p bs cs v e = ap (λ (ds : List Seen). record_of p (all_lines p ds)) e ∙ v

pub due-is : (p : Params) {lines : List Line} (k : Key) {s : Seen} {due : ℕ} → record_of p lines ≡ s → due ≡ due_of s.params k → due ≡ due_of p k
due-is p k v e = e ∙ ap (λ (q : Seen). due_of q.params k) (sym v)

pub wheel-lent : (p : Params) (bs cs : List Seen) → cs ≡ bs → IsWheel p bs → IsWheel p cs
wheel-lent p bs cs e h = subst (λ (ds : List Seen). IsWheel p ds) (sym e) h

-- the line of a visit is of that visit
pub line-is : (k : Key) (lines : List Line) (x : Line) → line_at k lines ≡ Some x → key_of x ≡ k
unfolding line_at
line-is k lines x e = sym (same_is k (key_of x) (found-passes (is_at k) lines x e))

-- a visit that has no line is marked nowhere, and leaves nothing
pub mark-none : (k : Key) (flag : Flag) (lines : List Line) → None ≡ line_at k lines → with_mark k flag lines ≡ lines
mark-none k flag lines e = none-marked k flag lines (none-apart k lines (sym e))

pub without-none : (k : Key) (lines : List Line) → None ≡ line_at k lines → without k lines ≡ lines
without-none k lines e = all-stay k lines (none-apart k lines (sym e))

-- what is found in the bucket of a turn is what is found of all lines
pub first-there : (p : Params) (bs : List Seen) (b : Seen) (turn : Turn) (test : Line → Bool) (from to till : ℕ) → IsWheel p bs → turn.bucket < length bs → b ≡ get_or bs turn.bucket b → IsTurnOf p from turn → till ≡ min to turn.last
    → first_between b.params test from till b.lines ≡ first_between p test from (min to turn.last) (all_lines p bs)
first-there p bs b turn test from to till h l e of_turn is =
    let found = bucket-found p bs turn.bucket b h l e in
    ap (λ q. first_between q test from till b.lines) found.0
    ∙ (ap (λ n. first_between p test from n b.lines) is
    ∙ (ap (λ (ls : List Line). first_between p test from (min to turn.last) ls) found.1 ∙ first-in-turn p test turn from to (all_lines p bs) of_turn))

pub first-missed : (p : Params) (bs : List Seen) (turn : Turn) (test : Line → Bool) (from to : ℕ) → IsWheel p bs → length bs ≤ turn.bucket → IsTurnOf p from turn
    → None ≡ first_between p test from (min to turn.last) (all_lines p bs)
first-missed p bs turn test from to h l of_turn = first-empty p test from (min to turn.last) (bucket-missed p bs turn.bucket h l) ∙ first-in-turn p test turn from to (all_lines p bs) of_turn

-- the line that was found there
pub is-there : (p : Params) (bs : List Seen) (b : Seen) (found : Found) (turn : Turn) (row : ℕ) → IsWheel p bs → turn.bucket < length bs → b ≡ get_or bs turn.bucket b → found.place ≡ record { turn = turn; row = row }
    → slice_get b.lines row ≡ Some found.line → found.due ≡ due_of b.params (key_of found.line) → IsTurnOf p (due_of p (key_of found.line)) turn → IsThere p bs found
is-there p bs b found turn row h l e place line due of_turn =
    let is_due : found.due ≡ due_of p (key_of found.line) = due ∙ ap (λ q. due_of q (key_of found.line)) (bucket-found p bs turn.bucket b h l e).0 in
    record {
      bucket = b;
      at = ap (λ (q : Place). slice_get bs q.turn.bucket) place ∙ stands_at bs turn.bucket b e l;
      line = ap (λ (q : Place). slice_get b.lines q.row) place ∙ line;
      due = is_due;
      turn = subst (λ (q : Place). IsTurnOf p found.due q.turn) (sym place) (subst (λ n. IsTurnOf p n turn) (sym is_due) of_turn);
    }

get-inside : {X : Type 0} (xs : List X) (i : ℕ) (x : X) → slice_get xs i ≡ Some x → i < length xs
get-inside [] i x e = absurd (cc)
get-inside (y ∷ ys) zero x e = omega arith
get-inside (y ∷ ys) (suc i) x e = let l = get-inside ys i x e in omega (arith, l)

module _ (p : Params) (bs : List Seen) (found : Found) (h : IsWheel p bs) (t : IsThere p bs found) where
  pub there-inside : found.place.turn.bucket < length bs
  there-inside = get-inside bs found.place.turn.bucket t.bucket t.at

  module _ (b : Seen) (e : b ≡ get_or bs found.place.turn.bucket b) where
    one : t.bucket ≡ b
    one = let both : Some t.bucket ≡ Some b = sym t.at ∙ stands_at bs found.place.turn.bucket b e there-inside in cc

    there-line : slice_get b.lines found.place.row ≡ Some found.line
    there-line = subst (λ (c : Seen). slice_get c.lines found.place.row ≡ Some found.line) one t.line

    pub there-row : found.place.row < length b.lines
    there-row = get-inside b.lines found.place.row found.line there-line

    its-bucket : bucket_of p (key_of found.line) ≡ found.place.turn.bucket
    its-bucket =
        all-get (λ x. bucket_of p (key_of x) ≡ found.place.turn.bucket) b.lines found.place.row found.line
        (bucket-at p bs found.place.turn.bucket b h (stands_at bs found.place.turn.bucket b e there-inside)).own there-line

    -- it is marked, and taken out
    module _ (flag : Flag) (b' : Seen) (is : IfSome (slice_get b.lines found.place.row) (λ x. b' ≡ record_of b.params (with_mark (key_of x) flag b.lines))) where
      is-marked : b' ≡ record_of b.params (with_mark (key_of found.line) flag b.lines)
      is-marked = subst (λ (o : Option Line). IfSome o (λ x. b' ≡ record_of b.params (with_mark (key_of x) flag b.lines))) there-line is

      pub there-marked : IsWheel p (slice_set bs found.place.turn.bucket b')
      there-marked = mark-wheel p bs found.place.turn.bucket b h there-inside e (key_of found.line) flag b' its-bucket is-marked

      pub there-marks : all_lines p (slice_set bs found.place.turn.bucket b') ≡ with_mark (key_of found.line) flag (all_lines p bs)
      there-marks = mark-lines p bs found.place.turn.bucket b h there-inside e (key_of found.line) flag b' its-bucket is-marked

    module _ (b' : Seen) (is : IfSome (slice_get b.lines found.place.row) (λ x. b' ≡ record_of b.params (without (key_of x) b.lines))) where
      is-taken : b' ≡ record_of b.params (without (key_of found.line) b.lines)
      is-taken = subst (λ (o : Option Line). IfSome o (λ x. b' ≡ record_of b.params (without (key_of x) b.lines))) there-line is

      pub there-taken : IsWheel p (slice_set bs found.place.turn.bucket b')
      there-taken = remove-wheel p bs found.place.turn.bucket b h there-inside e (key_of found.line) b' its-bucket is-taken

      pub there-left : all_lines p (slice_set bs found.place.turn.bucket b') ≡ without (key_of found.line) (all_lines p bs)
      there-left = remove-lines p bs found.place.turn.bucket b h there-inside e (key_of found.line) b' its-bucket is-taken

-- before the next line of a turn's bucket, or the end of the turn, no line is due
pub turn-next : (p : Params) (bs : List Seen) (b : Seen) (turn : Turn) (time next soon : ℕ) → IsWheel p bs → turn.bucket < length bs → b ≡ get_or bs turn.bucket b → IsTurnOf p time turn → soon ≤ turn.last + 1 → soon ≤ next
    → NoneBetween b.params time next b.lines → NoneBetween p time soon (all_lines p bs)
turn-next p bs b turn time next soon h l e of_turn le by none =
    let found = bucket-found p bs turn.bucket b h l e in
    none-in-turn p turn time soon (all_lines p bs) of_turn le
    (none-sooner p time next soon (bucket_lines p turn.bucket (all_lines p bs)) by
    (subst (λ (ls : List Line). NoneBetween p time next ls) found.1 (subst (λ q. NoneBetween q time next b.lines) found.0 none)))

pub turn-none : (p : Params) (bs : List Seen) (turn : Turn) (time soon : ℕ) → IsWheel p bs → length bs ≤ turn.bucket → IsTurnOf p time turn → soon ≤ turn.last + 1 → NoneBetween p time soon (all_lines p bs)
turn-none p bs turn time soon h l of_turn le =
    none-in-turn p turn time soon (all_lines p bs) of_turn le (subst (λ (ls : List Line). NoneBetween p time soon ls) (sym (bucket-missed p bs turn.bucket h l)) tt)

pub none-seen : (p : Params) (lines : List Line) (time next : ℕ) {s : Seen} → record_of p lines ≡ s → NoneBetween p time next lines → NoneBetween s.params time next s.lines
none-seen p lines time next v h = subst (λ (q : Seen). NoneBetween q.params time next q.lines) v h

-- a search from turn to turn ends with what it found, or if no later line is due by the time
pub first-done : (p : Params) (test : Line → Bool) (from start last to : ℕ) (lines : List Line) (o : Option Found) {b : Bool} → IsWalk p lines → first_between p test start to lines ≡ first_between p test from to lines
    → option_map (λ (f : Found). f.line) o ≡ first_between p test start (min to last) lines → b ≡ is_some o → (b ≡ true) ⊎ ((b ≡ false) × (to ≤ last)) → option_map (λ (f : Found). f.line) o ≡ first_between p test from to lines
first-done p test from start last to lines (Some f) w same e is either = sym (first-soon p test start (min to last) to f.line lines (omega arith) w (sym e)) ∙ same
first-done p test from start last to lines None w same e is (inl found) = absurd (both_ways _ is found)
first-done p test from start last to lines None w same e is (inr all) =
    let whole : min to last ≡ to = let le = all.1 in omega (arith, le) in
    e ∙ (ap (λ n. first_between p test start n lines) whole ∙ same)

-- and goes on behind the turn if it found none
pub first-next : (p : Params) (test : Line → Bool) (from start last to : ℕ) (lines : List Line) (o : Option Found) {b : Bool} → first_between p test start to lines ≡ first_between p test from to lines
    → option_map (λ (f : Found). f.line) o ≡ first_between p test start (min to last) lines → b ≡ is_some o → b ≡ false → start ≤ last → last < to → first_between p test (last + 1) to lines ≡ first_between p test from to lines
first-next p test from start last to lines None same e is not_found le more = first-on p test start last to lines le (sym e) more ∙ same
first-next p test from start last to lines (Some f) same e is not_found le more = absurd (both_ways _ (sym is ∙ not_found) refl)

-- what is found of the buckets that are lent is found of the wheel's own
pub there-own : (p : Params) (bs cs : List Seen) (found : Found) → cs ≡ bs → IsThere p cs found → IsThere p bs found
there-own p bs cs found e t = subst (λ (ds : List Seen). IsThere p ds found) e t

pub line-own : (p : Params) (bs cs : List Seen) (k : Key) {o : Option Line} → cs ≡ bs → o ≡ line_at k (all_lines p cs) → o ≡ line_at k (all_lines p bs)
line-own p bs cs k e f = f ∙ ap (λ (ds : List Seen). line_at k (all_lines p ds)) e

-- a turn of a wheel's plan is one of the plan that is seen, and back
pub turn-inside : (p : Params) {lines : List Line} (turn : Turn) {s : Seen} → record_of p lines ≡ s → IsTurn s.params turn → IsTurn p turn
turn-inside p turn v h = subst (λ (q : Seen). IsTurn q.params turn) (sym v) h

pub turn-seen : (p : Params) {lines : List Line} (time : ℕ) (turn : Turn) {s : Seen} → record_of p lines ≡ s → IsTurnOf p time turn → IsTurnOf s.params time turn
turn-seen p time turn v h = subst (λ (q : Seen). IsTurnOf q.params time turn) v h

-- no line of the first buckets is due from one time to another
abbrev pub AreNone : ℕ → ℕ → List Seen → Type 0
AreNone time next bs = AllByRecursion (λ (b : Seen). NoneBetween b.params time next b.lines) bs

all-sooner : (time next soon : ℕ) (bs : List Seen) → soon ≤ next → AreNone time next bs → AreNone time soon bs
all-sooner time next soon bs le h = all_implies (λ (b : Seen). NoneBetween b.params time next b.lines) (λ (b : Seen). NoneBetween b.params time soon b.lines) (λ b f. none-sooner b.params time next soon b.lines le f) bs h

none-more : (time next : ℕ) (bs : List Seen) (i : ℕ) (b : Seen) → AreNone time next (take i bs) → i < length bs → b ≡ get_or bs i b → NoneBetween b.params time next b.lines → AreNone time next (take (suc i) bs)
none-more time next [] i b h l e here = absurd (omega arith)
none-more time next (c ∷ cs) zero b h l e here = (subst (λ (d : Seen). NoneBetween d.params time next d.lines) e here, tt)
none-more time next (c ∷ cs) (suc i) b h l e here = (h.0, none-more time next cs i b h.1 (omega arith) e here)

pub none-next : (time least next soon : ℕ) (bs : List Seen) (i : ℕ) (b : Seen) → AreNone time least (take i bs) → i < length bs → b ≡ get_or bs i b → NoneBetween b.params time next b.lines → soon ≡ min least next → AreNone time soon (take (i + 1) bs)
none-next time least next soon bs i b h l e here is =
    let more : suc i ≡ i + 1 = omega arith in
    subst (λ n. AreNone time soon (take n bs)) more
    (none-more time soon bs i b (all-sooner time least soon (take i bs) (omega (arith, is)) h) l e (none-sooner b.params time next soon b.lines (omega (arith, is)) here))

all-taken : (time next : ℕ) (bs : List Seen) (i : ℕ) → length bs ≤ i → AreNone time next (take i bs) → AreNone time next bs
all-taken time next [] i l h = tt
all-taken time next (c ∷ cs) zero l h = absurd (omega arith)
all-taken time next (c ∷ cs) (suc i) l h = (h.0, all-taken time next cs i (omega arith) h.1)

pub none-all : (p : Params) (time next : ℕ) (bs : List Seen) (i : ℕ) → IsWheel p bs → length bs ≤ i → AreNone time next (take i bs) → NoneBetween p time next (all_lines p bs)
none-all p time next bs i h l none =
    all-merged (λ x. time ≤ due_of p (key_of x) → next ≤ due_of p (key_of x)) p (lines_of bs) (each bs h.plans (all-taken time next bs i l none))
  where
    each : (cs : List Seen) → AllByRecursion (λ (b : Seen). b.params ≡ p) cs → AreNone time next cs → AllByRecursion (λ b. NoneBetween p time next b) (lines_of cs)
    each [] plans f = tt
    each (c ∷ cs) plans f = (subst (λ q. NoneBetween q time next c.lines) plans.0 f.0, each cs plans.1 f.1)

-- what is seen of a wheel after a call that may have changed it
pub seen-ok : {T E : Type 0} (p : Params) (lines now : List Line) {s : Seen} (f : Params → List Line → List Line) (o : Result T E) → record_of p lines ≡ s → OnOk o (now ≡ f p lines) → OnOk o (record_of p now ≡ record_of s.params (f s.params s.lines))
seen-ok p lines now f (Ok x) v e = seen-now p lines now f v e
seen-ok p lines now f (Err x) v e = e

-- lines that are left when those of an instance are gone
pub left-seen : (v : Instance) (s now : Seen) (count i : ℕ) → now.params ≡ s.params → i ≤ 0 → IsLeft (is_of v) s.lines now.lines count i → now ≡ record_of s.params (without_instance v s.lines)
unfolding without_instance
left-seen v s now count zero same le h = ap (λ (q : Params). record_of q now.lines) same ∙ ap (λ ls. record_of s.params ls) h.rest
left-seen v s now count (suc i) same le h = absurd (omega arith)
