-- Lines in their order: which visits differ, and what the parts of a walk are.
use Rattle.std.proofs.Common.{◌≡◌, ◌==◌, ℕ, ◌<◌, zero, suc, Bool, true, false, cond, List, [], ◌∷◌, ◌++◌, length, get_or, map, not, refl, sym, subst, arith, eq-eqb}
use Rattle.std.specs.List.{AllByRecursion, filter}
use Rattle.std.proofs.lemmas.Bool.{and_parts, and_from, eqb-true, both_ways}
use Rattle.tiger_base.specs.declared.number.Instance.{Instance}
use Rattle.slot_plan.specs.declared.params.Params.{Params}
use Rattle.slot_plan.specs.Keys.{Key, IsKey, is_earlier}
use Rattle.slot_plan.proofs.Keys.{key_same, is_earlier-irreflexive, is_earlier-transitive, is_earlier-total}
use Rattle.partial_view.specs.declared.line.Line.{Line}
use Rattle.partial_view.specs.declared.line.Flag.{Flag}
use Rattle.partial_view.specs.declared.line.Flag.TheVariants.{Forwarded, Asked, Split}
use Rattle.partial_view.specs.Lines.{key_of, same, is_at, is_of, marked}
use Rattle.partial_view.specs.Views.{IsBefore, IsWalk, with_mark, without, without_instance}

-- visits that are one, and visits that are not
pub same_is : (a b : Key) → same a b ≡ true → a ≡ b
same_is a b h =
    let both = and_parts (a.0.0 == b.0.0) (a.1 == b.1) h in
    key_same a b (eqb-true _ _ both.0, eqb-true _ _ both.1)

pub same_itself : (a : Key) → same a a ≡ true
same_itself a = and_from (a.0.0 == a.0.0) (a.1 == a.1) (eq-eqb a.0.0 a.0.0 refl) (eq-eqb a.1 a.1 refl)

pub earlier_apart : (p : Params) (a b : Key) → is_earlier p a b ≡ true → same a b ≡ false
earlier_apart p a b h = cases (same a b) refl
  where
    cases : (t : Bool) → same a b ≡ t → same a b ≡ false
    cases false e = e
    cases true e =
        absurd (both_ways (is_earlier p b b) (is_earlier-irreflexive p b) (subst (λ (x : Key). is_earlier p x b ≡ true) (same_is a b e) h))

pub later_apart : (p : Params) (a b : Key) → is_earlier p a b ≡ true → same b a ≡ false
later_apart p a b h = cases (same b a) refl
  where
    cases : (t : Bool) → same b a ≡ t → same b a ≡ false
    cases false e = e
    cases true e =
        absurd (both_ways (is_earlier p a a) (is_earlier-irreflexive p a) (subst (λ (x : Key). is_earlier p a x ≡ true) (same_is b a e) h))

-- what is behind a visit that does not come before k does not either
pub behind_not : (p : Params) (a b k : Key) → is_earlier p a b ≡ true → is_earlier p a k ≡ false → is_earlier p b k ≡ false
behind_not p a b k h g = cases (is_earlier p b k) refl
  where
    cases : (t : Bool) → is_earlier p b k ≡ t → is_earlier p b k ≡ false
    cases false e = e
    cases true e = absurd (both_ways (is_earlier p a k) g (is_earlier-transitive p a b k h e))

-- of two visits that differ, one comes before the other
pub other_earlier : (p : Params) (a b : Key) → same a b ≡ false → is_earlier p a b ≡ false → is_earlier p b a ≡ true
other_earlier p a b h g = cases (is_earlier p b a) refl
  where
    cases : (t : Bool) → is_earlier p b a ≡ t → is_earlier p b a ≡ true
    cases true e = e
    cases false e =
        absurd (both_ways (same a b) h (subst (λ (x : Key). same a x ≡ true) (is_earlier-total p a b g e) (same_itself a)))

-- a fact of every element
pub all_implies : {X : Type 0} (P Q : X → Type 0) → ((x : X) → P x → Q x) → (xs : List X) → AllByRecursion P xs → AllByRecursion Q xs
all_implies P Q f [] h = tt
all_implies P Q f (x ∷ xs) h = (f x h.0, all_implies P Q f xs h.1)

pub all_append : {X : Type 0} (P : X → Type 0) (xs ys : List X) → AllByRecursion P xs → AllByRecursion P ys → AllByRecursion P (xs ++ ys)
all_append P [] ys h g = g
all_append P (x ∷ xs) ys h g = (h.0, all_append P xs ys h.1 g)

pub all_at : {X : Type 0} (P : X → Type 0) (xs : List X) (i : ℕ) (d : X) → AllByRecursion P xs → i < length xs → P (get_or xs i d)
all_at P [] i d h l = absurd (omega arith)
all_at P (x ∷ xs) zero d h l = h.0
all_at P (x ∷ xs) (suc i) d h l = all_at P xs i d h.1 (omega arith)

pub all_filter : {X : Type 0} (P : X → Type 0) (test : X → Bool) (xs : List X) → AllByRecursion P xs → AllByRecursion P (filter test xs)
all_filter P test [] h = tt
all_filter P test (x ∷ xs) h =
    elim (test x) as (λ t. AllByRecursion P (cond t (x ∷ filter test xs) (filter test xs))) [
      | true ↦ (h.0, all_filter P test xs h.1)
      | false ↦ all_filter P test xs h.1
    ]

pub all_put : {X : Type 0} (P : X → Type 0) (front : List X) (x : X) (back : List X) → AllByRecursion P (front ++ back) → P x → AllByRecursion P (front ++ x ∷ back)
all_put P [] x back h here = (here, h)
all_put P (y ∷ ys) x back h here = (h.0, all_put P ys x back h.1 here)

pub all_there : {X : Type 0} (P : X → Type 0) (front : List X) (x : X) (back : List X) → AllByRecursion P (front ++ x ∷ back) → P x
all_there P [] x back h = h.0
all_there P (y ∷ ys) x back h = all_there P ys x back h.1

-- the parts of a walk
pub walk_back : (p : Params) (front back : List Line) → IsWalk p (front ++ back) → IsWalk p back
walk_back p [] back w = w
walk_back p (y ∷ ys) back w = walk_back p ys back w.2

pub walk_later : (p : Params) (front : List Line) (x : Line) (back : List Line) → IsWalk p (front ++ x ∷ back) → IsBefore p (key_of x) back
walk_later p front x back w =
    let h : IsWalk p (x ∷ back) = walk_back p front (x ∷ back) w in
    h.1

pub walk_earlier : (p : Params) (front : List Line) (x : Line) (back : List Line) → IsWalk p (front ++ x ∷ back) → AllByRecursion (λ y. is_earlier p (key_of y) (key_of x) ≡ true) front
walk_earlier p [] x back w = tt
walk_earlier p (y ∷ ys) x back w =
    (all_there (λ z. is_earlier p (key_of y) (key_of z) ≡ true) ys x back w.1, walk_earlier p ys x back w.2)

-- what becomes of a walk where lines are taken out, one is put in, or a flag is set
pub walk_filter : (p : Params) (test : Line → Bool) (lines : List Line) → IsWalk p lines → IsWalk p (filter test lines)
walk_filter p test [] w = tt
walk_filter p test (x ∷ xs) w =
    elim (test x) as (λ t. IsWalk p (cond t (x ∷ filter test xs) (filter test xs))) [
      | true ↦ (w.0, all_filter (λ y. is_earlier p (key_of x) (key_of y) ≡ true) test xs w.1, walk_filter p test xs w.2)
      | false ↦ walk_filter p test xs w.2
    ]

pub walk_put : (p : Params) (front : List Line) (x : Line) (back : List Line) → IsWalk p (front ++ back) → IsKey p (key_of x)
    → AllByRecursion (λ y. is_earlier p (key_of y) (key_of x) ≡ true) front → IsBefore p (key_of x) back → IsWalk p (front ++ x ∷ back)
walk_put p [] x back w key earlier later = (key, later, w)
walk_put p (y ∷ ys) x back w key earlier later =
    (w.0, all_put (λ z. is_earlier p (key_of y) (key_of z) ≡ true) ys x back w.1 earlier.0, walk_put p ys x back w.2 key earlier.1 later)

pub before_map : (p : Params) (f : Line → Line) → ((x : Line) → key_of (f x) ≡ key_of x) → (k : Key) (lines : List Line) → IsBefore p k lines → IsBefore p k (map f lines)
before_map p f keeps k [] h = tt
before_map p f keeps k (x ∷ xs) h =
    (subst (λ (y : Key). is_earlier p k y ≡ true) (sym (keeps x)) h.0, before_map p f keeps k xs h.1)

pub walk_map : (p : Params) (f : Line → Line) → ((x : Line) → key_of (f x) ≡ key_of x) → (lines : List Line) → IsWalk p lines → IsWalk p (map f lines)
walk_map p f keeps [] w = tt
walk_map p f keeps (x ∷ xs) w =
    (subst (λ (y : Key). IsKey p y) (sym (keeps x)) w.0, subst (λ (y : Key). IsBefore p y (map f xs)) (sym (keeps x)) (before_map p f keeps (key_of x) xs w.1), walk_map p f keeps xs w.2)

pub key_of-marked : (flag : Flag) (x : Line) → key_of (marked flag x) ≡ key_of x
key_of-marked Forwarded x = refl
key_of-marked Asked x = refl
key_of-marked Split x = refl

pub walk_mark : (p : Params) (k : Key) (flag : Flag) (lines : List Line) → IsWalk p lines → IsWalk p (with_mark k flag lines)
unfolding with_mark
walk_mark p k flag lines w =
    walk_map p (λ x. cond (is_at k x) (marked flag x) x)
    (λ x. elim (is_at k x) as (λ t. key_of (cond t (marked flag x) x) ≡ key_of x) [ true ↦ key_of-marked flag x | false ↦ refl ])
    lines w

pub walk_without : (p : Params) (k : Key) (lines : List Line) → IsWalk p lines → IsWalk p (without k lines)
unfolding without
walk_without p k lines w = walk_filter p (λ x. not (is_at k x)) lines w

pub walk_without_instance : (p : Params) (v : Instance) (lines : List Line) → IsWalk p lines → IsWalk p (without_instance v lines)
unfolding without_instance
walk_without_instance p v lines w = walk_filter p (λ x. not (is_of v x)) lines w

-- what holds of each line, where a flag is set that keeps it
pub all_marked : (P : Line → Type 0) (k : Key) (flag : Flag) → ((x : Line) → P x → P (marked flag x)) → (lines : List Line) → AllByRecursion P lines → AllByRecursion P (with_mark k flag lines)
unfolding with_mark
all_marked P k flag keeps [] h = tt
all_marked P k flag keeps (x ∷ xs) h = (
  elim (is_at k x) as (λ t. P (cond t (marked flag x) x)) [ true ↦ keeps x h.0 | false ↦ h.0 ],
  all_marked P k flag keeps xs h.1,
)

-- what holds of each line, where lines are removed
pub all_without : (P : Line → Type 0) (k : Key) (lines : List Line) → AllByRecursion P lines → AllByRecursion P (without k lines)
unfolding without
all_without P k lines h = all_filter P (λ x. not (is_at k x)) lines h

pub all_without_instance : (P : Line → Type 0) (v : Instance) (lines : List Line) → AllByRecursion P lines → AllByRecursion P (without_instance v lines)
unfolding without_instance
all_without_instance P v lines h = all_filter P (λ x. not (is_of v x)) lines h
