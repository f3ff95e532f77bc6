-- What a set of numbers in groups has after a change.
use Rattle.std.proofs.Common.{◌≡◌, ℕ, ◌+◌, nat_le, arith, Bool, true, false, not, ◌&&◌, ◌||◌, ◌==◌, cond, List, [], ◌∷◌, filter, length, Option, Some, None, is_some, Bor, refl, sym, ap, ◌∙◌}
use Rattle.std.specs.declared.ops.Bound.TheVariants.{Included, Excluded}
use Rattle.std.specs.BTreeMap.Range.{range_contains}
use Rattle.std.specs.List.{list_any}
use Rattle.std.specs.Map.Iter.{TakesFirst, deref}
use Rattle.std.specs.Ordering.{is_eq, is_le, nat_cmp, ordering_then}
use Rattle.std.proofs.lemmas.Bool.{eqb-true, false≢true}
use Rattle.slot_plan.specs.declared.params.Params.{Params}
use Rattle.audit_frame.specs.Tables.{has_pair}
use Rattle.audit_frame.proofs.Added.{or_false, turned}
use Rattle.audit_frame.proofs.Keyed.{and_not, filter_alike, le_then, le_is, least_number, one_between}
use Rattle.audit_frame.proofs.Tabled.{both_same}
use Rattle.audit_waits.specs.Starts.{cub_for}

-- ---- lists

pub any_alike : {X : Type 0} (f g : X → Bool) (xs : List X) → ((x : X) → f x ≡ g x) → list_any f xs ≡ list_any g xs
any_alike f g [] h = refl
any_alike {X} f g (x ∷ xs) h = ap (λ (b : Bool). b || list_any f xs) (h x) ∙ ap (λ (b : Bool). g x || b) (any_alike f g xs h)

pub any_of_filter : {X : Type 0} (f keep : X → Bool) (xs : List X) → list_any f (filter keep xs) ≡ list_any (λ x. keep x && f x) xs
any_of_filter f keep [] = refl
any_of_filter {X} f keep (x ∷ xs) = go (keep x) (any_of_filter f keep xs) where
  go : (b : Bool) → list_any f (filter keep xs) ≡ list_any (λ x. keep x && f x) xs
      → list_any f (cond b (x ∷ filter keep xs) (filter keep xs)) ≡ ((b && f x) || list_any (λ x. keep x && f x) xs)
  go true e = ap (λ (b : Bool). f x || b) e
  go false e = e

distributes : (a b t u : Bool) → ((a && (t && b)) || (a && (u && b))) ≡ (a && ((t || u) && b))
distributes false b t u = refl
distributes true b true u = absorbed b u where
  absorbed : (c v : Bool) → (c || (v && c)) ≡ c
  absorbed true v = refl
  absorbed false true = refl
  absorbed false false = refl
distributes true b false u = refl

nowhere : (a b : Bool) → false ≡ (a && (false && b))
nowhere true b = refl
nowhere false b = refl

pub any_times : {X : Type 0} (test : X → Bool) (a b : Bool) (xs : List X) → list_any (λ x. a && (test x && b)) xs ≡ (a && (list_any test xs && b))
any_times test a b [] = nowhere a b
any_times {X} test a b (x ∷ xs) =
    ap (λ (c : Bool). (a && (test x && b)) || c) (any_times test a b xs)
    ∙ distributes a b (test x) (list_any test xs)

pub nothing_in : {X : Type 0} (xs : List X) → length xs ≡ 0 → xs ≡ []
nothing_in [] e = refl
nothing_in (x ∷ xs) e = absurd (omega (arith, e))

-- what is first of the elements that pass a test
none_pass : {X : Type 0} (test : X → Bool) (xs : List X) → filter test xs ≡ [] → list_any test xs ≡ false
none_pass test [] e = refl
none_pass {X} test (x ∷ xs) e = go (test x) e (none_pass test xs) where
  is_empty : List X → Bool
  is_empty [] = true
  is_empty (y ∷ ys) = false

  go : (b : Bool) → cond b (x ∷ filter test xs) (filter test xs) ≡ [] → (filter test xs ≡ [] → list_any test xs ≡ false)
      → (b || list_any test xs) ≡ false
  go true n f = absurd (false≢true (ap is_empty n))
  go false n f = f n

one_passes : {X : Type 0} (test : X → Bool) (xs : List X) (y : X) (ys : List X) → filter test xs ≡ y ∷ ys → list_any test xs ≡ true
one_passes {X} test [] y ys e = absurd (false≢true (sym (ap is_empty e))) where
  is_empty : List X → Bool
  is_empty [] = true
  is_empty (z ∷ zs) = false
one_passes {X} test (x ∷ xs) y ys e = go (test x) e (one_passes test xs y ys) where
  go : (b : Bool) → cond b (x ∷ filter test xs) (filter test xs) ≡ y ∷ ys → (filter test xs ≡ y ∷ ys → list_any test xs ≡ true)
      → (b || list_any test xs) ≡ true
  go true n f = refl
  go false n f = f n

pub first_tells : {X : Type 0} (test : X → Bool) (o : Option (Bor X)) (r : Bool) (part rest all : List X) → r ≡ is_some o
    → TakesFirst deref part o rest → part ≡ filter test all → r ≡ list_any test all
first_tells test None r part rest all e takes is = e ∙ sym (none_pass test all (sym is ∙ takes.0))
first_tells test (Some x) r part rest all e takes is = e ∙ sym (one_passes test all _ rest (sym is ∙ takes))

-- ---- pairs

-- a number leaves a group
pub pair_left : (group number g n : ℕ) (old mid new : List (ℕ × ℕ)) → mid ≡ old
    → has_pair g n new ≡ cond (is_eq (ordering_then (nat_cmp group g) (nat_cmp number n))) false (has_pair g n mid)
    → has_pair g n new ≡ (has_pair g n old && not ((group == g) && (number == n)))
pair_left group number g n old mid new view e =
    e ∙ ap (λ (b : Bool). cond b false (has_pair g n mid)) (both_same group number g n)
    ∙ and_not ((group == g) && (number == n)) (has_pair g n mid)
    ∙ ap (λ (rows : List (ℕ × ℕ)). has_pair g n rows && not ((group == g) && (number == n))) view

-- whether a number leaves a group by a pair
abbrev pub leaves_pair : ℕ → ℕ → ℕ → ℕ × ℕ → Bool
leaves_pair number g n k = (k.1 == g) && (number == n)

one_leaves : (number g n : ℕ) (k : ℕ × ℕ) → ((k.0 == number) && leaves_pair number g n k)
    ≡ ((number == n) && (is_eq (ordering_then (nat_cmp number k.0) (nat_cmp g k.1)) && true))
one_leaves number g n k =
    moved (k.0 == number) (k.1 == g) (number == n)
    ∙ ap (λ (b : Bool). (number == n) && ((b && (k.1 == g)) && true)) (turned k.0 number)
    ∙ ap (λ (b : Bool). (number == n) && (((number == k.0) && b) && true)) (turned k.1 g)
    ∙ ap (λ (b : Bool). (number == n) && (b && true)) (sym (both_same number g k.0 k.1))
  where
    moved : (x y a : Bool) → (x && (y && a)) ≡ (a && ((x && y) && true))
    moved true true true = refl
    moved true true false = refl
    moved true false true = refl
    moved true false false = refl
    moved false y true = refl
    moved false y false = refl

pub all_leave : (number g n : ℕ) (groups : List (ℕ × ℕ))
    → list_any (leaves_pair number g n) (filter (λ k. k.0 == number) groups) ≡ ((number == n) && has_pair number g groups)
all_leave number g n groups =
    any_of_filter (leaves_pair number g n) (λ k. k.0 == number) groups
    ∙ any_alike _ _ groups (one_leaves number g n)
    ∙ any_times (λ k. is_eq (ordering_then (nat_cmp number k.0) (nat_cmp g k.1))) (number == n) true groups
    ∙ ap (λ (b : Bool). (number == n) && b) (with_true (has_pair number g groups))
  where
    with_true : (b : Bool) → (b && true) ≡ b
    with_true true = refl
    with_true false = refl

-- by one pair of those that are left
pub one_left : (number g n : ℕ) (k : ℕ × ℕ) (rest left : List (ℕ × ℕ)) (was is all : Bool) → left ≡ k ∷ rest
    → is ≡ (was && not (leaves_pair number g n k)) → (was && not (list_any (leaves_pair number g n) left)) ≡ all
    → (is && not (list_any (leaves_pair number g n) rest)) ≡ all
one_left number g n k rest left was is all first one before =
    ap (λ (b : Bool). b && not (list_any (leaves_pair number g n) rest)) one
    ∙ regroup was (leaves_pair number g n k) (list_any (leaves_pair number g n) rest)
    ∙ ap (λ (ks : List (ℕ × ℕ)). was && not (list_any (leaves_pair number g n) ks)) (sym first) ∙ before
  where
    regroup : (a b c : Bool) → ((a && not b) && not c) ≡ (a && not (b || c))
    regroup true true c = refl
    regroup true false c = refl
    regroup false b c = refl

-- by no pair any more
pub none_left : (number g n : ℕ) (left : List (ℕ × ℕ)) (was all : Bool) → left ≡ []
    → (was && not (list_any (leaves_pair number g n) left)) ≡ all → was ≡ all
none_left number g n left was all none e =
    whole was ∙ ap (λ (ks : List (ℕ × ℕ)). was && not (list_any (leaves_pair number g n) ks)) (sym none) ∙ e
  where
    whole : (b : Bool) → b ≡ (b && true)
    whole true = refl
    whole false = refl

-- ---- a group

pub in_group : (v : ℕ) (k : ℕ × ℕ)
    → range_contains (λ a b. ordering_then (nat_cmp a.0 b.0) (nat_cmp a.1 b.1)) (Included (v, 0)) (Excluded (v + 1, 0)) k ≡ (k.0 == v)
in_group v k =
    ap (λ (b : Bool). b && not (is_le (ordering_then (nat_cmp (v + 1) k.0) (nat_cmp 0 k.1)))) (from_lowest v)
    ∙ ap (λ (b : Bool). nat_le v k.0 && not b) (from_lowest (v + 1))
    ∙ one_between v k.0
  where
    from_lowest : (g : ℕ) → is_le (ordering_then (nat_cmp g k.0) (nat_cmp 0 k.1)) ≡ nat_le g k.0
    from_lowest g = le_then (nat_cmp g k.0) (nat_cmp 0 k.1) (least_number k.1) ∙ le_is g k.0

pub group_between : (v : ℕ) (lo hi : ℕ × ℕ) (keys all : List (ℕ × ℕ)) → lo ≡ (v, 0) → hi ≡ (v + 1, 0) → keys ≡ all
    → filter (range_contains (λ a b. ordering_then (nat_cmp a.0 b.0) (nat_cmp a.1 b.1)) (Included lo) (Excluded hi)) keys
    ≡ filter (λ k. k.0 == v) all
group_between v lo hi keys all is_lo is_hi view =
    rw (is_lo, is_hi, view) (filter_alike _ (λ k. k.0 == v) all (in_group v))

-- ---- an instance is let in at its disks

-- whether a pair is of a disk of the instance at which it is let in
abbrev pub lets_pair : Params → Bool → ℕ → ℕ → ℕ → ℕ → ℕ × ℕ → Bool
lets_pair p redundant node v d n k = (v == n) && ((k.1 == d) && (node == cub_for p redundant k.1))

one_pair : (p : Params) (redundant : Bool) (node v d n : ℕ) (k : ℕ × ℕ)
    → ((k.0 == v) && lets_pair p redundant node v d n k)
    ≡ ((v == n) && (is_eq (ordering_then (nat_cmp n k.0) (nat_cmp d k.1)) && (node == cub_for p redundant d)))
one_pair p redundant node v d n k =
    go (v == n) (k.1 == d) refl refl
    ∙ ap (λ (b : Bool). (v == n) && (b && (node == cub_for p redundant d))) (sym (both_same n d k.0 k.1))
  where
    go : (a c : Bool) → (v == n) ≡ a → (k.1 == d) ≡ c
        → ((k.0 == v) && (a && (c && (node == cub_for p redundant k.1)))) ≡ (a && (((n == k.0) && (d == k.1)) && (node == cub_for p redundant d)))
    go false c e f = none (k.0 == v)
      where
        none : (b : Bool) → (b && false) ≡ false
        none true = refl
        none false = refl
    go true true e f =
        ap (λ (i : ℕ). (k.0 == i) && (node == cub_for p redundant k.1)) (eqb-true v n e)
        ∙ ap (λ (i : ℕ). (k.0 == n) && (node == cub_for p redundant i)) (eqb-true k.1 d f)
        ∙ ap (λ (b : Bool). b && (node == cub_for p redundant d)) (turned k.0 n)
        ∙ ap (λ (b : Bool). b && (node == cub_for p redundant d)) (sym (with_true (n == k.0)))
        ∙ ap (λ (b : Bool). ((n == k.0) && b) && (node == cub_for p redundant d)) (sym f ∙ turned k.1 d)
      where
        with_true : (b : Bool) → (b && true) ≡ b
        with_true true = refl
        with_true false = refl
    go true false e f =
        none (k.0 == v)
        ∙ ap (λ (b : Bool). b && (node == cub_for p redundant d)) (sym (none (n == k.0)))
        ∙ ap (λ (b : Bool). ((n == k.0) && b) && (node == cub_for p redundant d)) (sym f ∙ turned k.1 d)
      where
        none : (b : Bool) → (b && false) ≡ false
        none true = refl
        none false = refl

pub all_pairs : (p : Params) (redundant : Bool) (node v d n : ℕ) (disks : List (ℕ × ℕ))
    → list_any (lets_pair p redundant node v d n) (filter (λ k. k.0 == v) disks)
    ≡ ((v == n) && (has_pair n d disks && (node == cub_for p redundant d)))
all_pairs p redundant node v d n disks =
    any_of_filter (lets_pair p redundant node v d n) (λ k. k.0 == v) disks
    ∙ any_alike _ _ disks (one_pair p redundant node v d n)
    ∙ any_times (λ k. is_eq (ordering_then (nat_cmp n k.0) (nat_cmp d k.1))) (v == n) (node == cub_for p redundant d) disks

-- one pair of those that are left
pub pair_let_in : (p : Params) (redundant : Bool) (node v d n : ℕ) (k : ℕ × ℕ) (rest left : List (ℕ × ℕ)) (was is all : Bool)
    → left ≡ k ∷ rest → is ≡ (was || lets_pair p redundant node v d n k)
    → (was || list_any (lets_pair p redundant node v d n) left) ≡ all
    → (is || list_any (lets_pair p redundant node v d n) rest) ≡ all
pair_let_in p redundant node v d n k rest left was is all first one before =
    ap (λ (b : Bool). b || list_any (lets_pair p redundant node v d n) rest) one
    ∙ regroup was (lets_pair p redundant node v d n k) (list_any (lets_pair p redundant node v d n) rest)
    ∙ ap (λ (ks : List (ℕ × ℕ)). was || list_any (lets_pair p redundant node v d n) ks) (sym first) ∙ before
  where
    regroup : (a b c : Bool) → ((a || b) || c) ≡ (a || (b || c))
    regroup true b c = refl
    regroup false b c = refl

-- no pair is left
pub pairs_end : (test : ℕ × ℕ → Bool) (left : List (ℕ × ℕ)) (was all : Bool) → left ≡ [] → (was || list_any test left) ≡ all → was ≡ all
pairs_end test left was all none e =
    sym (or_false was) ∙ ap (λ (ks : List (ℕ × ℕ)). was || list_any test ks) (sym none) ∙ e

-- a disk whose starts the node may put, and one whose starts it may not
pub here_let_in : (v d n disk : ℕ) (test was is : Bool) → not test ≡ false → is ≡ (was || ((disk == d) && (v == n)))
    → is ≡ (was || ((v == n) && ((disk == d) && test)))
here_let_in v d n disk test was is here added = added ∙ ap (λ (b : Bool). was || b) (go test (disk == d) (v == n) here) where
  go : (t a b : Bool) → not t ≡ false → (a && b) ≡ (b && (a && t))
  go true true true e = refl
  go true true false e = refl
  go true false true e = refl
  go true false false e = refl
  go false a b e = absurd (false≢true (sym e))

pub not_let_in : (v d n disk : ℕ) (test was : Bool) → not test ≡ true → was ≡ (was || ((v == n) && ((disk == d) && test)))
not_let_in v d n disk test was away = go test was (v == n) (disk == d) away where
  go : (t a b c : Bool) → not t ≡ true → a ≡ (a || (b && (c && t)))
  go true a b c e = absurd (false≢true e)
  go false true b c e = refl
  go false false true true e = refl
  go false false true false e = refl
  go false false false c e = refl
