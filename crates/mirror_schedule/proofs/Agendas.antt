-- The order of numbers, by which a set of them is kept, is that of the pieces.
use Rattle.std.proofs.Common.{◌≡◌, ◌∙◌, ℕ, ◌<◌, ◌||◌, ◌&&◌, ◌==◌, nat_lt, nat_le, Bool, true, false, cond, List, [], ◌∷◌, length, drop, map, find, Option, Some, None, is_some, option_map, refl, ap, sym, subst, eq-eqb, arith}
use Rattle.std.specs.declared.cmp.Ordering.{Ordering}
use Rattle.std.specs.declared.cmp.Ordering.TheVariants.{Less, Equal, Greater}
use Rattle.std.specs.declared.ops.Bound.TheVariants.{Included, Unbounded}
use Rattle.std.specs.Prelude.{◌↔◌, IfNone, IfSome, IsSome, slice_get}
use Rattle.std.specs.List.{AllByRecursion, filter}
use Rattle.std.specs.BTreeMap.Range.{range_contains}
use Rattle.std.specs.BTreeSet.{insert_key}
use Rattle.std.specs.Ordering.{is_le, match_ordering, nat_cmp, ordering_then}
use Rattle.std.proofs.lemmas.Bool.{and_parts, both_ways, eqb-true, le-ltb, lt-ltb, ltb-false, eqb-false}
use Rattle.tiger_base.specs.declared.tenancy.PieceState.{PieceState}
use Rattle.mirror_schedule.specs.Agendas.{front_of, rank_cmp, rank_of, timed_of}
use Rattle.mirror_schedule.specs.Sorted.{but_first_if, first_if, is_less, with_one}
use Rattle.mirror_schedule.specs.TimedPieces.{timed_before}
use Rattle.mirror_schedule.specs.declared.agenda.Rank.{Rank}

-- what a comparison tells of which of two comes before the other
abbrev Tells : Ordering → Bool → Bool → Type 0
Tells Less ahead behind = ahead ≡ true
Tells Equal ahead behind = (ahead ≡ false) × (behind ≡ false)
Tells Greater ahead behind = (ahead ≡ false) × (behind ≡ true)

-- one number further
told_then : (m k : ℕ) (o : Ordering) (ahead behind : Bool) → Tells o ahead behind → Tells (ordering_then (nat_cmp m k) o) (nat_lt m k || (m == k && ahead)) (nat_lt k m || (k == m && behind))
told_then m k o ahead behind h = at (nat_lt m k) (m == k) refl refl
  where
    at : (s t : Bool) → nat_lt m k ≡ s → (m == k) ≡ t → Tells (ordering_then (cond s Less (cond t Equal Greater)) o) (s || (t && ahead)) (nat_lt k m || (k == m && behind))
    at true t e f = refl
    at false true e f =
        let same : m ≡ k = eqb-true m k f in
        rw (le-ltb k m (omega (arith, same)), eq-eqb k m (sym same)) h
    at false false e f =
        let more : nat_lt k m ≡ true = lt-ltb k m (omega (arith, ltb-false m k e, eqb-false m k f)) in
        (refl, rw more refl)

then_equal : (o : Ordering) → ordering_then o Equal ≡ o
then_equal Less = refl
then_equal Equal = refl
then_equal Greater = refl

told_last : (m k : ℕ) → Tells (nat_cmp m k) (is_less (m ∷ []) (k ∷ [])) (is_less (k ∷ []) (m ∷ []))
told_last m k = subst (λ (o : Ordering). Tells o (is_less (m ∷ []) (k ∷ [])) (is_less (k ∷ []) (m ∷ []))) (then_equal (nat_cmp m k)) (told_then m k Equal false false (refl, refl))

told : (a b : Rank) → Tells (rank_cmp a b) (timed_before (timed_of a) (timed_of b)) (timed_before (timed_of b) (timed_of a))
unfolding timed_before
told a b =
    told_then a.time b.time _ _ _ (told_then a.slot b.slot _ _ _ (told_then a.visit b.visit _ _ _ (told_then a.piece b.piece _ _ _
    (told_then a.instance b.instance _ _ _ (told_then a.file b.file _ _ _ (told_then a.first b.first _ _ _ (told_last a.last b.last)))))))

-- so a number that is put in among some is a piece that is put in
pub put_rank : (ks : List Rank) (k : Rank) → map timed_of (insert_key rank_cmp ks k) ≡ with_one timed_before (timed_of k) (map timed_of ks)
put_rank [] k = refl
put_rank (x ∷ xs) k = at (rank_cmp k x) (timed_before (timed_of k) (timed_of x)) (timed_before (timed_of x) (timed_of k)) (told k x) (put_rank xs k)
  where
    at : (o : Ordering) (ahead behind : Bool) → Tells o ahead behind → map timed_of (insert_key rank_cmp xs k) ≡ with_one timed_before (timed_of k) (map timed_of xs)
        → map timed_of (match_ordering o (k ∷ x ∷ xs) (x ∷ xs) (x ∷ insert_key rank_cmp xs k))
        ≡ cond ahead (timed_of k ∷ timed_of x ∷ map timed_of xs) (cond behind (timed_of x ∷ with_one timed_before (timed_of k) (map timed_of xs)) (timed_of x ∷ map timed_of xs))
    at Less ahead behind h rest = rw h refl
    at Equal ahead behind h rest = rw (h.0, h.1) refl
    at Greater ahead behind h rest = rw (h.0, h.1) (ap (λ ys. timed_of x ∷ ys) rest)

-- what is found of things that come of others
pub find_mapped : {X Y : Type 0} (f : X → Y) (test : Y → Bool) (xs : List X) → option_map f (find (λ x. test (f x)) xs) ≡ find test (map f xs)
find_mapped f test [] = refl
find_mapped f test (x ∷ xs) =
    elim (test (f x)) as (λ t. option_map f (cond t (Some x) (find (λ y. test (f y)) xs)) ≡ cond t (Some (f x)) (find test (map f xs))) [
      | true ↦ refl
      | false ↦ find_mapped f test xs
    ]

-- what is found of some things is found of all, if only those pass
found_within : {X : Type 0} (test part : X → Bool) → ((x : X) → test x ≡ true → part x ≡ true) → (xs : List X) → find test (filter part xs) ≡ find test xs
found_within test part h [] = refl
found_within {X} test part h (x ∷ xs) = at (test x) (part x) refl refl (found_within test part h xs)
  where
    at : (a b : Bool) → test x ≡ a → part x ≡ b → find test (filter part xs) ≡ find test xs → find test (cond b (x ∷ filter part xs) (filter part xs)) ≡ cond a (Some x) (find test xs)
    at a true e f rest = ap (λ (t : Bool). cond t (Some x) (find test (filter part xs))) e ∙ ap (λ (o : Option X). cond a (Some x) o) rest
    at false false e f rest = rest
    at true false e f rest = absurd (both_ways (part x) f (h x e))

-- what comes before a given piece is not behind it, so it need not be looked at
from_given : (o : Ordering) (ahead behind : Bool) → Tells o ahead behind → ahead ≡ true → (is_le o && true) ≡ true
from_given Less ahead behind h e = refl
from_given Equal ahead behind h e = refl
from_given Greater ahead behind h e = absurd (both_ways ahead h.0 e)

pub found_behind : (x : PieceState × ℕ) (stand : Rank → Bool) (from : Rank) (all late : List Rank) → from ≡ rank_of x → late ≡ filter (range_contains rank_cmp (Included from) Unbounded) all
    → find (λ r. timed_before x (timed_of r) && stand r) late ≡ find (λ r. timed_before x (timed_of r) && stand r) all
found_behind x stand from all late e is =
    ap (λ (rs : List Rank). find (λ r. timed_before x (timed_of r) && stand r) rs) is
    ∙ found_within (λ r. timed_before x (timed_of r) && stand r) (range_contains rank_cmp (Included from) Unbounded)
    (λ r both.
    from_given (rank_cmp from r) (timed_before (timed_of from) (timed_of r)) (timed_before (timed_of r) (timed_of from)) (told from r)
    (ap (λ (k : Rank). timed_before (timed_of k) (timed_of r)) e ∙ (and_parts (timed_before x (timed_of r)) (stand r) both).0)) all

-- the first of some numbers
pub first_mapped : (ks : List Rank) (k : Rank) → slice_get ks 0 ≡ Some k → Some (timed_of k) ≡ first_if (λ x. true) (map timed_of ks)
first_mapped [] k e = absurd (cc)
first_mapped (x ∷ xs) k e = let same : x ≡ k = cc in ap (λ (r : Rank). Some (timed_of r)) (sym same)

pub none_mapped : (ks : List Rank) → (0 < length ks → ⊥) → None ≡ first_if (λ x. true) (map timed_of ks)
none_mapped [] none = refl
none_mapped (x ∷ xs) none = absurd (none (omega arith))

-- and the others
pub others_mapped : (o : Option Rank) (ks ls : List Rank) → IfSome o (λ k. ks ≡ k ∷ ls) → IfNone o (ls ≡ ks) → IsSome o ↔ (0 < length ks) → map timed_of ls ≡ drop 1 (map timed_of ks)
others_mapped (Some k) ks ls e f there = sym (ap (λ (rs : List Rank). drop 1 (map timed_of rs)) e)
others_mapped None [] ls e f there = ap (λ (rs : List Rank). map timed_of rs) f
others_mapped None (x ∷ xs) ls e f there = absurd (cc (there.1 (omega arith)))

-- the first of some things stays if it does not pass a test
module _ {X : Type 0} (test : X → Bool) where
  pub record IsLeft (xs : List X) : Type 0 where
    pub first : None ≡ first_if test xs
    pub left : xs ≡ but_first_if test xs

  pub left_undue : (xs : List X) → is_some (first_if test xs) ≡ false → IsLeft xs
  left_undue [] e = record { first = refl; left = refl }
  left_undue (x ∷ xs) e = at (test x) refl e
    where
      at : (t : Bool) → test x ≡ t → is_some (cond t (Some x) None) ≡ false → IsLeft (x ∷ xs)
      at true is e = absurd (cc)
      at false is e = record {
        first = sym (ap (λ t. cond t (Some x) None) is);
        left = sym (ap (λ t. cond t xs (x ∷ xs)) is);
      }

  pub left_all : (xs : List X) → AllByRecursion (λ x. test x ≡ false) xs → IsLeft xs
  left_all [] h = record { first = refl; left = refl }
  left_all (x ∷ xs) h = record {
    first = sym (ap (λ t. cond t (Some x) None) h.0);
    left = sym (ap (λ t. cond t xs (x ∷ xs)) h.0);
  }

-- the first of some numbers is taken out, if its piece passes a test or there is none
module _ (test : PieceState × ℕ → Bool) where
  pub record IsTakenOut (o : Option (PieceState × ℕ)) (ks ls : List Rank) : Type 0 where
    pub first : o ≡ first_if test (map timed_of ks)
    pub left : map timed_of ls ≡ but_first_if test (map timed_of ks)

  pub taken_out : (k : Rank) (ks ls : List Rank) → ks ≡ k ∷ ls → is_some (first_if test (map timed_of ks)) ≡ true → IsTakenOut (Some (timed_of k)) ks ls
  taken_out k ks ls e due =
      subst (λ (rs : List Rank). IsTakenOut (Some (timed_of k)) rs ls) (sym e)
      (at (test (timed_of k)) refl (subst (λ (rs : List Rank). is_some (first_if test (map timed_of rs)) ≡ true) e due))
    where
      at : (t : Bool) → test (timed_of k) ≡ t → is_some (cond t (Some (timed_of k)) None) ≡ true → IsTakenOut (Some (timed_of k)) (k ∷ ls) ls
      at true is f = record {
        first = sym (ap (λ t. cond t (Some (timed_of k)) None) is);
        left = sym (ap (λ t. cond t (map timed_of ls) (timed_of k ∷ map timed_of ls)) is);
      }
      at false is f = absurd (cc)

  pub none_out : (ks ls : List Rank) → ls ≡ ks → (0 < length ks → ⊥) → IsTakenOut None ks ls
  none_out [] ls e none = record { first = refl; left = ap (λ (rs : List Rank). map timed_of rs) e }
  none_out (k ∷ ks) ls e none = absurd (none (omega arith))

-- the time of the first tells whether it leaves by another
pub front_due : (time : ℕ) (ks : List Rank) (front : ℕ) → Some front ≡ front_of ks → nat_le front time ≡ is_some (first_if (λ x. nat_le x.1 time) (map timed_of ks))
front_due time [] front e = absurd (cc)
front_due time (k ∷ ks) front e = let same : front ≡ k.time = cc in rw same (at (nat_le k.time time))
  where
    at : (t : Bool) → t ≡ is_some (cond t (Some (timed_of k)) None)
    at true = refl
    at false = refl

pub front_none_due : (time : ℕ) (ks : List Rank) → None ≡ front_of ks → false ≡ is_some (first_if (λ x. nat_le x.1 time) (map timed_of ks))
front_none_due time [] e = refl
front_none_due time (k ∷ ks) e = absurd (cc)

-- the time of the first one found
pub front_first : (ks : List Rank) (k : Rank) → slice_get ks 0 ≡ Some k → Some k.time ≡ front_of ks
front_first [] k e = absurd (cc)
front_first (x ∷ xs) k e = let same : x ≡ k = cc in ap (λ (r : Rank). Some r.time) (sym same)

pub front_empty : (ks : List Rank) → (0 < length ks → ⊥) → None ≡ front_of ks
front_empty [] none = refl
front_empty (x ∷ xs) none = absurd (none (omega arith))
