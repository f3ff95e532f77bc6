-- What a table has under each key after one thing more.
use Rattle.std.proofs.Common.{◌≡◌, ℕ, Bool, true, false, ◌&&◌, ◌||◌, ◌==◌, cond, List, Some, if◌then◌else◌, refl, ap, ◌∙◌, Less, Equal, Greater}
use Rattle.std.specs.declared.cmp.Ordering.{Ordering}
use Rattle.std.specs.Cmp.{unsigned_tied}
use Rattle.std.specs.Map.{lookup}
use Rattle.std.specs.Ordering.{is_eq, nat_cmp, ordering_then}
use Rattle.tiger_base.specs.declared.tenancy.Ask.{Ask}
use Rattle.audit_frame.specs.Tables.{AskNumbers, has_number, has_pair, has_ask, same_ask}

-- two keys in turn compare equal if both do
pub both_equal : (a b : Ordering) → is_eq (ordering_then a b) ≡ (is_eq a && is_eq b)
both_equal Less b = refl
both_equal Equal b = refl
both_equal Greater b = refl

pub both_same : (m n k l : ℕ) → is_eq (ordering_then (nat_cmp m k) (nat_cmp n l)) ≡ ((m == k) && (n == l))
both_same m n k l =
    both_equal (nat_cmp m k) (nat_cmp n l)
    ∙ ap (λ (b : Bool). b && is_eq (nat_cmp n l)) (unsigned_tied m k)
    ∙ ap (λ (b : Bool). (m == k) && b) (unsigned_tied n l)

-- one more in a set
pub added : (same tied was : Bool) → tied ≡ same → cond tied true was ≡ (was || same)
added same tied was e = ap (λ (b : Bool). cond b true was) e ∙ by_cases same was
  where
    by_cases : (b c : Bool) → cond b true c ≡ (c || b)
    by_cases true true = refl
    by_cases true false = refl
    by_cases false true = refl
    by_cases false false = refl

pub number_added : (number n : ℕ) (old mid new : List ℕ) → mid ≡ old
    → has_number n new ≡ cond (is_eq (nat_cmp number n)) true (has_number n mid)
    → has_number n new ≡ (has_number n old || (number == n))
number_added number n old mid new view e =
    e ∙ added (number == n) (is_eq (nat_cmp number n)) (has_number n mid) (unsigned_tied number n)
    ∙ ap (λ (rows : List ℕ). has_number n rows || (number == n)) view

pub pair_added : (left right m n : ℕ) (old mid new : List (ℕ × ℕ)) → mid ≡ old
    → has_pair m n new ≡ cond (is_eq (ordering_then (nat_cmp left m) (nat_cmp right n))) true (has_pair m n mid)
    → has_pair m n new ≡ (has_pair m n old || ((left == m) && (right == n)))
pair_added left right m n old mid new view e =
    e ∙ added ((left == m) && (right == n)) (is_eq (ordering_then (nat_cmp left m) (nat_cmp right n))) (has_pair m n mid)
    (both_same left right m n)
    ∙ ap (λ (rows : List (ℕ × ℕ)). has_pair m n rows || ((left == m) && (right == n))) view

-- the comparison of two asks
abbrev ask_cmp : Ask → Ask → Ordering
ask_cmp a b = ordering_then
    (ordering_then (nat_cmp a.instance.0 b.instance.0) (nat_cmp a.file.0 b.file.0))
    (ordering_then (nat_cmp a.count b.count) (nat_cmp a.disk.0 b.disk.0))

ask_same : (a b : Ask) → is_eq (ask_cmp a b) ≡ same_ask a b
ask_same a b =
    both_equal (ordering_then (nat_cmp a.instance.0 b.instance.0) (nat_cmp a.file.0 b.file.0))
    (ordering_then (nat_cmp a.count b.count) (nat_cmp a.disk.0 b.disk.0))
    ∙ ap (λ (c : Bool). c && is_eq (ordering_then (nat_cmp a.count b.count) (nat_cmp a.disk.0 b.disk.0)))
    (both_same a.instance.0 a.file.0 b.instance.0 b.file.0)
    ∙ ap (λ (c : Bool). ((a.instance.0 == b.instance.0) && (a.file.0 == b.file.0)) && c)
    (both_same a.count a.disk.0 b.count b.disk.0)

pub ask_added : (ask a : Ask) (old mid new : AskNumbers) → mid ≡ old
    → has_ask a new ≡ cond (is_eq (ordering_then
    (ordering_then (nat_cmp ask.instance.0 a.instance.0) (nat_cmp ask.file.0 a.file.0))
    (ordering_then (nat_cmp ask.count a.count) (nat_cmp ask.disk.0 a.disk.0)))) true (has_ask a mid)
    → has_ask a new ≡ (has_ask a old || same_ask ask a)
ask_added ask a old mid new view e =
    e ∙ added (same_ask ask a) (is_eq (ask_cmp ask a)) (has_ask a mid) (ask_same ask a)
    ∙ ap (λ (rows : AskNumbers). has_ask a rows || same_ask ask a) view

-- one more in a map
pub set_under : {T : Type 0} (key k : ℕ) (value : T) (old mid new : List (ℕ × T)) → mid ≡ old
    → lookup (λ q. is_eq (nat_cmp k q)) new ≡ cond (is_eq (nat_cmp key k)) (Some value) (lookup (λ q. is_eq (nat_cmp k q)) mid)
    → lookup (λ q. is_eq (nat_cmp k q)) new ≡ (if key == k then Some value else lookup (λ q. is_eq (nat_cmp k q)) old)
set_under {T} key k value old mid new view e =
    e
    ∙ (ap (λ (b : Bool). cond b (Some value) (lookup (λ q. is_eq (nat_cmp k q)) mid)) (unsigned_tied key k)
    ∙ ap (λ (rows : List (ℕ × T)). cond (key == k) (Some value) (lookup (λ q. is_eq (nat_cmp k q)) rows)) view)

-- and under two numbers
pub set_under_both : {T : Type 0} (left right m n : ℕ) (value : T) (old mid new : List ((ℕ × ℕ) × T)) → mid ≡ old
    → lookup (λ q. is_eq (ordering_then (nat_cmp m q.0) (nat_cmp n q.1))) new
    ≡ cond (is_eq (ordering_then (nat_cmp left m) (nat_cmp right n))) (Some value)
    (lookup (λ q. is_eq (ordering_then (nat_cmp m q.0) (nat_cmp n q.1))) mid)
    → lookup (λ q. is_eq (ordering_then (nat_cmp m q.0) (nat_cmp n q.1))) new
    ≡ (if (left == m) && (right == n) then Some value else lookup (λ q. is_eq (ordering_then (nat_cmp m q.0) (nat_cmp n q.1))) old)
set_under_both {T} left right m n value old mid new view e =
    e
    ∙ (ap (λ (b : Bool). cond b (Some value) (lookup (λ q. is_eq (ordering_then (nat_cmp m q.0) (nat_cmp n q.1))) mid)) (both_same left right m n)
    ∙ ap (λ (rows : List ((ℕ × ℕ) × T)). cond ((left == m) && (right == n)) (Some value)
    (lookup (λ q. is_eq (ordering_then (nat_cmp m q.0) (nat_cmp n q.1))) rows)) view)
