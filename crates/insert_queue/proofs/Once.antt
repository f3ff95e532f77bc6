-- What keeps each instance in the lists at most once.
use Rattle.std.proofs.Common.{◌≡◌, ℕ, ◌<◌, ◌==◌, zero, suc, length, get_or, subst, sym, List, [], ◌∷◌, ◌++◌, Bool, true, false, not, refl, ap, arith, ◌∙◌, cond, ◌||◌}
use Rattle.std.proofs.lemmas.List.{append-nil, append_assoc}
use Rattle.std.proofs.lemmas.List.Elements.{filter-append}
use Rattle.std.proofs.lemmas.List.Folds.{list_any-append}
use Rattle.std.specs.List.{list_any}
use Rattle.std.specs.Prelude.{remove}
use Rattle.std.proofs.lemmas.Bool.{eqb-true}
use Rattle.std.proofs.lemmas.Bool.Decides.{nat_tests}
use Rattle.tiger_base.specs.declared.number.Instance.{Instance}
use Rattle.tiger_base.specs.declared.tenancy.Ask.{Ask}
use Rattle.insert_queue.specs.Queues.{is_of, has_start, without, IsOnce}

-- neither of two tests holds where one or the other does not
pub none_of : (a b : Bool) → (a || b) ≡ false → (a ≡ false) × (b ≡ false)
none_of true b e = (e, cc)
none_of false b e = (refl, e)

-- no start of the instance stands in two lists together, if it stands in neither
has_start-both : (front back : List Ask) (v : Instance) → (has_start front v || has_start back v) ≡ false → has_start (front ++ back) v ≡ false
has_start-both front back v e = list_any-append (is_of v) front back ∙ e

-- a start of another instance changes nothing for an instance
has_start-more : (front back : List Ask) (a new : Ask) → has_start (front ++ back) a.instance ≡ false → is_of new.instance a ≡ false → has_start ((front ++ new ∷ []) ++ back) a.instance ≡ false
has_start-more [] back a new e n = grind (arith, nat_tests)
has_start-more (b ∷ bs) back a new e n =
    let both = none_of (is_of a.instance b) (has_start (bs ++ back) a.instance) e in
    rw (both.0) (has_start-more bs back a new both.1 n)

once_more : (front back : List Ask) (new : Ask) → IsOnce (front ++ back) → has_start (front ++ back) new.instance ≡ false → IsOnce ((front ++ new ∷ []) ++ back)
once_more [] back new o e = (e, o)
once_more (a ∷ rest) back new o e =
    let both = none_of (is_of new.instance a) (has_start (rest ++ back) new.instance) e in
    (has_start-more rest back a new o.0 both.0, once_more rest back new o.1 both.1)

pub IsOnce-more : (front back : List Ask) (new : Ask) → IsOnce (front ++ back) → (has_start front new.instance || has_start back new.instance) ≡ false → IsOnce ((front ++ new ∷ []) ++ back)
IsOnce-more front back new o e = once_more front back new o (has_start-both front back new.instance e)

pub IsOnce-end : (front back : List Ask) (new : Ask) → IsOnce (front ++ back) → (has_start front new.instance || has_start back new.instance) ≡ false → IsOnce (front ++ (back ++ new ∷ []))
IsOnce-end front back new o e =
    let all = front ++ back in
    let more : IsOnce ((all ++ new ∷ []) ++ []) =
    once_more all [] new (rw append-nil o) (rw append-nil (has_start-both front back new.instance e)) in
    rw (← append_assoc front back (new ∷ [])) (rw append-nil at more)

has_start-without : (asks : List Ask) (v w : Instance) → has_start asks w ≡ false → has_start (without asks v) w ≡ false
has_start-without [] v w e = refl
has_start-without (a ∷ rest) v w e =
    let both = none_of (is_of w a) (has_start rest w) e in
    elim (not (is_of v a)) as (λ b. has_start (cond b (a ∷ without rest v) (without rest v)) w ≡ false) [ true ↦ rw (both.0) (has_start-without rest v w both.1) | false ↦ has_start-without rest v w both.1 ]

once_without : (asks : List Ask) (v : Instance) → IsOnce asks → IsOnce (without asks v)
once_without [] v o = tt
once_without (a ∷ rest) v o =
    elim (not (is_of v a)) as (λ b. IsOnce (cond b (a ∷ without rest v) (without rest v))) [ true ↦ (has_start-without rest v a.instance o.0, once_without rest v o.1) | false ↦ once_without rest v o.1 ]

pub IsOnce-without : (front back : List Ask) (v : Instance) → IsOnce (front ++ back) → IsOnce (without front v ++ without back v)
IsOnce-without front back v o = rw (← filter-append (λ a. not (is_of v a)) front back) (once_without (front ++ back) v o)

-- no start of an instance is left where its starts are dropped
pub has_start-gone : (asks : List Ask) (v : Instance) → has_start (without asks v) v ≡ false
has_start-gone [] v = refl
has_start-gone (a ∷ rest) v =
    elim (is_of v a) as (λ b. is_of v a ≡ b → has_start (cond (not b) (a ∷ without rest v) (without rest v)) v ≡ false) [ true ↦ (λ e. has_start-gone rest v) | false ↦ (λ e. rw e (has_start-gone rest v)) ] refl

-- nothing goes where no start of the instance stands
pub without-none : (asks : List Ask) (v : Instance) → has_start asks v ≡ false → without asks v ≡ asks
without-none [] v e = refl
without-none (a ∷ rest) v e =
    let both = none_of (is_of v a) (has_start rest v) e in
    rw (both.0) (ap (λ (xs : List Ask). a ∷ xs) (without-none rest v both.1))

-- in each of two lists an instance stands once, if it does in both together
absent_front : (front back : List Ask) (v : Instance) → has_start (front ++ back) v ≡ false → has_start front v ≡ false
absent_front front back v e = (none_of (has_start front v) (has_start back v) (sym (list_any-append (is_of v) front back) ∙ e)).0

pub once_front : (front back : List Ask) → IsOnce (front ++ back) → IsOnce front
once_front [] back h = tt
once_front (a ∷ rest) back h = (absent_front rest back a.instance h.0, once_front rest back h.1)

pub once_back : (front back : List Ask) → IsOnce (front ++ back) → IsOnce back
once_back [] back h = h
once_back (a ∷ rest) back h = once_back rest back h.1

-- the start at a place is of the instance, and so no other one is
has_start-at : (asks : List Ask) (i : ℕ) (d : Ask) (v : Instance) → i < length asks → is_of v (get_or asks i d) ≡ true → has_start asks v ≡ true
has_start-at [] i d v h e = absurd (omega arith)
has_start-at (a ∷ rest) zero d v h e = rw e refl
has_start-at (a ∷ rest) (suc i) d v h e = or-true (is_of v a) (has_start rest v) (has_start-at rest i d v (omega arith) e)
  where
    or-true : (s t : Bool) → t ≡ true → (s || t) ≡ true
    or-true true t e = refl
    or-true false t e = e

others_absent : (a : Ask) (rest : List Ask) (v : Instance) → has_start rest a.instance ≡ false → is_of v a ≡ true → has_start rest v ≡ false
others_absent a rest v o e = subst (λ (n : ℕ). list_any (λ (x : Ask). x.instance.0 == n) rest ≡ false) (eqb-true _ _ e) o

pub removed-at : (asks : List Ask) (i : ℕ) (d : Ask) (v : Instance) → IsOnce asks → i < length asks → is_of v (get_or asks i d) ≡ true → remove asks i ≡ without asks v
removed-at [] i d v o h e = absurd (omega arith)
removed-at (a ∷ rest) zero d v o h e = rw e (sym (without-none rest v (others_absent a rest v o.0 e)))
removed-at (a ∷ rest) (suc i) d v o h e = cases (is_of v a) refl (removed-at rest i d v o.1 (omega arith) e) (has_start-at rest i d v (omega arith) e)
  where
    cases : (t : Bool) → is_of v a ≡ t → remove rest i ≡ without rest v → has_start rest v ≡ true → remove (a ∷ rest) (suc i) ≡ without (a ∷ rest) v
    cases true t ih there = let none = others_absent a rest v o.0 t in absurd (cc)
    cases false t ih there = rw t (ap (λ (xs : List Ask). a ∷ xs) ih)
