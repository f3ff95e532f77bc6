-- Pieces beside the times at which they leave, and the pieces alone.
use Rattle.std.proofs.Common.{◌≡◌, ℕ, ◌+◌, Bool, true, false, cond, List, [], ◌∷◌, find, filter, Option, Some, None, is_some, not, option_map, refl, ap, subst, sym, ◌∙◌}
use Rattle.std.specs.List.{AllByRecursion}
use Rattle.tiger_base.specs.declared.tenancy.PieceState.{PieceState}
use Rattle.slot_plan.specs.declared.params.Params.{Params}
use Rattle.mirror_schedule.specs.Sorted.{is_less, IsSorted, with_one, gap_from}
use Rattle.mirror_schedule.specs.Pieces.{IsPieces, IsPieceOf, Pieces, comes_before, is_behind, is_in, leaving_of, numbers_of, with_piece}
use Rattle.mirror_schedule.specs.Timed.{untimed}
use Rattle.mirror_schedule.specs.TimedPieces.{timed, timed_rank, timed_before, timed_behind, IsTimed, AreTimed}
use Rattle.mirror_schedule.proofs.Numbers.{is_less-irreflexive, is_less-transitive}
use Rattle.mirror_schedule.proofs.Orders.{IsOrder, all_filter, all_with_one, sorted_filter, sorted_with_one}
use Rattle.mirror_schedule.proofs.PieceLists.{answer_new, answer_there, seen, seen_with}
use Rattle.mirror_schedule.proofs.Timed.{untimed-filter}

-- their times order them
pub timed_order : IsOrder timed_before
unfolding timed_before
timed_order =
    record {
      irreflexive = λ x. is_less-irreflexive (timed_rank x);
      transitive = λ x y z e f. is_less-transitive (timed_rank x) (timed_rank y) (timed_rank z) e f;
    }

-- as the pieces are ordered
same_order : (p : Params) (a b : PieceState × ℕ) → a.1 ≡ leaving_of p a.0 → b.1 ≡ leaving_of p b.0 → timed_before a b ≡ comes_before p a.0 b.0
unfolding timed_before comes_before
same_order p a b e f =
    ap (λ (n : ℕ). is_less (n ∷ numbers_of a.0) (b.1 ∷ numbers_of b.0)) e
    ∙ ap (λ (n : ℕ). is_less (leaving_of p a.0 ∷ numbers_of a.0) (n ∷ numbers_of b.0)) f

module _ (p : Params) where
  sorted_ahead : (x : PieceState × ℕ) → IsTimed p x → (ys : List (PieceState × ℕ)) → AllByRecursion (IsTimed p) ys → AllByRecursion (λ y. timed_before x y ≡ true) ys
      → AllByRecursion (λ y. comes_before p x.0 y ≡ true) (untimed ys)
  sorted_ahead x own [] h s = tt
  sorted_ahead x own (y ∷ ys) h s = (sym (same_order p x y own.1 h.0.1) ∙ s.0, sorted_ahead x own ys h.1 s.1)

  sorted_seen : (xs : List (PieceState × ℕ)) → AllByRecursion (IsTimed p) xs → IsSorted timed_before xs → IsSorted (comes_before p) (untimed xs)
  sorted_seen [] h s = tt
  sorted_seen (x ∷ xs) h s = (sorted_ahead x h.0 xs h.1 s.0, sorted_seen xs h.1 s.1)

  each_seen : (xs : List (PieceState × ℕ)) → AllByRecursion (IsTimed p) xs → AllByRecursion (IsPieceOf p) (untimed xs)
  each_seen [] h = tt
  each_seen (x ∷ xs) h = (h.0.0, each_seen xs h.1)

  -- what is seen of them is pieces in their order
  pub pieces_seen : (xs : List (PieceState × ℕ)) → AreTimed p xs → IsPieces p (untimed xs)
  pieces_seen xs h = record { order = sorted_seen xs h.each h.order; each = each_seen xs h.each }

  -- some are left
  pub timed_filter : (test : PieceState × ℕ → Bool) (xs : List (PieceState × ℕ)) → AreTimed p xs → AreTimed p (filter test xs)
  timed_filter test xs h = record { order = sorted_filter timed_before test xs h.order; each = all_filter (IsTimed p) test xs h.each }

  -- one is put in
  pub timed_put : (x : PieceState) (xs : List (PieceState × ℕ)) → AreTimed p xs → IsPieceOf p x → AreTimed p (with_one timed_before (timed p x) xs)
  timed_put x xs h own =
      record {
        order = sorted_with_one timed_before timed_order (timed p x) xs h.order;
        each = all_with_one timed_before (IsTimed p) (timed p x) xs h.each (own, refl);
      }

  module _ (x : PieceState) where
    pub gap_seen : (n : ℕ) (ys : List (PieceState × ℕ)) → AllByRecursion (IsTimed p) ys → gap_from timed_before (timed p x) n ys ≡ gap_from (comes_before p) x n (untimed ys)
    gap_seen n [] h = refl
    gap_seen n (y ∷ ys) h =
        rw (same_order p (timed p x) y refl h.0.1, same_order p y (timed p x) h.0.1 refl)
        (ap (λ (o : Option ℕ). cond (comes_before p x y.0) (Some n) (cond (comes_before p y.0 x) o None)) (gap_seen (n + 1) ys h.1))

    pub put_seen : (ys : List (PieceState × ℕ)) → AllByRecursion (IsTimed p) ys → untimed (with_one timed_before (timed p x) ys) ≡ with_one (comes_before p) x (untimed ys)
    put_seen [] h = refl
    put_seen (y ∷ ys) h =
        rw (same_order p (timed p x) y refl h.0.1, same_order p y (timed p x) h.0.1 refl)
        (by_tests (comes_before p x y.0) (comes_before p y.0 x) (put_seen ys h.1))
      where
        by_tests : (a b : Bool) → untimed (with_one timed_before (timed p x) ys) ≡ with_one (comes_before p) x (untimed ys)
            → untimed (cond a (timed p x ∷ y ∷ ys) (cond b (y ∷ with_one timed_before (timed p x) ys) (y ∷ ys))) ≡ cond a (x ∷ y.0 ∷ untimed ys) (cond b (y.0 ∷ with_one (comes_before p) x (untimed ys)) (y.0 ∷ untimed ys))
        by_tests true b rest = refl
        by_tests false true rest = ap (λ zs. y.0 ∷ zs) rest
        by_tests false false rest = refl

  -- the first one behind a given one
  behind_told : (given : Option PieceState) (y : PieceState × ℕ) → IsTimed p y → timed_behind (option_map (timed p) given) y ≡ is_behind p given y.0
  behind_told None y h = refl
  behind_told (Some x) y h = same_order p (timed p x) y refl h.1

  pub find_seen : (given : Option PieceState) (ys : List (PieceState × ℕ)) → AllByRecursion (IsTimed p) ys → option_map (λ y. y.0) (find (timed_behind (option_map (timed p) given)) ys) ≡ find (is_behind p given) (untimed ys)
  find_seen given [] h = refl
  find_seen given (y ∷ ys) h =
      rw (behind_told given y h.0)
      (elim (is_behind p given y.0) as (λ t. option_map (λ (z : PieceState × ℕ). z.0) (cond t (Some y) (find (timed_behind (option_map (timed p) given)) ys)) ≡ cond t (Some y.0) (find (is_behind p given) (untimed ys))) [
        | true ↦ refl
        | false ↦ find_seen given ys h.1
      ])

-- what is found in a list is one of it
find_among : {X : Type 0} (P : X → Type 0) (test : X → Bool) (xs : List X) (x : X) → AllByRecursion P xs → Some x ≡ find test xs → P x
find_among P test [] x h e = absurd (cc)
find_among {X} P test (y ∷ ys) x h e = by_test (test y) (find_among P test ys x h.1) e
  where
    by_test : (t : Bool) → (Some x ≡ find test ys → P x) → Some x ≡ cond t (Some y) (find test ys) → P x
    by_test true rest e = let same : y ≡ x = cc in subst P same h.0
    by_test false rest e = rest e

-- the next one, of what is seen
pub after_seen : (p : Params) (given : Option PieceState) (items : List (PieceState × ℕ)) (m : Pieces) (told found : Option (PieceState × ℕ)) → seen p (untimed items) ≡ m → AreTimed p items
    → told ≡ option_map (timed p) given → found ≡ find (timed_behind told) items → option_map (λ y. y.0) found ≡ find (is_behind m.params given) m.items
after_seen p given items m told found v h is e =
    ap (λ (o : Option (PieceState × ℕ)). option_map (λ y. y.0) o) (e ∙ ap (λ (t : Option (PieceState × ℕ)). find (timed_behind t) items) is)
    ∙ (find_seen p given items h.each ∙ ap (λ (r : Pieces). find (is_behind r.params given) r.items) v)

pub found_seen : (p : Params) (test : PieceState × ℕ → Bool) (items : List (PieceState × ℕ)) (m : Pieces) (x : PieceState × ℕ) → seen p (untimed items) ≡ m → AreTimed p items → Some x ≡ find test items → IsPieceOf m.params x.0
found_seen p test items m x v h e = subst (λ (r : Pieces). IsPieceOf r.params x.0) v (find_among (IsTimed p) test items x h.each e).0

-- their order, of what is seen
pub order_seen : (p : Params) (items : List (PieceState × ℕ)) (m : Pieces) → seen p (untimed items) ≡ m → AreTimed p items → IsPieces m.params m.items
order_seen p items m v h = subst (λ (r : Pieces). IsPieces r.params r.items) v (pieces_seen p items h)

-- what is seen of those that are left
pub seen_left : (p : Params) (test : PieceState → Bool) (items ys : List (PieceState × ℕ)) (m : Pieces) → seen p (untimed items) ≡ m → ys ≡ filter (λ x. test x.0) items
    → seen p (untimed ys) ≡ seen m.params (filter test m.items)
seen_left p test items ys m v e =
    ap (λ (zs : List (PieceState × ℕ)). seen p (untimed zs)) e
    ∙ (ap (λ (zs : List PieceState). seen p zs) (untimed-filter test items) ∙ ap (λ (r : Pieces). seen r.params (filter test r.items)) v)

-- a piece that is put in, or there
module _ (p : Params) (x : PieceState) (time : ℕ) (is : time ≡ leaving_of p x) (items now : List (PieceState × ℕ)) (h : AreTimed p items) (put : now ≡ with_one timed_before (x, time) items) where
  put_timed : now ≡ with_one timed_before (timed p x) items
  put_timed = put ∙ ap (λ (n : ℕ). with_one timed_before (x, n) items) is

  pub added_timed : IsPieceOf p x → AreTimed p now
  added_timed own = subst (λ (ys : List (PieceState × ℕ)). AreTimed p ys) (sym put_timed) (timed_put p x items h own)

  pub added_seen : (m : Pieces) → seen p (untimed items) ≡ m → seen p (untimed now) ≡ seen m.params (with_piece m.params x m.items)
  added_seen m v = seen_with p (untimed items) (untimed now) m x v (ap (λ (zs : List (PieceState × ℕ)). untimed zs) put_timed ∙ put_seen p x items h.each)

-- whether it is there is told by whether there is a place for it
pub added_answer : (p : Params) (x : PieceState) (time : ℕ) → time ≡ leaving_of p x → (items : List (PieceState × ℕ)) (m : Pieces) → AreTimed p items → seen p (untimed items) ≡ m
    → is_some (gap_from timed_before (x, time) 0 items) ≡ not (is_in x m.items)
added_answer p x time is items m h v = at (gap_from (comes_before p) x 0 (untimed items)) refl
  where
    told : gap_from timed_before (x, time) 0 items ≡ gap_from (comes_before p) x 0 (untimed items)
    told = ap (λ (n : ℕ). gap_from timed_before (x, n) 0 items) is ∙ gap_seen p x 0 items h.each

    at : (o : Option ℕ) → gap_from (comes_before p) x 0 (untimed items) ≡ o → is_some (gap_from timed_before (x, time) 0 items) ≡ not (is_in x m.items)
    at None e = ap is_some (told ∙ e) ∙ answer_there p (untimed items) m x v e
    at (Some place) e = ap is_some (told ∙ e) ∙ answer_new p (untimed items) m x place v (pieces_seen p items h) e
