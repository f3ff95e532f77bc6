-- The order of pieces and of split visits.
use Rattle.std.proofs.Common.{◌≡◌, ℕ, ◌≤◌, Bool, true, false, ◌∷◌, [], ◌||◌, ◌&&◌, ◌==◌, nat_lt, refl, ap, ◌∙◌, eq-eqb, arith}
use Rattle.std.proofs.lemmas.Bool.{and_parts, and_from, eqb-true, both_ways}
use Rattle.std.proofs.lemmas.Bool.Decides.{nat_tests}
use Rattle.tiger_base.specs.declared.tenancy.PieceState.{PieceState}
use Rattle.slot_plan.specs.declared.params.Params.{Params}
use Rattle.mirror_schedule.specs.Sorted.{are_same}
use Rattle.mirror_schedule.specs.Pieces.{comes_before, is_same, numbers_of, rank_of, leaving_of}
use Rattle.mirror_schedule.specs.Splits.{Split, split_before, ends_before}
use Rattle.mirror_schedule.proofs.Numbers.{is_less-irreflexive, is_less-transitive, is_less-apart, is_less-behind, is_less-neither}
use Rattle.mirror_schedule.proofs.Orders.{IsOrder}
use Rattle.mirror_schedule.proofs.Members.{IsSame}

-- the same numbers make the same split visit
one_split : (x y : Split) → x.0.0 ≡ y.0.0 → x.1.0 ≡ y.1.0 → x.2 ≡ y.2 → x ≡ y
one_split x y e f g =
    let one : Split → Split = λ z. z in
    ap (λ (n : ℕ). one (record { 0 = n }, x.1, x.2)) e ∙ (ap (λ (n : ℕ). one (y.0, record { 0 = n }, x.2)) f ∙ ap (λ (n : ℕ). one (y.0, y.1, n)) g)

pub splits_order : IsOrder split_before
unfolding split_before
splits_order =
    record {
      irreflexive = λ x. is_less-irreflexive (x.1.0 ∷ x.2 ∷ x.0.0 ∷ []);
      transitive = λ x y z e f. is_less-transitive (x.1.0 ∷ x.2 ∷ x.0.0 ∷ []) (y.1.0 ∷ y.2 ∷ y.0.0 ∷ []) (z.1.0 ∷ z.2 ∷ z.0.0 ∷ []) e f;
    }

-- nor are there two split visits of which neither comes before the other
pub splits_total : (x y : Split) → split_before x y ≡ false → split_before y x ≡ false → x ≡ y
unfolding split_before
splits_total x y e f =
    let same = is_less-neither (x.1.0 ∷ x.2 ∷ x.0.0 ∷ []) (y.1.0 ∷ y.2 ∷ y.0.0 ∷ []) refl e f in
    let one = and_parts (x.1.0 == y.1.0) _ same in
    let two = and_parts (x.2 == y.2) _ one.1 in
    let three = and_parts (x.0.0 == y.0.0) true two.1 in
    one_split x y (eqb-true _ _ three.0) (eqb-true _ _ one.0) (eqb-true _ _ two.0)

-- the ends order them
pub ends_order : IsOrder ends_before
unfolding ends_before
ends_order =
    record {
      irreflexive = λ x. is_less-irreflexive (x.1 ∷ x.0.1.0 ∷ x.0.2 ∷ x.0.0.0 ∷ []);
      transitive = λ x y z e f. is_less-transitive (x.1 ∷ x.0.1.0 ∷ x.0.2 ∷ x.0.0.0 ∷ []) (y.1 ∷ y.0.1.0 ∷ y.0.2 ∷ y.0.0.0 ∷ []) (z.1 ∷ z.0.1.0 ∷ z.0.2 ∷ z.0.0.0 ∷ []) e f;
    }

-- two of which neither ends before the other are one split visit
pub ends_total : (x y : Split × ℕ) → ends_before x y ≡ false → ends_before y x ≡ false → x.0 ≡ y.0
unfolding ends_before
ends_total x y e f =
    let same = is_less-neither (x.1 ∷ x.0.1.0 ∷ x.0.2 ∷ x.0.0.0 ∷ []) (y.1 ∷ y.0.1.0 ∷ y.0.2 ∷ y.0.0.0 ∷ []) refl e f in
    let none = and_parts (x.1 == y.1) _ same in
    let one = and_parts (x.0.1.0 == y.0.1.0) _ none.1 in
    let two = and_parts (x.0.2 == y.0.2) _ one.1 in
    let three = and_parts (x.0.0.0 == y.0.0.0) true two.1 in
    one_split x.0 y.0 (eqb-true _ _ three.0) (eqb-true _ _ one.0) (eqb-true _ _ two.0)

-- one that ends before another ends no later
pub ends_rise : (x y : Split × ℕ) → ends_before x y ≡ true → x.1 ≤ y.1
unfolding ends_before
ends_rise x y e = at _ e
  where
    at : (b : Bool) → (nat_lt x.1 y.1 || (x.1 == y.1 && b)) ≡ true → x.1 ≤ y.1
    at b h = grind (arith, nat_tests)

pub pieces_order : (p : Params) → IsOrder (comes_before p)
unfolding comes_before
pieces_order p =
    record {
      irreflexive = λ x. is_less-irreflexive (rank_of p x);
      transitive = λ x y z e f. is_less-transitive (rank_of p x) (rank_of p y) (rank_of p z) e f;
    }

-- pieces of the same numbers leave at one time, and so have one rank
same_leaving : (p : Params) (x y : PieceState) → are_same (numbers_of x) (numbers_of y) ≡ true → leaving_of p x ≡ leaving_of p y
unfolding leaving_of
same_leaving p x y e =
    let one = and_parts (x.tenancy.slot.0 == y.tenancy.slot.0) _ e in
    let two = and_parts (x.visit == y.visit) _ one.1 in
    let three = and_parts (x.piece == y.piece) _ two.1 in
    let slot : x.tenancy.slot.0 ≡ y.tenancy.slot.0 = eqb-true _ _ one.0 in
    let visit : x.visit ≡ y.visit = eqb-true _ _ two.0 in
    let piece : x.piece ≡ y.piece = eqb-true _ _ three.0 in
    cc

rank_same : (p : Params) (x y : PieceState) → are_same (numbers_of x) (numbers_of y) ≡ true → are_same (rank_of p x) (rank_of p y) ≡ true
rank_same p x y e = and_from (leaving_of p x == leaving_of p y) (are_same (numbers_of x) (numbers_of y)) (eq-eqb _ _ (same_leaving p x y e)) e

rank_apart : (p : Params) (x y : PieceState) (t : Bool) → are_same (numbers_of x) (numbers_of y) ≡ t → are_same (rank_of p x) (rank_of p y) ≡ false → t ≡ false
rank_apart p x y false e f = refl
rank_apart p x y true e f = absurd (both_ways (are_same (rank_of p x) (rank_of p y)) f (rank_same p x y e))

-- a piece is told from those that come before it or behind it, and from no other
pub pieces_same : (p : Params) → IsSame (comes_before p) is_same
unfolding comes_before is_same
pieces_same p =
    record {
      ahead = λ x y e. rank_apart p x y (are_same (numbers_of x) (numbers_of y)) refl (is_less-apart (rank_of p x) (rank_of p y) e);
      behind = λ x y e. rank_apart p x y (are_same (numbers_of x) (numbers_of y)) refl (is_less-behind (rank_of p x) (rank_of p y) e);
      neither = λ x y e f.
          (and_parts (leaving_of p x == leaving_of p y) (are_same (numbers_of x) (numbers_of y)) (is_less-neither (rank_of p x) (rank_of p y) refl e f)).1;
    }
