-- Lists of pieces, and what is taken out of a list.
use Rattle.std.proofs.Common.{◌≡◌, ℕ, ◌+◌, ◌-◌, ◌<◌, ◌≤◌, Bool, true, false, cond, not, List, [], ◌∷◌, ◌++◌, length, get_or, find, map, zero, suc, add-one, add-zero, Some, None, refl, ap, sym, ◌∙◌, arith}
use Rattle.std.specs.List.{remove, position, position_from, range_with_len}
use Rattle.std.proofs.lemmas.Iterator.Adapters.{position_from-zero}
use Rattle.tiger_base.specs.declared.tenancy.Rec.{Rec}
use Rattle.tiger_base.specs.declared.tenancy.Tenancy.{Tenancy}
use Rattle.tiger_base.specs.declared.tenancy.PieceState.{PieceState}
use Rattle.slot_plan.specs.declared.params.Params.{Params}
use Rattle.mirror_schedule.specs.Sorted.{with_one, gap_from, without_first}
use Rattle.mirror_schedule.specs.Pieces.{IsPieces, Pieces, comes_before, is_same, is_in, with_piece, pieces_of}
use Rattle.mirror_schedule.proofs.Members.{is_there, is_new}
use Rattle.mirror_schedule.proofs.Ranks.{pieces_order, pieces_same}

-- whether a piece is among them
pub is_in-there : (p : Params) (x : PieceState) (items : List PieceState) → gap_from (comes_before p) x 0 items ≡ None → is_in x items ≡ true
unfolding is_in
is_in-there p x items e = is_there (comes_before p) is_same (pieces_order p) (pieces_same p) x 0 items e

pub is_in-new : (p : Params) (x : PieceState) (items : List PieceState) (place : ℕ) → IsPieces p items → gap_from (comes_before p) x 0 items ≡ Some place
    → is_in x items ≡ false
unfolding is_in
is_in-new p x items place h e = is_new (comes_before p) is_same (pieces_order p) (pieces_same p) x 0 place items h.order e

module _ {X : Type 0} (test : X → Bool) where
  -- none passes the test
  pub record IsNone (xs : List X) : Type 0 where
    pub found : find test xs ≡ None
    pub left : without_first test xs ≡ xs

  none_at : (x : X) (n : ℕ) (xs : List X) (b : Bool) → test x ≡ b → (position_from test (n + 1) xs ≡ None → IsNone xs)
      → cond b (Some n) (position_from test (n + 1) xs) ≡ None → IsNone (x ∷ xs)
  none_at x n xs true e rest h = absurd (cc)
  none_at x n xs false e rest h =
      let r = rest h in
      record { found = rw e r.found; left = rw e (ap (λ zs. x ∷ zs) r.left) }

  none_from : (n : ℕ) (xs : List X) → position_from test n xs ≡ None → IsNone xs
  none_from n [] h = record { found = refl; left = refl }
  none_from n (x ∷ xs) h = none_at x n xs (test x) refl (none_from (n + 1) xs) h

  pub none_first : (xs : List X) → position test xs ≡ None → IsNone xs
  none_first xs h = none_from 0 xs (sym (position_from-zero test xs) ∙ h)

  -- the first that passes it stands at a place of a list whose first place has a number
  pub record IsFirst (xs : List X) (n place : ℕ) (d : X) : Type 0 where
    pub low : n ≤ place
    pub high : place < n + length xs
    pub found : find test xs ≡ Some (get_or xs (place - n) d)
    pub left : without_first test xs ≡ remove xs (place - n)

  some_at : (x : X) (n place : ℕ) (xs : List X) (d : X) (b : Bool) → test x ≡ b → (position_from test (n + 1) xs ≡ Some place → IsFirst xs (n + 1) place d)
      → cond b (Some n) (position_from test (n + 1) xs) ≡ Some place → IsFirst (x ∷ xs) n place d
  some_at x n place xs d true e rest h =
      let at : n ≡ place = cc in
      let none : place - n ≡ 0 = omega arith in
      record { low = omega arith; high = omega arith; found = rw (none, e) refl; left = rw (none, e) refl }
  some_at x n place xs d false e rest h =
      let r = rest h in
      let more : place - n ≡ suc (place - (n + 1)) = omega (arith, r.low) in
      record {
        low = omega (arith, r.low);
        high = omega (arith, r.high);
        found = rw (more, e) r.found;
        left = rw (more, e) (ap (λ zs. x ∷ zs) r.left);
      }

  some_from : (n place : ℕ) (xs : List X) (d : X) → position_from test n xs ≡ Some place → IsFirst xs n place d
  some_from n place [] d h = absurd (cc)
  some_from n place (x ∷ xs) d h = some_at x n place xs d (test x) refl (some_from (n + 1) place xs d) h

  pub some_found : (place : ℕ) (xs : List X) (d : X) → position test xs ≡ Some place → find test xs ≡ Some (get_or xs place d)
  some_found place xs d h =
      let at : place - 0 ≡ place = omega arith in
      (some_from 0 place xs d (sym (position_from-zero test xs) ∙ h)).found ∙ ap (λ (n : ℕ). Some (get_or xs n d)) at

-- the pieces of a visit up to a number
abbrev pub pieces_to : Tenancy → ℕ → ℕ → List PieceState
pieces_to t visit n = map (λ k. record { tenancy = t; visit = visit; piece = k }) (range_with_len 1 n)

-- one number more
map-range-more : {X : Type 0} (f : ℕ → X) (a n : ℕ) → map f (range_with_len a (suc n)) ≡ map f (range_with_len a n) ++ f (a + n) ∷ []
map-range-more f a zero = ap (λ (m : ℕ). f m ∷ []) (sym (add-zero a))
map-range-more f a (suc n) =
    let e : a + 1 + n ≡ a + suc n = omega arith in
    ap (λ zs. f a ∷ zs) (map-range-more f (a + 1) n ∙ ap (λ (m : ℕ). map f (range_with_len (a + 1) n) ++ f m ∷ []) e)

-- one piece more
pub pieces_to-more : (t : Tenancy) (visit k : ℕ) (xs : List PieceState) → xs ≡ pieces_to t visit k
    → xs ++ record { tenancy = t; visit = visit; piece = k + 1 } ∷ [] ≡ pieces_to t visit (k + 1)
pieces_to-more t visit k xs e =
    let f : ℕ → PieceState = λ n. record { tenancy = t; visit = visit; piece = n } in
    let swapped : k + 1 ≡ 1 + k = omega arith in
    let next : pieces_to t visit (suc k) ≡ xs ++ f (k + 1) ∷ [] =
    map-range-more f 1 k ∙ ap (λ (zs : List PieceState). zs ++ f (1 + k) ∷ []) (sym e) ∙ ap (λ (n : ℕ). xs ++ f n ∷ []) (sym swapped) in
    sym next ∙ ap (λ (n : ℕ). pieces_to t visit n) (sym (add-one k))

-- and all of them
pub pieces_to-all : (p : Params) (r : Rec) (k : ℕ) (xs : List PieceState) → xs ≡ pieces_to r.tenancy r.visit k → k ≡ p.pieces → xs ≡ pieces_of p r
unfolding pieces_of
pieces_to-all p r k xs e same = e ∙ ap (λ (n : ℕ). pieces_to r.tenancy r.visit n) same

-- what is seen of a set of pieces
abbrev pub seen : Params → List PieceState → Pieces
seen p items = record { params = p; items = items }

-- of one with a piece more
pub seen_with : (p : Params) (items ys : List PieceState) (m : Pieces) (x : PieceState) → seen p items ≡ m → ys ≡ with_one (comes_before p) x items
    → seen p ys ≡ seen m.params (with_piece m.params x m.items)
unfolding with_piece
seen_with p items ys m x v e = ap (λ (zs : List PieceState). seen p zs) e ∙ ap (λ (r : Pieces). seen r.params (with_one (comes_before r.params) x r.items)) v

-- the answer to a piece that is put in
pub answer_new : (p : Params) (items : List PieceState) (m : Pieces) (x : PieceState) (place : ℕ) → seen p items ≡ m → IsPieces p items
    → gap_from (comes_before p) x 0 items ≡ Some place → true ≡ not (is_in x m.items)
answer_new p items m x place v h e = sym (ap not (sym (ap (λ (r : Pieces). is_in x r.items) v) ∙ is_in-new p x items place h e))

-- and to one that is there
pub answer_there : (p : Params) (items : List PieceState) (m : Pieces) (x : PieceState) → seen p items ≡ m
    → gap_from (comes_before p) x 0 items ≡ None → false ≡ not (is_in x m.items)
answer_there p items m x v e = sym (ap not (sym (ap (λ (r : Pieces). is_in x r.items) v) ∙ is_in-there p x items e))
