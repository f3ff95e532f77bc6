-- What a search finds in a row, and what one more thing makes of it.
use Rattle.std.proofs.Common.{◌≡◌, ℕ, zero, suc, ◌+◌, ◌<◌, ◌==◌, ◌&&◌, true, if◌then◌else◌, List, [], ◌∷◌, Less, Equal, Greater, Option, Some, None, Result, Ok, Err, IfOk, IfErr, length, get_or, slice_get, arith, refl, sym, ap, subst, ◌∙◌}
use Rattle.std.specs.declared.cmp.Ordering.{Ordering}
use Rattle.std.specs.Cmp.{IsTotalOrder, Equal-is, tied_then, unsigned_tied}
use Rattle.std.specs.Ordering.{is_eq, is_lt, nat_cmp, ordering_index, ordering_reverse, match_ordering}
use Rattle.std.specs.Option.{option_or}
use Rattle.std.specs.List.{AllByRecursion, insert}
use Rattle.std.specs.List.Sorted.{IsStrictlySortedBy, IsSearchInRange, IsBinarySearchResult, IsNonDecreasingBy}
use Rattle.std.specs.Map.{keys_of}
use Rattle.std.specs.BTreeMap.{insert_entry}
use Rattle.std.proofs.lemmas.Cmp.{then_total, on_total, nat_cmp_total, eq_by_cmp_equiv}
use Rattle.std.proofs.lemmas.List.{get_or-map}
use Rattle.std.proofs.lemmas.List.Elements.{All-from_recursion, recursion_from_All}
use Rattle.std.proofs.lemmas.List.Sorted.{searchable_from_sorted}
use Rattle.std.proofs.lemmas.Map.Entries.{length-keys_of, lookup_from_place, lookup_at_gap}
use Rattle.std.proofs.lemmas.Map.Keys.{IsDistinct-from_sorted, Less-from_sorted}
use Rattle.std.proofs.lemmas.Map.Lookups.{exact_pairs, exact_unsigned}
use Rattle.std.proofs.lemmas.Map.Views.{All-keys-insert_entry}
use Rattle.std.proofs.lemmas.Option.{slice_get-get_or, slice_get_within, get_or_from_slice_get}
use Rattle.visit_rows.specs.Rows.{Position, position_order, is_position, RowOf, IsRow, thing_at, unless_there, row_with, IsFoundAt, IsGapFor, IsUpTo, NoneBehind}
use Rattle.visit_rows.proofs.Under.{under-inserted, under-there}

abbrev Entry : Type 0 → Type 0
Entry T = Position × T

position_total : IsTotalOrder position_order
position_total =
    then_total (on_total (λ (p : Position). p.0) nat_cmp_total) (on_total (λ (p : Position). p.1) nat_cmp_total)

above_it : (a b : Position) → position_order a b ≡ Less → position_order b a ≡ Greater
above_it a b h = position_total.antisymm b a ∙ ap ordering_reverse h

below_it : (a b : Position) → position_order a b ≡ Greater → position_order b a ≡ Less
below_it a b h = position_total.antisymm b a ∙ ap ordering_reverse h

same_position : (a b : Position) → position_order a b ≡ Equal → a ≡ b
same_position a b h = exact_pairs nat_cmp nat_cmp exact_unsigned exact_unsigned a b h

-- what comes up to a position comes before what is behind that
up_to_before : (top a p : Position) → IsUpTo top a → position_order top p ≡ Less → position_order a p ≡ Less
up_to_before top a p up less = cases (position_order top a) refl
  where
    cases : (o : Ordering) → position_order top a ≡ o → position_order a p ≡ Less
    cases Less e = absurd (up e)
    cases Equal e = subst (λ (q : Position). position_order q p ≡ Less) (same_position top a e) less
    cases Greater e = position_total.trans a top p (below_it top a e) less

-- what comes up to a position comes up to a later one
up_to_later : (old new a : Position) → IsUpTo new old → IsUpTo old a → IsUpTo new a
up_to_later old new a later up less = up (up_to_before new old a later less)

-- ---- what a search finds

module _ {T : Type 0} (row : RowOf T) (sorted : IsRow row) where
  rising : (i j : ℕ) (d : Entry T) → i < j → j < length row
      → position_order (get_or row i d).0 (get_or row j d).0 ≡ Less
  rising i j d lt inside =
      let at : (k : ℕ) → k < length row → get_or (keys_of row) k d.0 ≡ (get_or row k d).0 =
      λ k within. get_or-map (λ (e : Entry T). e.0) row k d d.0 within in
      let within : j < length (keys_of row) = omega (arith, length-keys_of row, inside) in
      ap (λ p. position_order p (get_or row j d).0) (sym (at i (omega (arith, lt, inside))))
      ∙ (ap (position_order (get_or (keys_of row) i d.0)) (sym (at j inside))
      ∙ Less-from_sorted position_order (keys_of row) i j d.0 sorted lt within)

  searchable : (p : Position) → IsNonDecreasingBy (λ (e : Entry T). ordering_index (position_order e.0 p)) row
  searchable p = searchable_from_sorted position_total (λ (e : Entry T). e.0) row p
      (λ k d low inside. ap is_lt (above_it (get_or row k d).0 (get_or row (k + 1) d).0 (rising k (k + 1) d (omega arith) inside)))

  pub searched : (p : Position) (r : Result ℕ ℕ) → IsSearchInRange r (length row)
      → IsBinarySearchResult (λ (e : Entry T). position_order e.0 p) row r
      → record { found : IfOk r (IsFoundAt p row); absent : IfErr r (IsGapFor p row) }
  searched p (Ok i) inside same = record {
    found = record { inside = inside; here = λ d. same_position (get_or row i d).0 p (same d) };
    absent = tt;
  }
  searched p (Err i) inside parted =
      let split = parted (searchable p) in
      record {
        found = tt;
        absent = record {
          inside = inside;
          before = λ j d lt. above_it (get_or row j d).0 p (split.0 j d (omega arith) lt);
          after = λ j d le within. below_it (get_or row j d).0 p (split.1 j d le within);
        };
      }

  -- a position behind one behind which no thing stands
  pub behind : (top p : Position) → NoneBehind top row → position_order top p ≡ Less → IsGapFor p row (length row)
  behind top p none less = record {
    inside = omega arith;
    before = λ j d lt. above_it (get_or row j d).0 p (up_to_before top (get_or row j d).0 p (here j d lt) less);
    after = λ j d le within. absurd (omega (arith, le, within));
  }
    where
      here : (j : ℕ) (d : Entry T) → j < length row → IsUpTo top (get_or row j d).0
      here j d lt =
          subst (IsUpTo top) (get_or-map (λ (e : Entry T). e.0) row j d d.0 lt)
          (All-from_recursion (IsUpTo top) (keys_of row) none j d.0 (omega (arith, length-keys_of row, lt)))

  pub hit : (p : Position) (i : ℕ) (d : Entry T) → IsFoundAt p row i → thing_at p row ≡ Some (get_or row i d).1
  hit p i d at =
      lookup_from_place (eq_by_cmp_equiv position_total) row i p (get_or row i d).1
      (IsDistinct-from_sorted position_order (keys_of row) sorted)
      (slice_get-get_or row i d at.inside ∙ ap (λ (q : Position). Some (q, (get_or row i d).1)) (at.here d))

  pub missed : (p : Position) (i : ℕ) → IsGapFor p row i → thing_at p row ≡ None
  missed p i gap = lookup_at_gap position_total p row i sorted
      (λ j e lt at. read j e at ∙ gap.before j e lt)
      (λ e at. read i e at ∙ gap.after i e (omega arith) (slice_get_within row i e at))
    where
      read : (j : ℕ) (e : Entry T) → slice_get row j ≡ Some e
          → position_order p e.0 ≡ position_order p (get_or row j e).0
      read j e at = ap (λ (x : Entry T). position_order p x.0) (sym (get_or_from_slice_get row j e e at))

-- ---- one more

module _ {T : Type 0} (p : Position) (x : T) where
  abbrev put : Entry T → RowOf T → Ordering → RowOf T
  put e es o = match_ordering o ((p, x) ∷ e ∷ es) ((e.0, x) ∷ es) (e ∷ insert_entry position_order es p x)

  -- what is inserted in the gap stands in its place in the order
  inserted : (row : RowOf T) (i : ℕ) → IsGapFor p row i → insert row i (p, x) ≡ insert_entry position_order row p x
  inserted [] zero gap = refl
  inserted [] (suc i) gap = absurd (omega (arith, gap.inside))
  inserted (e ∷ es) zero gap = ap (put e es) (sym (gap.after 0 e (omega arith) (omega arith)))
  inserted (e ∷ es) (suc i) gap =
      let rest : IsGapFor p es i = record {
        inside = omega (arith, gap.inside);
        before = λ j d lt. gap.before (suc j) d (omega (arith, lt));
        after = λ j d le within. gap.after (suc j) d (omega (arith, le)) (omega (arith, within));
      } in
      ap (λ (xs : RowOf T). e ∷ xs) (inserted es i rest) ∙ ap (put e es) (sym (gap.before 0 e (omega arith)))

  below_all : (a : Position) (ps : List Position) → position_order p a ≡ Less
      → AllByRecursion (λ y. position_order a y ≡ Less) ps → AllByRecursion (λ y. position_order p y ≡ Less) ps
  below_all a [] less h = tt
  below_all a (y ∷ ps) less h = (position_total.trans p a y less h.0, below_all a ps less h.1)

  still_above : (a : Position) (es : RowOf T) → position_order a p ≡ Less
      → AllByRecursion (λ y. position_order a y ≡ Less) (keys_of es)
      → AllByRecursion (λ y. position_order a y ≡ Less) (keys_of (insert_entry position_order es p x))
  still_above a es less h =
      let Above = λ (y : Position). position_order a y ≡ Less in
      let all = All-from_recursion Above (keys_of es) h in
      recursion_from_All Above _ (All-keys-insert_entry position_order p x Above es all less)

  sorted-put : (e : Entry T) (es : RowOf T) (o : Ordering) → position_order p e.0 ≡ o → IsRow (e ∷ es)
      → IsRow (insert_entry position_order es p x) → IsRow (put e es o)
  unfolding IsStrictlySortedBy
  sorted-put e es Less is sorted rest = ((is, below_all e.0 (keys_of es) is sorted.0), sorted)
  sorted-put e es Equal is sorted rest = sorted
  sorted-put e es Greater is sorted rest = (still_above e.0 es (below_it p e.0 is) sorted.0, rest)

  sorted-insert : (row : RowOf T) → IsRow row → IsRow (insert_entry position_order row p x)
  unfolding IsStrictlySortedBy
  sorted-insert [] sorted = (tt, tt)
  sorted-insert (e ∷ es) sorted = sorted-put e es (position_order p e.0) refl sorted (sorted-insert es sorted.1)

  pub kept-insert : (row : RowOf T) (i : ℕ) → IsRow row → IsGapFor p row i → insert row i (p, x) ≡ row_with p x row
  kept-insert row i sorted gap = inserted row i gap ∙ ap (unless_there p x row) (sym (missed row sorted p i gap))

  pub row-insert : (row : RowOf T) (i : ℕ) → IsRow row → IsGapFor p row i → IsRow (insert row i (p, x))
  row-insert row i sorted gap = subst IsRow (sym (inserted row i gap)) (sorted-insert row sorted)

  pub kept-found : (row : RowOf T) (i : ℕ) (d : Entry T) → IsRow row → IsFoundAt p row i → row ≡ row_with p x row
  kept-found row i d sorted at = ap (unless_there p x row) (sym (hit row sorted p i d at))

  -- no thing stands behind a position up to which the further one comes, and behind which none stood
  pub none-insert : (old top : Position) (row : RowOf T) (i : ℕ) → IsGapFor p row i → IsUpTo top old → IsUpTo top p
      → NoneBehind old row → NoneBehind top (insert row i (p, x))
  none-insert old top row i gap later here none =
      let all = All-from_recursion (IsUpTo top) (keys_of row) (all_later (keys_of row) none) in
      subst (NoneBehind top) (sym (inserted row i gap))
      (recursion_from_All (IsUpTo top) _ (All-keys-insert_entry position_order p x (IsUpTo top) row all here))
    where
      all_later : (ps : List Position) → AllByRecursion (IsUpTo old) ps → AllByRecursion (IsUpTo top) ps
      all_later [] h = tt
      all_later (y ∷ ps) h = (up_to_later old top y later h.0, all_later ps h.1)

pub row-none : {T : Type 0} (top : Position) (row : RowOf T) → row ≡ [] → IsRow row × NoneBehind top row
unfolding IsStrictlySortedBy
row-none top row none = rw none (tt, tt)

-- ---- what stands at each position

order_eq : (a b : Position) → is_eq (position_order a b) ≡ is_position a b
order_eq a b =
    sym (tied_then (nat_cmp a.0 b.0) (nat_cmp a.1 b.1))
    ∙ (ap (λ x. x && is_eq (nat_cmp a.1 b.1)) (unsigned_tied a.0 b.0)
    ∙ ap (λ x. (a.0 == b.0) && x) (unsigned_tied a.1 b.1))

found_same : (a b : Position) → is_eq (position_order a b) ≡ true → a ≡ b
found_same a b h = same_position a b ((Equal-is (position_order a b)).0 h)

order_back : (a b : Position) → is_eq (position_order a b) ≡ is_position b a
order_back a b = (eq_by_cmp_equiv position_total).symm a b ∙ order_eq b a

-- with a further thing, what stood at a position stays, and the thing is found at its own if nothing stood there
pub first_stays : {T : Type 0} (p q : Position) (x : T) (row : RowOf T)
    → thing_at q (row_with p x row) ≡ option_or (thing_at q row) (if is_position p q then Some x else None)
first_stays {T} p q x row = by_found (thing_at p row) refl
  where
    by_found : (o : Option T) → thing_at p row ≡ o
        → thing_at q (unless_there p x row o) ≡ option_or (thing_at q row) (if is_position p q then Some x else None)
    by_found None e = under-inserted position_order found_same q p x (is_position p q) (order_back q p) row e
    by_found (Some other) e = under-there position_order found_same q p x (is_position p q) (order_back q p) row other e
