-- The pieces of a listing, as some come, leave and are taken out.
use Rattle.std.proofs.Common.{◌≡◌, ◌∙◌, ℕ, ◌<◌, ◌≤◌, ◌||◌, ◌&&◌, ◌==◌, nat_le, nat_lt, Bool, true, false, cond, not, List, [], ◌∷◌, length, get_or, drop, count_by, Some, None, is_some, refl, ap, sym, subst, eq-eqb, arith, ⊎_elim}
use Rattle.std.specs.Prelude.{slice_set}
use Rattle.std.specs.List.{filter, insert, list_any}
use Rattle.std.proofs.lemmas.Bool.{and_parts, cases_eq, eqb-true, false_from_ne_true, not_from_false}
use Rattle.std.proofs.lemmas.Bool.Decides.{nat_tests}
use Rattle.std.proofs.lemmas.List.{get_or_default, get_or_past}
use Rattle.tiger_base.specs.Records.{same_want, want_of_piece}
use Rattle.tiger_base.specs.declared.number.Instance.{Instance}
use Rattle.tiger_base.specs.declared.tenancy.PieceState.{PieceState}
use Rattle.tiger_base.specs.declared.tenancy.Want.{Want}
use Rattle.mirror_schedule.specs.Choices.{covers, owner_of}
use Rattle.mirror_schedule.specs.Listings.{IsListing, is_front_gone, piece_row, piece_stands, pieces_standing, row_of_instance, row_of_piece}
use Rattle.mirror_schedule.specs.Pieces.{is_of, is_same, numbers_of}
use Rattle.mirror_schedule.specs.Rows.{AreRows}
use Rattle.mirror_schedule.specs.Sorted.{IsSorted, but_first_if, first_if, gap_from, with_one}
use Rattle.mirror_schedule.specs.Timed.{untimed}
use Rattle.mirror_schedule.specs.TimedPieces.{timed_before, timed_rank}
use Rattle.mirror_schedule.specs.declared.row.Wanted.{Wanted}
use Rattle.mirror_schedule.specs.declared.row.Wanted.TheVariants.{OfVisit, Of, Just}
use Rattle.mirror_schedule.proofs.Agendas.{IsLeft, left_all}
use Rattle.mirror_schedule.proofs.Numbers.{is_less-neither, same_numbers}
use Rattle.mirror_schedule.proofs.Orders.{all_filter, none_pass, put_at, put_high, sorted_with_one}
use Rattle.mirror_schedule.proofs.InRows.{any_within, count_within, first_taken, gone_by_row, new_answered, noted_rows, noted_seen, old_answered, row_else, row_here, rows_left, rows_put, rows_rest, rows_same, sorted_row, standing_left, standing_more, standing_same, stays_old}
use Rattle.mirror_schedule.proofs.TimedPieces.{timed_order}

abbrev Pair : Type 0
Pair = PieceState × ℕ

-- two of which neither comes before the other are one
of_rank : List ℕ → Pair
of_rank ks = (record { tenancy = record { instance = record { 0 = get_or ks 4 0 }; file = record { 0 = get_or ks 5 0 }; slot = record { 0 = get_or ks 1 0 }; first = get_or ks 6 0; last = get_or ks 7 0 }; visit = get_or ks 2 0; piece = get_or ks 3 0 }, get_or ks 0 0)

of_its_rank : (x : Pair) → of_rank (timed_rank x) ≡ x
unfolding of_rank
of_its_rank x = refl

pub timed_total : (x y : Pair) → timed_before x y ≡ false → timed_before y x ≡ false → x ≡ y
unfolding timed_before
timed_total x y e f =
    sym (of_its_rank x) ∙ (ap of_rank (same_numbers (timed_rank x) (timed_rank y) (is_less-neither (timed_rank x) (timed_rank y) refl e f)) ∙ of_its_rank y)

-- what a choice covers, and what a want asks for, stands in one row
covers_owner : (w : Wanted) (x : PieceState) → covers w x ≡ true → x.tenancy.instance.0 ≡ (owner_of w).0
unfolding is_same
covers_owner (OfVisit instance visit) x e = eqb-true _ _ (and_parts (is_of instance x) (x.visit == visit) e).0
covers_owner (Of instance) x e = eqb-true _ _ e
covers_owner (Just piece) x e = sym (ap (λ (ks : List ℕ). get_or ks 3 0) (same_numbers (numbers_of piece) (numbers_of x) e))

want_owner : (want : Want) (x : PieceState) → same_want want (want_of_piece x) ≡ true → x.tenancy.instance.0 ≡ want.instance.0
want_owner want x e =
    let block = and_parts _ _ e in
    let file = and_parts _ _ block.0 in
    let visit = and_parts _ _ file.0 in
    let slot = and_parts _ _ visit.0 in
    let instance = and_parts _ _ slot.0 in
    sym (eqb-true _ _ instance.0)

pub untimed_any : (test : PieceState → Bool) (xs : List Pair) → list_any test (untimed xs) ≡ list_any (λ x. test x.0) xs
untimed_any test [] = refl
untimed_any test (x ∷ xs) = ap (λ b. test x.0 || b) (untimed_any test xs)

module _ (rows : List (List Pair)) (agenda : List Pair) (h : IsListing rows agenda) where
  abbrev of_row : ℕ → Pair → Bool
  of_row n x = row_of_piece x == n

  -- one row tells whether a want asks for a piece
  pub asked : (want : Want) → list_any (λ x. same_want want (want_of_piece x)) (untimed (piece_row rows (row_of_instance want.instance.0))) ≡ list_any (λ x. same_want want (want_of_piece x)) (untimed (pieces_standing rows agenda))
  asked want =
      let test : PieceState → Bool = λ x. same_want want (want_of_piece x) in
      let k = row_of_instance want.instance.0 in
      untimed_any test (piece_row rows k)
      ∙ (ap (λ (ys : List Pair). list_any (λ y. test y.0) ys) (h.stand k)
      ∙ (any_within (λ y. test y.0) (of_row k) (λ y e. eq-eqb (row_of_piece y) k (ap row_of_instance (want_owner want y.0 e))) (pieces_standing rows agenda)
      ∙ sym (untimed_any test (pieces_standing rows agenda))))

  -- and whether one is of an instance
  pub owned : (v : Instance) → list_any (λ x. is_of v x.0) (piece_row rows (row_of_instance v.0)) ≡ list_any (λ x. is_of v x.0) (pieces_standing rows agenda)
  owned v =
      let k = row_of_instance v.0 in
      ap (λ (ys : List Pair). list_any (λ y. is_of v y.0) ys) (h.stand k)
      ∙ any_within (λ y. is_of v y.0) (of_row k) (λ y e. eq-eqb (row_of_piece y) k (ap row_of_instance (eqb-true _ _ e))) (pieces_standing rows agenda)

  -- what is wanted is taken out of one row
  module _ (w : Wanted) (now : List (List Pair)) (own : piece_row now (row_of_instance (owner_of w).0) ≡ filter (λ x. not (covers w x.0)) (piece_row rows (row_of_instance (owner_of w).0)))
      (others : (n : ℕ) → (row_of_instance (owner_of w).0 ≡ n → ⊥) → piece_row now n ≡ piece_row rows n) where
    abbrev keep : Pair → Bool
    keep x = not (covers w x.0)

    stay : (x : Pair) → (row_of_instance (owner_of w).0 ≡ row_of_piece x → ⊥) → keep x ≡ true
    stay x apart = not_from_false (covers w x.0) (false_from_ne_true (covers w x.0) (λ e. apart (sym (ap row_of_instance (covers_owner w x.0 e)))))

    pub listing_left : IsListing now agenda
    listing_left = record { order = h.order; stand = rows_left timed_before timed_order timed_total row_of_piece rows now (row_of_instance (owner_of w).0) others keep own stay agenda h.stand }

    pub seen_struck : pieces_standing now agenda ≡ filter keep (pieces_standing rows agenda)
    seen_struck = standing_left timed_before timed_order timed_total row_of_piece rows now (row_of_instance (owner_of w).0) others keep own stay agenda

  pub count_struck : (w : Wanted) → count_by (λ x. covers w x.0) (piece_row rows (row_of_instance (owner_of w).0)) ≡ count_by (λ x. covers w x.0) (pieces_standing rows agenda)
  count_struck w =
      let k = row_of_instance (owner_of w).0 in
      ap (λ (ys : List Pair). count_by (λ x. covers w x.0) ys) (h.stand k)
      ∙ count_within (λ x. covers w x.0) (of_row k) (λ x e. eq-eqb (row_of_piece x) k (ap row_of_instance (covers_owner w x.0 e))) (pieces_standing rows agenda)

-- whether the first of all that came stands no longer
pub front_told : (rows : List (List Pair)) (agenda : List Pair) (x : Pair) → Some x ≡ first_if (λ y. true) agenda → not (piece_stands rows x) ≡ is_front_gone rows agenda
front_told rows [] x e = absurd (cc)
front_told rows (y ∷ ys) x e = let same : x ≡ y = cc in ap (λ (z : Pair). not (piece_stands rows z)) same

pub front_none : (rows : List (List Pair)) (agenda : List Pair) → None ≡ first_if (λ y. true) agenda → false ≡ is_front_gone rows agenda
front_none rows [] e = refl
front_none rows (y ∷ ys) e = absurd (cc)

-- one that comes before another leaves no later
later : (time : ℕ) (x y : Pair) → nat_le x.1 time ≡ false → timed_before x y ≡ true → nat_le y.1 time ≡ false
unfolding timed_before
later time x y e f = at _ f
  where
    at : (b : Bool) → (nat_lt x.1 y.1 || (x.1 == y.1 && b)) ≡ true → nat_le y.1 time ≡ false
    at b h = grind (arith, nat_tests)

-- if the first of all that came does not leave by a time, none of those that stand does
pub none_due : (time : ℕ) (rows : List (List Pair)) (agenda : List Pair) → IsListing rows agenda → is_some (first_if (λ x. nat_le x.1 time) agenda) ≡ false → IsLeft (λ x. nat_le x.1 time) (pieces_standing rows agenda)
none_due time rows agenda h none =
    left_all (λ x. nat_le x.1 time) (pieces_standing rows agenda)
    (all_filter (λ x. nat_le x.1 time ≡ false) (piece_stands rows) agenda (none_pass timed_before (λ x. nat_le x.1 time) (later time) agenda h.order none))

-- what is left of all that came, if the first one does not leave
pub none_taken : (test : Pair → Bool) (agenda now : List Pair) → None ≡ first_if test agenda → now ≡ but_first_if test agenda → now ≡ agenda
none_taken test [] now e f = f
none_taken test (x ∷ xs) now e f = at (test x) e f
  where
    at : (t : Bool) → None ≡ cond t (Some x) None → now ≡ cond t xs (x ∷ xs) → now ≡ x ∷ xs
    at true e f = absurd (cc)
    at false e f = f

-- the first one is taken out: it stands and leaves, or it stands no longer
module _ (test : Pair → Bool) (rows : List (List Pair)) where
  pub record IsPassed (agenda now : List Pair) : Type 0 where
    pub front : is_front_gone rows agenda ≡ true
    pub rest : now ≡ drop 1 agenda

  pub gone_passed : (agenda : List Pair) (y : Pair) (now : List Pair) → piece_stands rows y ≡ false → Some y ≡ first_if test agenda → now ≡ but_first_if test agenda → IsPassed agenda now
  gone_passed [] y now gone e f = absurd (cc)
  gone_passed (x ∷ xs) y now gone e f = at (test x) e f
    where
      at : (t : Bool) → Some y ≡ cond t (Some x) None → now ≡ cond t xs (x ∷ xs) → IsPassed (x ∷ xs) now
      at false e f = absurd (cc)
      at true e f =
          let same : x ≡ y = cc in
          record { front = ap (λ (z : Pair). not (piece_stands rows z)) same ∙ ap not gone; rest = f }

  pub record HasLeft (agenda : List Pair) (y : Pair) (rows_now : List (List Pair)) (now : List Pair) : Type 0 where
    pub listing : IsListing rows_now now
    pub first : Some y ≡ first_if test (pieces_standing rows agenda)
    pub left : pieces_standing rows_now now ≡ but_first_if test (pieces_standing rows agenda)

  pub one_leaves : (agenda : List Pair) (y : Pair) (rows_now : List (List Pair)) (now : List Pair) → IsListing rows agenda → piece_stands rows y ≡ true → Some y ≡ first_if test agenda → now ≡ but_first_if test agenda
      → piece_row rows_now (row_of_piece y) ≡ drop 1 (piece_row rows (row_of_piece y)) → ((n : ℕ) → (row_of_piece y ≡ n → ⊥) → piece_row rows_now n ≡ piece_row rows n) → HasLeft agenda y rows_now now
  one_leaves [] y rows_now now h standing e f own others = absurd (cc)
  one_leaves (x ∷ xs) y rows_now now h standing e f own others = at (test x) refl e f
    where
      at : (t : Bool) → test x ≡ t → Some y ≡ cond t (Some x) None → now ≡ cond t xs (x ∷ xs) → HasLeft (x ∷ xs) y rows_now now
      at false is e f = absurd (cc)
      at true is e f =
          let same : x ≡ y = cc in
          let stays : piece_stands rows x ≡ true = ap (piece_stands rows) same ∙ standing in
          let own_x : piece_row rows_now (row_of_piece x) ≡ drop 1 (piece_row rows (row_of_piece x)) = subst (λ (z : Pair). piece_row rows_now (row_of_piece z) ≡ drop 1 (piece_row rows (row_of_piece z))) (sym same) own in
          let others_x : (n : ℕ) → (row_of_piece x ≡ n → ⊥) → piece_row rows_now n ≡ piece_row rows n = subst (λ (z : Pair). (n : ℕ) → (row_of_piece z ≡ n → ⊥) → piece_row rows_now n ≡ piece_row rows n) (sym same) others in
          let seen : pieces_standing rows (x ∷ xs) ≡ x ∷ pieces_standing rows_now xs =
          first_taken timed_before timed_order timed_total row_of_piece rows rows_now (row_of_piece x) others_x x xs refl own_x h.order stays h.stand in
          record {
            listing = record {
              order = subst (λ (ys : List Pair). IsSorted timed_before ys) (sym f) h.order.1;
              stand = subst (λ (ys : List Pair). AreRows timed_before row_of_piece rows_now ys) (sym f)
                  (rows_rest timed_before timed_order timed_total row_of_piece rows rows_now (row_of_piece x) others_x x xs refl own_x h.order stays h.stand);
            };
            first = e ∙ sym (ap (first_if test) seen ∙ ap (λ t. cond t (Some x) None) is);
            left = ap (λ (ys : List Pair). pieces_standing rows_now ys) f
                ∙ sym (ap (but_first_if test) seen ∙ ap (λ t. cond t (pieces_standing rows_now xs) (x ∷ pieces_standing rows_now xs)) is);
          }

-- a row that was read at its number, and written
pub row_read : (rows : List (List Pair)) (m n : ℕ) (r : List Pair) → m < length rows → r ≡ get_or rows m r → m ≡ n → r ≡ piece_row rows n
row_read rows m n r l e q = e ∙ (get_or_default rows m r [] l ∙ ap (λ (k : ℕ). piece_row rows k) q)

pub row_past : (rows : List (List Pair)) (m n : ℕ) → length rows ≤ m → m ≡ n → piece_row rows n ≡ []
row_past rows m n l q = ap (λ (k : ℕ). piece_row rows k) (sym q) ∙ get_or_past rows m [] l

module _ (old grown now : List (List Pair)) (m k : ℕ) (r new : List Pair) (l : m < length grown) (at : r ≡ get_or grown m r) (q : m ≡ k) (same : (n : ℕ) → piece_row grown n ≡ piece_row old n) (is : now ≡ slice_set grown m new) where
  pub old_row : r ≡ piece_row old k
  old_row = row_read grown m k r l at q ∙ same k

  pub new_row : piece_row now k ≡ new
  new_row = ap (λ (n : ℕ). piece_row now n) (sym q) ∙ row_here timed_before timed_order timed_total row_of_piece grown now m new l is

  pub other_row : (n : ℕ) → (k ≡ n → ⊥) → piece_row now n ≡ piece_row old n
  other_row n apart = row_else timed_before timed_order timed_total row_of_piece grown now m new is n (λ e. apart (sym q ∙ e)) ∙ same n

  pub kept_row : new ≡ r → (n : ℕ) → piece_row now n ≡ piece_row old n
  kept_row e n =
      ⊎_elim
      (λ (f : k ≡ n). ap (λ (j : ℕ). piece_row now j) (sym f) ∙ (new_row ∙ (e ∙ (old_row ∙ ap (λ (j : ℕ). piece_row old j) f))))
      (λ (apart : k ≡ n → ⊥). other_row n apart)
      (cases_eq k n)

-- one comes
module _ (rows : List (List Pair)) (agenda : List Pair) (h : IsListing rows agenda) (x : Pair) where
  -- what is seen of the listing afterwards
  pub record IsSeenAs (rows_now : List (List Pair)) (agenda_now seen : List Pair) : Type 0 where
    pub listing : IsListing rows_now agenda_now
    pub seen_is : pieces_standing rows_now agenda_now ≡ seen

  pub row_sorted : IsSorted timed_before (piece_row rows (row_of_piece x))
  row_sorted = sorted_row timed_before timed_order timed_total row_of_piece rows agenda (row_of_piece x) h.order h.stand

  module _ (place : ℕ) (gap : Some place ≡ gap_from timed_before x 0 (piece_row rows (row_of_piece x))) where
    gone : piece_stands rows x ≡ false
    gone = gone_by_row timed_before timed_order timed_total row_of_piece rows agenda x h.order h.stand place gap

    pub inside_row : place ≤ length (piece_row rows (row_of_piece x))
    inside_row = put_high timed_before x (piece_row rows (row_of_piece x)) place gap

    pub told_new : true ≡ is_some (gap_from timed_before x 0 (pieces_standing rows agenda))
    told_new = new_answered timed_before timed_order timed_total row_of_piece rows agenda x h.order h.stand place gap

    -- without memory for it in its row
    pub not_entered : (rows_now : List (List Pair)) (agenda_now : List Pair) → ((n : ℕ) → piece_row rows_now n ≡ piece_row rows n) → agenda_now ≡ with_one timed_before x agenda → IsSeenAs rows_now agenda_now (pieces_standing rows agenda)
    not_entered rows_now agenda_now same is =
        let base : IsSeenAs rows_now (with_one timed_before x agenda) (pieces_standing rows agenda) = record {
          listing = record {
            order = sorted_with_one timed_before timed_order x agenda h.order;
            stand = rows_same timed_before timed_order timed_total row_of_piece rows rows_now same (with_one timed_before x agenda)
                (noted_rows timed_before timed_order timed_total row_of_piece rows agenda x h.order h.stand gone);
          };
          seen_is = standing_same timed_before timed_order timed_total row_of_piece rows rows_now same (with_one timed_before x agenda)
              ∙ noted_seen timed_before timed_order timed_total row_of_piece rows agenda x h.order h.stand gone;
        } in
        subst (λ (ys : List Pair). IsSeenAs rows_now ys (pieces_standing rows agenda)) (sym is) base

    pub entered : (rows_now : List (List Pair)) (agenda_now : List Pair) → piece_row rows_now (row_of_piece x) ≡ insert (piece_row rows (row_of_piece x)) place x
        → ((n : ℕ) → (row_of_piece x ≡ n → ⊥) → piece_row rows_now n ≡ piece_row rows n) → agenda_now ≡ with_one timed_before x agenda → IsSeenAs rows_now agenda_now (with_one timed_before x (pieces_standing rows agenda))
    entered rows_now agenda_now own others is =
        let here : piece_row rows_now (row_of_piece x) ≡ with_one timed_before x (piece_row rows (row_of_piece x)) =
        own ∙ put_at timed_before x (piece_row rows (row_of_piece x)) (piece_row rows (row_of_piece x)) place gap refl in
        let base : IsSeenAs rows_now (with_one timed_before x agenda) (with_one timed_before x (pieces_standing rows agenda)) = record {
          listing = record {
            order = sorted_with_one timed_before timed_order x agenda h.order;
            stand = rows_put timed_before timed_order timed_total row_of_piece rows rows_now (row_of_piece x) others x refl here agenda h.order gone h.stand;
          };
          seen_is = standing_more timed_before timed_order timed_total row_of_piece rows rows_now (row_of_piece x) others x refl here agenda h.order gone;
        } in
        subst (λ (ys : List Pair). IsSeenAs rows_now ys (with_one timed_before x (pieces_standing rows agenda))) (sym is) base

  module _ (there : None ≡ gap_from timed_before x 0 (piece_row rows (row_of_piece x))) where
    pub told_old : false ≡ is_some (gap_from timed_before x 0 (pieces_standing rows agenda))
    told_old = old_answered timed_before timed_order timed_total row_of_piece rows agenda x h.order h.stand there

    pub seen_old : pieces_standing rows agenda ≡ with_one timed_before x (pieces_standing rows agenda)
    seen_old = stays_old timed_before timed_order timed_total row_of_piece rows agenda x h.order h.stand there
