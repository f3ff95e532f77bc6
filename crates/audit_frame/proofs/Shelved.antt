-- What stands in rows: of each number in its row alone.
use Rattle.std.proofs.Common.{◌≡◌, ℕ, zero, suc, ◌+◌, ◌<◌, arith, Bool, true, false, not, ◌&&◌, ◌||◌, ◌==◌, IsTrue, cond, List, [], ◌∷◌, ◌++◌, filter, get_or, refl, sym, ap, ◌∙◌}
use Rattle.std.specs.List.{list_any}
use Rattle.std.specs.Ordering.{is_eq}
use Rattle.std.proofs.lemmas.Bool.{eqb-true, eqb-false, eq-eqb, ne_eqb, false≢true}
use Rattle.std.proofs.lemmas.List.{append-nil}
use Rattle.std.proofs.lemmas.List.Elements.{filter-append}
use Rattle.tiger_base.specs.declared.tenancy.Rec.{Rec}
use Rattle.run_model.proofs.Reflects.{and_right}
use Rattle.audit_frame.specs.Records.{has_held, held_by, held_cmp, is_held_at, is_same, number_by}
use Rattle.audit_frame.specs.Shelves.{HasAdded, HasCleared, HasRemoved, in_rows, on_shelf, place_held, row_for}
use Rattle.audit_frame.specs.declared.records.By.{By}
use Rattle.audit_frame.specs.declared.records.By.TheVariants as way
use Rattle.audit_frame.specs.declared.records.Held.{Held}
use Rattle.audit_frame.proofs.Kept.{one_held}
use Rattle.audit_frame.proofs.Recorded.{one_record}

-- ---- elements that pass a test

-- one passes exactly if one of those that pass does
any_by : {X : Type 0} (t : X → Bool) (xs : List X) → list_any t xs ≡ list_any t (filter t xs)
any_by t [] = refl
any_by {X} t (x ∷ xs) = go (t x) refl (any_by t xs) where
  go : (b : Bool) → t x ≡ b → list_any t xs ≡ list_any t (filter t xs)
      → (b || list_any t xs) ≡ list_any t (cond b (x ∷ filter t xs) (filter t xs))
  go true e r = rw e refl
  go false e r = r

-- a test of which another one is a part
filtered : {X : Type 0} (f keep : X → Bool) (b : Bool) (xs : List X) → ((x : X) → f x ≡ true → keep x ≡ b)
    → filter f (filter keep xs) ≡ cond b (filter f xs) []
filtered f keep true [] h = refl
filtered f keep false [] h = refl
filtered {X} f keep b (x ∷ xs) h = go (f x) (keep x) b refl (h x) (filtered f keep b xs h) where
  go : (s k c : Bool) → f x ≡ s → (f x ≡ true → k ≡ c) → filter f (filter keep xs) ≡ cond c (filter f xs) []
      → filter f (cond k (x ∷ filter keep xs) (filter keep xs)) ≡ cond c (cond s (x ∷ filter f xs) (filter f xs)) []
  go true true true e g r = rw e (ap (λ (ys : List X). x ∷ ys) r)
  go true true false e g r = absurd (false≢true (sym (g e)))
  go true false true e g r = absurd (false≢true (g e))
  go true false false e g r = r
  go false true true e g r = rw e r
  go false true false e g r = rw e r
  go false false true e g r = r
  go false false false e g r = r

-- ---- what passes a test stands in one row

none_there : {X : Type 0} (place : X → ℕ) (f : X → Bool) (n : ℕ) (rows : List (List X)) → ((x : X) → f x ≡ true → place x < n)
    → filter f (in_rows place n rows) ≡ []
none_there place f n [] low = refl
none_there {X} place f n (row ∷ rows) low =
    filter-append f (filter (λ x. place x == n) row) (in_rows place (n + 1) rows)
    ∙ (ap (λ (xs : List X). xs ++ filter f (in_rows place (n + 1) rows))
    (filtered f (λ x. place x == n) false row (λ x t. other (place x) n (low x t)))
    ∙ none_there place f (n + 1) rows (λ x t. above (place x) n (low x t)))
  where
    other : (k m : ℕ) → k < m → (k == m) ≡ false
    other k m l = ne_eqb k m (λ e. absurd (omega (arith, l, e)))

    above : (k m : ℕ) → k < m → k < m + 1
    above k m l = omega (arith, l)

pub found_there : {X : Type 0} (place : X → ℕ) (f : X → Bool) (n m : ℕ) (rows : List (List X)) → ((x : X) → f x ≡ true → place x ≡ n + m)
    → filter f (in_rows place n rows) ≡ filter f (get_or rows m [])
found_there place f n m [] is = refl
found_there {X} place f n zero (row ∷ rows) is =
    filter-append f (filter (λ x. place x == n) row) (in_rows place (n + 1) rows)
    ∙ (ap (λ (xs : List X). xs ++ filter f (in_rows place (n + 1) rows))
    (filtered f (λ x. place x == n) true row (λ x t. own (place x) (is x t)))
    ∙ (ap (λ (xs : List X). filter f row ++ xs) (none_there place f (n + 1) rows (λ x t. low (place x) (is x t)))
    ∙ append-nil (filter f row)))
  where
    own : (k : ℕ) → k ≡ n + 0 → (k == n) ≡ true
    own k e = eq-eqb k n (omega (arith, e))

    low : (k : ℕ) → k ≡ n + 0 → k < n + 1
    low k e = omega (arith, e)
found_there {X} place f n (suc m) (row ∷ rows) is =
    filter-append f (filter (λ x. place x == n) row) (in_rows place (n + 1) rows)
    ∙ (ap (λ (xs : List X). xs ++ filter f (in_rows place (n + 1) rows))
    (filtered f (λ x. place x == n) false row (λ x t. other (place x) (is x t)))
    ∙ found_there place f (n + 1) m rows (λ x t. next (place x) (is x t)))
  where
    other : (k : ℕ) → k ≡ n + suc m → (k == n) ≡ false
    other k e = ne_eqb k n (λ g. absurd (omega (arith, e, g)))

    next : (k : ℕ) → k ≡ n + suc m → k ≡ (n + 1) + m
    next k e = omega (arith, e)

-- ---- records

from_none : (k m : ℕ) → k ≡ m → k ≡ 0 + m
from_none k m e = omega (arith, e)

pub has_in_row : (w : By) (c : ℕ) (q : Rec) (rows : List (List Held))
    → has_held w c q (on_shelf rows) ≡ has_held w c q (get_or rows (row_for (number_by w q)) [])
has_in_row w c q rows =
    any_by (λ h. is_eq (held_cmp (held_by w c q) h)) (on_shelf rows)
    ∙ (ap (list_any (λ (h : Held). is_eq (held_cmp (held_by w c q) h)))
    (found_there place_held (λ h. is_eq (held_cmp (held_by w c q) h)) 0 (row_for (number_by w q)) rows
    (λ h t. from_none _ _ (sym (ap (λ (k : Held). row_for k.under) (one_held (held_by w c q) h t)))))
    ∙ sym (any_by (λ h. is_eq (held_cmp (held_by w c q) h)) (get_or rows (row_for (number_by w q)) [])))

pub under_in_row : (number : ℕ) (rows : List (List Held))
    → filter (λ h. h.under == number) (on_shelf rows) ≡ filter (λ h. h.under == number) (get_or rows (row_for number) [])
under_in_row number rows =
    found_there place_held (λ h. h.under == number) 0 (row_for number) rows (λ h t. from_none _ _ (ap row_for (eqb-true h.under number t)))

pub at_in_row : (number c visit : ℕ) (rows : List (List Held))
    → filter (is_held_at number c visit) (on_shelf rows) ≡ filter (is_held_at number c visit) (get_or rows (row_for number) [])
at_in_row number c visit rows =
    found_there place_held (is_held_at number c visit) 0 (row_for number) rows
    (λ h t. from_none _ _ (ap row_for (eqb-true h.under number (is_number h t))))
  where
    is_number : (h : Held) → IsTrue (is_held_at number c visit h) → IsTrue (h.under == number)
    is_number h t = go (h.cub == c) (h.under == number) (h.visit == visit) t where
      go : (a b d : Bool) → IsTrue (a && (b && d)) → IsTrue b
      go true true d e = refl
      go true false d e = absurd (false≢true e)
      go false b d e = absurd (false≢true e)

-- ---- a change of one row

-- records of other rows are not the one that is added or taken
other_row : (w : By) (n c : ℕ) (r q : Rec) → (row_for (number_by w q) ≡ row_for (number_by w r) → ⊥) → is_same n r c q ≡ false
other_row w n c r q apart = go (is_same n r c q) refl where
  go : (b : Bool) → is_same n r c q ≡ b → b ≡ false
  go false e = refl
  go true e = absurd (apart (sym (ap (λ (k : Rec). row_for (number_by w k)) (one_record r q (and_right (n == c) _ e)))))

or_false : (a : Bool) → a ≡ (a || false)
or_false true = refl
or_false false = refl

and_true : (a : Bool) → a ≡ (a && not false)
and_true true = refl
and_true false = refl

-- and what a change leaves of a row, whether it is the one that changed or not
row_with : (w : By) (n c : ℕ) (r q : Rec) (place k : ℕ) (mid new : List (List Held)) → place ≡ row_for (number_by w r)
    → k ≡ row_for (number_by w q) → HasAdded w n r place mid new
    → has_held w c q (get_or new k []) ≡ (has_held w c q (get_or mid k []) || is_same n r c q)
row_with w n c r q place k mid new here at added = go (k == place) refl where
  go : (b : Bool) → (k == place) ≡ b → has_held w c q (get_or new k []) ≡ (has_held w c q (get_or mid k []) || is_same n r c q)
  go true e = rw (eqb-true k place e) (added.here c q)
  go false e =
      ap (has_held w c q) (added.beside k (eqb-false k place e))
      ∙ (or_false (has_held w c q (get_or mid k []))
      ∙ ap (λ (b : Bool). has_held w c q (get_or mid k []) || b)
      (sym (other_row w n c r q (λ g. eqb-false k place e (at ∙ (g ∙ sym here))))))

pub shelf_with : (w : By) (n c : ℕ) (r q : Rec) (place : ℕ) (view : List Held) (old mid new : List (List Held)) → on_shelf old ≡ view
    → place ≡ row_for (number_by w r) → ((k : ℕ) → get_or mid k [] ≡ get_or old k []) → HasAdded w n r place mid new
    → has_held w c q (on_shelf new) ≡ (has_held w c q view || is_same n r c q)
shelf_with w n c r q place view old mid new is here same added =
    has_in_row w c q new ∙ (row_with w n c r q place (row_for (number_by w q)) mid new here refl added
    ∙ (ap (λ (row : List Held). has_held w c q row || is_same n r c q) (same (row_for (number_by w q)))
    ∙ (ap (λ (b : Bool). b || is_same n r c q) (sym (has_in_row w c q old))
    ∙ ap (λ (rows : List Held). has_held w c q rows || is_same n r c q) is)))

row_without : (w : By) (n c : ℕ) (r q : Rec) (place k : ℕ) (old new : List (List Held)) → place ≡ row_for (number_by w r)
    → k ≡ row_for (number_by w q) → HasRemoved w n r place old new
    → has_held w c q (get_or new k []) ≡ (has_held w c q (get_or old k []) && not (is_same n r c q))
row_without w n c r q place k old new here at removed = go (k == place) refl where
  go : (b : Bool) → (k == place) ≡ b → has_held w c q (get_or new k []) ≡ (has_held w c q (get_or old k []) && not (is_same n r c q))
  go true e = rw (eqb-true k place e) (removed.here c q)
  go false e =
      ap (has_held w c q) (removed.beside k (eqb-false k place e))
      ∙ (and_true (has_held w c q (get_or old k []))
      ∙ ap (λ (b : Bool). has_held w c q (get_or old k []) && not b)
      (sym (other_row w n c r q (λ g. eqb-false k place e (at ∙ (g ∙ sym here))))))

pub shelf_without : (w : By) (n c : ℕ) (r q : Rec) (place : ℕ) (view : List Held) (old new : List (List Held)) → on_shelf old ≡ view
    → place ≡ row_for (number_by w r) → HasRemoved w n r place old new
    → has_held w c q (on_shelf new) ≡ (has_held w c q view && not (is_same n r c q))
shelf_without w n c r q place view old new is here removed =
    has_in_row w c q new ∙ (row_without w n c r q place (row_for (number_by w q)) old new here refl removed
    ∙ (ap (λ (b : Bool). b && not (is_same n r c q)) (sym (has_in_row w c q old))
    ∙ ap (λ (rows : List Held). has_held w c q rows && not (is_same n r c q)) is))

pub shelf_cleared : (w : By) (n c : ℕ) (q : Rec) (view : List Held) (old new : List (List Held)) → on_shelf old ≡ view
    → ((k : ℕ) → HasCleared n (get_or old k []) (get_or new k []))
    → has_held w c q (on_shelf new) ≡ (has_held w c q view && not (n == c))
shelf_cleared w n c q view old new is cleared =
    has_in_row w c q new ∙ (cleared (row_for (number_by w q)) w c q
    ∙ (ap (λ (b : Bool). b && not (n == c)) (sym (has_in_row w c q old))
    ∙ ap (λ (rows : List Held). has_held w c q rows && not (n == c)) is))

-- ---- what is asked of one row

pub has_told : (w : By) (c : ℕ) (q : Rec) (number : ℕ) (view row : List Held) (rows : List (List Held)) (answer : Bool)
    → on_shelf rows ≡ view → number ≡ number_by w q → row ≡ get_or rows (row_for number) [] → answer ≡ has_held w c q row
    → answer ≡ has_held w c q view
has_told w c q number view row rows answer is here at told =
    told ∙ (ap (has_held w c q) (at ∙ ap (λ (k : ℕ). get_or rows (row_for k) []) here)
    ∙ (sym (has_in_row w c q rows) ∙ ap (has_held w c q) is))

pub under_told : (number : ℕ) (view row answer : List Held) (rows : List (List Held)) → on_shelf rows ≡ view
    → row ≡ get_or rows (row_for number) [] → answer ≡ filter (λ h. h.under == number) row → answer ≡ filter (λ h. h.under == number) view
under_told number view row answer rows is at told =
    told ∙ (ap (filter (λ (h : Held). h.under == number)) at
    ∙ (sym (under_in_row number rows) ∙ ap (filter (λ (h : Held). h.under == number)) is))

pub at_told : (number c visit : ℕ) (view row answer : List Held) (rows : List (List Held)) → on_shelf rows ≡ view
    → row ≡ get_or rows (row_for number) [] → answer ≡ filter (is_held_at number c visit) row → answer ≡ filter (is_held_at number c visit) view
at_told number c visit view row answer rows is at told =
    told ∙ (ap (filter (is_held_at number c visit)) at
    ∙ (sym (at_in_row number c visit rows) ∙ ap (filter (is_held_at number c visit)) is))
