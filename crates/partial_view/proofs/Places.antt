-- What halving finds: the place of a visit's line, and what the calls of a view make of it.
use Rattle.std.proofs.Common.{◌≡◌, ℕ, ◌+◌, nat_lt, ◌<◌, ◌≤◌, zero, suc, Bool, true, false, cond, List, [], ◌∷◌, ◌++◌, length, get_or, refl, sym, ap, subst, ◌∙◌, arith, length-append}
use Rattle.std.specs.List.{AllByRecursion}
use Rattle.std.proofs.lemmas.Bool.{lt-ltb, le-ltb}
use Rattle.std.proofs.lemmas.List.{get_or_at}
use Rattle.slot_plan.specs.declared.params.Params.{Params}
use Rattle.slot_plan.specs.Keys.{Key, is_earlier, due_of}
use Rattle.slot_plan.proofs.Keys.{is_earlier-transitive, earlier_due}
use Rattle.partial_view.specs.declared.line.Line.{Line}
use Rattle.partial_view.specs.Lines.{key_of, same}
use Rattle.partial_view.specs.Views.{IsBefore, IsWalk, place_of, place_from, IsFoundAt, IsGapAt}
use Rattle.partial_view.proofs.Order.{same_is, same_itself, behind_not, other_earlier, all_implies, all_at, walk_later}

-- the line in the middle comes before the visit, and so do those before it; or it does not, and nor do those behind it
pub place_above : (p : Params) (k : Key) (lines : List Line) (i : ℕ) (d : Line) → IsWalk p lines → i < length lines
    → is_earlier p (key_of (get_or lines i d)) k ≡ true → i < place_of p k lines
unfolding place_of
place_above p k [] i d w l h = absurd (omega arith)
place_above p k (x ∷ xs) zero d w l h = rw h (omega arith)
place_above p k (x ∷ xs) (suc i) d w l h =
    let ahead = all_at (λ y. is_earlier p (key_of x) (key_of y) ≡ true) xs i d w.1 (omega arith) in
    let rest = place_above p k xs i d w.2 (omega arith) h in
    rw (is_earlier-transitive p (key_of x) (key_of (get_or xs i d)) k ahead h) (omega arith)

pub place_below : (p : Params) (k : Key) (lines : List Line) (i : ℕ) (d : Line) → IsWalk p lines → i < length lines
    → is_earlier p (key_of (get_or lines i d)) k ≡ false → place_of p k lines ≤ i
unfolding place_of
place_below p k [] i d w l h = absurd (omega arith)
place_below p k (x ∷ xs) zero d w l h = rw h (omega arith)
place_below p k (x ∷ xs) (suc i) d w l h =
    let rest = place_below p k xs i d w.2 (omega arith) h in
    elim (is_earlier p (key_of x) k) as (λ t. cond t (suc (place_of p k xs)) zero ≤ suc i) [ true ↦ omega arith | false ↦ omega arith ]

pub place_most : (p : Params) (k : Key) (lines : List Line) → place_of p k lines ≤ length lines
unfolding place_of
place_most p k [] = omega arith
place_most p k (x ∷ xs) =
    let rest = place_most p k xs in
    elim (is_earlier p (key_of x) k) as (λ t. cond t (suc (place_of p k xs)) zero ≤ suc (length xs)) [ true ↦ omega arith | false ↦ omega arith ]

-- the lines that come before a visit, and the others
pub record IsPlaced (p : Params) (k : Key) (lines : List Line) (place : ℕ) : Type 0 where
  pub front : List Line
  pub back : List Line
  pub parts : lines ≡ front ++ back
  pub long : length front ≡ place
  pub earlier : AllByRecursion (λ y. is_earlier p (key_of y) k ≡ true) front
  pub rest : AllByRecursion (λ y. is_earlier p (key_of y) k ≡ false) back

place_at : (p : Params) (k : Key) (x : Line) (xs : List Line) (t : Bool) → is_earlier p (key_of x) k ≡ t → IsBefore p (key_of x) xs
    → IsPlaced p k xs (place_of p k xs) → IsPlaced p k (x ∷ xs) (cond t (suc (place_of p k xs)) zero)
place_at p k x xs true e b r = record {
  front = x ∷ r.front;
  back = r.back;
  parts = ap (λ ys. x ∷ ys) r.parts;
  long = ap suc r.long;
  earlier = (e, r.earlier);
  rest = r.rest;
}
place_at p k x xs false e b r = record {
  front = [];
  back = x ∷ xs;
  parts = refl;
  long = refl;
  earlier = tt;
  rest = (e, all_implies (λ y. is_earlier p (key_of x) (key_of y) ≡ true) (λ y. is_earlier p (key_of y) k ≡ false) (λ y h. behind_not p (key_of x) (key_of y) k h e) xs b);
}

pub place_parts : (p : Params) (k : Key) (lines : List Line) → IsWalk p lines → IsPlaced p k lines (place_of p k lines)
unfolding place_of
place_parts p k [] w = record { front = []; back = []; parts = refl; long = refl; earlier = tt; rest = tt }
place_parts p k (x ∷ xs) w = place_at p k x xs (is_earlier p (key_of x) k) refl w.1 (place_parts p k xs w.2)

-- the line at the place is of the visit
pub found_from : (p : Params) (k : Key) (lines : List Line) (i : ℕ) (d : Line) → IsPlaced p k lines i → i < length lines → same (key_of (get_or lines i d)) k ≡ true → IsFoundAt k lines i
found_from p k lines i d r l h =
    cases r.back r.parts
  where
    cases : (back : List Line) → lines ≡ r.front ++ back → IsFoundAt k lines i
    cases [] e = absurd (omega (arith, r.long, ap length e, length-append r.front []))
    cases (x ∷ xs) e = record {
      front = r.front;
      line = x;
      back = xs;
      parts = e;
      long = r.long;
      key = same_is (key_of x) k (subst (λ (y : Line). same (key_of y) k ≡ true) (ap (λ ys. get_or ys i d) e ∙ get_or_at r.front x xs d i r.long) h);
    }

pub later_all : (p : Params) (k : Key) (x : Line) (xs : List Line) → is_earlier p k (key_of x) ≡ true → IsBefore p (key_of x) xs → IsBefore p k xs
later_all p k x xs h b =
    all_implies (λ y. is_earlier p (key_of x) (key_of y) ≡ true) (λ y. is_earlier p k (key_of y) ≡ true) (λ y g. is_earlier-transitive p k (key_of x) (key_of y) h g) xs b

-- the line at the place is of another visit, or there is none
pub gap_from : (p : Params) (k : Key) (lines : List Line) (i : ℕ) (d : Line) → IsWalk p lines → IsPlaced p k lines i → (i < length lines → same (key_of (get_or lines i d)) k ≡ false) → IsGapAt p k lines i
gap_from p k lines i d w r h =
    cases r.back r.parts r.rest
  where
    cases : (back : List Line) → lines ≡ r.front ++ back → AllByRecursion (λ y. is_earlier p (key_of y) k ≡ false) back → IsGapAt p k lines i
    cases [] e rest = record { front = r.front; back = []; parts = e; long = r.long; earlier = r.earlier; later = tt }
    cases (x ∷ xs) e rest =
        let inside : i < length lines = omega (arith, r.long, ap length e, length-append r.front (x ∷ xs)) in
        let apart : same (key_of x) k ≡ false = subst (λ (y : Line). same (key_of y) k ≡ false) (ap (λ ys. get_or ys i d) e ∙ get_or_at r.front x xs d i r.long) (h inside) in
        let first : is_earlier p k (key_of x) ≡ true = other_earlier p (key_of x) k apart rest.0 in
        let walk : IsWalk p (r.front ++ x ∷ xs) = subst (λ (ys : List Line). IsWalk p ys) e w in
        record {
          front = r.front;
          back = x ∷ xs;
          parts = e;
          long = r.long;
          earlier = r.earlier;
          later = (first, later_all p k x xs first (walk_later p r.front x xs walk));
        }

-- a line of the visit that stands at some place
found_line : (k : Key) (lines : List Line) (i : ℕ) (d : Line) → same (key_of (get_or lines i d)) k ≡ true → i < length lines → IsFoundAt k lines i
found_line k [] i d h l = absurd (omega arith)
found_line k (x ∷ xs) zero d h l = record { front = []; line = x; back = xs; parts = refl; long = refl; key = same_is (key_of x) k h }
found_line k (x ∷ xs) (suc i) d h l =
    let r = found_line k xs i d h (omega arith) in
    record { front = x ∷ r.front; line = r.line; back = r.back; parts = ap (λ ys. x ∷ ys) r.parts; long = ap suc r.long; key = r.key }

pub found_own : (lines : List Line) (i : ℕ) (d : Line) → i < length lines → IsFoundAt (key_of (get_or lines i d)) lines i
found_own lines i d l = found_line (key_of (get_or lines i d)) lines i d (same_itself (key_of (get_or lines i d))) l

-- the same, of a visit that was read from the middle line
pub above_by : (p : Params) (k : Key) (lines : List Line) (i : ℕ) (d : Line) (j : Key) {t : Bool} → j ≡ key_of (get_or lines i d) → IsWalk p lines → i < length lines
    → t ≡ is_earlier p j k → t ≡ true → i + 1 ≤ place_of p k lines
above_by p k lines i d j e w l is h =
    let above = place_above p k lines i d w l (subst (λ (x : Key). is_earlier p x k ≡ true) e (sym is ∙ h)) in
    omega arith

pub below_by : (p : Params) (k : Key) (lines : List Line) (i : ℕ) (d : Line) (j : Key) {t : Bool} → j ≡ key_of (get_or lines i d) → IsWalk p lines → i < length lines
    → t ≡ is_earlier p j k → t ≡ false → place_of p k lines ≤ i
below_by p k lines i d j e w l is h = place_below p k lines i d w l (subst (λ (x : Key). is_earlier p x k ≡ false) e (sym is ∙ h))

-- what a comparison with the line at the place says
module _ (p : Params) (k : Key) (lines : List Line) (i : ℕ) (w : IsWalk p lines) (is : i ≡ place_of p k lines) where
  placed : IsPlaced p k lines i
  placed = subst (λ n. IsPlaced p k lines n) (sym is) (place_parts p k lines w)

  pub found_by : (d : Line) (j : Key) {t : Bool} → j ≡ key_of (get_or lines i d) → t ≡ same j k → t ≡ true → i < length lines → IsFoundAt k lines i
  found_by d j e b h l = found_from p k lines i d placed l (subst (λ (x : Key). same x k ≡ true) e (sym b ∙ h))

  pub gap_by : (d : Line) (j : Key) {t : Bool} → j ≡ key_of (get_or lines i d) → t ≡ same j k → t ≡ false → IsGapAt p k lines i
  gap_by d j e b h = gap_from p k lines i d w placed (λ l. subst (λ (x : Key). same x k ≡ false) e (sym b ∙ h))

  pub gap_past : length lines ≤ i → IsGapAt p k lines i
  gap_past l = past placed.back placed.parts
    where
      past : (back : List Line) → lines ≡ placed.front ++ back → IsGapAt p k lines i
      past [] e = record { front = placed.front; back = []; parts = e; long = placed.long; earlier = placed.earlier; later = tt }
      past (x ∷ xs) e = absurd (omega (arith, placed.long, ap length e, length-append placed.front (x ∷ xs)))

-- a line that is due before the time comes before that place, and one that is not does not
from_above : (p : Params) (time : ℕ) (lines : List Line) (i : ℕ) (d : Line) → IsWalk p lines → i < length lines → due_of p (key_of (get_or lines i d)) < time → i < place_from p time lines
unfolding place_from
from_above p time [] i d w l h = absurd (omega arith)
from_above p time (x ∷ xs) zero d w l h = rw (lt-ltb (due_of p (key_of x)) time h) (omega arith)
from_above p time (x ∷ xs) (suc i) d w l h =
    let ahead = earlier_due p (key_of x) (key_of (get_or xs i d)) (all_at (λ y. is_earlier p (key_of x) (key_of y) ≡ true) xs i d w.1 (omega arith)) in
    let rest = from_above p time xs i d w.2 (omega arith) h in
    rw (lt-ltb (due_of p (key_of x)) time (omega (arith, ahead, h))) (omega (arith, rest))

from_below : (p : Params) (time : ℕ) (lines : List Line) (i : ℕ) (d : Line) → IsWalk p lines → i < length lines → time ≤ due_of p (key_of (get_or lines i d)) → place_from p time lines ≤ i
unfolding place_from
from_below p time [] i d w l h = absurd (omega arith)
from_below p time (x ∷ xs) zero d w l h = rw (le-ltb (due_of p (key_of x)) time h) (omega arith)
from_below p time (x ∷ xs) (suc i) d w l h =
    let rest = from_below p time xs i d w.2 (omega arith) h in
    elim (nat_lt (due_of p (key_of x)) time) as (λ t. cond t (suc (place_from p time xs)) zero ≤ suc i) [ true ↦ omega (arith, rest) | false ↦ omega arith ]

pub from_most : (p : Params) (time : ℕ) (lines : List Line) → place_from p time lines ≤ length lines
unfolding place_from
from_most p time [] = omega arith
from_most p time (x ∷ xs) =
    let rest = from_most p time xs in
    elim (nat_lt (due_of p (key_of x)) time) as (λ t. cond t (suc (place_from p time xs)) zero ≤ suc (length xs)) [ true ↦ omega (arith, rest) | false ↦ omega arith ]

-- the same, of a visit that was read from the middle line
pub above_from : (p : Params) (time : ℕ) (lines : List Line) (i : ℕ) (d : Line) (j : Key) → j ≡ key_of (get_or lines i d) → IsWalk p lines → i < length lines → due_of p j < time → i + 1 ≤ place_from p time lines
above_from p time lines i d j e w l h =
    let low = from_above p time lines i d w l (subst (λ (k : Key). due_of p k < time) e h) in
    omega (arith, low)

pub below_from : (p : Params) (time : ℕ) (lines : List Line) (i : ℕ) (d : Line) (j : Key) → j ≡ key_of (get_or lines i d) → IsWalk p lines → i < length lines → time ≤ due_of p j → place_from p time lines ≤ i
below_from p time lines i d j e w l h = from_below p time lines i d w l (subst (λ (k : Key). time ≤ due_of p k) e h)
