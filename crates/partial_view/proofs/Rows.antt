-- What the calls of a bucket find at a row, and what they leave.
use Rattle.std.proofs.Common.{◌≡◌, ℕ, ◌+◌, ◌<◌, ◌≤◌, zero, suc, Bool, true, false, cond, ◌&&◌, nat_le, nat_lt, List, [], ◌∷◌, length, get_or, drop, Option, Some, None, IfSome, refl, sym, ap, subst, ◌∙◌, arith}
use Rattle.std.specs.List.{AllByRecursion, slice_get, insert, remove}
use Rattle.std.proofs.lemmas.Bool.{le-leb, lt-leb, leb-true, leb-false, ltb-true, ltb-false}
use Rattle.std.proofs.lemmas.Option.{slice_get_past}
use Rattle.std.proofs.Math.ListN.{set}
use Rattle.std.proofs.Math.Seq.{drop-nil}
use Rattle.tiger_base.specs.declared.tenancy.Rec.{Rec}
use Rattle.slot_plan.specs.declared.params.Params.{Params}
use Rattle.slot_plan.specs.Keys.{Key, IsKey, is_earlier, due_of}
use Rattle.slot_plan.proofs.Keys.{earlier_due}
use Rattle.partial_view.specs.declared.line.Line.{Line}
use Rattle.partial_view.specs.declared.line.Flag.{Flag}
use Rattle.partial_view.specs.Dues.{AreTimed, dues_of}
use Rattle.partial_view.specs.Lines.{key_of, visit_of, marked, unmarked, same}
use Rattle.partial_view.specs.Views.{Seen, IsWalk, line_at, place_of, place_from, with_record, with_mark, without, IsFoundAt, IsGapAt}
use Rattle.partial_view.specs.Work.{first_between, NoneBetween}
use Rattle.partial_view.proofs.Calls.{record_of, line-by, line-gap, insert-gap, walk-insert, with_record-new, mark-by, remove-found, walk-along}
use Rattle.partial_view.proofs.Dues.{stands_at, as-many, due-any, with-line}
use Rattle.partial_view.proofs.Order.{all_implies, walk_mark, walk_without}
use Rattle.partial_view.proofs.Places.{found_own, found_by, gap_by, gap_past, above_from}

-- a search was told how many of some lines come before a visit, which are those that are seen
pub record IsRow (s : Seen) (ls : List Line) (k : Key) (i : ℕ) : Type 0 where
  pub lines : ls ≡ s.lines
  pub walk : IsWalk s.params s.lines
  pub row : i ≡ place_of s.params k s.lines

timed : (s : Seen) (ls : List Line) (ds : List ℕ) → ls ≡ s.lines → ds ≡ dues_of s.params s.lines → IsWalk s.params s.lines → AreTimed s.params ls ds
timed s ls ds e f w =
    (f ∙ ap (dues_of s.params) (sym e), subst (λ (xs : List Line). IsWalk s.params xs) (sym e) w)

told_of : (s : Seen) (ls : List Line) (ds : List ℕ) (k : Key) (due i : ℕ) → ls ≡ s.lines → ds ≡ dues_of s.params s.lines → IsWalk s.params s.lines → due ≡ due_of s.params k
    → ((q : Params) → AreTimed q ls ds → due ≡ due_of q k → i ≡ place_of q k ls) → IsRow s ls k i
told_of s ls ds k due i e f w is tells = record {
  lines = e;
  walk = w;
  row = tells s.params (timed s ls ds e f w) is ∙ ap (λ (xs : List Line). place_of s.params k xs) e;
}

pub row-told : (inside s : Seen) (ls : List Line) (ds : List ℕ) (k : Key) (due i : ℕ) → inside ≡ s → ls ≡ inside.lines → ds ≡ dues_of inside.params inside.lines → IsWalk inside.params inside.lines → due ≡ due_of s.params k
    → ((q : Params) → AreTimed q ls ds → due ≡ due_of q k → i ≡ place_of q k ls) → IsRow s ls k i
row-told inside s ls ds k due i view e f w is tells =
    told_of s ls ds k due i (e ∙ ap (λ (r : Seen). r.lines) view) (f ∙ ap (λ (r : Seen). dues_of r.params r.lines) view) (subst (λ (r : Seen). IsWalk r.params r.lines) view w) is tells

-- what the line at the row says
module _ (s : Seen) (ls : List Line) (k : Key) (i : ℕ) (r : IsRow s ls k i) where
  pub row-found : (d : Line) (j : Key) {t : Bool} → j ≡ key_of (get_or ls i d) → t ≡ same j k → t ≡ true → i < length ls → IsFoundAt k s.lines i
  row-found d j e b h l =
      found_by s.params k s.lines i r.walk r.row d j (e ∙ ap (λ (xs : List Line). key_of (get_or xs i d)) r.lines) b h (omega (arith, l, ap length r.lines))

  pub row-gap : (d : Line) (j : Key) {t : Bool} → j ≡ key_of (get_or ls i d) → t ≡ same j k → t ≡ false → IsGapAt s.params k s.lines i
  row-gap d j e b h =
      gap_by s.params k s.lines i r.walk r.row d j (e ∙ ap (λ (xs : List Line). key_of (get_or xs i d)) r.lines) b h

  pub row-past : length ls ≤ i → IsGapAt s.params k s.lines i
  row-past l = gap_past s.params k s.lines i r.walk r.row (omega (arith, l, ap length r.lines))

-- the line of the visit, read at the row
pub row-line : (s : Seen) (ls again : List Line) (k : Key) (i : ℕ) → IsRow s ls k i → again ≡ s.lines → (x : Line) → true ≡ nat_lt i (length again) → x ≡ get_or again i x
    → (j : Key) {t : Bool} → j ≡ key_of x → t ≡ same j k → t ≡ true → Some x ≡ line_at k s.lines
row-line s ls again k i r e x inside read j is b h =
    let here : x ≡ get_or s.lines i x = read ∙ ap (λ (xs : List Line). get_or xs i x) e in
    line-by s.params k s.lines i r.walk x here (found_by s.params k s.lines i r.walk r.row x j (is ∙ ap key_of here) b h (omega (arith, ltb-true _ _ (sym inside), ap length e)))

-- another line, or none, read there
pub row-other : (s : Seen) (ls again : List Line) (k : Key) (i : ℕ) → IsRow s ls k i → again ≡ s.lines → (x : Line) → x ≡ get_or again i x
    → (j : Key) {t : Bool} → j ≡ key_of x → t ≡ same j k → t ≡ false → IsGapAt s.params k s.lines i
row-other s ls again k i r e x read j is b h =
    gap_by s.params k s.lines i r.walk r.row x j (is ∙ ap key_of (read ∙ ap (λ (xs : List Line). get_or xs i x) e)) b h

pub row-none : (s : Seen) (ls again : List Line) (k : Key) (i : ℕ) → IsRow s ls k i → again ≡ s.lines → false ≡ nat_lt i (length again) → IsGapAt s.params k s.lines i
row-none s ls again k i r e past =
    gap_past s.params k s.lines i r.walk r.row (omega (arith, ltb-false _ _ (sym past), ap length e))

-- a record put in at its gap
module _ (o s new : Seen) (r : Rec) (i : ℕ) (view : o ≡ s) (w : IsWalk s.params s.lines) where
  inserted : new ≡ record_of o.params (insert o.lines i (unmarked r)) → new ≡ record_of s.params (insert s.lines i (unmarked r))
  inserted e = e ∙ ap (λ (q : Seen). record_of q.params (insert q.lines i (unmarked r))) view

  pub row-added-walk : IsKey s.params (visit_of r) → IsGapAt s.params (visit_of r) s.lines i → new ≡ record_of o.params (insert o.lines i (unmarked r)) → IsWalk new.params new.lines
  row-added-walk key gap e =
      walk-along s.params _ (inserted e) (walk-insert s.params (unmarked r) s.lines i w key gap)

  pub row-added : IsGapAt s.params (visit_of r) s.lines i → new ≡ record_of o.params (insert o.lines i (unmarked r)) → new ≡ record_of s.params (with_record s.params r s.lines)
  row-added gap e =
      inserted e ∙ ap (record_of s.params) (insert-gap s.params (unmarked r) s.lines i gap ∙ sym (with_record-new s.params r s.lines (line-gap s.params (visit_of r) s.lines i w gap)))

-- how many lines are due before a time, as a search was told it
pub from-told : (inside s : Seen) (ds : List ℕ) (time i : ℕ) → inside ≡ s → ds ≡ dues_of inside.params inside.lines → IsWalk inside.params inside.lines
    → ((q : Params) (xs : List Line) → AreTimed q xs ds → i ≡ place_from q time xs) → i ≡ place_from s.params time s.lines
from-told inside s ds time i view f w tells = tells inside.params inside.lines (f, w) ∙ ap (λ (r : Seen). place_from r.params time r.lines) view

-- the line that a slice gave
pub get-some : (ls lines : List Line) (i : ℕ) (x : Line) → ls ≡ lines → true ≡ nat_lt i (length ls) → x ≡ get_or ls i x → Some x ≡ slice_get lines i
get-some ls lines i x same inside read =
    sym (ap (λ (xs : List Line). slice_get xs i) (sym same) ∙ stands_at ls i x read (ltb-true _ _ (sym inside)))

pub get-none : (ls lines : List Line) (i : ℕ) {r : Option Line} → r ≡ None → ls ≡ lines → false ≡ nat_lt i (length ls) → r ≡ slice_get lines i
get-none ls lines i e same past =
    e ∙ sym (ap (λ (xs : List Line). slice_get xs i) (sym same) ∙ slice_get_past ls i (ltb-false _ _ (sym past)))

-- what stands at a row that is taken
with-there : (lines : List Line) (i : ℕ) (P : Option Line → Type 0) → i < length lines → ((d : Line) → P (Some (get_or lines i d))) → P (slice_get lines i)
with-there [] i P l f = absurd (omega (arith, l))
with-there (x ∷ xs) zero P l f = f x
with-there (x ∷ xs) (suc i) P l f = with-there xs i P (omega (arith, l)) f

-- a flag set at a row, and the line of a row taken out
module _ (s now : Seen) (i : ℕ) (w : IsWalk s.params s.lines) (l : i < length s.lines) where
  marked-at : (flag : Flag) (d : Line) → IfSome (slice_get s.lines i) (λ x. now ≡ record_of s.params (set s.lines i (marked flag x))) → now ≡ record_of s.params (with_mark (key_of (get_or s.lines i d)) flag s.lines)
  marked-at flag d h = mark-by s.params (key_of (get_or s.lines i d)) s.lines i w flag h (found_own s.lines i d l)

  pub row-marked : (flag : Flag) → IfSome (slice_get s.lines i) (λ x. now ≡ record_of s.params (set s.lines i (marked flag x))) → IfSome (slice_get s.lines i) (λ x. now ≡ record_of s.params (with_mark (key_of x) flag s.lines))
  row-marked flag h =
      with-there s.lines i (λ o. IfSome o (λ x. now ≡ record_of s.params (with_mark (key_of x) flag s.lines))) l (λ d. marked-at flag d h)

  pub walk-marked : (flag : Flag) → IfSome (slice_get s.lines i) (λ x. now ≡ record_of s.params (set s.lines i (marked flag x))) → IsWalk now.params now.lines
  walk-marked flag h =
      with-there s.lines i (λ o. IsWalk now.params now.lines) l
      (λ d. walk-along s.params _ (marked-at flag d h) (walk_mark s.params (key_of (get_or s.lines i d)) flag s.lines w))

  taken-at : (d : Line) → now ≡ record_of s.params (remove s.lines i) → now ≡ record_of s.params (without (key_of (get_or s.lines i d)) s.lines)
  taken-at d h = h ∙ ap (record_of s.params) (remove-found s.params (key_of (get_or s.lines i d)) s.lines i w (found_own s.lines i d l))

  pub row-taken : now ≡ record_of s.params (remove s.lines i) → IfSome (slice_get s.lines i) (λ x. now ≡ record_of s.params (without (key_of x) s.lines))
  row-taken h =
      with-there s.lines i (λ o. IfSome o (λ x. now ≡ record_of s.params (without (key_of x) s.lines))) l (λ d. taken-at d h)

  pub walk-taken : now ≡ record_of s.params (remove s.lines i) → IsWalk now.params now.lines
  walk-taken h =
      with-there s.lines i (λ o. IsWalk now.params now.lines) l
      (λ d. walk-along s.params _ (taken-at d h) (walk_without s.params (key_of (get_or s.lines i d)) s.lines w))

-- no line is due from a time on and before the first that is due then or later
pub later-from : (p : Params) (time : ℕ) (lines : List Line) (i : ℕ) (d : Line) → IsWalk p lines → i < length lines → place_from p time lines ≤ i → time ≤ due_of p (key_of (get_or lines i d))
later-from p time lines i d w l from = cases (nat_le time (due_of p (key_of (get_or lines i d)))) refl
  where
    cases : (t : Bool) → nat_le time (due_of p (key_of (get_or lines i d))) ≡ t → time ≤ due_of p (key_of (get_or lines i d))
    cases true h = leb-true _ _ h
    cases false h =
        let above = above_from p time lines i d (key_of (get_or lines i d)) refl w l (leb-false _ _ h) in
        absurd (omega (arith, above, from))

pub none-next : (p : Params) (time : ℕ) (lines : List Line) (d : Line) → IsWalk p lines → place_from p time lines < length lines → NoneBetween p time (due_of p (key_of (get_or lines (place_from p time lines) d))) lines
unfolding place_from
none-next p time [] d w l = tt
none-next p time (x ∷ xs) d w l = cases (λ h. none-next p time xs d w.2 h) (nat_lt (due_of p (key_of x)) time) refl l
  where
    cases : (place_from p time xs < length xs → NoneBetween p time (due_of p (key_of (get_or xs (place_from p time xs) d))) xs) → (t : Bool) → nat_lt (due_of p (key_of x)) time ≡ t → cond t (suc (place_from p time xs)) zero < suc (length xs)
        → NoneBetween p time (due_of p (key_of (get_or (x ∷ xs) (cond t (suc (place_from p time xs)) zero) d))) (x ∷ xs)
    cases rest true h l = (λ from. absurd (let below = ltb-true _ _ h in omega (arith, below, from)), rest (omega (arith, l)))
    cases rest false h l =
        (λ from. omega arith, all_implies (λ y. is_earlier p (key_of x) (key_of y) ≡ true) (λ y. time ≤ due_of p (key_of y) → due_of p (key_of x) ≤ due_of p (key_of y)) (λ y e from. earlier_due p (key_of x) (key_of y) e) xs w.1)

pub none-past : (p : Params) (time limit : ℕ) (lines : List Line) → length lines ≤ place_from p time lines → NoneBetween p time limit lines
unfolding place_from
none-past p time limit [] l = tt
none-past p time limit (x ∷ xs) l = cases (λ h. none-past p time limit xs h) (nat_lt (due_of p (key_of x)) time) refl l
  where
    cases : (length xs ≤ place_from p time xs → NoneBetween p time limit xs) → (t : Bool) → nat_lt (due_of p (key_of x)) time ≡ t → suc (length xs) ≤ cond t (suc (place_from p time xs)) zero → NoneBetween p time limit (x ∷ xs)
    cases rest true h l = (λ from. absurd (let below = ltb-true _ _ h in omega (arith, below, from)), rest (omega (arith, l)))
    cases rest false h l = absurd (omega (arith, l))

-- whether a line passes a test and is due between two times
module _ (a b c : Bool) where
  all-three : a ≡ true → b ≡ true → c ≡ true → (a && b && c) ≡ true
  all-three f g h = rw (f, g, h) refl

  not-first : a ≡ false → (a && b && c) ≡ false
  not-first h = rw h refl

  not-second : b ≡ false → (a && b && c) ≡ false
  not-second h = elim a as (λ t. (t && b && c) ≡ false) [ true ↦ rw h refl | false ↦ refl ]

  not-third : c ≡ false → (a && b && c) ≡ false
  not-third h =
      elim a as (λ t. (t && b && c) ≡ false) [ true ↦ elim b as (λ t. (true && t && c) ≡ false) [ true ↦ rw h refl | false ↦ refl ] | false ↦ refl ]

-- the first line that passes a test and is due between two times, looked for from a row on
module _ (p : Params) (test : Line → Bool) (from to : ℕ) where
  begin-at : (x : Line) (xs : List Line) (t : Bool) → nat_lt (due_of p (key_of x)) from ≡ t → first_between p test from to (drop (place_from p from xs) xs) ≡ first_between p test from to xs
      → first_between p test from to (drop (cond t (suc (place_from p from xs)) zero) (x ∷ xs)) ≡ first_between p test from to (x ∷ xs)
  unfolding first_between
  begin-at x xs true h rest =
      rw (not-second (test x) (nat_le from (due_of p (key_of x))) (nat_le (due_of p (key_of x)) to) (lt-leb _ _ (ltb-true _ _ h))) rest
  begin-at x xs false h rest = refl

  pub between-begin : (lines : List Line) → first_between p test from to (drop (place_from p from lines) lines) ≡ first_between p test from to lines
  unfolding place_from
  between-begin [] = refl
  between-begin (x ∷ xs) = begin-at x xs (nat_lt (due_of p (key_of x)) from) refl (between-begin xs)

  pub between-on : (lines : List Line) (i : ℕ) (d : Line) → i < length lines → test (get_or lines i d) ≡ false → first_between p test from to (drop (i + 1) lines) ≡ first_between p test from to (drop i lines)
  unfolding first_between
  between-on [] i d l h = absurd (omega (arith, l))
  between-on (x ∷ xs) zero d l h =
      rw (not-first (test x) (nat_le from (due_of p (key_of x))) (nat_le (due_of p (key_of x)) to) h) refl
  between-on (x ∷ xs) (suc i) d l h =
      let on : suc i + 1 ≡ suc (i + 1) = omega arith in
      rw on (between-on xs i d (omega (arith, l)) h)

  pub between-here : (lines : List Line) (i : ℕ) (d : Line) → i < length lines → test (get_or lines i d) ≡ true → from ≤ due_of p (key_of (get_or lines i d)) → due_of p (key_of (get_or lines i d)) ≤ to
      → slice_get lines i ≡ first_between p test from to (drop i lines)
  unfolding first_between
  between-here [] i d l h low high = absurd (omega (arith, l))
  between-here (x ∷ xs) zero d l h low high =
      rw (all-three (test x) (nat_le from (due_of p (key_of x))) (nat_le (due_of p (key_of x)) to) h (le-leb _ _ low) (le-leb _ _ high)) refl
  between-here (x ∷ xs) (suc i) d l h low high = between-here xs i d (omega (arith, l)) h low high

  none-later : (lines : List Line) → AllByRecursion (λ y. to < due_of p (key_of y)) lines → first_between p test from to lines ≡ None
  unfolding first_between
  none-later [] h = refl
  none-later (x ∷ xs) h =
      rw (not-third (test x) (nat_le from (due_of p (key_of x))) (nat_le (due_of p (key_of x)) to) (lt-leb _ _ h.0)) (none-later xs h.1)

  pub between-end : (lines : List Line) (i : ℕ) (d : Line) → IsWalk p lines → i < length lines → to < due_of p (key_of (get_or lines i d)) → first_between p test from to (drop i lines) ≡ None
  between-end [] i d w l late = absurd (omega (arith, l))
  between-end (x ∷ xs) zero d w l late =
      none-later (x ∷ xs) (late, all_implies (λ y. is_earlier p (key_of x) (key_of y) ≡ true) (λ y. to < due_of p (key_of y)) (λ y e. let later = earlier_due p (key_of x) (key_of y) e in omega (arith, later, late)) xs w.1)
  between-end (x ∷ xs) (suc i) d w l late = between-end xs i d w.2 (omega (arith, l)) late

  pub between-past : (lines : List Line) (i : ℕ) → length lines ≤ i → first_between p test from to (drop i lines) ≡ None
  unfolding first_between
  between-past [] i l = rw (drop-nil i) refl
  between-past (x ∷ xs) zero l = absurd (omega (arith, l))
  between-past (x ∷ xs) (suc i) l = between-past xs i (omega (arith, l))

-- the due time that was read where the first line stands that is due at a time or later
module _ (inside s : Seen) (ds : List ℕ) (time i : ℕ) (view : inside ≡ s) (f : ds ≡ dues_of inside.params inside.lines) (w : IsWalk inside.params inside.lines) (tells : (q : Params) (xs : List Line) → AreTimed q xs ds → i ≡ place_from q time xs) where
  told : i ≡ place_from inside.params time inside.lines
  told = tells inside.params inside.lines (f, w)

  long : length ds ≡ length inside.lines
  long = as-many inside.params inside.lines ds f

  due_at : (n : ℕ) (d : Line) → i < length ds → get_or ds i n ≡ due_of inside.params (key_of (get_or inside.lines i d))
  due_at n d l = due-any inside.params inside.lines ds i (get_or ds i n) n d f (omega (arith, l, long)) refl

  pub none-due : (n : ℕ) → i < length ds → NoneBetween s.params time (get_or ds i n) s.lines
  none-due n l =
      subst (λ (r : Seen). NoneBetween r.params time (get_or ds i n) r.lines) view
      (with-line inside.lines i _ (omega (arith, l, long)) (λ d.
      let first : NoneBetween inside.params time (due_of inside.params (key_of (get_or inside.lines i d))) inside.lines =
      subst (λ (m : ℕ). NoneBetween inside.params time (due_of inside.params (key_of (get_or inside.lines m d))) inside.lines) (sym told) (none-next inside.params time inside.lines d w (omega (arith, l, long, told))) in
      subst (λ (m : ℕ). NoneBetween inside.params time m inside.lines) (sym (due_at n d l)) first))

  pub later-due : (n : ℕ) → i < length ds → time ≤ get_or ds i n
  later-due n l =
      with-line inside.lines i _ (omega (arith, l, long)) (λ d.
      let later = later-from inside.params time inside.lines i d w (omega (arith, l, long)) (omega (arith, told)) in
      omega (arith, later, due_at n d l))

  pub none-left : (limit : ℕ) → length ds ≤ i → NoneBetween s.params time limit s.lines
  none-left limit l =
      subst (λ (r : Seen). NoneBetween r.params time limit r.lines) view (none-past inside.params time limit inside.lines (omega (arith, l, long, told)))

-- a walk from row to row for the first line that passes a test and is due between two times
module _ (inside s : Seen) (ls : List Line) (ds : List ℕ) (view : inside ≡ s) (e : ls ≡ inside.lines) (f : ds ≡ dues_of inside.params inside.lines) (w : IsWalk inside.params inside.lines) (test : Line → Bool) (from to i : ℕ) where
  lines_are : ls ≡ s.lines
  lines_are = e ∙ ap (λ (r : Seen). r.lines) view

  dues_are : ds ≡ dues_of s.params s.lines
  dues_are = f ∙ ap (λ (r : Seen). dues_of r.params r.lines) view

  walk_is : IsWalk s.params s.lines
  walk_is = subst (λ (r : Seen). IsWalk r.params r.lines) view w

  many : length ds ≡ length s.lines
  many = as-many s.params s.lines ds dues_are

  due_here : (n : ℕ) (d : Line) → i < length ds → get_or ds i n ≡ due_of s.params (key_of (get_or s.lines i d))
  due_here n d l = due-any s.params s.lines ds i (get_or ds i n) n d dues_are (omega (arith, l, many)) refl

  test_here : (d : Line) {b : Bool} → b ≡ test (get_or ls i d) → test (get_or s.lines i d) ≡ b
  test_here d h = sym (h ∙ ap (λ (xs : List Line). test (get_or xs i d)) lines_are)

  pub walk-found : (n : ℕ) (d : Line) {b : Bool} → i < length ds → place_from s.params from s.lines ≤ i → get_or ds i n ≤ to → b ≡ test (get_or ls i d) → b ≡ true
      → first_between s.params test from to (drop i s.lines) ≡ first_between s.params test from to s.lines → (i < length s.lines) × (slice_get s.lines i ≡ first_between s.params test from to s.lines)
  walk-found n d l low high h is same_first =
      let here : i < length s.lines = omega (arith, l, many) in
      (here, between-here s.params test from to s.lines i d here (test_here d h ∙ is) (later-from s.params from s.lines i d walk_is here low) (omega (arith, high, due_here n d l)) ∙ same_first)

  pub walk-on : (d : Line) {b : Bool} → i < length ds → b ≡ test (get_or ls i d) → b ≡ false
      → first_between s.params test from to (drop i s.lines) ≡ first_between s.params test from to s.lines → first_between s.params test from to (drop (i + 1) s.lines) ≡ first_between s.params test from to s.lines
  walk-on d l h is same_first = between-on s.params test from to s.lines i d (omega (arith, l, many)) (test_here d h ∙ is) ∙ same_first

  pub walk-late : (n : ℕ) → i < length ds → to < get_or ds i n → first_between s.params test from to (drop i s.lines) ≡ first_between s.params test from to s.lines → first_between s.params test from to s.lines ≡ None
  walk-late n l late same_first =
      sym same_first ∙ with-line s.lines i _ (omega (arith, l, many)) (λ d. between-end s.params test from to s.lines i d walk_is (omega (arith, l, many)) (omega (arith, late, due_here n d l)))

  pub walk-end : length ds ≤ i → first_between s.params test from to (drop i s.lines) ≡ first_between s.params test from to s.lines → first_between s.params test from to s.lines ≡ None
  walk-end l same_first = sym same_first ∙ between-past s.params test from to s.lines i (omega (arith, l, many))
