-- What a change of lines is as a change of the due times beside them.
use Rattle.std.proofs.Common.{◌≡◌, ℕ, ◌<◌, ◌≤◌, zero, suc, Bool, true, false, cond, List, [], ◌∷◌, length, get_or, map, take, drop, Option, Some, IfSome, refl, sym, ap, subst, ◌∙◌, arith}
use Rattle.std.specs.List.{insert, remove, filter, slice_get}
use Rattle.std.proofs.lemmas.List.{take-map, drop-map, map-append, length-map}
use Rattle.std.proofs.Math.ListN.{set}
use Rattle.slot_plan.specs.declared.params.Params.{Params}
use Rattle.slot_plan.specs.Keys.{due_of}
use Rattle.partial_view.specs.declared.line.Line.{Line}
use Rattle.partial_view.specs.declared.line.Flag.{Flag}
use Rattle.partial_view.specs.Dues.{AreDues, dues_of}
use Rattle.partial_view.specs.Lines.{key_of, marked}
use Rattle.partial_view.specs.Views.{Seen}
use Rattle.partial_view.proofs.Calls.{record_of, seen-with}
use Rattle.partial_view.proofs.Order.{key_of-marked}

module _ {X Y : Type 0} (f : X → Y) where
  pub map-insert : (xs : List X) (i : ℕ) (x : X) → map f (insert xs i x) ≡ insert (map f xs) i (f x)
  map-insert xs i x = map-append f (take i xs) (x ∷ drop i xs) ∙ rw (take-map f i xs, drop-map f i xs) refl

  pub map-remove : (xs : List X) (i : ℕ) → map f (remove xs i) ≡ remove (map f xs) i
  map-remove xs i = map-append f (take i xs) (drop (suc i) xs) ∙ rw (take-map f i xs, drop-map f (suc i) xs) refl

  pub map-filter : (test : Y → Bool) (xs : List X) → map f (filter (λ x. test (f x)) xs) ≡ filter test (map f xs)
  map-filter test [] = refl
  map-filter test (x ∷ xs) =
      elim (test (f x)) as (λ t. map f (cond t (x ∷ filter (λ y. test (f y)) xs) (filter (λ y. test (f y)) xs)) ≡ cond t (f x ∷ filter test (map f xs)) (filter test (map f xs))) [
        | true ↦ ap (λ ys. f x ∷ ys) (map-filter test xs)
        | false ↦ map-filter test xs
      ]

-- the due time at a place is that of the line there, whatever stands for those that are not there
pub due-any : (p : Params) (lines : List Line) (dues : List ℕ) (i due n : ℕ) (x : Line) → AreDues p lines dues → i < length lines → due ≡ get_or dues i n → due ≡ due_of p (key_of (get_or lines i x))
due-any p lines dues i due n x h l e = e ∙ (ap (λ ds. get_or ds i n) h ∙ at p lines i n x l)
  where
    at : (p : Params) (lines : List Line) (i n : ℕ) (x : Line) → i < length lines → get_or (dues_of p lines) i n ≡ due_of p (key_of (get_or lines i x))
    at p [] i n x l = absurd (omega arith)
    at p (y ∷ ys) zero n x l = refl
    at p (y ∷ ys) (suc i) n x l = at p ys i n x (omega arith)

-- there are as many due times as lines
pub as-many : (p : Params) (lines : List Line) (dues : List ℕ) → AreDues p lines dues → length dues ≡ length lines
as-many p lines dues h = ap length h ∙ length-map lines (λ x. due_of p (key_of x))

-- a line more at a place, a line fewer, and a line with a flag set
pub dues-insert : (p : Params) (lines : List Line) (dues : List ℕ) (i due : ℕ) (x : Line) → AreDues p lines dues → due ≡ due_of p (key_of x) → AreDues p (insert lines i x) (insert dues i due)
dues-insert p lines dues i due x h e =
    ap (λ ds. insert ds i due) h ∙ (ap (λ d. insert (dues_of p lines) i d) e ∙ sym (map-insert (λ y. due_of p (key_of y)) lines i x))

pub dues-remove : (p : Params) (lines : List Line) (dues : List ℕ) (i : ℕ) → AreDues p lines dues → AreDues p (remove lines i) (remove dues i)
dues-remove p lines dues i h = ap (λ ds. remove ds i) h ∙ sym (map-remove (λ y. due_of p (key_of y)) lines i)

dues-mark : (p : Params) (flag : Flag) (lines : List Line) (i : ℕ) (d : Line) → dues_of p (set lines i (marked flag (get_or lines i d))) ≡ dues_of p lines
dues-mark p flag [] i d = refl
dues-mark p flag (x ∷ xs) zero d = ap (λ k. due_of p k ∷ dues_of p xs) (key_of-marked flag x)
dues-mark p flag (x ∷ xs) (suc i) d = ap (λ ds. due_of p (key_of x) ∷ ds) (dues-mark p flag xs i d)

pub dues-marked : (p : Params) (flag : Flag) (lines : List Line) (dues : List ℕ) (i : ℕ) (d y : Line) → AreDues p lines dues → y ≡ marked flag (get_or lines i d) → AreDues p (set lines i y) dues
dues-marked p flag lines dues i d y h m =
    h ∙ (sym (dues-mark p flag lines i d) ∙ ap (λ z. dues_of p (set lines i z)) (sym m))

-- a line that was put in and is taken out again
pub remove-insert : {X : Type 0} (xs : List X) (i : ℕ) (x : X) → i ≤ length xs → remove (insert xs i x) i ≡ xs
remove-insert [] zero x h = refl
remove-insert [] (suc i) x h = absurd (omega arith)
remove-insert (y ∷ ys) zero x h = refl
remove-insert (y ∷ ys) (suc i) x h = ap (λ zs. y ∷ zs) (remove-insert ys i x (omega arith))

-- an element that was read at a place is the one that stands there
pub stands_at : {X : Type 0} (xs : List X) (i : ℕ) (x : X) → x ≡ get_or xs i x → i < length xs → slice_get xs i ≡ Some x
stands_at [] i x e l = absurd (omega arith)
stands_at (y ∷ ys) zero x e l = ap (λ z. Some z) (sym e)
stands_at (y ∷ ys) (suc i) x e l = stands_at ys i x e (omega arith)

pub some-there : {X : Type 0} (xs : List X) (i : ℕ) (d : X) → i < length xs → slice_get xs i ≡ Some (get_or xs i d)
some-there [] i d l = absurd (omega arith)
some-there (y ∷ ys) zero d l = refl
some-there (y ∷ ys) (suc i) d l = some-there ys i d (omega arith)

-- where a place is taken there is a line
pub with-line : (lines : List Line) (i : ℕ) (P : Type 0) → i < length lines → ((x : Line) → P) → P
with-line [] i P l f = absurd (omega arith)
with-line (x ∷ xs) i P l f = f x

pub dues-along : (p : Params) {xs ys : List Line} {ds es : List ℕ} → xs ≡ ys → ds ≡ es → AreDues p ys es → AreDues p xs ds
dues-along p {xs} {ys} {ds} {es} e f h = f ∙ (h ∙ ap (dues_of p) (sym e))

-- a flag set at a line
pub marked-there : (p : Params) (flag : Flag) (lines : List Line) (i : ℕ) (d y : Line) (now : List Line) {s : Seen} → record_of p lines ≡ s → y ≡ marked flag (get_or lines i d) → now ≡ set lines i y → i < length s.lines
    → IfSome (slice_get s.lines i) (λ z. record_of p now ≡ record_of s.params (set s.lines i (marked flag z)))
marked-there p flag lines i d y now {s} v m n l =
    let x = get_or lines i d in
    let inside : i < length lines = omega (arith, l, ap (λ (r : Seen). length r.lines) v) in
    let found : slice_get s.lines i ≡ Some x = sym (ap (λ (r : Seen). slice_get r.lines i) v) ∙ some-there lines i d inside in
    let is : record_of p now ≡ record_of s.params (set s.lines i (marked flag x)) =
    seen-with p lines now s (λ q ls. set ls i (marked flag x)) v (n ∙ ap (λ (z : Line). set lines i z) m) in
    subst (λ (o : Option Line). IfSome o (λ z. record_of p now ≡ record_of s.params (set s.lines i (marked flag z)))) (sym found) is

-- where a line was read by a time there is one
pub get-inside : {X : Type 0} (xs : List X) (i : ℕ) (x : X) → slice_get xs i ≡ Some x → i < length xs
get-inside [] i x e = absurd (cc)
get-inside (y ∷ ys) zero x e = omega arith
get-inside (y ∷ ys) (suc i) x e = let rest = get-inside ys i x e in omega (arith, rest)
