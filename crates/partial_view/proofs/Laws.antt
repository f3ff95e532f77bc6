-- What the words of a view say of lines that are parted at a visit.
use Rattle.std.proofs.Common.{◌≡◌, ℕ, ◌<◌, ◌≤◌, true, List, [], ◌∷◌, ◌++◌, Some, None, refl, ap, ◌∙◌, arith}
use Rattle.std.specs.List.{AllByRecursion, slice_get}
use Rattle.std.proofs.lemmas.Bool.{lt-leb}
use Rattle.slot_plan.specs.declared.params.Params.{Params}
use Rattle.slot_plan.specs.Keys.{Key, is_earlier, is_behind, due_of}
use Rattle.slot_plan.proofs.Keys.{is_earlier-irreflexive, is_earlier-asymmetric, earlier_due}
use Rattle.partial_view.specs.declared.line.Line.{Line}
use Rattle.partial_view.specs.declared.line.Flag.{Flag}
use Rattle.partial_view.specs.Lines.{key_of, marked}
use Rattle.partial_view.specs.Views.{IsBefore, line_at, next_behind, with_mark, without, with_line, line_due}
use Rattle.partial_view.proofs.Order.{same_itself, earlier_apart, later_apart}

-- the visits of all lines come before this one
abbrev pub IsBehind : Params → Key → List Line → Type 0
IsBehind p k lines = AllByRecursion (λ y. is_earlier p (key_of y) k ≡ true) lines

-- the line of a visit
pub line_at-front : (p : Params) (k : Key) (front rest : List Line) → IsBehind p k front → line_at k (front ++ rest) ≡ line_at k rest
unfolding line_at
line_at-front p k [] rest h = refl
line_at-front p k (y ∷ ys) rest h = rw (later_apart p (key_of y) k h.0) (line_at-front p k ys rest h.1)

pub line_at-back : (p : Params) (k : Key) (back : List Line) → IsBefore p k back → line_at k back ≡ None
unfolding line_at
line_at-back p k [] h = refl
line_at-back p k (y ∷ ys) h = rw (earlier_apart p k (key_of y) h.0) (line_at-back p k ys h.1)

pub line_at-here : (x : Line) (back : List Line) → line_at (key_of x) (x ∷ back) ≡ Some x
unfolding line_at
line_at-here x back = rw (same_itself (key_of x)) refl

-- a flag at a visit
pub with_mark-front : (p : Params) (k : Key) (flag : Flag) (front rest : List Line) → IsBehind p k front → with_mark k flag (front ++ rest) ≡ front ++ with_mark k flag rest
unfolding with_mark
with_mark-front p k flag [] rest h = refl
with_mark-front p k flag (y ∷ ys) rest h = rw (later_apart p (key_of y) k h.0) (ap (λ zs. y ∷ zs) (with_mark-front p k flag ys rest h.1))

pub with_mark-back : (p : Params) (k : Key) (flag : Flag) (back : List Line) → IsBefore p k back → with_mark k flag back ≡ back
unfolding with_mark
with_mark-back p k flag [] h = refl
with_mark-back p k flag (y ∷ ys) h = rw (earlier_apart p k (key_of y) h.0) (ap (λ zs. y ∷ zs) (with_mark-back p k flag ys h.1))

with_mark-first : (flag : Flag) (x : Line) (back : List Line) → with_mark (key_of x) flag (x ∷ back) ≡ marked flag x ∷ with_mark (key_of x) flag back
unfolding with_mark
with_mark-first flag x back = rw (same_itself (key_of x)) refl

pub with_mark-here : (p : Params) (flag : Flag) (x : Line) (back : List Line) → IsBefore p (key_of x) back → with_mark (key_of x) flag (x ∷ back) ≡ marked flag x ∷ back
with_mark-here p flag x back h = with_mark-first flag x back ∙ ap (λ zs. marked flag x ∷ zs) (with_mark-back p (key_of x) flag back h)

-- without the line of a visit
pub without-front : (p : Params) (k : Key) (front rest : List Line) → IsBehind p k front → without k (front ++ rest) ≡ front ++ without k rest
unfolding without
without-front p k [] rest h = refl
without-front p k (y ∷ ys) rest h = rw (later_apart p (key_of y) k h.0) (ap (λ zs. y ∷ zs) (without-front p k ys rest h.1))

pub without-back : (p : Params) (k : Key) (back : List Line) → IsBefore p k back → without k back ≡ back
unfolding without
without-back p k [] h = refl
without-back p k (y ∷ ys) h = rw (earlier_apart p k (key_of y) h.0) (ap (λ zs. y ∷ zs) (without-back p k ys h.1))

without-first : (x : Line) (back : List Line) → without (key_of x) (x ∷ back) ≡ without (key_of x) back
unfolding without
without-first x back = rw (same_itself (key_of x)) refl

pub without-here : (p : Params) (x : Line) (back : List Line) → IsBefore p (key_of x) back → without (key_of x) (x ∷ back) ≡ back
without-here p x back h = without-first x back ∙ without-back p (key_of x) back h

-- one more line
pub with_line-front : (p : Params) (x : Line) (front rest : List Line) → IsBehind p (key_of x) front → with_line p x (front ++ rest) ≡ front ++ with_line p x rest
unfolding with_line
with_line-front p x [] rest h = refl
with_line-front p x (y ∷ ys) rest h =
    rw (is_earlier-asymmetric p (key_of y) (key_of x) h.0) (ap (λ zs. y ∷ zs) (with_line-front p x ys rest h.1))

pub with_line-back : (p : Params) (x : Line) (back : List Line) → IsBefore p (key_of x) back → with_line p x back ≡ x ∷ back
unfolding with_line
with_line-back p x [] h = refl
with_line-back p x (y ∷ ys) h = rw h.0 refl

-- the next line
pub next-front : (p : Params) (k : Key) (front rest : List Line) → IsBehind p k front → next_behind p (Some k) (front ++ rest) ≡ next_behind p (Some k) rest
unfolding next_behind is_behind
next-front p k [] rest h = refl
next-front p k (y ∷ ys) rest h = rw (is_earlier-asymmetric p (key_of y) k h.0) (next-front p k ys rest h.1)

pub next-back : (p : Params) (k : Key) (back : List Line) → IsBefore p k back → next_behind p (Some k) back ≡ slice_get back 0
unfolding next_behind is_behind
next-back p k [] h = refl
next-back p k (y ∷ ys) h = rw h.0 refl

pub next-here : (p : Params) (x : Line) (back : List Line) → next_behind p (Some (key_of x)) (x ∷ back) ≡ next_behind p (Some (key_of x)) back
unfolding next_behind is_behind
next-here p x back = rw (is_earlier-irreflexive p (key_of x)) refl

pub next-first : (p : Params) (lines : List Line) → next_behind p None lines ≡ slice_get lines 0
unfolding next_behind is_behind
next-first p [] = refl
next-first p (x ∷ xs) = refl

-- the first line that is due
pub line_due-none : (p : Params) (reading : ℕ) (k : Key) (lines : List Line) → IsBefore p k lines → reading < due_of p k → line_due p reading lines ≡ None
unfolding line_due
line_due-none p reading k [] h late = refl
line_due-none p reading k (y ∷ ys) h late =
    let later : due_of p k ≤ due_of p (key_of y) = earlier_due p k (key_of y) h.0 in
    rw (lt-leb (due_of p (key_of y)) reading (omega arith)) (line_due-none p reading k ys h.1 late)
