-- What the calls of a view do at the place that was found.
use Rattle.std.proofs.Common.{◌≡◌, ℕ, ◌+◌, zero, suc, Bool, true, false, cond, nat_le, List, [], ◌∷◌, ◌++◌, length, get_or, Option, Some, None, IfSome, refl, sym, ap, subst, ◌∙◌, arith}
use Rattle.std.specs.List.{insert, remove, slice_get}
use Rattle.std.proofs.lemmas.List.{get_or_at, set_at, take_at, drop_at}
use Rattle.std.proofs.lemmas.Bool.{leb-false}
use Rattle.std.proofs.Math.ListN.{set}
use Rattle.tiger_base.specs.declared.tenancy.Rec.{Rec}
use Rattle.slot_plan.specs.declared.params.Params.{Params}
use Rattle.slot_plan.specs.Keys.{Key, IsKey, due_of}
use Rattle.partial_view.specs.declared.line.Line.{Line}
use Rattle.partial_view.specs.declared.line.Flag.{Flag}
use Rattle.partial_view.specs.Lines.{key_of, visit_of, marked, unmarked}
use Rattle.partial_view.specs.Views.{Seen, IsWalk, IsFoundAt, IsGapAt, line_at, line_due, due_by, next_behind, with_mark, without, with_line, with_record}
use Rattle.partial_view.proofs.Order.{walk_later, walk_earlier, walk_put}
use Rattle.partial_view.proofs.Laws.{line_at-front, line_at-back, line_at-here, with_mark-front, with_mark-here, without-front, without-here, with_line-front, with_line-back, next-front, next-back, next-here, line_due-none}

-- what is seen of a view
abbrev pub record_of : Params → List Line → Seen
record_of p lines = record { params = p; lines = lines }

-- lines that are parted at a line of theirs
pub line_at-parts : (p : Params) (front : List Line) (x : Line) (back : List Line) → IsWalk p (front ++ x ∷ back) → line_at (key_of x) (front ++ x ∷ back) ≡ Some x
line_at-parts p front x back w = line_at-front p (key_of x) front (x ∷ back) (walk_earlier p front x back w) ∙ line_at-here x back

pub with_mark-parts : (p : Params) (flag : Flag) (front : List Line) (x : Line) (back : List Line) → IsWalk p (front ++ x ∷ back)
    → with_mark (key_of x) flag (front ++ x ∷ back) ≡ front ++ marked flag x ∷ back
with_mark-parts p flag front x back w =
    with_mark-front p (key_of x) flag front (x ∷ back) (walk_earlier p front x back w) ∙ ap (λ zs. front ++ zs) (with_mark-here p flag x back (walk_later p front x back w))

pub without-parts : (p : Params) (front : List Line) (x : Line) (back : List Line) → IsWalk p (front ++ x ∷ back) → without (key_of x) (front ++ x ∷ back) ≡ front ++ back
without-parts p front x back w =
    without-front p (key_of x) front (x ∷ back) (walk_earlier p front x back w) ∙ ap (λ zs. front ++ zs) (without-here p x back (walk_later p front x back w))

pub next-parts : (p : Params) (front : List Line) (x : Line) (back : List Line) → IsWalk p (front ++ x ∷ back) → next_behind p (Some (key_of x)) (front ++ x ∷ back) ≡ slice_get back 0
next-parts p front x back w =
    next-front p (key_of x) front (x ∷ back) (walk_earlier p front x back w) ∙ (next-here p x back ∙ next-back p (key_of x) back (walk_later p front x back w))

-- an element behind some others
get-at : {X : Type 0} (front back : List X) (i j : ℕ) → length front ≡ i → slice_get (front ++ back) (i + j) ≡ slice_get back j
get-at [] back i j h = ap (λ n. slice_get back n) (omega arith)
get-at (y ∷ ys) back zero j h = absurd (omega arith)
get-at (y ∷ ys) back (suc i) j h =
    let e : suc i + j ≡ suc (i + j) = omega arith in
    rw e (get-at ys back i j (omega arith))

get-behind : {X : Type 0} (front : List X) (x : X) (back : List X) (i : ℕ) → length front ≡ i → slice_get (front ++ x ∷ back) (i + 1) ≡ slice_get back 0
get-behind front x back i h = get-at front (x ∷ back) i 1 h

pub get-from : {X : Type 0} (front back : List X) (i : ℕ) → length front ≡ i → slice_get (front ++ back) i ≡ slice_get back 0
get-from front back i h =
    let e : i ≡ i + 0 = omega arith in
    ap (λ n. slice_get (front ++ back) n) e ∙ get-at front back i 0 h

pub remove_at : {X : Type 0} (front : List X) (x : X) (back : List X) (i : ℕ) → length front ≡ i → remove (front ++ x ∷ back) i ≡ front ++ back
remove_at [] x back zero h = refl
remove_at [] x back (suc i) h = absurd (omega arith)
remove_at (y ∷ ys) x back zero h = absurd (omega arith)
remove_at (y ∷ ys) x back (suc i) h = ap (λ zs. y ∷ zs) (remove_at ys x back i (omega arith))

insert_at : {X : Type 0} (front : List X) (x : X) (back : List X) (i : ℕ) → length front ≡ i → insert (front ++ back) i x ≡ front ++ x ∷ back
insert_at front x back i h = rw (take_at front back i h, drop_at front back i h) refl

module _ (p : Params) (k : Key) (lines : List Line) (i : ℕ) (w : IsWalk p lines) where
  -- the line that was found is the line of the visit
  found-at : (f : IsFoundAt k lines i) → slice_get lines i ≡ Some f.line
  found-at f = ap (λ (ys : List Line). slice_get ys i) f.parts ∙ get-from f.front (f.line ∷ f.back) i f.long

  pub found-line : (f : IsFoundAt k lines i) → Some f.line ≡ line_at k lines
  found-line f =
      let walk : IsWalk p (f.front ++ f.line ∷ f.back) = subst (λ (ys : List Line). IsWalk p ys) f.parts w in
      sym (ap (λ (ys : List Line). line_at k ys) f.parts ∙ (ap (λ (x : Key). line_at x (f.front ++ f.line ∷ f.back)) (sym f.key) ∙ line_at-parts p f.front f.line f.back walk))

  pub line-found : IsFoundAt k lines i → slice_get lines i ≡ line_at k lines
  line-found f = found-at f ∙ found-line f

  pub line-gap : IsGapAt p k lines i → line_at k lines ≡ None
  line-gap g = ap (λ (ys : List Line). line_at k ys) g.parts ∙ (line_at-front p k g.front g.back g.earlier ∙ line_at-back p k g.back g.later)

  -- a flag that is set there
  mark-found : (flag : Flag) (f : IsFoundAt k lines i) → set lines i (marked flag f.line) ≡ with_mark k flag lines
  mark-found flag f =
      let walk : IsWalk p (f.front ++ f.line ∷ f.back) = subst (λ (ys : List Line). IsWalk p ys) f.parts w in
      let was : set lines i (marked flag f.line) ≡ f.front ++ marked flag f.line ∷ f.back =
      ap (λ (ys : List Line). set ys i (marked flag f.line)) f.parts ∙ set_at f.front f.line f.back (marked flag f.line) i f.long in
      was ∙ sym (ap (λ (ys : List Line). with_mark k flag ys) f.parts ∙ (ap (λ (x : Key). with_mark x flag (f.front ++ f.line ∷ f.back)) (sym f.key) ∙ with_mark-parts p flag f.front f.line f.back walk))

  pub mark-by : (flag : Flag) {now : Seen} → IfSome (slice_get lines i) (λ x. now ≡ record_of p (set lines i (marked flag x))) → IsFoundAt k lines i → now ≡ record_of p (with_mark k flag lines)
  mark-by flag {now} e f =
      subst (λ (o : Option Line). IfSome o (λ x. now ≡ record_of p (set lines i (marked flag x)))) (found-at f) e
      ∙ ap (λ (ys : List Line). record_of p ys) (mark-found flag f)

  -- the line taken out there
  pub remove-found : IsFoundAt k lines i → remove lines i ≡ without k lines
  remove-found f =
      let walk : IsWalk p (f.front ++ f.line ∷ f.back) = subst (λ (ys : List Line). IsWalk p ys) f.parts w in
      let was : remove lines i ≡ f.front ++ f.back = ap (λ (ys : List Line). remove ys i) f.parts ∙ remove_at f.front f.line f.back i f.long in
      was ∙ sym (ap (λ (ys : List Line). without k ys) f.parts ∙ (ap (λ (x : Key). without x (f.front ++ f.line ∷ f.back)) (sym f.key) ∙ without-parts p f.front f.line f.back walk))

  -- the line behind it, and the first line behind a gap
  pub next-found : IsFoundAt k lines i → slice_get lines (i + 1) ≡ next_behind p (Some k) lines
  next-found f =
      let walk : IsWalk p (f.front ++ f.line ∷ f.back) = subst (λ (ys : List Line). IsWalk p ys) f.parts w in
      let was : slice_get lines (i + 1) ≡ slice_get f.back 0 = ap (λ (ys : List Line). slice_get ys (i + 1)) f.parts ∙ get-behind f.front f.line f.back i f.long in
      was ∙ sym (ap (λ (ys : List Line). next_behind p (Some k) ys) f.parts ∙ (ap (λ (x : Key). next_behind p (Some x) (f.front ++ f.line ∷ f.back)) (sym f.key) ∙ next-parts p f.front f.line f.back walk))

  pub next-gap : IsGapAt p k lines i → slice_get lines i ≡ next_behind p (Some k) lines
  next-gap g =
      let was : slice_get lines i ≡ slice_get g.back 0 = ap (λ (ys : List Line). slice_get ys i) g.parts ∙ get-from g.front g.back i g.long in
      was ∙ sym (ap (λ (ys : List Line). next_behind p (Some k) ys) g.parts ∙ (next-front p k g.front g.back g.earlier ∙ next-back p k g.back g.later))

  -- a line of the visit, read there
  pub line-by : (x : Line) → x ≡ get_or lines i x → IsFoundAt k lines i → Some x ≡ line_at k lines
  line-by x e f =
      let here : get_or lines i x ≡ f.line = ap (λ ys. get_or ys i x) f.parts ∙ get_or_at f.front f.line f.back x i f.long in
      ap (λ (y : Line). Some y) (e ∙ here) ∙ found-line f

-- a line of the visit, put in at its gap
pub insert-gap : (p : Params) (x : Line) (lines : List Line) (i : ℕ) → IsGapAt p (key_of x) lines i → insert lines i x ≡ with_line p x lines
insert-gap p x lines i g =
    let was : insert lines i x ≡ g.front ++ x ∷ g.back = ap (λ (ys : List Line). insert ys i x) g.parts ∙ insert_at g.front x g.back i g.long in
    was ∙ sym (ap (λ (ys : List Line). with_line p x ys) g.parts ∙ (with_line-front p x g.front g.back g.earlier ∙ ap (λ zs. g.front ++ zs) (with_line-back p x g.back g.later)))

pub walk-insert : (p : Params) (x : Line) (lines : List Line) (i : ℕ) → IsWalk p lines → IsKey p (key_of x) → IsGapAt p (key_of x) lines i → IsWalk p (insert lines i x)
walk-insert p x lines i w key g =
    let was : insert lines i x ≡ g.front ++ x ∷ g.back = ap (λ (ys : List Line). insert ys i x) g.parts ∙ insert_at g.front x g.back i g.long in
    subst (λ (ys : List Line). IsWalk p ys) (sym was) (walk_put p g.front x g.back (subst (λ (ys : List Line). IsWalk p ys) g.parts w) key g.earlier g.later)

-- what is seen of a view whose lines are changed
pub seen-with : (p : Params) (lines ys : List Line) (s : Seen) (f : Params → List Line → List Line) → record_of p lines ≡ s → ys ≡ f p lines → record_of p ys ≡ record_of s.params (f s.params s.lines)
seen-with p lines ys s f v e = ap (λ (zs : List Line). record_of p zs) e ∙ ap (λ (r : Seen). record_of r.params (f r.params r.lines)) v

-- the lines with a record
pub with_record-known : (p : Params) (r : Rec) (lines : List Line) (x : Line) → line_at (visit_of r) lines ≡ Some x → with_record p r lines ≡ lines
unfolding with_record
with_record-known p r lines x e = rw e refl

pub with_record-new : (p : Params) (r : Rec) (lines : List Line) → line_at (visit_of r) lines ≡ None → with_record p r lines ≡ with_line p (unmarked r) lines
unfolding with_record
with_record-new p r lines e = rw e refl

-- the first line that is due is the first of all, or none is
pub due-there : (p : Params) (reading : ℕ) (lines : List Line) → IsWalk p lines → due_by p reading (slice_get lines 0) ≡ line_due p reading lines
unfolding line_due
due-there p reading [] w = refl
due-there p reading (x ∷ xs) w = by_test (nat_le (due_of p (key_of x)) reading) refl
  where
    by_test : (t : Bool) → nat_le (due_of p (key_of x)) reading ≡ t → cond t (Some x) None ≡ cond t (Some x) (line_due p reading xs)
    by_test true is = refl
    by_test false is = sym (line_due-none p reading (key_of x) xs w.1 (leb-false _ _ is))

-- the plan of what is seen is the view's own
pub key-along : (p : Params) (lines : List Line) {s : Seen} (k : Key) → record_of p lines ≡ s → IsKey s.params k → IsKey p k
key-along p lines k v h = subst (λ (q : Params). IsKey q k) (sym (ap (λ (r : Seen). r.params) v)) h

-- a view that has become another keeps its order
pub walk-along : (p : Params) (ys : List Line) {now : Seen} → now ≡ record_of p ys → IsWalk p ys → IsWalk now.params now.lines
walk-along p ys {now} e w = subst (λ (s : Seen). IsWalk s.params s.lines) (sym e) w
