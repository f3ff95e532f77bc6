-- Before which time no line is due after a change, and which line of a walk is the first.
use Rattle.std.proofs.Common.{◌≡◌, ℕ, ◌<◌, ◌≤◌, Bool, true, cond, List, Option, Some, None, IfSome, sym, ap, subst, ◌∙◌, arith}
use Rattle.std.proofs.lemmas.Bool.{le-leb, lt-leb}
use Rattle.tiger_base.specs.declared.tenancy.Rec.{Rec}
use Rattle.slot_plan.specs.declared.params.Params.{Params}
use Rattle.slot_plan.specs.Keys.{Key, IsKey, due_of}
use Rattle.partial_view.specs.declared.line.Line.{Line}
use Rattle.partial_view.specs.declared.line.Flag.{Flag}
use Rattle.partial_view.specs.declared.turn.Turn.{Turn}
use Rattle.partial_view.specs.declared.spread.Span.{Span}
use Rattle.partial_view.specs.Lines.{key_of, visit_of}
use Rattle.partial_view.specs.Views.{Seen, IsWalk, next_behind, line_due, due_by, with_mark, with_record}
use Rattle.partial_view.specs.Wheel.{IsTurn}
use Rattle.partial_view.specs.Spread.{AreSpread}
use Rattle.partial_view.specs.Work.{first_between, with_mark_of, without_of, NoneBefore}
use Rattle.partial_view.proofs.Calls.{due-there}
use Rattle.partial_view.proofs.Firsts.{first_same}
use Rattle.partial_view.proofs.Laws.{next-first}
use Rattle.partial_view.proofs.Order.{all_implies, key_of-marked, all_marked, all_without}
use Rattle.partial_view.proofs.Soonest.{found-key}
use Rattle.partial_view.proofs.Pending.{all_with_record}

-- what is known of a wheel whose lines have become others
pub begun_by : (begin : ℕ) (turn : Turn) (spans : List Span) (s now : Seen) (lines : List Line) → now ≡ record s { lines = lines } → NoneBefore s.params begin lines → IsTurn s.params turn → AreSpread s.params spans lines
    → NoneBefore now.params begin now.lines × IsTurn now.params turn × AreSpread now.params spans now.lines
begun_by begin turn spans s now lines is h t spread = (
  subst (λ (r : Seen). NoneBefore r.params begin r.lines) (sym is) h,
  subst (λ (r : Seen). IsTurn r.params turn) (sym is) t,
  subst (λ (r : Seen). AreSpread r.params spans r.lines) (sym is) spread,
)

before_earlier : (p : Params) (low high : ℕ) (lines : List Line) → low ≤ high → NoneBefore p high lines → NoneBefore p low lines
before_earlier p low high lines le h = all_implies (λ x. high ≤ due_of p (key_of x)) (λ x. low ≤ due_of p (key_of x)) (λ x g. omega (arith, le, g)) lines h

pub before_mark : (p : Params) (time : ℕ) (k : Key) (flag : Flag) (lines : List Line) → NoneBefore p time lines → NoneBefore p time (with_mark k flag lines)
before_mark p time k flag lines h =
    all_marked (λ x. time ≤ due_of p (key_of x)) k flag (λ x g. subst (λ (j : Key). time ≤ due_of p j) (sym (key_of-marked flag x)) g) lines h

pub before_mark_of : (p : Params) (time : ℕ) (flag : Flag) (o : Option Line) (lines : List Line) → NoneBefore p time lines → NoneBefore p time (with_mark_of flag o lines)
before_mark_of p time flag None lines h = h
before_mark_of p time flag (Some x) lines h = before_mark p time (key_of x) flag lines h

pub before_without_of : (p : Params) (time : ℕ) (o : Option Line) (lines : List Line) → NoneBefore p time lines → NoneBefore p time (without_of o lines)
before_without_of p time None lines h = h
before_without_of p time (Some x) lines h = all_without (λ y. time ≤ due_of p (key_of y)) (key_of x) lines h

-- a line that is due then or later is new
pub before_record : (p : Params) (time begin : ℕ) (r : Rec) (lines : List Line) → time ≤ begin → time ≤ due_of p (visit_of r) → NoneBefore p begin lines → NoneBefore p time (with_record p r lines)
before_record p time begin r lines le here h = all_with_record (λ x. time ≤ due_of p (key_of x)) p r lines (before_earlier p time begin lines le h) here

-- the first line from a time on is the first of all, if none is due before
pub first_from_begin : (p : Params) (test : Line → Bool) (begin to : ℕ) (lines : List Line) → NoneBefore p begin lines → first_between p test begin to lines ≡ first_between p test 0 to lines
first_from_begin p test begin to lines h =
    first_same p test begin to 0 to lines
    (all_implies (λ x. begin ≤ due_of p (key_of x)) (λ x. test x ≡ true → (begin ≤ due_of p (key_of x) → due_of p (key_of x) ≤ to → (0 ≤ due_of p (key_of x)) × (due_of p (key_of x) ≤ to)) × (0 ≤ due_of p (key_of x) → due_of p (key_of x) ≤ to → (begin ≤ due_of p (key_of x)) × (due_of p (key_of x) ≤ to)))
    (λ x g passes. (λ low high. (omega arith, high), λ low high. (g, high))) lines h)

-- the next line of a walk is of a visit of the plan's
pub key_next : (p : Params) (given : Option Key) (lines : List Line) (o : Option Line) → IsWalk p lines → o ≡ next_behind p given lines → IfSome o (λ x. IsKey p (key_of x))
unfolding next_behind
key_next p given lines o w e = found-key p _ lines o w e

-- the first line that is due is the first of all, if that one is due
pub due_none : (p : Params) (reading : ℕ) (lines : List Line) → IsWalk p lines → None ≡ next_behind p None lines → None ≡ line_due p reading lines
due_none p reading lines w e = ap (λ (o : Option Line). due_by p reading o) (e ∙ next-first p lines) ∙ due-there p reading lines w

pub due_first : (p : Params) (reading : ℕ) (lines : List Line) (x : Line) → IsWalk p lines → Some x ≡ next_behind p None lines → due_of p (key_of x) ≤ reading → Some x ≡ line_due p reading lines
due_first p reading lines x w e le =
    let here : due_by p reading (Some x) ≡ Some x = ap (λ (t : Bool). cond t (Some x) None) (le-leb (due_of p (key_of x)) reading le) in
    sym here ∙ (ap (λ (o : Option Line). due_by p reading o) (e ∙ next-first p lines) ∙ due-there p reading lines w)

pub due_late : (p : Params) (reading : ℕ) (lines : List Line) (x : Line) → IsWalk p lines → Some x ≡ next_behind p None lines → reading < due_of p (key_of x) → None ≡ line_due p reading lines
due_late p reading lines x w e lt =
    let here : due_by p reading (Some x) ≡ None = ap (λ (t : Bool). cond t (Some x) None) (lt-leb (due_of p (key_of x)) reading lt) in
    sym here ∙ (ap (λ (o : Option Line). due_by p reading o) (e ∙ next-first p lines) ∙ due-there p reading lines w)
