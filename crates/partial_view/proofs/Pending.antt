-- What is still to be forwarded, to be asked for or to be split where a view changes, and where the
-- first line stands for which it may be.
use Rattle.std.proofs.Common.{◌≡◌, ℕ, ◌+◌, ◌^◌, ◌<◌, ◌≤◌, ◌&&◌, ◌-◌, nat_lt, nat_le, max, Bool, true, false, cond, not, List, [], ◌∷◌, find, Option, Some, None, is_some, refl, subst, ◌∙◌, sym, ap, arith}
use Rattle.std.specs.List.{AllByRecursion}
use Rattle.std.proofs.lemmas.Bool.{and_parts, and_from, both_ways, le-leb, leb-true}
use Rattle.slot_plan.specs.declared.params.Params.{Params}
use Rattle.slot_plan.specs.Conditions.{IsInRange}
use Rattle.slot_plan.specs.Keys.{Key, IsKey, due_of, is_earlier}
use Rattle.slot_plan.proofs.Times.{due_next, due_fits}
use Rattle.tiger_base.specs.declared.tenancy.Rec.{Rec}
use Rattle.tiger_base.specs.Kinds.{is_own}
use Rattle.state_forward.specs.Forwards.{next_due}
use Rattle.partial_view.specs.declared.line.Line.{Line}
use Rattle.partial_view.specs.declared.line.Flag.{Flag}
use Rattle.partial_view.specs.declared.line.Flag.TheVariants.{Forwarded, Asked, Split}
use Rattle.partial_view.specs.declared.full_disks.FullDisks.{FullDisks}
use Rattle.partial_view.specs.declared.turn.Turn.{Turn}
use Rattle.partial_view.specs.declared.view.Added.{Added}
use Rattle.partial_view.specs.declared.view.Added.TheVariants.{New}
use Rattle.partial_view.specs.Lines.{key_of, visit_of, marked, unmarked}
use Rattle.partial_view.specs.Views.{line_at, with_mark, without, with_line, with_record, IsWalk, Seen}
use Rattle.partial_view.specs.Wheel.{IsTurn}
use Rattle.partial_view.specs.Work.{is_between, first_between}
use Rattle.partial_view.specs.Adding.{answer_to, answer_at}
use Rattle.partial_view.proofs.Order.{all_implies, all_marked, all_without}
use Rattle.partial_view.proofs.Calls.{with_record-known}
use Rattle.partial_view.proofs.Firsts.{alike, find_alike, between_parts, first_same, first_least}
use Rattle.partial_view.proofs.Frees.{full_mark, full_without}
use Rattle.partial_view.proofs.Soonest.{found-key}
use Rattle.partial_view.proofs.Turns.{between-is}
use Rattle.partial_view.specs.Free.{AreFull}
use Rattle.partial_view.specs.Pending.{is_pending, IsForwardedTo, IsForwardedBetween, is_unasked, IsAskedBefore, is_unsplit, IsSplitFrom, IsSplitBetween, is_unsplit_from}

-- what is known up to a time is known up to an earlier one, and what is known from a time on from a later one on
pub forwarded_earlier : (p : Params) (low high : ℕ) (lines : List Line) → low ≤ high → IsForwardedTo p high lines → IsForwardedTo p low lines
forwarded_earlier p low high lines e h =
    all_implies (λ x. is_pending x ≡ true → high < next_due p x.rec) (λ x. is_pending x ≡ true → low < next_due p x.rec) (λ x f pending. omega (arith, f pending)) lines h

-- what is known of each due time that is still to come is known of the lines
pub forwarded_on : (p : Params) (limit from to past : ℕ) (lines : List Line) → ((due : ℕ) → limit < due → (from ≤ due → to < due) → past < due)
    → IsForwardedTo p limit lines → IsForwardedBetween p from to lines → IsForwardedTo p past lines
forwarded_on p limit from to past [] on f g = tt
forwarded_on p limit from to past (x ∷ xs) on f g = (λ pending. on (next_due p x.rec) (f.0 pending) (g.0 pending), forwarded_on p limit from to past xs on f.1 g.1)

pub free_on : (p : Params) (limit from to since until : ℕ) (lines : List Line) → ((due : ℕ) → limit < due → (from ≤ due → to < due) → since ≤ due → until < due)
    → IsForwardedTo p limit lines → IsForwardedBetween p from to lines → IsForwardedBetween p since until lines
free_on p limit from to since until [] on f g = tt
free_on p limit from to since until (x ∷ xs) on f g = (λ pending late. on (next_due p x.rec) (f.0 pending) (g.0 pending) late, free_on p limit from to since until xs on f.1 g.1)

pub split_later : (p : Params) (low high : ℕ) (lines : List Line) → low ≤ high → IsSplitFrom p low lines → IsSplitFrom p high lines
split_later p low high lines e h =
    all_implies (λ x. is_unsplit x ≡ true → due_of p (key_of x) < low) (λ x. is_unsplit x ≡ true → due_of p (key_of x) < high) (λ x f unsplit. omega (arith, f unsplit)) lines h

pub asked_earlier : (p : Params) (low high : ℕ) (lines : List Line) → low ≤ high → IsAskedBefore p high lines → IsAskedBefore p low lines
asked_earlier p low high lines e h =
    all_implies (λ x. is_unasked x ≡ true → high ≤ due_of p (key_of x)) (λ x. is_unasked x ≡ true → low ≤ due_of p (key_of x)) (λ x f unasked. omega (arith, f unasked)) lines h

pub between_earlier : (p : Params) (from low high : ℕ) (lines : List Line) → low ≤ high → IsSplitBetween p from high lines → IsSplitBetween p from low lines
between_earlier p from low high lines e h =
    all_implies (λ x. is_unsplit x ≡ true → from ≤ due_of p (key_of x) → high ≤ due_of p (key_of x)) (λ x. is_unsplit x ≡ true → from ≤ due_of p (key_of x) → low ≤ due_of p (key_of x)) (λ x f unsplit late. omega (arith, f unsplit late)) lines h

pub rec_marked : (flag : Flag) (x : Line) → (marked flag x).rec ≡ x.rec
rec_marked Forwarded x = refl
rec_marked Asked x = refl
rec_marked Split x = refl

-- a flag that is set leaves nothing to do that was not to be done before
pending_marked : (flag : Flag) (x : Line) → is_pending (marked flag x) ≡ true → is_pending x ≡ true
pending_marked Forwarded x h = absurd (both_ways (is_pending (marked Forwarded x)) (never x) h)
  where
    never : (y : Line) → is_pending (marked Forwarded y) ≡ false
    never y = by_bits (is_own y.rec.kind) (nat_lt y.rec.visit y.rec.tenancy.last)
      where
        by_bits : (a b : Bool) → (a && b && not true) ≡ false
        by_bits true true = refl
        by_bits true false = refl
        by_bits false b = refl
pending_marked Asked x h = h
pending_marked Split x h = h

unasked_marked : (flag : Flag) (x : Line) → is_unasked (marked flag x) ≡ true → is_unasked x ≡ true
unasked_marked Forwarded x h = h
unasked_marked Asked x h = absurd (both_ways (is_unasked (marked Asked x)) (never (is_own x.rec.kind)) h)
  where
    never : (a : Bool) → (a && not true) ≡ false
    never true = refl
    never false = refl
unasked_marked Split x h = h

unsplit_marked : (flag : Flag) (x : Line) → is_unsplit (marked flag x) ≡ true → is_unsplit x ≡ true
unsplit_marked Forwarded x h = h
unsplit_marked Asked x h = h
unsplit_marked Split x h = absurd (both_ways (is_unsplit (marked Split x)) (never (is_own x.rec.kind)) h)
  where
    never : (a : Bool) → (not a && not true) ≡ false
    never true = refl
    never false = refl

forwarded_mark : (p : Params) (limit : ℕ) (k : Key) (flag : Flag) (lines : List Line) → IsForwardedTo p limit lines → IsForwardedTo p limit (with_mark k flag lines)
forwarded_mark p limit k flag lines h =
    all_marked (λ x. is_pending x ≡ true → limit < next_due p x.rec) k flag
    (λ x f pending. subst (λ (r : Rec). limit < next_due p r) (sym (rec_marked flag x)) (f (pending_marked flag x pending))) lines h

free_mark : (p : Params) (from to : ℕ) (k : Key) (flag : Flag) (lines : List Line) → IsForwardedBetween p from to lines → IsForwardedBetween p from to (with_mark k flag lines)
free_mark p from to k flag lines h =
    all_marked (λ x. is_pending x ≡ true → from ≤ next_due p x.rec → to < next_due p x.rec) k flag
    (λ x f pending. subst (λ (r : Rec). from ≤ next_due p r → to < next_due p r) (sym (rec_marked flag x)) (f (pending_marked flag x pending))) lines h

split_mark : (p : Params) (limit : ℕ) (k : Key) (flag : Flag) (lines : List Line) → IsSplitFrom p limit lines → IsSplitFrom p limit (with_mark k flag lines)
split_mark p limit k flag lines h =
    all_marked (λ x. is_unsplit x ≡ true → due_of p (key_of x) < limit) k flag
    (λ x f unsplit. subst (λ (r : Rec). due_of p (visit_of r) < limit) (sym (rec_marked flag x)) (f (unsplit_marked flag x unsplit))) lines h

asked_mark : (p : Params) (limit : ℕ) (k : Key) (flag : Flag) (lines : List Line) → IsAskedBefore p limit lines → IsAskedBefore p limit (with_mark k flag lines)
asked_mark p limit k flag lines h =
    all_marked (λ x. is_unasked x ≡ true → limit ≤ due_of p (key_of x)) k flag
    (λ x f unasked. subst (λ (r : Rec). limit ≤ due_of p (visit_of r)) (sym (rec_marked flag x)) (f (unasked_marked flag x unasked))) lines h

between_mark : (p : Params) (from to : ℕ) (k : Key) (flag : Flag) (lines : List Line) → IsSplitBetween p from to lines → IsSplitBetween p from to (with_mark k flag lines)
between_mark p from to k flag lines h =
    all_marked (λ x. is_unsplit x ≡ true → from ≤ due_of p (key_of x) → to ≤ due_of p (key_of x)) k flag
    (λ x f unsplit. subst (λ (r : Rec). from ≤ due_of p (visit_of r) → to ≤ due_of p (visit_of r)) (sym (rec_marked flag x)) (f (unsplit_marked flag x unsplit))) lines h

-- and where there is one more line
all_with_line : (P : Line → Type 0) (q : Params) (x : Line) (lines : List Line) → AllByRecursion P lines → P x → AllByRecursion P (with_line q x lines)
unfolding with_line
all_with_line P q x [] h here = (here, tt)
all_with_line P q x (y ∷ ys) h here =
    elim (is_earlier q (key_of x) (key_of y)) as (λ t. AllByRecursion P (cond t (x ∷ y ∷ ys) (y ∷ with_line q x ys))) [
      | true ↦ (here, h)
      | false ↦ (h.0, all_with_line P q x ys h.1 here)
    ]

pub all_with_record : (P : Line → Type 0) (q : Params) (r : Rec) (lines : List Line) → AllByRecursion P lines → P (unmarked r) → AllByRecursion P (with_record q r lines)
unfolding with_record
all_with_record P q r lines h here =
    elim (is_some (line_at (visit_of r) lines)) as (λ t. AllByRecursion P (cond t lines (with_line q (unmarked r) lines))) [
      | true ↦ h
      | false ↦ all_with_line P q (unmarked r) lines h here
    ]

-- a record that was not new
pub known : (p : Params) (r : Rec) (lines : List Line) (added : Added) → added ≡ answer_to r lines → (added ≡ New → ⊥) → with_record p r lines ≡ lines
known p r lines added e old = cases (line_at (visit_of r) lines) refl
  where
    cases : (o : Option Line) → line_at (visit_of r) lines ≡ o → with_record p r lines ≡ lines
    cases None is = absurd (old (e ∙ ap (λ (q : Option Line). answer_at r.tenancy.instance q) is))
    cases (Some x) is = with_record-known p r lines x is

-- a view of the same plan whose lines have become others
pub kept_by : (q : Params) (forwarded split asked from to since until : ℕ) (full : FullDisks) (pending unasked unsplit : Turn) (s now : Seen) (lines : List Line) → s.params ≡ q → now ≡ record s { lines = lines }
    → IsForwardedTo q forwarded lines → IsSplitFrom q split lines → IsAskedBefore q asked lines → IsSplitBetween q from to lines → AreFull q full lines → IsForwardedBetween q since until lines → IsTurn q pending → IsTurn q unasked → IsTurn q unsplit
    → (now.params ≡ q) × IsForwardedTo q forwarded now.lines × IsSplitFrom q split now.lines × IsAskedBefore q asked now.lines × IsSplitBetween q from to now.lines × AreFull q full now.lines × IsForwardedBetween q since until now.lines × IsTurn q pending × IsTurn q unasked × IsTurn q unsplit
kept_by q forwarded split asked from to since until full pending unasked unsplit s now lines same is f g h i j k l m n = (
  ap (λ (r : Seen). r.params) is ∙ same,
  subst (λ (r : Seen). IsForwardedTo q forwarded r.lines) (sym is) f,
  subst (λ (r : Seen). IsSplitFrom q split r.lines) (sym is) g,
  subst (λ (r : Seen). IsAskedBefore q asked r.lines) (sym is) h,
  subst (λ (r : Seen). IsSplitBetween q from to r.lines) (sym is) i,
  subst (λ (r : Seen). AreFull q full r.lines) (sym is) j,
  subst (λ (r : Seen). IsForwardedBetween q since until r.lines) (sym is) k,
  l,
  m,
  n,
)

-- a flag was set
pub kept_mark : (q : Params) (forwarded split asked from to since until : ℕ) (full : FullDisks) (pending unasked unsplit : Turn) (s now : Seen) (k : Key) (flag : Flag) → s.params ≡ q → now ≡ record s { lines = with_mark k flag s.lines }
    → IsForwardedTo q forwarded s.lines → IsSplitFrom q split s.lines → IsAskedBefore q asked s.lines → IsSplitBetween q from to s.lines → AreFull q full s.lines → IsForwardedBetween q since until s.lines → IsTurn q pending → IsTurn q unasked → IsTurn q unsplit
    → (now.params ≡ q) × IsForwardedTo q forwarded now.lines × IsSplitFrom q split now.lines × IsAskedBefore q asked now.lines × IsSplitBetween q from to now.lines × AreFull q full now.lines × IsForwardedBetween q since until now.lines × IsTurn q pending × IsTurn q unasked × IsTurn q unsplit
kept_mark q forwarded split asked from to since until full pending unasked unsplit s now k flag same is f g h i j l =
    kept_by q forwarded split asked from to since until full pending unasked unsplit s now (with_mark k flag s.lines) same is
    (forwarded_mark q forwarded k flag s.lines f) (split_mark q split k flag s.lines g) (asked_mark q asked k flag s.lines h) (between_mark q from to k flag s.lines i) (full_mark q full k flag s.lines j) (free_mark q since until k flag s.lines l)

-- a line was taken out, and from then on it is gone
pub kept_without : (q : Params) (forwarded split asked from to since until gone : ℕ) (full : FullDisks) (pending unasked unsplit : Turn) (s now : Seen) (k : Key) → s.params ≡ q → now ≡ record s { lines = without k s.lines }
    → full.from ≤ gone → due_of q k ≤ gone + q.window_b
    → IsForwardedTo q forwarded s.lines → IsSplitFrom q split s.lines → IsAskedBefore q asked s.lines → IsSplitBetween q from to s.lines → AreFull q full s.lines → IsForwardedBetween q since until s.lines → IsTurn q pending → IsTurn q unasked → IsTurn q unsplit
    → (now.params ≡ q) × IsForwardedTo q forwarded now.lines × IsSplitFrom q split now.lines × IsAskedBefore q asked now.lines × IsSplitBetween q from to now.lines × AreFull q (record full { from = gone }) now.lines × IsForwardedBetween q since until now.lines × IsTurn q pending × IsTurn q unasked × IsTurn q unsplit
kept_without q forwarded split asked from to since until gone full pending unasked unsplit s now k same is later out f g h i j l =
    kept_by q forwarded split asked from to since until (record full { from = gone }) pending unasked unsplit s now (without k s.lines) same is
    (all_without _ k s.lines f) (all_without _ k s.lines g) (all_without _ k s.lines h) (all_without _ k s.lines i) (full_without q gone full k s.lines later out j) (all_without _ k s.lines l)

-- the first line for which something is left to do, looked for between times that serve as well
pub first_seen : (q : Params) (s now : Seen) (test : Line → Bool) (from to time : ℕ) (o : Option Line) → s.params ≡ q → s ≡ now → first_between q test from to s.lines ≡ first_between q test 0 time s.lines
    → o ≡ first_between s.params test from to s.lines → o ≡ first_between now.params test 0 time now.lines
first_seen q s now test from to time o same is e found =
    found ∙ (ap (λ (r : Params). first_between r test from to s.lines) same ∙ (e ∙ (ap (λ (r : Params). first_between r test 0 time s.lines) (sym same) ∙ ap (λ (r : Seen). first_between r.params test 0 time r.lines) is)))

-- a state that is still to be forwarded is of a visit that is due a block play time later
pub pending_same : (p : Params) (old a b end from to time : ℕ) (lines : List Line) → from ≤ old + 1 - p.play → to ≡ end - p.play → end ≤ time + p.play
    → ((due : ℕ) → due ≤ time + p.play → (a ≤ due → b < due) → due ≤ end) → IsForwardedTo p old lines → IsForwardedBetween p a b lines
    → first_between p is_pending from to lines ≡ first_between p is_pending 0 time lines
pending_same p old a b end from to time lines low high by others f g = first_same p is_pending from to 0 time lines (each lines f g)
  where
    each : (ys : List Line) → IsForwardedTo p old ys → IsForwardedBetween p a b ys
        → AllByRecursion (λ x. is_pending x ≡ true → (from ≤ due_of p (key_of x) → due_of p (key_of x) ≤ to → (0 ≤ due_of p (key_of x)) × (due_of p (key_of x) ≤ time)) × (0 ≤ due_of p (key_of x) → due_of p (key_of x) ≤ time → (from ≤ due_of p (key_of x)) × (due_of p (key_of x) ≤ to))) ys
    each [] f g = tt
    each (y ∷ ys) f g = (
      λ pending.
          let next = due_next p y.rec.tenancy.slot.0 y.rec.visit in (
            λ least most. (omega arith, omega (arith, most, high, by)),
            λ least most. (omega (arith, low, f.0 pending, next), omega (arith, others (next_due p y.rec) (omega (arith, most, next)) (g.0 pending), next, high)),
          ),
      each ys f.1 g.1,
    )

pub forwarded_found : (p : Params) (old from to due new : ℕ) (lines : List Line) (x : Line) → IsWalk p lines → 1 ≤ p.play → from ≤ old + 1 - p.play → due ≡ due_of p (key_of x) → new ≡ max old (due + p.play - 1)
    → IsForwardedTo p old lines → Some x ≡ first_between p is_pending from to lines → IsForwardedTo p new lines
forwarded_found p old from to due new lines x w play low is later f found =
    after lines f
    (first_least p (λ y. is_pending y ≡ true) is_pending from to lines x w
    (all_implies (λ y. is_pending y ≡ true → old < next_due p y.rec) (λ y. is_pending y ≡ true → (is_pending y ≡ true) × (from ≤ due_of p (key_of y)))
    (λ y g pending. (pending, omega (arith, low, g pending, due_next p y.rec.tenancy.slot.0 y.rec.visit))) lines f) (sym found))
  where
    after : (ys : List Line) → IsForwardedTo p old ys → AllByRecursion (λ y. is_pending y ≡ true → due_of p (key_of x) ≤ due_of p (key_of y)) ys → IsForwardedTo p new ys
    after [] f g = tt
    after (y ∷ ys) f g = (λ pending. omega (arith, later, is, play, f.0 pending, g.0 pending, due_next p y.rec.tenancy.slot.0 y.rec.visit), after ys f.1 g.1)

pub unasked_same : (p : Params) (old time : ℕ) (lines : List Line) → IsAskedBefore p old lines → first_between p is_unasked old time lines ≡ first_between p is_unasked 0 time lines
unasked_same p old time lines f =
    first_same p is_unasked old time 0 time lines
    (all_implies (λ x. is_unasked x ≡ true → old ≤ due_of p (key_of x)) (λ x. is_unasked x ≡ true → (old ≤ due_of p (key_of x) → due_of p (key_of x) ≤ time → (0 ≤ due_of p (key_of x)) × (due_of p (key_of x) ≤ time)) × (0 ≤ due_of p (key_of x) → due_of p (key_of x) ≤ time → (old ≤ due_of p (key_of x)) × (due_of p (key_of x) ≤ time)))
    (λ x g unasked. (λ least most. (omega arith, most), λ least most. (g unasked, most))) lines f)

pub asked_found : (p : Params) (old to due : ℕ) (lines : List Line) (x : Line) → IsWalk p lines → due ≡ due_of p (key_of x) → IsAskedBefore p old lines → Some x ≡ first_between p is_unasked old to lines → IsAskedBefore p due lines
asked_found p old to due lines x w is f found =
    subst (λ (n : ℕ). IsAskedBefore p n lines) (sym is)
    (first_least p (λ y. is_unasked y ≡ true) is_unasked old to lines x w
    (all_implies (λ y. is_unasked y ≡ true → old ≤ due_of p (key_of y)) (λ y. is_unasked y ≡ true → (is_unasked y ≡ true) × (old ≤ due_of p (key_of y))) (λ y g unasked. (unasked, g unasked)) lines f) (sym found))

-- a visit is still to be split from the limit on, if it is due when some may be
unsplit_start : (p : Params) (limit from to start : ℕ) → ((due : ℕ) → limit ≤ due → (from ≤ due → to ≤ due) → start ≤ due) → (lines : List Line) → IsSplitBetween p from to lines
    → AllByRecursion (λ x. is_unsplit x ≡ true → limit ≤ due_of p (key_of x) → start ≤ due_of p (key_of x)) lines
unsplit_start p limit from to start others lines f =
    all_implies (λ x. is_unsplit x ≡ true → from ≤ due_of p (key_of x) → to ≤ due_of p (key_of x)) (λ x. is_unsplit x ≡ true → limit ≤ due_of p (key_of x) → start ≤ due_of p (key_of x))
    (λ x g unsplit late. others (due_of p (key_of x)) late (g unsplit)) lines f

unsplit_alike : (p : Params) (limit start last : ℕ) → limit ≤ start → (x : Line) → (is_unsplit x ≡ true → due_of p (key_of x) < last) → (is_unsplit x ≡ true → limit ≤ due_of p (key_of x) → start ≤ due_of p (key_of x))
    → is_between p is_unsplit start last x ≡ is_unsplit_from p limit x
unsplit_alike p limit start last later x f g =
    alike (is_between p is_unsplit start last x) (is_unsplit_from p limit x)
    (λ one. let at = between_parts p is_unsplit start last x one in and_from (is_unsplit x) (nat_le limit (due_of p (key_of x))) at.0 (le-leb limit (due_of p (key_of x)) (omega (arith, later, at.1))))
    (λ other.
    let both = and_parts (is_unsplit x) (nat_le limit (due_of p (key_of x))) other in
    between-is p is_unsplit start last x both.0 (g both.0 (leb-true _ _ both.1)) (let before = f both.0 in omega (arith, before)))

pub unsplit_same : (p : Params) (limit from to start last : ℕ) (lines : List Line) → limit ≤ start → ((due : ℕ) → limit ≤ due → (from ≤ due → to ≤ due) → start ≤ due) → IsSplitBetween p from to lines → IsSplitFrom p last lines
    → first_between p is_unsplit start last lines ≡ find (is_unsplit_from p limit) lines
unfolding first_between
unsplit_same p limit from to start last lines later others f g =
    find_alike (is_between p is_unsplit start last) (is_unsplit_from p limit) lines (each lines g (unsplit_start p limit from to start others lines f))
  where
    each : (ys : List Line) → IsSplitFrom p last ys → AllByRecursion (λ x. is_unsplit x ≡ true → limit ≤ due_of p (key_of x) → start ≤ due_of p (key_of x)) ys
        → AllByRecursion (λ x. is_between p is_unsplit start last x ≡ is_unsplit_from p limit x) ys
    each [] f g = tt
    each (y ∷ ys) f g = (unsplit_alike p limit start last later y f.0 g.0, each ys f.1 g.1)

pub split_found : (p : Params) (limit from to start last due : ℕ) (lines : List Line) (x : Line) → IsWalk p lines → due ≡ due_of p (key_of x) → ((due : ℕ) → limit ≤ due → (from ≤ due → to ≤ due) → start ≤ due) → IsSplitBetween p from to lines
    → Some x ≡ first_between p is_unsplit start last lines → IsSplitBetween p limit due lines
split_found p limit from to start last due lines x w is others f found =
    subst (λ (n : ℕ). IsSplitBetween p limit n lines) (sym is)
    (all_implies (λ y. (is_unsplit y ≡ true) × (limit ≤ due_of p (key_of y)) → due_of p (key_of x) ≤ due_of p (key_of y)) (λ y. is_unsplit y ≡ true → limit ≤ due_of p (key_of y) → due_of p (key_of x) ≤ due_of p (key_of y)) (λ y g unsplit late. g (unsplit, late)) lines
    (first_least p (λ y. (is_unsplit y ≡ true) × (limit ≤ due_of p (key_of y))) is_unsplit start last lines x w
    (all_implies (λ y. is_unsplit y ≡ true → limit ≤ due_of p (key_of y) → start ≤ due_of p (key_of y)) (λ y. (is_unsplit y ≡ true) × (limit ≤ due_of p (key_of y)) → (is_unsplit y ≡ true) × (start ≤ due_of p (key_of y))) (λ y g known. (known.0, g known.0 known.1)) lines
    (unsplit_start p limit from to start others lines f)) (sym found)))

pub unsplit_seen : (q : Params) (s now : Seen) (limit start last : ℕ) (o : Option Line) → s.params ≡ q → s ≡ now → first_between q is_unsplit start last s.lines ≡ find (is_unsplit_from q limit) s.lines
    → o ≡ first_between s.params is_unsplit start last s.lines → o ≡ find (is_unsplit_from now.params limit) now.lines
unsplit_seen q s now limit start last o same is e found =
    found ∙ (ap (λ (r : Params). first_between r is_unsplit start last s.lines) same ∙ (e ∙ (ap (λ (r : Params). find (is_unsplit_from r limit) s.lines) (sym same) ∙ ap (λ (r : Seen). find (is_unsplit_from r.params limit) r.lines) is)))

-- the due time of a line that was found leaves room in 64 bits
pub found_fits : (p : Params) (test : Line → Bool) (from to : ℕ) (lines : List Line) (x : Line) → IsInRange p → IsWalk p lines → Some x ≡ first_between p test from to lines → due_of p (key_of x) ≤ 2 ^ 63
unfolding first_between
found_fits p test from to lines x r w found =
    let key : IsKey p (key_of x) = found-key p (is_between p test from to) lines (Some x) w found in
    due_fits p x.rec.tenancy.slot.0 x.rec.visit r key.0 key.1

-- of a new own record no visit is to be split, and of a new backup record no state is to be forwarded and no block to be asked for
pub own-split : (r : Rec) (b : Bool) → b ≡ is_own r.kind → b ≡ true → is_unsplit (unmarked r) ≡ true → ⊥
own-split r b is own h = both_ways (is_unsplit (unmarked r)) (ap (λ (a : Bool). not a && not false) (sym is ∙ own)) h

pub backup-pending : (r : Rec) (b : Bool) → b ≡ is_own r.kind → b ≡ false → is_pending (unmarked r) ≡ true → ⊥
backup-pending r b is backup h = both_ways (is_pending (unmarked r)) (ap (λ (a : Bool). a && nat_lt r.visit r.tenancy.last && not false) (sym is ∙ backup)) h

pub backup-unasked : (r : Rec) (b : Bool) → b ≡ is_own r.kind → b ≡ false → is_unasked (unmarked r) ≡ true → ⊥
backup-unasked r b is backup h = both_ways (is_unasked (unmarked r)) (ap (λ (a : Bool). a && not false) (sym is ∙ backup)) h
