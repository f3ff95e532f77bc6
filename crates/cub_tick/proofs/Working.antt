-- The laws of work on lines: how it begins, goes on and ends.
use Rattle.std.proofs.Common.{◌≡◌, ℕ, ◌<◌, nat_le, ◌&&◌, Bool, true, false, cond, not, List, [], ◌∷◌, ◌++◌, length, map, Option, Some, None, find, refl, sym, ap, subst, ◌∙◌, arith, append_assoc, append-nil}
use Rattle.std.specs.List.{AllByRecursion, filter, flat_map}
use Rattle.std.proofs.lemmas.Bool.{le-leb}
use Rattle.std.proofs.lemmas.Grind.{flat_map-append}
use Rattle.std.proofs.lemmas.List.Concat.{flat_map_single}
use Rattle.slot_plan.specs.declared.params.Params.{Params}
use Rattle.slot_plan.specs.Keys.{IsKey, due_of}
use Rattle.partial_view.specs.declared.line.Line.{Line}
use Rattle.partial_view.specs.declared.line.Flag.{Flag}
use Rattle.partial_view.specs.Lines.{key_of, marked}
use Rattle.partial_view.specs.Views.{Seen, IsWalk, with_mark, without}
use Rattle.partial_view.specs.Work.{is_between}
use Rattle.partial_view.proofs.Calls.{record_of, with_mark-parts, without-parts}
use Rattle.partial_view.proofs.Order.{all_append, all_there}
use Rattle.cub_tick.specs.Working.{WorkedOn}

-- whether a line passes a test and is due by a time
pub from_start : (p : Params) (test : Line → Bool) (time : ℕ) (x : Line) → is_between p test 0 time x ≡ (test x && nat_le (due_of p (key_of x)) time)
from_start p test time x = rw (le-leb 0 (due_of p (key_of x)) (omega arith)) (ap (λ (t : Bool). t && nat_le (due_of p (key_of x)) time) (and_true (test x)))
  where
    and_true : (t : Bool) → (t && true) ≡ t
    and_true true = refl
    and_true false = refl

-- one test for another
pub find_same : (f g : Line → Bool) → ((x : Line) → f x ≡ g x) → (lines : List Line) → find f lines ≡ find g lines
find_same f g same [] = refl
find_same f g same (x ∷ xs) = rw (same x) (ap (λ (o : Option Line). cond (g x) (Some x) o) (find_same f g same xs))

module _ (test : Line → Bool) where
  -- lines that are parted at the first one that passes the test
  pub record FirstAt (x : Line) (lines : List Line) : Type 0 where
    front : List Line
    back : List Line
    parts : lines ≡ front ++ x ∷ back
    none : AllByRecursion (λ y. test y ≡ false) front
    passes : test x ≡ true

  first_at : (x : Line) (lines : List Line) → Some x ≡ find test lines → FirstAt x lines
  first_at x [] e = absurd (cc)
  first_at x (y ∷ ys) e = by_test (test y) refl e (first_at x ys)
    where
      by_test : (t : Bool) → test y ≡ t → Some x ≡ cond t (Some y) (find test ys) → (Some x ≡ find test ys → FirstAt x ys) → FirstAt x (y ∷ ys)
      by_test true is e rest =
          let same : y ≡ x = cc in
          record { front = []; back = ys; parts = ap (λ (z : Line). z ∷ ys) same; none = tt; passes = sym (ap test same) ∙ is }
      by_test false is e rest =
          let r = rest e in
          record { front = y ∷ r.front; back = r.back; parts = ap (λ (zs : List Line). y ∷ zs) r.parts; none = (is, r.none); passes = r.passes }

  pub none_at : (lines : List Line) → None ≡ find test lines → AllByRecursion (λ y. test y ≡ false) lines
  none_at [] e = tt
  none_at (y ∷ ys) e = by_test (test y) refl e (none_at ys)
    where
      by_test : (t : Bool) → test y ≡ t → None ≡ cond t (Some y) (find test ys) → (None ≡ find test ys → AllByRecursion (λ z. test z ≡ false) ys) → AllByRecursion (λ z. test z ≡ false) (y ∷ ys)
      by_test true is e rest = absurd (cc)
      by_test false is e rest = (is, rest e)

  pub first_passes : (x : Line) (lines : List Line) → Some x ≡ find test lines → test x ≡ true
  first_passes x lines e = (first_at x lines e).passes

  -- what holds of all lines holds of the first one
  pub of_first : (P : Line → Type 0) (x : Line) (lines : List Line) → AllByRecursion P lines → Some x ≡ find test lines → P x
  of_first P x lines all e =
      let r = first_at x lines e in
      all_there P r.front x r.back (subst (λ (ys : List Line). AllByRecursion P ys) r.parts all)

  -- and its visit is the plan's
  pub first_key : (p : Params) (x : Line) (lines : List Line) → IsWalk p lines → Some x ≡ find test lines → IsKey p (key_of x)
  first_key p x lines w e = of_first (λ y. IsKey p (key_of y)) x lines (keys lines w) e
    where
      keys : (ys : List Line) → IsWalk p ys → AllByRecursion (λ y. IsKey p (key_of y)) ys
      keys [] w = tt
      keys (y ∷ ys) w = (w.0, keys ys w.2)

  -- others stand in place of that line
  pub record Step (x : Line) (others : List Line) (lines after : List Line) : Type 0 where
    at : FirstAt x lines
    then : after ≡ at.front ++ (others ++ at.back)

  pub mark_step : (p : Params) (flag : Flag) (x : Line) (lines after : List Line) → IsWalk p lines → Some x ≡ find test lines → after ≡ with_mark (key_of x) flag lines → Step x (marked flag x ∷ []) lines after
  mark_step p flag x lines after w e step =
      let r = first_at x lines e in
      record {
        at = r;
        then = step ∙ (ap (λ (ys : List Line). with_mark (key_of x) flag ys) r.parts ∙ with_mark-parts p flag r.front x r.back (subst (λ (ys : List Line). IsWalk p ys) r.parts w));
      }

  pub take_step : (p : Params) (x : Line) (lines after : List Line) → IsWalk p lines → Some x ≡ find test lines → after ≡ without (key_of x) lines → Step x [] lines after
  take_step p x lines after w e step =
      let r = first_at x lines e in
      record {
        at = r;
        then = step ∙ (ap (λ (ys : List Line). without (key_of x) ys) r.parts ∙ without-parts p r.front x r.back (subst (λ (ys : List Line). IsWalk p ys) r.parts w));
      }

  none_gives : {X : Type 0} (f : Line → List X) → ((y : Line) → test y ≡ false → f y ≡ []) → (lines : List Line) → AllByRecursion (λ y. test y ≡ false) lines → flat_map f lines ≡ []
  none_gives f silent [] h = refl
  none_gives f silent (y ∷ ys) h = rw (silent y h.0) (none_gives f silent ys h.1)

  none_becomes : (f : Line → List Line) → ((y : Line) → test y ≡ false → f y ≡ y ∷ []) → (lines : List Line) → AllByRecursion (λ y. test y ≡ false) lines → flat_map f lines ≡ lines
  none_becomes f stays [] h = refl
  none_becomes f stays (y ∷ ys) h = rw (stays y h.0) (ap (λ (zs : List Line). y ∷ zs) (none_becomes f stays ys h.1))

  none_pass : (others back : List Line) → AllByRecursion (λ y. test y ≡ false) others → filter test (others ++ back) ≡ filter test back
  none_pass [] back h = refl
  none_pass (y ∷ ys) back h = rw h.0 (none_pass ys back h.1)

  pass_fewer : (x : Line) (others front back : List Line) → test x ≡ true → AllByRecursion (λ y. test y ≡ false) others
      → length (filter test (front ++ (others ++ back))) < length (filter test (front ++ x ∷ back))
  pass_fewer x others [] back is h =
      let was : length (filter test (x ∷ back)) ≡ length (x ∷ filter test back) = ap (λ (t : Bool). length (cond t (x ∷ filter test back) (filter test back))) is in
      let now : length (filter test (others ++ back)) ≡ length (filter test back) = ap (λ (zs : List Line). length zs) (none_pass others back h) in
      omega (arith, was, now)
  pass_fewer x others (y ∷ ys) back is h = by_test (test y) (pass_fewer x others ys back is h)
    where
      by_test : (t : Bool) → length (filter test (ys ++ (others ++ back))) < length (filter test (ys ++ x ∷ back))
          → length (cond t (y ∷ filter test (ys ++ (others ++ back))) (filter test (ys ++ (others ++ back)))) < length (cond t (y ∷ filter test (ys ++ x ∷ back)) (filter test (ys ++ x ∷ back)))
      by_test true l = omega (arith, l)
      by_test false l = l

  all_step : (P : Line → Type 0) (x : Line) (others front back : List Line) → AllByRecursion P others → AllByRecursion P (front ++ x ∷ back) → AllByRecursion P (front ++ (others ++ back))
  all_step P x others [] back h all = all_append P others back h all.1
  all_step P x others (y ∷ ys) back h all = (all.0, all_step P x others ys back h all.1)

  module _ {x : Line} {others lines after : List Line} (s : Step x others lines after) where
    parts_of : {X : Type 0} (f : Line → List X) → flat_map f lines ≡ flat_map f s.at.front ++ (f x ++ flat_map f s.at.back)
    parts_of f = ap (λ (ys : List Line). flat_map f ys) s.at.parts ∙ flat_map-append f s.at.front (x ∷ s.at.back)

    parts_then : {X : Type 0} (f : Line → List X) → flat_map f after ≡ flat_map f s.at.front ++ (flat_map f others ++ flat_map f s.at.back)
    parts_then f =
        ap (λ (ys : List Line). flat_map f ys) s.then ∙ (flat_map-append f s.at.front (others ++ s.at.back)
        ∙ ap (λ zs. flat_map f s.at.front ++ zs) (flat_map-append f others s.at.back))

    -- what lines give is what the first one gives, and then what those give that are left
    pub step_gives : {X : Type 0} (f : Line → List X) → ((y : Line) → test y ≡ false → f y ≡ []) → flat_map f others ≡ [] → flat_map f lines ≡ f x ++ flat_map f after
    step_gives f silent none =
        let front : flat_map f s.at.front ≡ [] = none_gives f silent s.at.front s.at.none in
        parts_of f ∙ (ap (λ zs. zs ++ (f x ++ flat_map f s.at.back)) front
        ∙ ap (λ zs. f x ++ zs) (sym (parts_then f ∙ (ap (λ zs. zs ++ (flat_map f others ++ flat_map f s.at.back)) front ∙ ap (λ zs. zs ++ flat_map f s.at.back) none))))

    step_becomes : (f : Line → List Line) → flat_map f others ≡ f x → flat_map f after ≡ flat_map f lines
    step_becomes f same =
        parts_then f ∙ (ap (λ zs. flat_map f s.at.front ++ (zs ++ flat_map f s.at.back)) same ∙ sym (parts_of f))

    pub step_fewer : AllByRecursion (λ y. test y ≡ false) others → length (filter test after) < length (filter test lines)
    step_fewer h =
        let was : length (filter test lines) ≡ length (filter test (s.at.front ++ x ∷ s.at.back)) = ap (λ (ys : List Line). length (filter test ys)) s.at.parts in
        let now : length (filter test after) ≡ length (filter test (s.at.front ++ (others ++ s.at.back))) = ap (λ (ys : List Line). length (filter test ys)) s.then in
        omega (arith, was, now, pass_fewer x others s.at.front s.at.back s.at.passes h)

    pub step_each : (P : Line → Type 0) → AllByRecursion P others → AllByRecursion P lines → AllByRecursion P after
    step_each P h all =
        subst (λ (ys : List Line). AllByRecursion P ys) (sym s.then)
        (all_step P x others s.at.front s.at.back h (subst (λ (ys : List Line). AllByRecursion P ys) s.at.parts all))

-- the work begins
pub begun : {X : Type 0} {P : Line → Type 0} {outs_of : Line → List X} {lines_of : Line → List Line} {before : Seen} {outs_before : List X} → AllByRecursion P before.lines → WorkedOn P outs_of lines_of before outs_before before outs_before
begun all = record { params = refl; each = all; lines = refl; outs = refl }

-- what a line gives out for which the work is to do, and what it becomes if it is marked, and if it is taken out
abbrev pub gives : {X : Type 0} → (Line → Bool) → (Line → List X) → Line → List X
gives test outs x = cond (test x) (outs x) []

abbrev pub marks : (Line → Bool) → Flag → Line → Line
marks test flag x = cond (test x) (marked flag x) x

abbrev pub takes : (Line → Bool) → Line → List Line
takes test x = cond (test x) [] (x ∷ [])

taken_filter : (test : Line → Bool) (xs : List Line) → flat_map (takes test) xs ≡ filter (λ x. not (test x)) xs
taken_filter test [] = refl
taken_filter test (x ∷ xs) =
    elim (test x) as (λ t. cond t [] (x ∷ []) ++ flat_map (takes test) xs ≡ cond (not t) (x ∷ filter (λ x. not (test x)) xs) (filter (λ x. not (test x)) xs)) [
      | true ↦ taken_filter test xs
      | false ↦ ap (λ (zs : List Line). x ∷ zs) (taken_filter test xs)
    ]

-- the first line is marked once, and then nothing more is to do for it; or it is taken out
module _ (test : Line → Bool) (now : Seen) {after : Seen} {x : Line} (walk : IsWalk now.params now.lines) (first : Some x ≡ find test now.lines) where
  module _ (flag : Flag) (once : (y : Line) → test (marked flag y) ≡ false) (step : after ≡ record now { lines = with_mark (key_of x) flag now.lines }) where
    pub marked_step : Step test x (marked flag x ∷ []) now.lines after.lines
    marked_step = mark_step test now.params flag x now.lines after.lines walk first (ap (λ (s : Seen). s.lines) step)

    pub marked_fewer : length (filter test after.lines) < length (filter test now.lines)
    marked_fewer = step_fewer test marked_step (once x, tt)

  module _ (step : after ≡ record now { lines = without (key_of x) now.lines }) where
    taken_step : Step test x [] now.lines after.lines
    taken_step = take_step test now.params x now.lines after.lines walk first (ap (λ (s : Seen). s.lines) step)

    pub taken_fewer : length (filter test after.lines) < length (filter test now.lines)
    taken_fewer = step_fewer test taken_step tt

silent : {X : Type 0} (test : Line → Bool) (outs : Line → List X) (y : Line) → test y ≡ false → gives test outs y ≡ []
silent test outs y is = rw is refl

stays : (test : Line → Bool) (flag : Flag) (y : Line) → test y ≡ false → marks test flag y ∷ [] ≡ y ∷ []
stays test flag y is = rw is refl

remains : (test : Line → Bool) (y : Line) → test y ≡ false → takes test y ≡ y ∷ []
remains test y is = rw is refl

module _ {X : Type 0} {P : Line → Type 0} {before : Seen} {outs_before : List X} (test : Line → Bool) (outs : Line → List X) where
  -- one line more
  step_on : {lines_of : Line → List Line} {now after : Seen} {outs_now outs_after : List X} → WorkedOn P (gives test outs) lines_of before outs_before now outs_now
      → {x : Line} {others : List Line} → Step test x others now.lines after.lines → after.params ≡ now.params → AllByRecursion P others
      → flat_map lines_of others ≡ lines_of x → flat_map (gives test outs) others ≡ [] → outs_after ≡ outs_now ++ outs x → WorkedOn P (gives test outs) lines_of before outs_before after outs_after
  step_on {lines_of} {now} {after} {outs_now} w {x} s params each lines none e =
      let given : gives test outs x ≡ outs x = ap (λ (t : Bool). cond t (outs x) []) s.at.passes in
      record {
        params = params ∙ w.params;
        each = step_each test s P each w.each;
        lines = step_becomes test s lines_of lines ∙ w.lines;
        outs =
            ap (λ (zs : List X). zs ++ flat_map (gives test outs) after.lines) (e ∙ ap (λ (zs : List X). outs_now ++ zs) (sym given))
            ∙ (append_assoc outs_now (gives test outs x) (flat_map (gives test outs) after.lines)
            ∙ (ap (λ (zs : List X). outs_now ++ zs) (sym (step_gives test s (gives test outs) (silent test outs) none)) ∙ w.outs));
      }

  -- at the end all is given out
  pub outs_done : {lines_of : Line → List Line} {now : Seen} {outs_now : List X} → WorkedOn P (gives test outs) lines_of before outs_before now outs_now → None ≡ find test now.lines
      → outs_now ≡ outs_before ++ flat_map (gives test outs) before.lines
  outs_done {lines_of} {now} {outs_now} w e =
      sym (ap (λ (zs : List X). outs_now ++ zs) (none_gives test (gives test outs) (silent test outs) now.lines (none_at test now.lines e)) ∙ append-nil outs_now) ∙ w.outs

  module _ (flag : Flag) where
    pub marked_on : {now after : Seen} {outs_now outs_after : List X} {x : Line} → IsWalk now.params now.lines → Some x ≡ find test now.lines → ((y : Line) → test (marked flag y) ≡ false) → after ≡ record now { lines = with_mark (key_of x) flag now.lines }
        → ((y : Line) → P y → P (marked flag y)) → WorkedOn P (gives test outs) (λ y. marks test flag y ∷ []) before outs_before now outs_now → outs_after ≡ outs_now ++ outs x
        → WorkedOn P (gives test outs) (λ y. marks test flag y ∷ []) before outs_before after outs_after
    marked_on {now} {x = x} walk first once step keeps w e =
        let is : test x ≡ true = first_passes test x now.lines first in
        let lines : marks test flag (marked flag x) ∷ [] ≡ marks test flag x ∷ [] =
        ap (λ (t : Bool). cond t (marked flag (marked flag x)) (marked flag x) ∷ []) (once x) ∙ ap (λ (t : Bool). cond t (marked flag x) x ∷ []) (sym is) in
        let none : flat_map (gives test outs) (marked flag x ∷ []) ≡ [] = ap (λ (t : Bool). cond t (outs (marked flag x)) [] ++ []) (once x) in
        step_on w (marked_step test now walk first flag once step) (ap (λ (s : Seen). s.params) step) (keeps x (of_first test P x now.lines w.each first), tt) lines none e

    pub marked_done : {now after : Seen} {outs_now : List X} → WorkedOn P (gives test outs) (λ y. marks test flag y ∷ []) before outs_before now outs_now → None ≡ find test now.lines → after ≡ now
        → after ≡ record before { lines = map (marks test flag) before.lines }
    marked_done {now} w none e =
        e ∙ (ap (λ (q : Params). record_of q now.lines) w.params
        ∙ ap (λ (ys : List Line). record_of before.params ys) (sym (none_becomes test (λ x. marks test flag x ∷ []) (stays test flag) now.lines (none_at test now.lines none)) ∙ (w.lines ∙ flat_map_single (marks test flag) before.lines)))

  pub taken_on : {now after : Seen} {outs_now outs_after : List X} {x : Line} → IsWalk now.params now.lines → Some x ≡ find test now.lines → after ≡ record now { lines = without (key_of x) now.lines }
      → WorkedOn P (gives test outs) (takes test) before outs_before now outs_now → outs_after ≡ outs_now ++ outs x → WorkedOn P (gives test outs) (takes test) before outs_before after outs_after
  taken_on {now} {x = x} walk first step w e =
      let lines : [] ≡ takes test x = ap (λ (t : Bool). cond t [] (x ∷ [])) (sym (first_passes test x now.lines first)) in
      step_on w (taken_step test now walk first step) (ap (λ (s : Seen). s.params) step) tt lines refl e

  pub taken_done : {now after : Seen} {outs_now : List X} → WorkedOn P (gives test outs) (takes test) before outs_before now outs_now → None ≡ find test now.lines → after ≡ now
      → after ≡ record before { lines = filter (λ x. not (test x)) before.lines }
  taken_done {now} w none e =
      e ∙ (ap (λ (q : Params). record_of q now.lines) w.params
      ∙ ap (λ (ys : List Line). record_of before.params ys) (sym (none_becomes test (takes test) (remains test) now.lines (none_at test now.lines none)) ∙ (w.lines ∙ taken_filter test before.lines)))

-- what holds of each line by itself
pub holds_of_all : (lines : List Line) → AllByRecursion (λ _. Unit {0}) lines
holds_of_all [] = tt
holds_of_all (x ∷ xs) = (tt, holds_of_all xs)
