-- Readings are judged one entry after another; and the entries of a kept run are of beats that a run may have.
use Rattle.std.proofs.Common.{◌≡◌, ℕ, zero, suc, ◌+◌, ◌<◌, true, false, List, [], ◌∷◌, map, filter, sym, subst, arith, ⊎_elim}
use Rattle.std.specs.Prelude.{◌==◌}
use Rattle.std.specs.List.{AllByRecursion}
use Rattle.std.proofs.lemmas.Bool.{cases_Bool, eqb-true}
use Rattle.node_kit.specs.Courses.{IsCourse}
use Rattle.node_kit.specs.declared.course.Course.{Course}
use Rattle.node_kit.specs.declared.course.Kept.{Kept}
use Rattle.node_kit.specs.declared.journal.Entry.{Entry}
use Rattle.run_facts.specs.Order.{Noted, beat_of, in_beat, order_from}
use Rattle.run_facts.proofs.Rows.{all-append, all-weaker}
use Rattle.run_model.specs.Fronts.{AtEach}
use Rattle.run_model.specs.Runs.{order_in}
use Rattle.audit_frame.specs.Lines.{told_by}
use Rattle.audit_frame.specs.declared.lines.Line.{Line}
use Rattle.audit_frame.proofs.Deciding.{GoesBySteps}
use Rattle.audit_verdict.specs.Clocks.{IsOfBeats, ShowClocks, ShowsClock}

-- no state is carried from one entry to the next
abbrev pub no_state : Unit {0} → Noted → Unit {0}
no_state s x = s

abbrev pub IsShown : Course → Unit {0} → Noted → Type 0
IsShown c s x = ShowsClock c x

pub clocks_go_by_steps : (c : Course) → GoesBySteps (ShowClocks c) (IsShown c) no_state tt
clocks_go_by_steps c log = (there log, back log)
  where
    there : (xs : List Noted) → ShowClocks c xs → AtEach (IsShown c) no_state tt xs
    there [] h = tt
    there (x ∷ xs) h = (h.0, there xs h.1)

    back : (xs : List Noted) → AtEach (IsShown c) no_state tt xs → ShowClocks c xs
    back [] h = tt
    back (x ∷ xs) h = (h.0, back xs h.1)

-- ---- beats

of_journal : (n b : ℕ) (es : List Entry)
    → AllByRecursion (λ x. beat_of x ≡ b) (map (λ e. record { node = n; entry = e }) (filter (λ e. e.stamp.beat == b) es))
of_journal n b [] = tt
of_journal n b (e ∷ es) = ⊎_elim
    (λ (t : (e.stamp.beat == b) ≡ true). rw t (eqb-true e.stamp.beat b t, of_journal n b es))
    (λ (f : (e.stamp.beat == b) ≡ false). rw f (of_journal n b es))
    (cases_Bool (e.stamp.beat == b))

of_beat : (b n : ℕ) (js : List (List Entry)) → AllByRecursion (λ x. beat_of x ≡ b) (in_beat b n js)
of_beat b n [] = tt
of_beat b n (j ∷ js) =
    all-append (λ (x : Noted). beat_of x ≡ b) (map (λ e. record { node = n; entry = e }) (filter (λ e. e.stamp.beat == b) j)) (in_beat b (n + 1) js)
    (of_journal n b j) (of_beat b (n + 1) js)

of_order : (b k : ℕ) (js : List (List Entry)) → AllByRecursion (λ x. beat_of x < b + k) (order_from b k js)
of_order b zero js = tt
of_order b (suc k) js =
    all-append (λ (x : Noted). beat_of x < b + suc k) (in_beat b 0 js) (order_from (b + 1) k js)
    (all-weaker (λ (x : Noted). beat_of x ≡ b) (λ (x : Noted). beat_of x < b + suc k) (in_beat b 0 js) (λ x h. omega (arith, h)) (of_beat b 0 js))
    (all-weaker (λ (x : Noted). beat_of x < b + 1 + k) (λ (x : Noted). beat_of x < b + suc k) (order_from (b + 1) k js)
    (λ x h. omega (arith, h)) (of_order (b + 1) k js))

of_lines : (beats : ℕ) (lines : List Line) → AllByRecursion (λ x. beat_of x < beats) (told_by lines)
    → AllByRecursion (λ (l : Line). l.entry.now.stamp.beat < beats) lines
of_lines beats [] h = tt
of_lines beats (l ∷ ls) h = (h.0, of_lines beats ls h.1)

pub lines_of_beats : (k : Kept) (lines : List Line) → IsCourse k.course → told_by lines ≡ order_in k → AllByRecursion IsOfBeats lines
lines_of_beats k lines course told =
    let few = course.beats in
    let here = subst (λ (xs : List Noted). AllByRecursion (λ x. beat_of x < 0 + k.course.beats) xs) (sym told) (of_order 0 k.course.beats k.journals) in
    all-weaker (λ (l : Line). l.entry.now.stamp.beat < 0 + k.course.beats) IsOfBeats lines (λ l h. omega (arith, few, h))
    (of_lines (0 + k.course.beats) lines here)
