-- An entry of the log of a run that is timed, by its place in the journal of its node.
use Rattle.std.proofs.Common.{◌≡◌, ℕ, zero, suc, ◌+◌, ◌<◌, ◌≤◌, List, [], ◌∷◌, length, take, filter, cond, Bool, true, false, Option, Some, None, refl, sym, ap, subst, ◌∙◌, arith, length-append, ⊎_elim}
use Rattle.std.specs.Prelude.{◌==◌, slice_get, slice_index_or, if◌then◌else◌}
use Rattle.std.proofs.lemmas.Bool.{cases_Bool, eq-eqb}
use Rattle.std.proofs.lemmas.Option.{none-some}
use Rattle.std.proofs.lemmas.List.Elements.{filter-append}
use Rattle.tiger_base.specs.declared.number.NodeNo.{NodeNo}
use Rattle.node_kit.specs.declared.course.Kept.{Kept}
use Rattle.node_kit.specs.declared.journal.Entry.{Entry}
use Rattle.run_facts.specs.Accounts.{Rising}
use Rattle.run_facts.specs.Order.{Noted, journal_of}
use Rattle.run_facts.specs.Timed.{AreRising, IsNotBelow}
use Rattle.run_facts.proofs.Rows.{all-weaker}
use Rattle.run_model.specs.Runs.{IsTimedRun, order_in}
use Rattle.audit_frame.specs.Lines.{noted_line, told_by}
use Rattle.audit_frame.specs.declared.lines.Line.{Line}
use Rattle.audit_frame.proofs.Deciding.{line_more}
use Rattle.audit_verdict.specs.Places.{IsLoggedEntry, entry_place}
use Rattle.audit_verdict.specs.Verdicts.{count_before}
use Rattle.audit_verdict.proofs.Journals.{whole_journal, no_whole_journal, own_place}

rising_beats : (j : List Entry) → AreRising j → Rising (λ (e : Entry). e.stamp.beat) j
rising_beats [] h = tt
rising_beats (e ∷ es) h = (
  all-weaker (IsNotBelow e) (λ (f : Entry). e.stamp.beat ≤ f.stamp.beat) es (λ f n. n.beat) h.0,
  rising_beats es h.1,
)

-- the journal of a run that is timed is what the log has of its node
timed_journal : (k : Kept) (n : ℕ) (j : List Entry) → IsTimedRun k → slice_get k.journals n ≡ Some j → journal_of n (order_in k) ≡ j
timed_journal k n j timed at =
    let own = timed.timed n j at in
    whole_journal k.course.beats n k.journals j at own.early (rising_beats j own.rising)

pub logged : (k : Kept) (i : ℕ) (x : Noted) (node : NodeNo) (place : ℕ) → IsTimedRun k → slice_get (order_in k) i ≡ Some x
    → node.0 ≡ x.node → place ≡ length (filter (λ y. y.node == node.0) (take i (order_in k)))
    → IsLoggedEntry k i (entry_place node place)
logged k i x node place timed at is behind = by_journal (slice_get k.journals node.0) refl
  where
    mine : (x.node == node.0) ≡ true
    mine = eq-eqb x.node node.0 (sym is)

    there : slice_get (journal_of node.0 (order_in k)) (length (filter (λ y. y.node == node.0) (take i (order_in k)))) ≡ Some x.entry
    there = own_place node.0 i (order_in k) x at mine

    by_journal : (o : Option (List Entry)) → slice_get k.journals node.0 ≡ o → IsLoggedEntry k i (entry_place node place)
    by_journal None none =
        absurd (none-some x.entry
        (subst (λ (l : List Entry). slice_get l (length (filter (λ y. y.node == node.0) (take i (order_in k)))) ≡ Some x.entry)
        (no_whole_journal k.course.beats node.0 k.journals none) there))
    by_journal (Some j) here = record {
      noted = x;
      in_log = at;
      node = sym is;
      journal = j;
      here = here;
      in_journal = subst (λ (m : ℕ). slice_get j m ≡ Some x.entry) (sym behind)
          (subst (λ (l : List Entry). slice_get l (length (filter (λ y. y.node == node.0) (take i (order_in k)))) ≡ Some x.entry)
          (timed_journal k node.0 j timed here) there);
      behind = behind;
    }

-- ---- by lines

told_at : (lines : List Line) (i : ℕ) (x : Line) → i < length lines → ((d : Line) → slice_index_or lines i d ≡ x)
    → slice_get (told_by lines) i ≡ Some (noted_line x)
told_at [] i x low is = absurd (omega (arith, low))
told_at (l ∷ ls) zero x low is = ap (λ (y : Line). Some (noted_line y)) (is l)
told_at (l ∷ ls) (suc i) x low is = told_at ls i x (omega (arith, low)) is

-- the count of one line more
pub one_counted : (lines : List Line) (n i : ℕ) (x : Line) → i < length lines → ((d : Line) → slice_index_or lines i d ≡ x)
    → count_before lines n (i + 1) ≡ (if x.node.0 == n then count_before lines n i + 1 else count_before lines n i)
one_counted lines n i x low is =
    ap (λ (xs : List Noted). length (filter (λ y. y.node == n) xs)) (line_more lines i x low is)
    ∙ ap length (filter-append (λ (y : Noted). y.node == n) (take i (told_by lines)) (noted_line x ∷ []))
    ∙ length-append (filter (λ y. y.node == n) (take i (told_by lines))) (filter (λ y. y.node == n) (noted_line x ∷ []))
    ∙ last (x.node.0 == n) (count_before lines n i)
  where
    last : (b : Bool) (m : ℕ) → m + length (cond b (noted_line x ∷ []) []) ≡ (if b then m + 1 else m)
    last true m = refl
    last false m = omega arith

few_taken : {X : Type 0} (i : ℕ) (xs : List X) → length (take i xs) ≤ i
few_taken zero xs = omega arith
few_taken (suc i) [] = omega arith
few_taken (suc i) (x ∷ xs) = let rest = few_taken i xs in omega (arith, rest)

few_pass : (test : Noted → Bool) (xs : List Noted) → length (filter test xs) ≤ length xs
few_pass test [] = omega arith
few_pass test (x ∷ xs) = ⊎_elim
    (λ (t : test x ≡ true). let rest = few_pass test xs in rw t (omega (arith, rest)))
    (λ (f : test x ≡ false). let rest = few_pass test xs in rw f (omega (arith, rest)))
    (cases_Bool (test x))

-- no more are counted than there are
pub few_counted : (lines : List Line) (n i count : ℕ) → count ≡ count_before lines n i → count ≤ i
few_counted lines n i count is =
    let some = few_pass (λ y. y.node == n) (take i (told_by lines)) in
    let all = few_taken i (told_by lines) in
    omega (arith, is, some, all)

pub logged_line : (lines : List Line) (i : ℕ) (x : Line) (place : ℕ) → i < length lines → ((d : Line) → slice_index_or lines i d ≡ x)
    → place ≡ count_before lines x.node.0 i → (k : Kept) → told_by lines ≡ order_in k → IsTimedRun k
    → IsLoggedEntry k i (entry_place x.node place)
logged_line lines i x place low is behind k told timed =
    logged k i (noted_line x) x.node place timed
    (subst (λ (log : List Noted). slice_get log i ≡ Some (noted_line x)) told (told_at lines i x low is)) refl
    (subst (λ (log : List Noted). place ≡ length (filter (λ y. y.node == x.node.0) (take i log))) told behind)
