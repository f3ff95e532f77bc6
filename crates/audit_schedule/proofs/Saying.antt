-- What is decided of the log of a kept run is decided of its account.
use Rattle.std.proofs.Common.{ℕ, zero, suc, ◌+◌, ◌==◌, Bool, true, false, cond, List, [], ◌∷◌, map, filter, sym, subst}
use Rattle.std.specs.List.{AllByRecursion}
use Rattle.node_kit.specs.declared.journal.Entry.{Entry}
use Rattle.run_facts.specs.Order.{Noted, in_beat, order_from}
use Rattle.run_facts.proofs.Rows.{all-append}
use Rattle.run_model.specs.Orders.{PutsAreFair}
use Rattle.run_claims.specs.Returns.{NobodyComesBack}
use Rattle.run_claims.specs.Truths.{BeliefsAreTrue, FailuresAreTrue}
use Rattle.run_claims.specs.Turns.{AreInTurn}
use Rattle.audit_frame.specs.Lines.{told_by}
use Rattle.audit_frame.proofs.Saying.{says}
use Rattle.audit_frame.specs.declared.lines.Line.{Line}
use Rattle.audit_schedule.specs.Fair.{IsEarlyPut, IsEarlyLine}
use Rattle.audit_schedule.specs.Verdicts.{PutsOfAccounts, ReturnsOfAccounts, BeliefsOfAccounts, FailuresOfAccounts, TurnsOfAccounts, AreEarlyJournals, LinesAreEarly}

pub puts_of_accounts : PutsOfAccounts
puts_of_accounts k lines answer a = says (PutsAreFair k.course.plan.params k.orders) _ _ answer a.told a.decided

pub returns_of_accounts : ReturnsOfAccounts
returns_of_accounts k lines answer a = says (NobodyComesBack k.course.plan.params) _ _ answer a.told a.decided

pub beliefs_of_accounts : BeliefsOfAccounts
beliefs_of_accounts k lines answer a = says BeliefsAreTrue _ _ answer a.told a.decided

pub failures_of_accounts : FailuresOfAccounts
failures_of_accounts k lines answer a = says (FailuresAreTrue k.course.plan.params k.course.faults) _ _ answer a.told a.decided

pub turns_of_accounts : TurnsOfAccounts
turns_of_accounts k lines answer a = says (AreInTurn k.course.plan.params) _ _ answer a.told a.decided

-- ---- what holds of the entries of all journals holds of those of their order

abbrev IsEarly : Noted → Type 0
IsEarly x = IsEarlyPut x.entry.what

some_of : (n : ℕ) (b : Bool) (e : Entry) (es : List Entry) → IsEarlyPut e.what → AllByRecursion IsEarly (map (λ f. record { node = n; entry = f }) es)
    → AllByRecursion IsEarly (map (λ f. record { node = n; entry = f }) (cond b (e ∷ es) es))
some_of n true e es h rest = (h, rest)
some_of n false e es h rest = rest

of_journal : (n b : ℕ) (es : List Entry) → AllByRecursion (λ e. IsEarlyPut e.what) es
    → AllByRecursion IsEarly (map (λ f. record { node = n; entry = f }) (filter (λ e. e.stamp.beat == b) es))
of_journal n b [] h = tt
of_journal n b (e ∷ es) h = some_of n (e.stamp.beat == b) e (filter (λ f. f.stamp.beat == b) es) h.0 (of_journal n b es h.1)

of_beat : (b n : ℕ) (js : List (List Entry)) → AreEarlyJournals js → AllByRecursion IsEarly (in_beat b n js)
of_beat b n [] h = tt
of_beat b n (j ∷ js) h = all-append IsEarly (map (λ e. record { node = n; entry = e }) (filter (λ e. e.stamp.beat == b) j)) (in_beat b (n + 1) js)
    (of_journal n b j h.0) (of_beat b (n + 1) js h.1)

of_order : (b k : ℕ) (js : List (List Entry)) → AreEarlyJournals js → AllByRecursion IsEarly (order_from b k js)
of_order b zero js h = tt
of_order b (suc k) js h = all-append IsEarly (in_beat b 0 js) (order_from (b + 1) k js) (of_beat b 0 js h) (of_order (b + 1) k js h)

of_lines : (lines : List Line) → AllByRecursion IsEarly (told_by lines) → AllByRecursion IsEarlyLine lines
of_lines [] h = tt
of_lines (l ∷ ls) h = (h.0, of_lines ls h.1)

pub lines_are_early : LinesAreEarly
lines_are_early k lines h told =
    of_lines lines (subst (λ (xs : List Noted). AllByRecursion IsEarly xs) (sym told) (of_order 0 k.course.beats k.journals h))
