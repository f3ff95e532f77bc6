-- The clauses one after another, by their numbers.
use Rattle.std.proofs.Common.{◌≡◌, ℕ, ◌+◌, ◌<◌, ◌≤◌, ◌==◌, Option, Some, None, refl, sym, ap, subst, ◌∙◌, arith, ⊎_elim, eq-or-lt_of_le}
use Rattle.std.specs.Prelude.{if◌then◌else◌}
use Rattle.node_kit.specs.declared.course.Kept.{Kept}
use Rattle.run_claims.specs.Accounts.{account_of}
use Rattle.audit_orders.specs.Verdicts.{FollowsOrders}
use Rattle.run_model.specs.Runs.{IsTimedRun}
use Rattle.audit_verdict.specs.Clauses.{number_of_clause, MeetsClause, MeetsAllClauses}
use Rattle.audit_verdict.specs.Verdicts.{AnswersClause, IsFirstBroken, MeetsBefore, MeetsBelow}
use Rattle.audit_verdict.specs.declared.clause.Clause.{Clause}
use Rattle.audit_verdict.specs.declared.clause.Clause.TheVariants as clause
use Rattle.audit_verdict.specs.declared.place.Place.{Place}

-- the clause of a number
abbrev clause_of : ℕ → Clause
clause_of n =
    if n == 1 then clause.Carried
    else if n == 2 then clause.Timed
    else if n == 3 then clause.Commanded
    else if n == 4 then clause.FreePuts
    else if n == 5 then clause.PartViews
    else if n == 6 then clause.NoReturn
    else if n == 7 then clause.OnePerVisit
    else if n == 8 then clause.TrueBelief
    else if n == 9 then clause.TrueFaults
    else if n == 10 then clause.FullDelivery
    else if n == 11 then clause.VisitsInOrder
    else clause.FairStarts

same_clause : (c : Clause) → clause_of (number_of_clause c) ≡ c
same_clause clause.Carried = refl
same_clause clause.Timed = refl
same_clause clause.Commanded = refl
same_clause clause.FreePuts = refl
same_clause clause.PartViews = refl
same_clause clause.NoReturn = refl
same_clause clause.OnePerVisit = refl
same_clause clause.TrueBelief = refl
same_clause clause.TrueFaults = refl
same_clause clause.FullDelivery = refl
same_clause clause.VisitsInOrder = refl
same_clause clause.FairStarts = refl

by_number : (c d : Clause) → number_of_clause c ≡ number_of_clause d → c ≡ d
by_number c d e = sym (same_clause c) ∙ ap clause_of e ∙ same_clause d

-- none has the number 0
low_number : (c : Clause) → 1 ≤ number_of_clause c
low_number clause.Carried = omega arith
low_number clause.Timed = omega arith
low_number clause.Commanded = omega arith
low_number clause.FreePuts = omega arith
low_number clause.PartViews = omega arith
low_number clause.NoReturn = omega arith
low_number clause.OnePerVisit = omega arith
low_number clause.TrueBelief = omega arith
low_number clause.TrueFaults = omega arith
low_number clause.FullDelivery = omega arith
low_number clause.VisitsInOrder = omega arith
low_number clause.FairStarts = omega arith

-- before the first clause none is to hold
pub none_before : (k : Kept) (n : ℕ) → n ≤ 1 → MeetsBelow k n
none_before k n le c low = absurd (omega (arith, le, low, low_number c))

-- the clauses below a number, and the one of the number
pub one_more_met : (k : Kept) (c : Clause) (n : ℕ) → number_of_clause c ≡ n
    → MeetsBelow k n → MeetsClause k c → MeetsBelow k (n + 1)
one_more_met k c n is before here d low = ⊎_elim
    (λ (same : number_of_clause d ≡ n). subst (λ (e : Clause). MeetsClause k e) (by_number c d (is ∙ sym same)) here)
    (λ (less : number_of_clause d < n). before d less)
    (eq-or-lt_of_le (omega (arith, low)))

pub before_clause : (k : Kept) (c : Clause) (n : ℕ) → number_of_clause c ≡ n
    → MeetsBelow k n → MeetsBefore k c
before_clause k c n is before d low = before d (omega (arith, is, low))

-- what an answer that is known says
pub here_broken : (k : Kept) (c : Clause) (answer : Option Place) (here : Place) → answer ≡ Some here → MeetsBefore k c
    → AnswersClause k c answer → IsFirstBroken k c here
here_broken k c answer here is before a =
    let said = subst (λ (o : Option Place). AnswersClause k c o) is a in
    record { lower = before; broken = said.0; where_it_is = said.1 }

pub here_met : (k : Kept) (c : Clause) (answer : Option Place) → answer ≡ None → AnswersClause k c answer → MeetsClause k c
here_met k c answer is a = subst (λ (o : Option Place). AnswersClause k c o) is a

-- all twelve
pub all_met : (k : Kept) (n : ℕ) → 13 ≤ n → MeetsBelow k n → MeetsAllClauses k
all_met k n le met = record {
  carried = met clause.Carried (omega (arith, le));
  timed = (met clause.Timed (omega (arith, le))).0;
  clocks = (met clause.Timed (omega (arith, le))).1;
  commanded = met clause.Commanded (omega (arith, le));
  claims = record {
    free = met clause.FreePuts (omega (arith, le));
    part = met clause.PartViews (omega (arith, le));
    no_return = met clause.NoReturn (omega (arith, le));
    one_per_visit = met clause.OnePerVisit (omega (arith, le));
    true_belief = met clause.TrueBelief (omega (arith, le));
    true_faults = met clause.TrueFaults (omega (arith, le));
    delivery = met clause.FullDelivery (omega (arith, le));
    in_order = met clause.VisitsInOrder (omega (arith, le));
    starts = met clause.FairStarts (omega (arith, le));
  };
}

-- the second and the third hold before a later one
pub timed_before : (k : Kept) (c : Clause) → MeetsBefore k c → 2 < number_of_clause c → IsTimedRun k
timed_before k c before low = (before clause.Timed low).0

pub commanded_before : (k : Kept) (c : Clause) → MeetsBefore k c → 3 < number_of_clause c → FollowsOrders (account_of k)
commanded_before k c before low = before clause.Commanded low
