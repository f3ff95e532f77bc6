use Rattle.std.proofs.Common.{◌≡◌, ℕ, zero, suc, Bool, true, false, nat_lt, cond, List, [], ◌∷◌, ◌++◌, length, Some, refl, sym, ap, subst, arith}
use Rattle.std.specs.Prelude.{◌==◌}
use Rattle.std.proofs.lemmas.Bool.{eqb-true, false≢true}
use Rattle.slot_plan.specs.Samples.{small}
use Rattle.run_facts.specs.Commanded.{Dispatch, starts_sent, starts_ordered}
use Rattle.run_model.specs.Samples.{ask, ordered}
use Rattle.audit_orders.specs.Commanding.{AreSentBelow, IsFrontOf, starts_due}
use Rattle.audit_orders.specs.Samples.{start_to}
use Rattle.audit_orders.proofs.rows.starts.Goals as goal

-- the start that goes to cub 1
abbrev second : Dispatch
second = record { to = Some 1; ask = ask; redundant = true }

-- beat 0 is one of ten
is_early : (beat : ℕ) → (0 == beat) ≡ true → nat_lt beat 10 ≡ true
is_early beat e = subst (λ (b : ℕ). nat_lt b 10 ≡ true) (eqb-true 0 beat e) refl

both_sent : (d e : Dispatch) (t u : Bool) → (t ≡ true → u ≡ true)
    → cond t (d ∷ []) [] ++ (cond t (e ∷ []) [] ++ []) ≡ cond u (cond t (d ∷ e ∷ []) [] ++ []) []
both_sent d e true true h = refl
both_sent d e true false h = absurd (false≢true (h refl))
both_sent d e false true h = refl
both_sent d e false false h = refl

pub returns-clause-sent : goal.returns-clause-sent
unfolding starts_sent starts_ordered
returns-clause-sent c beat = both_sent _ _ (0 == beat) (nat_lt beat 10) (is_early beat)

-- which of the two starts stands first
abbrev flag_of : List Dispatch → Bool
flag_of [] = true
flag_of (d ∷ ds) = d.redundant

pub returns-clause-turned : goal.returns-clause-turned
unfolding starts_sent starts_ordered
returns-clause-turned c = record {
  inside = omega arith;
  beat = 0;
  lower_beats = λ a low. absurd (omega (arith, low));
  before = (starts_due small 10 ordered 0, refl);
  with_it = λ f. false≢true (sym (ap flag_of f.1));
}

-- how many starts there are
abbrev count_of : List Dispatch → ℕ
count_of ds = length ds

-- what was not due in beat 3 is not said to be wrong, since what was due in beat 0 was not sent
pub returns-clause-not_the_later_beat : goal.returns-clause-not_the_later_beat
unfolding starts_sent starts_ordered
returns-clause-not_the_later_beat c h = by h.beat h.lower_beats h.with_it
  where
    by : (b : ℕ) → AreSentBelow small 10 ordered (start_to 3 0 false ∷ []) b
        → (IsFrontOf (starts_sent small b (start_to 3 0 false ∷ [])) (starts_due small 10 ordered b) → ⊥) → ⊥
    by zero lower wrong = wrong (starts_due small 10 ordered 0, refl)
    by (suc b) lower wrong =
        let none = ap count_of (lower 0 (omega arith)) in
        omega (arith, none)

pub returns-clause-not_sent : goal.returns-clause-not_sent
unfolding starts_sent starts_ordered
returns-clause-not_sent c = record {
  order = record { beat = 0; what = _ };
  here = refl;
  early = omega arith;
  lower_beats = λ a low. absurd (omega (arith, low));
  sent = (starts_due small 10 ordered 0, refl);
  lower = ([], refl);
  lacks = λ f. let none = f.1 in absurd (cc none);
}

pub returns-clause-half_sent : goal.returns-clause-half_sent
unfolding starts_sent starts_ordered
returns-clause-half_sent c = record {
  order = record { beat = 0; what = _ };
  here = refl;
  early = omega arith;
  lower_beats = λ a low. absurd (omega (arith, low));
  sent = (second ∷ [], refl);
  lower = (starts_sent small 0 (start_to 0 0 false ∷ []), refl);
  lacks = λ f. let one = f.1 in absurd (cc one);
}

one_sent : (d e : Dispatch) (t u : Bool) → (t ≡ true → u ≡ true)
    → (cond t (d ∷ []) [] ++ []) ++ cond t (e ∷ []) [] ≡ cond u (cond t (d ∷ e ∷ []) [] ++ []) []
one_sent d e true true h = refl
one_sent d e true false h = absurd (false≢true (h refl))
one_sent d e false true h = refl
one_sent d e false false h = refl

pub returns-clause-not_the_first : goal.returns-clause-not_the_first
unfolding starts_sent starts_ordered
returns-clause-not_the_first c h =
    h.with_it (cond (0 == h.beat) (second ∷ []) [], one_sent _ second (0 == h.beat) (nat_lt h.beat 10) (is_early h.beat))
