use Rattle.std.proofs.Common.{◌≡◌, ℕ, zero, suc, ◌*◌, ◌<◌, ◌≤◌, Bool, true, false, not, ◌&&◌, ◌||◌, nat_lt, nat_le, cond, find, List, [], ◌∷◌, ◌++◌, length, Some, slice_get, refl, sym, ap, subst, ◌∙◌, ⊎_elim, inl, inr, arith}
use Rattle.std.specs.Prelude.{◌==◌}
use Rattle.std.specs.List.{list_any}
use Rattle.std.proofs.lemmas.Bool.{eqb-true, false≢true}
use Rattle.node_kit.specs.declared.journal.Entry.{Entry}
use Rattle.node_kit.specs.declared.journal.What.{What}
use Rattle.node_kit.specs.declared.journal.What.TheVariants as what
use Rattle.tiger_base.specs.declared.tenancy.Tenancy.{Tenancy}
use Rattle.slot_plan.specs.Samples.{small}
use Rattle.run_facts.specs.Commanded.{is_gone_of, is_over, gone_in, gone_before, stop_ordered, places_got}
use Rattle.audit_orders.specs.Commanding.{IsWrongStop, takes_effect}
use Rattle.audit_orders.specs.Samples.{stop_in_five, stops_first, true_time}
use Rattle.audit_orders.proofs.rows.stops.Goals as goal

-- a is that the beat is 5, b that the instance is 0, c that the beat is one of the run, l that it is behind beat 5, and o
-- that the instance's tenancy is over
in_its_beat : (a b c l o : Bool) → (a ≡ true → c ≡ true) → (a ≡ true → l ≡ false) → o ≡ false
    → ((a && b) || false) ≡ (c && (((a && b) || false) && (not ((l && b) || false) && not o)))
in_its_beat true true true false false h g e = refl
in_its_beat true true true false true h g e = absurd (false≢true (sym e))
in_its_beat true true false l o h g e = absurd (false≢true (h refl))
in_its_beat true true true true o h g e = absurd (false≢true (sym (g refl)))
in_its_beat true false true l o h g e = refl
in_its_beat true false false l o h g e = refl
in_its_beat false b true l o h g e = refl
in_its_beat false b false l o h g e = refl

-- a tenancy of which nothing is known is not over
none_over : (v reading : ℕ) (t : Bool) → is_over small reading (find (λ (x : Tenancy). x.instance.0 == v) (cond t [] [] ++ [])) ≡ false
none_over v reading true = refl
none_over v reading false = refl

at_most_one : (t : Bool) (e : Entry) → length (cond t (e ∷ []) []) ≤ 1
at_most_one true e = omega arith
at_most_one false e = omega arith

pub returns-clause-stopped : goal.returns-clause-stopped
unfolding gone_in gone_before stop_ordered places_got
returns-clause-stopped c = record {
  stops = λ v beat.
      in_its_beat (5 == beat) (0 == v) (nat_lt beat 10) (nat_lt 5 beat) _
      (λ e. subst (λ (b : ℕ). nat_lt b 10 ≡ true) (eqb-true 5 beat e) refl)
      (λ e. subst (λ (b : ℕ). nat_lt 5 b ≡ false) (eqb-true 5 beat e) refl)
      (none_over v (beat * 10000) (nat_le 5 beat));
  once = λ v. at_most_one (0 == v) (stops_first 5);
}

-- an entry stops the instance a beat too early
early_stop : (journal : List Entry) (i : ℕ) → slice_get journal i ≡ Some (stops_first 4)
    → IsWrongStop small 10 true_time stop_in_five journal i
unfolding gone_in gone_before stop_ordered places_got
early_stop journal i here = record { entry = stops_first 4; here = here; v = record { 0 = 0 }; gone = refl; wrong = inl refl }

pub returns-clause-early : goal.returns-clause-early
returns-clause-early c = record { here = early_stop (stops_first 4 ∷ []) 0 refl; none_before = λ j low h. omega (arith, low) }

pub returns-clause-not_the_second : goal.returns-clause-not_the_second
returns-clause-not_the_second c h = h.none_before 0 (omega arith) (early_stop (stops_first 4 ∷ stops_first 4 ∷ []) 0 refl)

-- the first of two stops in beat 5 is right
first_right : IsWrongStop small 10 true_time stop_in_five (stops_first 5 ∷ stops_first 5 ∷ []) 0 → ⊥
unfolding gone_in gone_before stop_ordered places_got
first_right h =
    let both : Some (stops_first 5) ≡ Some h.entry = h.here in
    let entry : stops_first 5 ≡ h.entry = cc in
    let what_is : (stops_first 5).what ≡ what.Gone h.v = ap (λ (e : Entry). e.what) entry ∙ h.gone in
    let beat : 5 ≡ h.entry.stamp.beat = ap (λ (e : Entry). e.stamp.beat) entry in
    let v : 0 ≡ h.v.0 = ap number_of what_is in
    ⊎_elim
    (λ (none : takes_effect small 10 true_time stop_in_five (stops_first 5 ∷ stops_first 5 ∷ []) h.v.0 h.entry.stamp.beat ≡ false).
    false≢true (sym
    (subst (λ (b : ℕ). takes_effect small 10 true_time stop_in_five (stops_first 5 ∷ stops_first 5 ∷ []) 0 b ≡ false) (sym beat)
    (subst (λ (n : ℕ). takes_effect small 10 true_time stop_in_five (stops_first 5 ∷ stops_first 5 ∷ []) n h.entry.stamp.beat ≡ false) (sym v) none))))
    (λ (again : list_any (λ (e : Entry). is_gone_of h.v.0 e.what) [] ≡ true). false≢true again)
    h.wrong
  where
    number_of : What → ℕ
    number_of (what.Gone u) = u.0
    number_of other = 0

pub returns-clause-again : goal.returns-clause-again
returns-clause-again c = record {
  here = record { entry = stops_first 5; here = refl; v = record { 0 = 0 }; gone = refl; wrong = inr refl };
  none_before = by;
} where
  by : (j : ℕ) → j < 1 → IsWrongStop small 10 true_time stop_in_five (stops_first 5 ∷ stops_first 5 ∷ []) j → ⊥
  by zero low h = first_right h
  by (suc j) low h = omega (arith, low)

pub returns-clause-not_stopped : goal.returns-clause-not_stopped
unfolding gone_in gone_before stop_ordered places_got
returns-clause-not_stopped c = record {
  none_wrong = λ i h. let none = h.here in absurd (cc none);
  first = record {
    here = record { order = record { beat = 5; what = _ }; here = refl; v = record { 0 = 0 }; finish = refl; effective = refl; missing = refl };
    none_before = λ j low h. omega (arith, low);
  };
}
