-- What a controller says in a beat of all of its orders.
use Rattle.std.proofs.Common.{◌≡◌, ℕ, ◌+◌, List, ◌++◌, [], ◌∷◌, Bool, true, false, not, ◌&&◌, ◌||◌, arith, refl, sym, ap, subst, ◌∙◌}
use Rattle.std.specs.List.{list_any, AllByRecursion}
use Rattle.std.proofs.lemmas.Grind.{flat_map-append}
use Rattle.std.proofs.lemmas.List.Folds.{list_any-append}
use Rattle.tiger_base.specs.declared.number.Instance.{Instance}
use Rattle.tiger_base.specs.declared.message.Msg.{Msg}
use Rattle.tiger_base.specs.Notes.{noted}
use Rattle.slot_plan.specs.declared.params.Params.{Params}
use Rattle.slot_plan.specs.Conditions.{IsPlan}
use Rattle.node_kit.specs.declared.course.Order.{Order}
use Rattle.node_kit.specs.declared.outbox.Out.{Out}
use Rattle.node_kit.specs.Steps.{Deed, what_of}
use Rattle.node_kit.specs.Deeds.{then_do, each_in_turn}
use Rattle.run_facts.specs.Commanded.{is_gone_of, is_finish_of, is_over, place_of}
use Rattle.controller_core.specs.declared.known.Known.{Known}
use Rattle.controller_core.specs.State.{AreInForm, tenancy_of, is_gone}
use Rattle.controller_core.specs.Rules.{carrying}
use Rattle.proof_controller.proofs.Carrying.{Says, HasStart, takes_effect, one_if, nothing_says, carrying_says}
use Rattle.proof_controller.proofs.Noted.{any_out, count_out, flat_out, count-append}

or_assoc : (a b c : Bool) → ((a || b) || c) ≡ (a || (b || c))
or_assoc true b c = refl
or_assoc false b c = refl

one_or_other : (a b : Bool) → (a && b) ≡ false → one_if a + one_if b ≡ one_if (a || b)
one_or_other true true e = absurd (cc)
one_or_other true false e = refl
one_or_other false b e = omega arith

then_says : (v : Instance) (a b : Bool) (f g : Known → Deed Msg Known) (known : Known) → (a && b) ≡ false
    → Says v a known (f known) → Says v b (f known).state (g (f known).state) → Says v (a || b) known (then_do f g known)
then_says v a b f g known apart one two = record {
  said =
      list_any-append (λ (o : Out Msg). is_gone_of v.0 (what_of noted o)) (f known).outs (g (f known).state).outs
      ∙ (ap (λ x. x || any_out (is_gone_of v.0) (g (f known).state).outs) one.said ∙ ap (λ x. a || x) two.said);
  after = two.after ∙ (ap (λ x. x || b) one.after ∙ or_assoc (is_gone known.gone v) a b);
  count =
      count-append (λ (o : Out Msg). is_gone_of v.0 (what_of noted o)) (f known).outs (g (f known).state).outs
      ∙ (ap (λ n. n + count_out (is_gone_of v.0) (g (f known).state).outs) one.count ∙ (ap (λ n. one_if a + n) two.count ∙ one_or_other a b apart));
  placed = two.placed ∙ one.placed;
  silent = λ p.
      flat_map-append (λ (o : Out Msg). place_of p (what_of noted o)) (f known).outs (g (f known).state).outs
      ∙ (ap (λ x. x ++ flat_out (place_of p) (g (f known).state).outs) (one.silent p) ∙ two.silent p);
}

-- the first stop of several takes effect, and no other one
first_of : (a f g n : Bool) → ((a && (not g && n)) || (f && (not (g || (a && (not g && n))) && n))) ≡ ((a || f) && (not g && n))
first_of true true true true = refl
first_of true true true false = refl
first_of true true false true = refl
first_of true true false false = refl
first_of true false true true = refl
first_of true false true false = refl
first_of true false false true = refl
first_of true false false false = refl
first_of false true true true = refl
first_of false true true false = refl
first_of false true false true = refl
first_of false true false false = refl
first_of false false g n = refl

not_both : (a f g n : Bool) → ((a && (not g && n)) && (f && (not (g || (a && (not g && n))) && n))) ≡ false
not_both true true true true = refl
not_both true true true false = refl
not_both true true false true = refl
not_both true true false false = refl
not_both true false true true = refl
not_both true false true false = refl
not_both true false false true = refl
not_both true false false false = refl
not_both false f g n = refl

abbrev pub stops_in : Instance → List Order → Bool
stops_in v os = list_any (λ o. is_finish_of v.0 o.what) os

pub still_in_form : (p : Params) (known next : Known) → next.placed ≡ known.placed → AreInForm p known → AreInForm p next
still_in_form p known next e h = subst (λ placed. AreInForm p (record known { placed = placed })) (sym e) h

-- what takes effect after a first deed
effect_after : (p : Params) (r : ℕ) (v : Instance) (a : Bool) (known : Known) (d : Deed Msg Known) → Says v a known d
    → takes_effect p r d.state v ≡ (not (is_gone known.gone v || a) && not (is_over p r (tenancy_of known.placed v)))
effect_after p r v a known d one =
    ap (λ x. not x && not (is_over p r (tenancy_of d.state.placed v))) one.after
    ∙ ap (λ placed. not (is_gone known.gone v || a) && not (is_over p r (tenancy_of placed v))) one.placed

pub each_says : (p : Params) (all : List Order) (r : ℕ) (v : Instance) (os : List Order) (known : Known) → IsPlan p → AreInForm p known
    → AllByRecursion (HasStart all) os
    → Says v (stops_in v os && takes_effect p r known v) known (each_in_turn (carrying p all r) os known)
each_says p all r v [] known plan form has = nothing_says v known
each_says p all r v (o ∷ os) known plan form has =
    let f = carrying p all r o in
    let a = is_finish_of v.0 o.what in
    let g = is_gone known.gone v in
    let n = not (is_over p r (tenancy_of known.placed v)) in
    let one : Says v (a && takes_effect p r known v) known (f known) = carrying_says p all r v o known plan form has.0 in
    let next = (f known).state in
    let two = each_says p all r v os next plan (still_in_form p known next one.placed form) has.1 in
    let e = effect_after p r v (a && takes_effect p r known v) known (f known) one in
    let rest : Says v (stops_in v os && (not (g || (a && (not g && n))) && n)) next (each_in_turn (carrying p all r) os next) =
    subst (λ x. Says v (stops_in v os && x) next (each_in_turn (carrying p all r) os next)) e two in
    subst (λ x. Says v x known (each_in_turn (carrying p all r) (o ∷ os) known)) (first_of a (stops_in v os) g n)
    (then_says v (a && (not g && n)) (stops_in v os && (not (g || (a && (not g && n))) && n)) f (each_in_turn (carrying p all r) os) known
    (not_both a (stops_in v os) g n) one rest)
