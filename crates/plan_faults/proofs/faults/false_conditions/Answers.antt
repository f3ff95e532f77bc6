use Rattle.std.proofs.Common.{not, filter, sym, ap, subst, ◌∙◌, rules, tests}
use Rattle.std.proofs.lemmas.Fn.{filter_same}
use Rattle.plan_faults.specs.declared.condition.Condition.{Condition}
use Rattle.plan_faults.specs.Faults.{conditions, first_fault}
use Rattle.plan_faults.specs.Mends.{AreMended}
use Rattle.plan_faults.proofs.Falses.{first_named, none_of_plan, plan_of_none}
use Rattle.plan_faults.proofs.Mends.{all_mended, mended_among}
use Rattle.plan_faults.proofs.faults.false_conditions.Goals as goal

pub returns-clause-conditions : goal.returns-clause-conditions
returns-clause-conditions c =
    filter_same _ (λ (x : Condition). not x.holds) _ (λ x b q h. search (rules, tests)) _ _ c.retain.ensures.filtered
    ∙ ap (filter (λ (x : Condition). not x.holds)) c.in_ok-all.ensures

pub returns-clause-sound : goal.returns-clause-sound
returns-clause-sound c =
    let left = returns-clause-conditions c in
    (λ none. plan_of_none c.args.p c.requires (sym left ∙ none), λ plan. left ∙ none_of_plan c.args.p plan)

pub returns-clause-first : goal.returns-clause-first
returns-clause-first c = let left = returns-clause-conditions c in ap first_fault left ∙ first_named c.args.p

pub returns-clause-mended : goal.returns-clause-mended
returns-clause-mended c =
    subst (AreMended c.args.p) (sym (returns-clause-conditions c))
    (mended_among c.args.p (λ x. not x.holds) (conditions c.args.p) (all_mended c.args.p c.requires))
