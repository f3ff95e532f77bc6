use Rattle.std.proofs.Common.{◌≡◌, Some, sym, ap, subst, ◌∙◌}
use Rattle.std.proofs.lemmas.Option.{same_Some}
use Rattle.slot_plan.specs.declared.params.Params.{Params}
use Rattle.slot_plan.specs.Conditions.{plan_fault}
use Rattle.scenario_check.specs.Lines.{condition_lines}
use Rattle.scenario_check.specs.Numbers.{plan_numbers}
use Rattle.scenario_check.proofs.Refusals.{refused_plan}
use Rattle.scenario_check.proofs.conditions.condition_text.Goals as goal

pub unreachable-requires : goal.unreachable-requires
unreachable-requires c =
    let plan = refused_plan c.args.bytes.now c.args.fault c.requires.refused c.requires.condition in
    let some = plan.1 in
    let none = c.in_default.is in
    let are = c.in_ok-params.ensures.are in
    absurd (cc)

pub returns : goal.returns
returns c =
    let bytes = c.args.bytes.now in
    let fault = c.args.fault in
    let plan = refused_plan bytes fault c.requires.refused c.requires.condition in
    let p : Params = c.in-Some.params in
    let numbers : plan_numbers bytes ≡ Some p = sym c.in_ok-params.ensures.are ∙ c.in-Some.is in
    let same : plan.0 ≡ p = same_Some plan.0 p (sym plan.1 ∙ numbers) in
    record {
      params = p;
      numbers = numbers;
      ranges = rw c.in-Some.is at c.in_ok-params.ensures.range;
      named = subst (λ (q : Params). plan_fault q ≡ Some (record { condition = fault.item; left = fault.left; right = fault.right })) same plan.2;
      holds = c.in_ok-lines_of.ensures ∙ ap condition_lines (c.as_slice.ensures.value ∙ c.in_ok-conditions.ensures.conditions);
    }
