use Rattle.std.proofs.Common.{ap, inl, inr, arith}
use Rattle.scenario_read.specs.declared.stop.ScenarioFault.{ScenarioFault}
use Rattle.tiger_spare.proofs.rows.deaths.Goals as goal

pub returns-clause-rule : goal.returns-clause-rule
returns-clause-rule c old new dies = inr (inl dies)

pub returns-clause-other_rule : goal.returns-clause-other_rule
returns-clause-other_rule c old new dies =
    let e = ap (λ (f : ScenarioFault). f.rule) dies.1 in
    absurd (omega (arith, e))
