use Rattle.std.proofs.Common.{ℕ, ap, arith, refl, ⊎_elim, inl, inr}
use Rattle.tiger_input.specs.declared.status.Status.TheVariants as statuses
use Rattle.tiger_top.specs.declared.status.TopStatus.{TopStatus}
use Rattle.tiger_top.specs.declared.status.TopStatus.TheVariants as tops
use Rattle.tiger_top.proofs.rows.broken_rules.Goals as goal

-- the rule that a status names, and 0 if it names none
abbrev rule_of : TopStatus → ℕ
rule_of (tops.Tiger (statuses.Scenario fault)) = fault.rule
rule_of other = 0

pub returns-clause-rule : goal.returns-clause-rule
returns-clause-rule c = inl refl

pub returns-clause-no_memory : goal.returns-clause-no_memory
returns-clause-no_memory c = inr refl

pub returns-clause-other_rule : goal.returns-clause-other_rule
returns-clause-other_rule c h = ⊎_elim (λ rule. let e = ap rule_of rule in absurd (omega (arith, e))) (λ no_memory. absurd (cc)) h

pub returns-clause-done : goal.returns-clause-done
returns-clause-done c h = ⊎_elim (λ rule. absurd (cc)) (λ no_memory. absurd (cc)) h
