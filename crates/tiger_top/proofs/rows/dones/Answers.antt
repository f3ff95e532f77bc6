use Rattle.std.proofs.Common.{refl, ⊎_elim, inl, inr}
use Rattle.tiger_top.proofs.rows.dones.Goals as goal

pub returns-clause-is : goal.returns-clause-is
returns-clause-is c = refl

pub returns-clause-no_memory : goal.returns-clause-no_memory
returns-clause-no_memory c h = absurd (cc)

pub returns-clause-broken_rule : goal.returns-clause-broken_rule
returns-clause-broken_rule c h = absurd (cc)

pub returns-clause-or_is : goal.returns-clause-or_is
returns-clause-or_is c = inl refl

pub returns-clause-or_no_memory : goal.returns-clause-or_no_memory
returns-clause-or_no_memory c = inr refl

pub returns-clause-or_write_fault : goal.returns-clause-or_write_fault
returns-clause-or_write_fault c h = ⊎_elim (λ done. absurd (cc)) (λ no_memory. absurd (cc)) h
