use Rattle.std.proofs.Common.{refl}
use Rattle.audit_blocks.proofs.Claiming.{all_of_claim}
use Rattle.audit_blocks.proofs.rows.deliveries.Goals as goal

pub returns-clause-comes : goal.returns-clause-comes
returns-clause-comes c s = all_of_claim _ _ _ _ _ (c.delivery.ensures.comes s)

pub returns-clause-missing : goal.returns-clause-missing
returns-clause-missing c s = record {
  before = tt;
  entry = _;
  there = refl;
  fails = λ e. c.delivery.ensures.missing s (record { settled = (e.served, tt); got = (e.of_put, tt) });
}

pub returns-clause-unsettled : goal.returns-clause-unsettled
returns-clause-unsettled c s = all_of_claim _ _ _ _ _ (c.delivery.ensures.unsettled s)
