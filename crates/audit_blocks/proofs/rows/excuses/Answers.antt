use Rattle.std.proofs.Common.{refl}
use Rattle.audit_blocks.proofs.Claiming.{all_of_claim}
use Rattle.audit_blocks.proofs.rows.excuses.Goals as goal

pub returns-clause-stopped : goal.returns-clause-stopped
returns-clause-stopped c s = all_of_claim _ _ _ _ _ (c.excuses.ensures.stopped s)

pub returns-clause-stopped_late : goal.returns-clause-stopped_late
returns-clause-stopped_late c s = record {
  before = tt;
  entry = _;
  there = refl;
  fails = λ e. c.excuses.ensures.stopped_late s (record { settled = (e.served, (tt, tt)); got = (e.of_put, ((λ n. tt), tt)) });
}
