use Rattle.std.proofs.Common.{refl, arith}
use Rattle.audit_blocks.proofs.Claiming.{all_of_claim}
use Rattle.audit_blocks.proofs.rows.strangers.Goals as goal

pub returns-clause-piece : goal.returns-clause-piece
returns-clause-piece c s = all_of_claim _ _ _ _ _ (c.strangers.ensures.piece s)

pub returns-clause-short : goal.returns-clause-short
returns-clause-short c s = record {
  before = (record { served = (λ n first last end. absurd (omega (arith, end))); of_put = (λ n. tt) }, tt);
  entry = _;
  there = refl;
  fails = λ e. c.strangers.ensures.short s (record {
    settled = ((λ n first last end. absurd (omega (arith, end))), (tt, tt));
    got = ((λ n. tt), (e.of_put, tt));
  });
}

pub returns-clause-never_put : goal.returns-clause-never_put
returns-clause-never_put c s = record {
  before = tt;
  entry = _;
  there = refl;
  fails = λ e. c.strangers.ensures.never_put s (record { settled = (e.served, tt); got = (e.of_put, tt) });
}
