use Rattle.audit_verdict.proofs.Judging.{no_told}
use Rattle.audit_verdict.proofs.judgement.with_counts.Goals as goal

pub returns-in-No : goal.returns-in-No
returns-in-No c = no_told c.args.kept.now c.args.verdict c.in-No.clause c.in-No.place c.in-No.is c.requires.verdict
