use Rattle.std.proofs.Common.{arith}
use Rattle.audit_blocks.specs.Verdicts.{IsServedIn}
use Rattle.audit_verdict.specs.declared.clause.Clause.TheVariants as clause
use Rattle.audit_verdict.proofs.Clauses.{timed_before}
use Rattle.audit_verdict.proofs.Decided.{inside_finds, served_decided}
use Rattle.audit_verdict.proofs.ends.unserved.Goals as goal

pub logged-requires : goal.logged-requires
logged-requires c = inside_finds (IsServedIn c.args.kept.now) c.args.log.now c.first_unserved.result c.first_unserved.ensures

pub returns : goal.returns
returns c =
    let k = c.args.kept.now in
    let timed = timed_before k clause.FullDelivery c.requires.before (omega arith) in
    served_decided k _ c.first_unserved.result c.logged.result c.requires.told c.first_unserved.ensures (c.logged.ensures k c.requires.told timed)
