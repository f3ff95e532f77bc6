use Rattle.std.proofs.Common.{arith}
use Rattle.run_claims.specs.Truths.{BeliefsAreTrue}
use Rattle.audit_verdict.specs.declared.clause.Clause.TheVariants as clause
use Rattle.audit_verdict.proofs.Clauses.{timed_before}
use Rattle.audit_verdict.proofs.Decided.{decided, inside_log}
use Rattle.audit_verdict.proofs.schedule.false_belief.Goals as goal

pub logged-requires : goal.logged-requires
logged-requires c = inside_log (BeliefsAreTrue) c.args.log.now c.in_ok-found.found c.in_ok-found.ensures

pub returns : goal.returns
returns c =
    let k = c.args.kept.now in
    let timed = timed_before k clause.TrueBelief c.requires.before (omega arith) in
    decided k (BeliefsAreTrue) _ c.in_ok-found.found c.logged.result c.requires.told
    c.in_ok-found.ensures
    (c.logged.ensures k c.requires.told timed)
