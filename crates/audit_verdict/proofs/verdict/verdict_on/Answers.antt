use Rattle.std.proofs.Common.{arith}
use Rattle.audit_verdict.proofs.Clauses.{all_met, before_clause, here_broken, here_met, none_before, one_more_met}
use Rattle.audit_verdict.proofs.verdict.verdict_on.Goals as goal

pub loop-number-init : goal.loop-number-init
loop-number-init c = record { before = none_before c.args.kept.now 1 (omega arith) }

pub broken_at-requires-clause-before : goal.broken_at-requires-clause-before
broken_at-requires-clause-before c =
    before_clause c.args.kept.now c.numbered-clause.result c.loop-number.number c.numbered-clause.ensures c.loop-number.invariant.before

pub returns-in-Some : goal.returns-in-Some
returns-in-Some c =
    let k = c.args.kept.now in
    let clause = c.numbered-clause.result in
    here_broken k clause c.in_ok-found.found c.in-Some.place c.in-Some.is
    (before_clause k clause c.loop-number.number c.numbered-clause.ensures c.loop-number.invariant.before) c.in_ok-found.ensures

pub loop-number-preserved : goal.loop-number-preserved
loop-number-preserved c =
    let k = c.args.kept.now in
    let clause = c.numbered-clause.result in
    record {
      before = one_more_met k clause c.loop-number.number c.numbered-clause.ensures c.loop-number.invariant.before
          (here_met k clause c.in_ok-found.found c.in_default.is c.in_ok-found.ensures);
    }

pub returns : goal.returns
returns c = all_met c.args.kept.now c.loop-number.number (omega (arith, c.loop-number-test.false)) c.loop-number.invariant.before
