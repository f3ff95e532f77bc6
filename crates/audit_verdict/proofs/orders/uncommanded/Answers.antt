use Rattle.std.proofs.Common.{arith}
use Rattle.audit_verdict.specs.declared.clause.Clause.TheVariants as clause
use Rattle.audit_verdict.proofs.Clauses.{timed_before}
use Rattle.audit_verdict.proofs.Decided.{commanded_told}
use Rattle.audit_verdict.proofs.Needed.{few_journals, in_time}
use Rattle.audit_verdict.proofs.orders.uncommanded.Goals as goal

pub first_uncommanded-requires-clause-course : goal.first_uncommanded-requires-clause-course
first_uncommanded-requires-clause-course c = c.requires.writable.course

pub first_uncommanded-requires-clause-nodes : goal.first_uncommanded-requires-clause-nodes
first_uncommanded-requires-clause-nodes c = few_journals c.args.kept.now c.requires.writable

pub first_uncommanded-requires-clause-timed : goal.first_uncommanded-requires-clause-timed
first_uncommanded-requires-clause-timed c = timed_before c.args.kept.now clause.Commanded c.requires.before (omega arith)

pub first_uncommanded-requires-clause-in_time : goal.first_uncommanded-requires-clause-in_time
first_uncommanded-requires-clause-in_time c = in_time c.args.kept.now c.requires.writable

pub returns : goal.returns
returns c = commanded_told c.args.kept.now c.in_ok-found.found c.at_command.result c.in_ok-found.ensures c.at_command.ensures
