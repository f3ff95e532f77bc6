use Rattle.std.proofs.Common.{List, ◌∙◌, ap}
use Rattle.audit_frame.specs.Lines.{told_by}
use Rattle.audit_frame.specs.declared.lines.Line.{Line}
use Rattle.audit_verdict.proofs.Needed.{few_journals}
use Rattle.audit_verdict.proofs.judgement.judge.Goals as goal

pub lines_of-requires : goal.lines_of-requires
lines_of-requires c = few_journals c.args.kept.now c.requires

pub tables_of-requires : goal.tables_of-requires
tables_of-requires c = few_journals c.args.kept.now c.requires

pub verdict_on-requires-clause-told : goal.verdict_on-requires-clause-told
verdict_on-requires-clause-told c = ap (λ (ls : List Line). told_by ls) c.as_slice-log.ensures.value ∙ c.in_ok-lines.ensures

pub with_counts-requires-clause-told : goal.with_counts-requires-clause-told
with_counts-requires-clause-told c = ap (λ (ls : List Line). told_by ls) c.as_slice-log.ensures.value ∙ c.in_ok-lines.ensures
