use Rattle.audit_read.proofs.Texts.{empty_faulty, unended_faulty, other_faulty, early_faulty}
use Rattle.audit_read.proofs.rows.named.Goals as goal

pub returns-clause-empty : goal.returns-clause-empty
returns-clause-empty c = empty_faulty

pub returns-clause-unended : goal.returns-clause-unended
returns-clause-unended c = unended_faulty

pub returns-clause-other_form : goal.returns-clause-other_form
returns-clause-other_form c = other_faulty

pub returns-clause-early : goal.returns-clause-early
returns-clause-early c = early_faulty
