use Rattle.std.proofs.Common.{refl}
use Rattle.tiger_audit.proofs.rows.yes_lines.Goals as goal

pub returns-clause-is : goal.returns-clause-is
returns-clause-is c = refl

pub returns-clause-entries : goal.returns-clause-entries
returns-clause-entries c = refl

pub returns-clause-visits : goal.returns-clause-visits
returns-clause-visits c = refl
