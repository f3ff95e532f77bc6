use Rattle.std.proofs.Common.{refl}
use Rattle.std.specs.Prelude.{codes}
use Rattle.tiger_audit.proofs.rows.commands.Goals as goal

pub returns-clause-known : goal.returns-clause-known
returns-clause-known c none = none (codes "a") refl
