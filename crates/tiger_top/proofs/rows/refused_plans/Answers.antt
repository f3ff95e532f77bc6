use Rattle.std.proofs.Common.{refl, arith}
use Rattle.tiger_net.specs.declared.stop.NetRule.TheVariants as rules
use Rattle.tiger_top.proofs.Plans.{other_number, no_number}
use Rattle.tiger_top.proofs.rows.refused_plans.Goals as goal

pub returns-clause-not_there : goal.returns-clause-not_there
returns-clause-not_there c = (refl, (omega arith, tt))

pub returns-clause-other_file : goal.returns-clause-other_file
returns-clause-other_file c cause = let same = cause.0 in absurd (cc)

pub returns-clause-first_rule : goal.returns-clause-first_rule
returns-clause-first_rule c text short means = (rules.Json, refl, record { bytes = text; read = (refl, short); means = means })

pub returns-clause-second_rule : goal.returns-clause-second_rule
returns-clause-second_rule c text short means = (rules.Form, refl, record { bytes = text; read = (refl, short); means = means })

pub returns-clause-not_the_first : goal.returns-clause-not_the_first
returns-clause-not_the_first c text means cause = other_number text cause.0 cause.1 cause.2 means

pub returns-clause-no_third_rule : goal.returns-clause-no_third_rule
returns-clause-no_third_rule c cause = no_number cause.0 cause.1

pub returns-clause-device : goal.returns-clause-device
returns-clause-device c cause = cause

pub returns-clause-words : goal.returns-clause-words
returns-clause-words c cause = cause
