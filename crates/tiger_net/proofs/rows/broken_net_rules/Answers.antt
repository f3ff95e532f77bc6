use Rattle.std.proofs.Common.{refl}
use Rattle.net_read.specs.declared.fault.NetFault.TheVariants as faults
use Rattle.tiger_net.specs.declared.stop.NetRule.TheVariants as rules
use Rattle.tiger_net.proofs.Plans.{breaks_none, breaks_one}
use Rattle.tiger_net.proofs.rows.broken_net_rules.Goals as goal

pub returns-clause-numbers : goal.returns-clause-numbers
returns-clause-numbers c = (refl, refl)

pub returns-clause-no_json : goal.returns-clause-no_json
returns-clause-no_json c text short means = record { bytes = text; read = (refl, short); means = means }

pub returns-clause-no_form : goal.returns-clause-no_form
returns-clause-no_form c text short means = record { bytes = text; read = (refl, short); means = means }

pub returns-clause-other_rule : goal.returns-clause-other_rule
returns-clause-other_rule c text means h =
    let same = breaks_one text rules.Form faults.NoJson h means in
    absurd (cc)

pub returns-clause-plan : goal.returns-clause-plan
returns-clause-plan c text plan means h = breaks_none text plan rules.Form h means

pub returns-clause-no_file : goal.returns-clause-no_file
returns-clause-no_file c h = h.read.0
