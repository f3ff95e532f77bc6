use Rattle.std.proofs.Common.{ap, length, refl, ◌∙◌, arith}
use Rattle.net_read.specs.declared.fault.NetFault.TheVariants as faults
use Rattle.net_run.specs.Text.{net_text}
use Rattle.tiger_net.proofs.Plans.{plan_is, means_none}
use Rattle.tiger_net.proofs.rows.lines_of_plans.Goals as goal

pub returns-clause-is : goal.returns-clause-is
returns-clause-is c text plan short means = record { bytes = text; read = (refl, short); plan = plan; means = means; holds = refl }

pub returns-clause-other : goal.returns-clause-other
returns-clause-other c text lines plan means differs h = differs (h.holds ∙ ap net_text (plan_is text plan _ h means))

pub returns-clause-no_plan : goal.returns-clause-no_plan
returns-clause-no_plan c text lines means h = means_none text faults.BadForm _ h means

pub returns-clause-too_long : goal.returns-clause-too_long
returns-clause-too_long c text lines long h =
    let short = h.read.1 in
    let same = ap length h.read.0 in
    omega (arith, long, short, same)

pub returns-clause-no_file : goal.returns-clause-no_file
returns-clause-no_file c lines h = h.read.0

pub returns-clause-nothing_told : goal.returns-clause-nothing_told
returns-clause-nothing_told c text plan short means = record { bytes = text; read = (tt, short); plan = plan; means = means; holds = refl }
