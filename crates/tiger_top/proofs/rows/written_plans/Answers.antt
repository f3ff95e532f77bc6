use Rattle.std.proofs.Common.{refl, ap, ◌∙◌, arith}
use Rattle.net_read.specs.declared.fault.NetFault.TheVariants as faults
use Rattle.net_run.specs.Text.{net_text}
use Rattle.tiger_net.proofs.Plans.{plan_is, means_none}
use Rattle.tiger_top.proofs.rows.written_plans.Goals as goal

pub returns-clause-all : goal.returns-clause-all
returns-clause-all c text plan short means = record { bytes = text; read = (refl, short); plan = plan; means = means; holds = refl }

pub returns-clause-other_text : goal.returns-clause-other_text
returns-clause-other_text c text lines plan means differs h = differs (h.holds ∙ ap net_text (plan_is text plan _ h means))

pub returns-clause-no_plan : goal.returns-clause-no_plan
returns-clause-no_plan c text lines means h = means_none text faults.BadForm _ h means

pub returns-clause-no_put_failed : goal.returns-clause-no_put_failed
returns-clause-no_put_failed c text h = let more = h.0 in omega (arith, more)

pub returns-clause-written_before : goal.returns-clause-written_before
returns-clause-written_before c text h = absurd (cc)
