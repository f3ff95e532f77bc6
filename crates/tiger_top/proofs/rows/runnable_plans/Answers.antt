use Rattle.std.proofs.Common.{refl, arith}
use Rattle.tiger_top.proofs.Plans.{runnable_bytes, runs_none}
use Rattle.tiger_top.proofs.rows.runnable_plans.Goals as goal

pub returns-clause-is : goal.returns-clause-is
returns-clause-is c text plan short means = record { plan_bytes = text; is_told = refl; is_short = short; plan = plan; is_sound = means }

pub returns-clause-no_file : goal.returns-clause-no_file
returns-clause-no_file c h = let told = h.is_told in absurd (cc)

pub returns-clause-not_told : goal.returns-clause-not_told
returns-clause-not_told c h = let told = h.is_told in absurd (cc)

pub returns-clause-too_long : goal.returns-clause-too_long
returns-clause-too_long c text long h =
    let same = runnable_bytes text h in
    let short = h.is_short in
    omega (arith, long, short, same)

pub returns-clause-no_plan : goal.returns-clause-no_plan
returns-clause-no_plan c text means h = runs_none text h means
