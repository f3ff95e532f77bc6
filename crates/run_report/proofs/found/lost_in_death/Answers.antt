use Rattle.std.proofs.Common.{◌≡◌, ◌%◌, ap, arith}
use Rattle.slot_plan.specs.Times.{cub_of}
use Rattle.node_kit.specs.declared.course.Course.{Course}
use Rattle.run_report.proofs.found.lost_in_death.Goals as goal

pub died_between-requires-clause-cub : goal.died_between-requires-clause-cub
unfolding cub_of
died_between-requires-clause-cub c =
    let same : c.course.result.now.plan.params.cubs ≡ c.args.index.now.course.plan.params.cubs = ap (λ (x : Course). x.plan.params.cubs) c.course.ensures in
    let low = c.course.result.now.plan.sound.ranges.cubs.0 in
    let is : c.cub_of.result.0 ≡ c.args.visit % c.course.result.now.plan.params.cubs = c.cub_of.ensures in
    omega arith
