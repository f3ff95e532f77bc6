use Rattle.cub_rules.specs.Cubs.{ending}
use Rattle.cub_changes.proofs.Rules.{ending_right}
use Rattle.cub_core.proofs.Chains.{followed, where_ok}
use Rattle.cub_core.proofs.cub.Cub.end_beat.Goals as goal

pub invariant_of-self-else-is_err : goal.invariant_of-self-else-is_err
invariant_of-self-else-is_err c =
    let p = c.self.inside.site.plan.params in
    let n = c.self.inside.site.cub.0 in
    let did = where_ok c.end-done.result c.is_err.result c.is_err.ensures.value c.if-is_err.false c.end-done.ensures in
    followed p n (ending p n c.self.inside.last c.args.stamp) c.self.inside.store _
    (ending_right p n c.self.inside.last c.args.stamp c.self.inside.site.plan.sound c.self.inside.site.inside c.requires) c.self.invariant did.1
