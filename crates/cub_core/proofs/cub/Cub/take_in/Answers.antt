use Rattle.cub_rules.specs.Messages.{taking}
use Rattle.cub_changes.proofs.Rules.{taking_right}
use Rattle.cub_core.proofs.Chains.{followed, where_ok}
use Rattle.cub_core.proofs.cub.Cub.take_in.Goals as goal

pub invariant_of-self-else-is_err : goal.invariant_of-self-else-is_err
invariant_of-self-else-is_err c =
    let p = c.self.inside.site.plan.params in
    let n = c.self.inside.site.cub.0 in
    let did = where_ok c.hear-done.result c.is_err.result c.is_err.ensures.value c.if-is_err.false c.hear-done.ensures in
    followed p n (taking p n c.args.stamp c.args.link c.args.msg) c.self.inside.store _
    (taking_right p n c.args.stamp c.args.link c.args.msg c.self.inside.site.plan.sound c.self.inside.site.inside c.requires) c.self.invariant did.1
