use Rattle.std.proofs.Common.{◌∙◌, sym}
use Rattle.disk_death.proofs.Turns.{own_known}
use Rattle.disk_death.proofs.splitting.split_own.Goals as goal

pub returns-else-branch : goal.returns-else-branch
returns-else-branch c =
    own_known c.args.site.now.plan.params c.args.site.now.cub.0 c.args.rec c.args.remembered.now _ c.args.out.now c.are_in_order.ensures
    (sym c.in_ok-add.ensures.answer ∙ c.if-branch.false) c.in_ok-add.ensures.ok
