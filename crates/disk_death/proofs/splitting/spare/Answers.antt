use Rattle.std.proofs.Common.{subst}
use Rattle.mirror_schedule.specs.Pieces.{Pieces}
use Rattle.node_kit.specs.Deeds.{Did, each_in_turn}
use Rattle.disk_death.specs.Spares.{sparing, splitting_line}
use Rattle.disk_death.proofs.Turns.{none_split}
use Rattle.disk_death.proofs.splitting.spare.Goals as goal

pub returns-else-is_any_dead : goal.returns-else-is_any_dead
unfolding sparing
returns-else-is_any_dead c =
    let p = c.args.site.now.plan.params in
    let n = c.args.site.now.cub.0 in
    let left = c.forget.new.remembered in
    subst (λ (ps : Pieces). Did (each_in_turn (splitting_line p n c.args.deaths.now c.args.stamp) c.args.view.now.lines ps) c.args.out.now c.args.out.now left)
    c.forget.ensures
    (none_split p n c.args.deaths.now c.args.stamp c.args.view.now.lines left c.args.out.now c.is_any_dead.result c.is_any_dead.ensures c.if-is_any_dead.false)
