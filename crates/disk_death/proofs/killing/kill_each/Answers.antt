use Rattle.disk_death.proofs.Turns.{killed_none, killed_on, killed_all, fewer_pieces}
use Rattle.disk_death.proofs.killing.kill_each.Goals as goal

pub loop-piece-init : goal.loop-piece-init
loop-piece-init c = killed_none c.args.site.now.plan.params c.args.site.now.cub.0 c.args.instance c.args.remembered.now c.args.out.now

pub after-requires : goal.after-requires
after-requires c = c.loop-piece.invariant.valid

pub loop-piece-smaller : goal.loop-piece-smaller
loop-piece-smaller c =
    fewer_pieces c.args.remembered.now.params c.loop-piece.last c.args.remembered.now.items c.in-Some.piece c.in-Some.ensures.order c.in-Some.ensures.next

pub loop-piece-preserved : goal.loop-piece-preserved
loop-piece-preserved c =
    killed_on _ _ _ _ _ _ _ c.loop-piece.invariant c.in-Some.piece _ c.in-Some.ensures.order c.in-Some.ensures.piece c.in-Some.ensures.next c.in_ok-kill_if_of.ensures

pub returns : goal.returns
returns c = killed_all _ _ _ _ _ _ _ c.loop-piece.invariant c.in_default.ensures.next
