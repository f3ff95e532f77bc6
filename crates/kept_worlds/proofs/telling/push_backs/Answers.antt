use Rattle.std.proofs.Common.{arith}
use Rattle.kept_worlds.proofs.Pushing.{backs-next}
use Rattle.kept_worlds.proofs.telling.push_backs.Goals as goal

pub loop-beat-preserved : goal.loop-beat-preserved
loop-beat-preserved c = record {
  told = backs-next c.args.course.now c.args.node.0 c.loop-beat.beat c.loop-beat.events.items _ _
      (omega arith) c.in_ok-push_back.ensures c.loop-beat.invariant.told;
}
