use Rattle.std.proofs.Common.{arith}
use Rattle.kept_worlds.proofs.Pushing.{ends-next}
use Rattle.kept_worlds.proofs.telling.push_ends.Goals as goal

pub loop-beat-preserved : goal.loop-beat-preserved
loop-beat-preserved c = record {
  told = ends-next c.args.course.now c.args.node.0 c.args.journal.now c.loop-beat.beat c.loop-beat.events.items _ _
      (omega arith) c.in_ok-push_end.ensures c.loop-beat.invariant.told;
}
