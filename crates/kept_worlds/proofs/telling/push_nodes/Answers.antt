use Rattle.kept_worlds.specs.Events.{lost_told}
use Rattle.kept_worlds.proofs.Pushing.{nodes-next, nodes-end}
use Rattle.kept_worlds.proofs.telling.push_nodes.Goals as goal

pub loop-n-preserved : goal.loop-n-preserved
loop-n-preserved c = record {
  told = nodes-next c.args.course.now (lost_told c.args.course.now c.args.journals.now) c.loop-n.n c.args.journals.now c.index-journals-n.result
      c.loop-n.events.items _ _ c.loop-n-test.true c.index-journals-n.is c.in_ok-push_node.ensures c.loop-n.invariant.told;
}

pub returns : goal.returns
returns c = nodes-end c.args.course.now (lost_told c.args.course.now c.args.journals.now) c.loop-n.n c.args.journals.now _ _
    c.loop-n-test.false c.loop-n.invariant.told
