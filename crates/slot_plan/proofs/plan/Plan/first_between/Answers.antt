use Rattle.slot_plan.proofs.Next.{no_such_disk, no_such_time}
use Rattle.slot_plan.proofs.plan.Plan.first_between.Goals as goal
use Rattle.slot_plan.proofs.plan.Plan.first_between.Goals.{then-from-self-via-then-from-self, then-from-self-via-else-from-self+then-from-last}

pub returns-then-from-self-clause-between : goal.returns-then-from-self-clause-between
returns-then-from-self-clause-between c =
    let p = c.args.self.now.params in
    elim c.then-from-self.branch [
      | then-from-self-via-then-from-self w ↦ no_such_disk p c.args.disk.0 _ _ _ c.args.self.now.sound.ranges c.from.ensures w.if-from-self.true
      | then-from-self-via-else-from-self+then-from-last w ↦ no_such_time p c.args.disk.0 _ _ w.if-from-last.true
    ]
