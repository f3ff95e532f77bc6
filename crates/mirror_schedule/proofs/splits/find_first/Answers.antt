use Rattle.mirror_schedule.proofs.NotedSplits.{none_taken}
use Rattle.mirror_schedule.proofs.splits.find_first.Goals as goal

pub returns-else-may_be_noted-clause-first : goal.returns-else-may_be_noted-clause-first
returns-else-may_be_noted-clause-first c =
    none_taken c.args.marks.now.items c.args.instance c.args.items.now.items (c.may_be_noted.ensures c.if-may_be_noted.false) c.requires
