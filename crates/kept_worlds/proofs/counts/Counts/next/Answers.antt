use Rattle.kept_worlds.proofs.Counting.{counted-more}
use Rattle.kept_worlds.proofs.counts.Counts.next.Goals as goal

pub returns-clause-counted : goal.returns-clause-counted
returns-clause-counted c = λ l. counted-more l c.args.link.0 _ _ _ _ _ c.self.view_is c.on-number.ensures c.in_ok-more.ensures (c.in_ok-insert.ensures.updates.0 l)
