use Rattle.ring_links.specs.Ends.{AreNewLinks}
use Rattle.ring_workers.specs.Ends.{AreOpened}
use Rattle.ring_workers.proofs.ends.in_rows.Given as goal

abbrev pub invariant-loop-link : goal.invariant-loop-link
invariant-loop-link g l = record {
  rows : AreOpened l.outs.items l.ins.items;
  left : AreNewLinks l.opened.items;
}
