use Rattle.kept_worlds.proofs.SentBelow.{all-next}
use Rattle.kept_worlds.proofs.losing.count_all.Goals as goal

pub loop-journal-preserved : goal.loop-journal-preserved
loop-journal-preserved c = record {
  counts = all-next c.args.back c.loop-journal.journal-index c.args.journals.now c.journal-item.result c.as_slice.result.now
      c.args.counts.now c.loop-journal.counts _ c.loop-journal-test.true c.journal-item.is c.as_slice.ensures
      c.in_ok-count_sent.ensures c.loop-journal.invariant.counts;
}
