use Rattle.std.proofs.Common.{ap, ◌∙◌}
use Rattle.kept_worlds.specs.Telling.{counted_on}
use Rattle.kept_worlds.proofs.SentBelow.{none-sent, sent-next, sent-not}
use Rattle.kept_worlds.proofs.losing.count_sent.Goals as goal
use Rattle.kept_worlds.proofs.losing.count_sent.Goals.{in-Some+in_ok-next, in_default}

pub loop-entry-init : goal.loop-entry-init
loop-entry-init c = record { counts = λ l. none-sent c.args.back l _ }

pub loop-entry-preserved : goal.loop-entry-preserved
loop-entry-preserved c = elim c.match-early_send.branch [
  | in-Some+in_ok-next w ↦ record {
    counts = λ l. ap (counted_on l) w.counts-is
        ∙ sent-next c.args.back c.loop-entry.entry-index c.args.journal.now _ w.in-Some.link c.early_send.result c.args.counts.now
        c.loop-entry.counts _ c.loop-entry-test.true c.early_send.ensures w.in-Some.is w.in_ok-next.ensures.counted
        c.loop-entry.invariant.counts l;
  }
  | in_default w ↦ record {
    counts = λ l. ap (counted_on l) w.counts-is
        ∙ sent-not c.args.back c.loop-entry.entry-index c.args.journal.now _ c.early_send.result c.args.counts.now
        c.loop-entry.counts c.loop-entry-test.true c.early_send.ensures w.in_default.is
        c.loop-entry.invariant.counts l;
  }
]
