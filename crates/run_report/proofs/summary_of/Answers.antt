use Rattle.run_report.proofs.Counts.{Fits-total_tally, BytesFit-kept}
use Rattle.run_report.proofs.summary_of.Goals as goal

pub outcomes_text-requires-clause-counts : goal.outcomes_text-requires-clause-counts
outcomes_text-requires-clause-counts c = rw c.requires.told (Fits-total_tally c.args.kept.now c.requires.orders)

pub outcomes_text-requires-clause-bytes : goal.outcomes_text-requires-clause-bytes
outcomes_text-requires-clause-bytes c = rw c.requires.told (BytesFit-kept c.args.kept.now)

pub push_total-requires : goal.push_total-requires
push_total-requires c = rw c.requires.told (Fits-total_tally c.args.kept.now c.requires.orders)
