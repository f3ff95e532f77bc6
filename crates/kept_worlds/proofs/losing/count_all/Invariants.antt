use Rattle.std.proofs.Common.{◌≡◌, ℕ, ◌+◌, take}
use Rattle.kept_worlds.specs.Events.{sent_below}
use Rattle.kept_worlds.specs.Telling.{counted_on}
use Rattle.kept_worlds.proofs.losing.count_all.Given as goal

-- what is counted is what was counted before, and what the journals so far say was sent
abbrev pub invariant-loop-journal : goal.invariant-loop-journal
invariant-loop-journal l = record {
  counts : (link : ℕ) → counted_on link l.counts
      ≡ counted_on link l.fn.counts + sent_below l.back link (take l.journal-index l.journals);
}
