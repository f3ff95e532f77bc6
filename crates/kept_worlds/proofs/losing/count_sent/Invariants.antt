use Rattle.std.proofs.Common.{◌≡◌, ℕ, ◌+◌, take}
use Rattle.run_facts.specs.Carried.{sent_on}
use Rattle.run_facts.specs.Histories.{below}
use Rattle.kept_worlds.specs.Telling.{counted_on}
use Rattle.kept_worlds.proofs.losing.count_sent.Given as goal

-- what is counted is what was counted before, and what the entries so far say was sent
abbrev pub invariant-loop-entry : goal.invariant-loop-entry
invariant-loop-entry l = record {
  counts : (link : ℕ) → counted_on link l.counts
      ≡ counted_on link l.fn.counts + below l.back (sent_on link (take l.entry-index l.journal));
}
