use Rattle.std.proofs.Common.{◌≡◌, ◌≤◌, length, take}
use Rattle.run_report.specs.Digests.{got_spans}
use Rattle.run_report.proofs.digest.Fronts.reach_all.Given as goal

-- the first n spans are those of the blocks so far that were got
abbrev pub invariant-loop-block : goal.invariant-loop-block
invariant-loop-block l = record {
  library : l.self.library ≡ l.fn.self.library;
  spans : take l.n l.self.spans ≡ got_spans (take l.block-index l.outcome.blocks);
  len : l.n ≤ length l.self.spans;
  few : l.n ≤ l.block-index;
}
