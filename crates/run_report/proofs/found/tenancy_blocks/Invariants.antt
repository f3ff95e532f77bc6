use Rattle.std.proofs.Common.{◌≡◌, ◌-◌}
use Rattle.std.specs.List.{flat_map, range_with_len}
use Rattle.run_report.specs.Outcomes.{settled_block}
use Rattle.run_report.proofs.found.tenancy_blocks.Given as goal

-- the blocks of the visits so far
abbrev pub invariant-loop-visit : goal.invariant-loop-visit
invariant-loop-visit l =
    l.blocks ≡ flat_map (settled_block l.index.course l.catalogue l.index.journals l.t) (range_with_len l.t.first (l.visit - l.t.first))
