use Rattle.std.proofs.Common.{◌≡◌, ◌-◌, ◌≤◌, length, filter}
use Rattle.std.specs.List.{range_with_len}
use Rattle.audit_blocks.specs.Shares.{is_excused_by}
use Rattle.audit_blocks.proofs.shares.excused_between.Given as goal

-- the visits so far are counted, and are no fewer
abbrev pub invariant-loop-n : goal.invariant-loop-n
invariant-loop-n l = record {
  from : l.first ≤ l.n;
  to : l.n ≤ l.end;
  counted : l.count ≡ length (filter (is_excused_by l.k l.share l.t) (range_with_len l.first (l.n - l.first)));
  few : l.count ≤ l.n - l.first;
}
