use Rattle.std.proofs.Common.{◌≡◌, ◌++◌, take, drop}
use Rattle.net_schedule.specs.Cubs.{put_in, number_of}
use Rattle.net_schedule.proofs.entries.put_own.Given as goal

abbrev pub invariant-loop-place : goal.invariant-loop-place
invariant-loop-place l = record {
  less : take l.place l.own.items ++ put_in number_of l.new (drop l.place l.own.items) ≡ put_in number_of l.new l.fn.own.items;
  same : l.own.items ≡ l.fn.own.items;
}
