use Rattle.std.proofs.Common.{◌≡◌, ◌++◌, take, drop}
use Rattle.net_schedule.specs.Cubs.{put_in}
use Rattle.net_schedule.proofs.entries.put_kept.Given as goal

abbrev pub invariant-loop-place : goal.invariant-loop-place
invariant-loop-place l = record {
  less : take l.place l.kept.items ++ put_in (λ e. e.instance.0) l.new (drop l.place l.kept.items) ≡ put_in (λ e. e.instance.0) l.new l.fn.kept.items;
  same : l.kept.items ≡ l.fn.kept.items;
}
