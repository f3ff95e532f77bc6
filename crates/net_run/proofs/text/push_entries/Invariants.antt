use Rattle.std.proofs.Common.{◌≡◌, ◌++◌, take}
use Rattle.std.specs.List.{flat_map}
use Rattle.net_run.specs.Text.{entry_line}
use Rattle.net_run.proofs.text.push_entries.Given as goal

-- the lines so far
abbrev pub invariant-loop-own : goal.invariant-loop-own
invariant-loop-own l = l.text.items ≡ l.fn.text.items ++ flat_map (entry_line l.ring) (take l.own-index l.entries)
