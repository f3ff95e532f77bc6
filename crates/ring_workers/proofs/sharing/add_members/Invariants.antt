use Rattle.std.proofs.Common.{◌≡◌, ◌≤◌, ◌++◌}
use Rattle.ring_workers.specs.Sharing.{members_in}
use Rattle.ring_workers.proofs.sharing.add_members.Given as goal

abbrev pub invariant-loop-node : goal.invariant-loop-node
invariant-loop-node l = record {
  low : l.first ≤ l.node;
  all : l.numbers.items ≡ l.fn.numbers.items ++ members_in l.homes l.share l.first l.node;
}
