use Rattle.std.proofs.Common.{◌≡◌, ◌++◌, drop}
use Rattle.kept_worlds.specs.Events.{lost_told}
use Rattle.kept_worlds.specs.Telling.{nodes_told}
use Rattle.kept_worlds.proofs.telling.push_nodes.Given as goal

-- what is pushed and what the nodes that are left tell is what all nodes tell
abbrev pub invariant-loop-n : goal.invariant-loop-n
invariant-loop-n l = record {
  told : l.events.items ++ nodes_told l.course (lost_told l.course l.journals) l.n (drop l.n l.journals)
      ≡ l.fn.events.items ++ nodes_told l.course (lost_told l.course l.journals) 0 l.journals;
}
