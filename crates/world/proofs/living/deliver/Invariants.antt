use Rattle.std.proofs.Common.{◌≡◌, ◌++◌, map, length, vec_len}
use Rattle.std.specs.List.{AllByRecursion}
use Rattle.node_kit.specs.Steps.{entry_of}
use Rattle.world.specs.Posting.{posted, IsPostable}
use Rattle.world.proofs.living.deliver.Given as goal

-- What is done and what is left to do make all of it.
abbrev pub invariant-loop-output : goal.invariant-loop-output
invariant-loop-output g l = record {
  written : l.journal ++ map (entry_of g.M.Message.note_of l.stamp) l.outputs ≡ l.fn.journal ++ map (entry_of g.M.Message.note_of l.stamp) l.fn.outputs;
  sent : posted l.stamp.beat l.outputs l.channels.items ≡ posted l.stamp.beat l.fn.outputs l.fn.channels.items;
  links : AllByRecursion (IsPostable (vec_len l.channels)) l.outputs;
}

abbrev pub decreases-loop-output : goal.decreases-loop-output
decreases-loop-output g l = length l.outputs
