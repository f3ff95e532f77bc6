use Rattle.std.proofs.Common.{◌≡◌, ◌++◌, take, drop, []}
use Rattle.kept_worlds.specs.Events.{lost_told}
use Rattle.kept_worlds.specs.Telling.{gets_told}
use Rattle.kept_worlds.proofs.Pushing.{AreCounted}
use Rattle.kept_worlds.proofs.telling.push_gets.Given as goal

-- what is pushed, and what the entries that are left tell, is what all tell, and the counts are those so far
abbrev pub invariant-loop-place : goal.invariant-loop-place
invariant-loop-place l = record {
  told : l.events.items ++ gets_told l.course l.node.0 (lost_told l.course l.journals l.node.0) (take l.place l.journal) (drop l.place l.journal)
      ≡ l.fn.events.items ++ gets_told l.course l.node.0 (lost_told l.course l.journals l.node.0) [] l.journal;
  counts : AreCounted l.course l.node.0 (lost_told l.course l.journals l.node.0) l.place l.journal l.lives;
}
