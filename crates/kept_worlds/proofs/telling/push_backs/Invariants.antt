use Rattle.std.proofs.Common.{◌≡◌, ◌++◌, ◌-◌}
use Rattle.kept_worlds.specs.Telling.{backs_told}
use Rattle.kept_worlds.proofs.telling.push_backs.Given as goal

-- the returns pushed so far and those of the beats that are left are those of all beats
abbrev pub invariant-loop-beat : goal.invariant-loop-beat
invariant-loop-beat l = record {
  told : l.events.items ++ backs_told l.course l.node.0 l.beat (l.course.beats - l.beat)
      ≡ l.fn.events.items ++ backs_told l.course l.node.0 0 l.course.beats;
}
