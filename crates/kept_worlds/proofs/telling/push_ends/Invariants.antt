use Rattle.std.proofs.Common.{◌≡◌, ◌++◌, ◌-◌}
use Rattle.kept_worlds.specs.Telling.{ends_told}
use Rattle.kept_worlds.proofs.telling.push_ends.Given as goal

-- the ends pushed so far and those of the beats that are left are those of all beats
abbrev pub invariant-loop-beat : goal.invariant-loop-beat
invariant-loop-beat l = record {
  told : l.events.items ++ ends_told l.course l.node.0 l.journal l.beat (l.course.beats - l.beat)
      ≡ l.fn.events.items ++ ends_told l.course l.node.0 l.journal 0 l.course.beats;
}
