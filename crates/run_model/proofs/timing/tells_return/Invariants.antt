use Rattle.std.proofs.Common.{◌≡◌, false, drop}
use Rattle.node_kit.specs.Life.{back_of}
use Rattle.run_facts.specs.Timed.{death_within}
use Rattle.run_model.specs.Tests.{returns_as}
use Rattle.run_model.proofs.timing.tells_return.Given as goal

-- what is left decides, behind an entry that is a death, or is none
abbrev pub invariant-loop-e : goal.invariant-loop-e
invariant-loop-e l =
    returns_as l.back (death_within l.course.beats l.back) false l.journal
    ≡ returns_as l.back (death_within l.course.beats l.back) l.died (drop l.e-index l.journal)
