use Rattle.std.proofs.Common.{◌≡◌, take}
use Rattle.std.specs.List.{flat_map}
use Rattle.node_kit.specs.Telling.{telling_places}
use Rattle.run_report.specs.Tables.{death_by}
use Rattle.run_report.specs.Told.{HasRead}
use Rattle.run_report.proofs.Telling.{picked}
use Rattle.run_report.proofs.told.Told.read.Given as goal

-- the telling entries so far were read, and their deaths are there
abbrev pub invariant-loop-place : goal.invariant-loop-place
invariant-loop-place l =
    HasRead l.plan.params l.role (picked l.journal (take l.place-index (telling_places 0 l.journal))) l.fn.self l.self
    × (l.deaths ≡ flat_map death_by (picked l.journal (take l.place-index (telling_places 0 l.journal))))
