use Rattle.std.proofs.Common.{◌≡◌, map, take}
use Rattle.std.specs.List.{range_with_len}
use Rattle.run_model.specs.Served.{journal_at}
use Rattle.run_report.specs.Tables.{deaths_in}
use Rattle.run_report.specs.Told.{IsToldBy}
use Rattle.run_report.proofs.told.Told.read_cubs.Given as goal

-- the journals so far were read, and their deaths are there
abbrev pub invariant-loop-cub : goal.invariant-loop-cub
invariant-loop-cub l =
    IsToldBy l.plan.params (take l.cub l.journals) l.self
    × (l.deaths ≡ map (λ n. deaths_in (journal_at l.journals n)) (range_with_len 0 l.cub))
