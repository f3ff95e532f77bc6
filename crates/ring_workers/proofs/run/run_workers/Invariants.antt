use Rattle.std.proofs.Common.{◌∷◌, []}
use Rattle.ring_workers.specs.Ends.{line_at}
use Rattle.ring_workers.specs.Sharing.{home_by}
use Rattle.ring_workers.proofs.run.run_workers.Given as goal

-- the run is named by its own course, nodes, links and homes
abbrev pub ghosts-run_named : goal.ghosts-run_named
ghosts-run_named g a = record { course = a.course.now ∷ []; opening = a.nodes.items; line = line_at a.outs.items; home = home_by a.homes.now }
