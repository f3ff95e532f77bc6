use Rattle.std.proofs.lemmas.Result.{on_ok_weaker}
use Rattle.ring_nodes.proofs.AllNodes.{cub_acts, controller_acts}
use Rattle.ring_nodes.proofs.nodes.AnyNodeNodeMsg.tick.Goals as goal

pub returns-in-Cub : goal.returns-in-Cub
returns-in-Cub g c = rw c.in-Cub.is (on_ok_weaker c.tick.result (λ d. cub_acts d) c.tick.ensures)

pub returns-in-Controller : goal.returns-in-Controller
returns-in-Controller g c = rw c.in-Controller.is (on_ok_weaker c.tick-in-Controller.result (λ d. controller_acts d) c.tick-in-Controller.ensures)
