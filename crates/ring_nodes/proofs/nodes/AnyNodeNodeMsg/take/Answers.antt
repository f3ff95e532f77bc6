use Rattle.std.proofs.lemmas.Result.{on_ok_weaker}
use Rattle.ring_nodes.proofs.AllNodes.{cub_acts, disk_acts, controller_acts}
use Rattle.ring_nodes.proofs.nodes.AnyNodeNodeMsg.take.Goals as goal

pub returns-in-Cub : goal.returns-in-Cub
returns-in-Cub g c = rw c.in-Cub.is (on_ok_weaker c.take.result (λ d. cub_acts d) c.take.ensures)

pub returns-in-Disk : goal.returns-in-Disk
returns-in-Disk g c = rw c.in-Disk.is (on_ok_weaker c.take-in-Disk.result (λ d. disk_acts d) c.take-in-Disk.ensures)

pub returns-in-Controller : goal.returns-in-Controller
returns-in-Controller g c = rw c.in-Controller.is (on_ok_weaker c.take-in-Controller.result (λ d. controller_acts d) c.take-in-Controller.ensures)
