use Rattle.std.proofs.lemmas.Result.{on_ok_weaker}
use Rattle.spare_ring.proofs.Acting.{cub_acts, other_acts}
use Rattle.spare_ring.proofs.nodes.SpareNodeNodeMsg.take.Goals as goal

pub returns-in-Cub : goal.returns-in-Cub
returns-in-Cub g c = rw c.in-Cub.is (on_ok_weaker c.take.result (λ d. cub_acts d) c.take.ensures)

pub returns-in-Other : goal.returns-in-Other
returns-in-Other g c = rw c.in-Other.is (on_ok_weaker c.take-in-Other.result (λ d. other_acts d) c.take-in-Other.ensures)
