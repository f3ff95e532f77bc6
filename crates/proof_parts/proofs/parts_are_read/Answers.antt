use Rattle.proof_lives.specs.FactsBy.{cubs_alone}
use Rattle.proof_parts.proofs.Answering.{taken_back, came_from_disk}
use Rattle.proof_parts.proofs.parts_are_read.Goals as goal

pub returns : goal.returns
returns c = λ p lives disk_at formed disks. record {
  back = taken_back p lives formed (cubs_alone p lives) disk_at disks;
  from = λ k i x small low there. came_from_disk p lives formed (cubs_alone p lives) disk_at disks k i x there small low;
}
