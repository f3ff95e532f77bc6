use Rattle.proof_lives.specs.FactsBy.{cubs_alone}
use Rattle.proof_lives.proofs.Fitting.{alone_fits}
use Rattle.proof_parts.proofs.KnownAsks.{alone_asks}
use Rattle.proof_blocks.proofs.Laws.{read_laws}
use Rattle.proof_blocks.proofs.cubs_serve_blocks.Goals as goal

pub returns : goal.returns
returns c = λ p catalogue lives disk_at plan are formed disks.
    read_laws p catalogue lives disk_at plan are formed (cubs_alone p lives) (alone_fits p lives) (alone_asks p lives) disks
