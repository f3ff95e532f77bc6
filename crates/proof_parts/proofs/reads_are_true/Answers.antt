use Rattle.proof_lives.specs.FactsBy.{cubs_alone}
use Rattle.proof_parts.proofs.KnownAsks.{alone_asks}
use Rattle.proof_parts.proofs.TrueReads.{sent_was_asked, failed_was_refused, sent_is_read}
use Rattle.proof_parts.proofs.reads_are_true.Goals as goal

pub returns : goal.returns
returns c = λ p catalogue lives disk_at plan are formed disks. record {
  asked = λ s. sent_was_asked p plan lives are formed (cubs_alone p lives) (alone_asks p lives) disk_at disks.answer s;
  refused = λ a. failed_was_refused p plan lives are formed (cubs_alone p lives) (alone_asks p lives) disk_at disks.answer
      catalogue disks.are disks.images a;
  sends = λ s. sent_is_read p plan lives are formed (cubs_alone p lives) (alone_asks p lives) disk_at disks.answer
      catalogue disks.are disks.images s;
}
