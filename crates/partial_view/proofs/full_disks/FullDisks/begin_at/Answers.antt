use Rattle.partial_view.proofs.Frees.{full_later}
use Rattle.partial_view.proofs.full_disks.FullDisks.begin_at.Goals as goal

pub returns-then-self-reading-clause-full : goal.returns-then-self-reading-clause-full
returns-then-self-reading-clause-full c = λ p lines known. full_later p c.args.reading c.args.self.now lines c.if-self-reading.true known
