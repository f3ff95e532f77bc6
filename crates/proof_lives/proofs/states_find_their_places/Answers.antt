use Rattle.proof_lives.specs.FactsBy.{cubs_alone}
use Rattle.proof_lives.proofs.Fitting.{alone_fits}
use Rattle.proof_lives.proofs.Meeting.{meets}
use Rattle.proof_lives.proofs.states_find_their_places.Goals as goal

pub returns : goal.returns
returns c = λ p lives orders plan order c t m y got low high.
    meets p plan lives (cubs_alone p lives) orders order (alone_fits p lives) got low high
