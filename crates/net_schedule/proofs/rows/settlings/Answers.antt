use Rattle.std.proofs.Common.{zero, suc, refl, arith}
use Rattle.net_schedule.specs.Cubs.{first_over}
use Rattle.net_schedule.specs.Settled.{history, IsSettled}
use Rattle.net_schedule.specs.Samples.{viewer, entry, agreed, kept_again, story}
use Rattle.net_schedule.proofs.Finds.{never}
use Rattle.net_schedule.proofs.rows.settlings.Goals as goal

-- What the events of the first row leave is settled at each of the three cubs.
agreed_at : IsSettled (story agreed) (viewer 0)
unfolding history first_over
agreed_at zero low = (refl, refl)
agreed_at (suc zero) low = (refl, refl)
agreed_at (suc (suc zero)) low = (refl, refl)
agreed_at (suc (suc (suc c))) low = absurd (omega (arith, low))

-- What those of the second one leave is not, at the successor.
kept_again_not : IsSettled (story kept_again) (viewer 0) → ⊥
unfolding history first_over
kept_again_not h = never (entry 0 2 6) refl (h 1 (omega arith)).0

pub returns-clause-settled : goal.returns-clause-settled
returns-clause-settled c = agreed_at

pub returns-clause-not_settled : goal.returns-clause-not_settled
returns-clause-not_settled c = kept_again_not
