use Rattle.std.proofs.Common.{◌≡◌, refl, arith}
use Rattle.run_model.specs.Samples.{three}
use Rattle.run_model.proofs.OnSamples.{on_samples}
use Rattle.run_model.proofs.rows.free.Goals as goal

pub returns-clause-put : goal.returns-clause-put
unfolding on_samples
returns-clause-put c = refl

pub returns-clause-other_slot : goal.returns-clause-other_slot
unfolding on_samples
returns-clause-other_slot c = refl

pub returns-clause-stopped : goal.returns-clause-stopped
unfolding on_samples
returns-clause-stopped c = refl

pub returns-clause-other_stopped : goal.returns-clause-other_stopped
unfolding on_samples
returns-clause-other_stopped c = refl

pub returns-clause-stopped_before : goal.returns-clause-stopped_before
unfolding on_samples
returns-clause-stopped_before c = refl

pub returns-clause-behind : goal.returns-clause-behind
unfolding on_samples
returns-clause-behind c t e = let last : 2 ≡ t.last = cc in omega (arith, last)

pub returns-clause-at_last : goal.returns-clause-at_last
unfolding on_samples
returns-clause-at_last c h = let last = h three refl in omega (arith, last)

pub returns-clause-elsewhere : goal.returns-clause-elsewhere
unfolding on_samples
returns-clause-elsewhere c t e = absurd (cc)
