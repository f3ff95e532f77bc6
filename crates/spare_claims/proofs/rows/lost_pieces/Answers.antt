use Rattle.std.proofs.Common.{refl, inl, arith}
use Rattle.std.proofs.lemmas.Bool.{false≢true}
use Rattle.slot_plan.specs.Samples.{small}
use Rattle.run_model.specs.Samples.{three}
use Rattle.run_model.proofs.OnSamples.{on_samples}
use Rattle.spare_claims.proofs.Excuses.{piece_lost}
use Rattle.spare_claims.proofs.rows.lost_pieces.Goals as goal

pub returns-clause-first : goal.returns-clause-first
unfolding on_samples
returns-clause-first c = record { piece = 1; low = omega arith; high = omega arith; failed = inl (refl, refl, refl) }

pub returns-clause-last : goal.returns-clause-last
unfolding on_samples
returns-clause-last c = record { piece = 2; low = omega arith; high = omega arith; failed = inl (refl, refl, refl) }

pub returns-clause-third : goal.returns-clause-third
unfolding on_samples
returns-clause-third c h = false≢true ((piece_lost small _ three 1).1 h)

pub returns-clause-whole : goal.returns-clause-whole
unfolding on_samples
returns-clause-whole c h = false≢true ((piece_lost small _ three 1).1 h)

pub returns-clause-of_other_cub : goal.returns-clause-of_other_cub
unfolding on_samples
returns-clause-of_other_cub c h = false≢true ((piece_lost small _ three 1).1 h)
