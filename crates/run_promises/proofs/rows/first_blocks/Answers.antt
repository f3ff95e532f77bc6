use Rattle.std.proofs.Common.{refl, arith, inl}
use Rattle.run_model.proofs.OnSamples.{on_samples}
use Rattle.run_promises.specs.Samples.{one_block}
use Rattle.run_promises.proofs.rows.first_blocks.Goals as goal

pub returns-clause-put : goal.returns-clause-put
unfolding on_samples
returns-clause-put c = (
  record {
    free = λ t e. absurd (cc);
    rightly = record {
      ask = one_block;
      ordered = inl refl;
      asked = record { instance = refl; file = refl; count = omega arith; disk = refl };
      slot = omega arith;
      window = refl;
      cub = inl refl;
      once = omega arith;
    };
  },
  tt,
)

pub returns-clause-latest : goal.returns-clause-latest
unfolding on_samples
returns-clause-latest c = refl
