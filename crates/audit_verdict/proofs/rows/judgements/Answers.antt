use Rattle.std.proofs.Common.{refl, arith}
use Rattle.run_model.proofs.OnSamples.{on_samples}
use Rattle.audit_verdict.proofs.Quiet.{quiet_meets}
use Rattle.audit_verdict.proofs.rows.judgements.Goals as goal

pub returns-clause-nothing : goal.returns-clause-nothing
unfolding on_samples
returns-clause-nothing c k plan = record {
  meets = quiet_meets k plan;
  counted = record {
    entries = record { all = refl; puts = refl; stops = refl; deaths = refl; blocks = refl; pieces = refl };
    visits = record { settled = refl; read = refl; piece = refl; dead = refl; stopped = refl };
  };
}

pub returns-clause-a_put : goal.returns-clause-a_put
unfolding on_samples
returns-clause-a_put c k plan h = let one = h.counted.entries.puts in omega (arith, one)

pub returns-clause-no : goal.returns-clause-no
returns-clause-no c k plan h = h.broken (quiet_meets k plan).carried
