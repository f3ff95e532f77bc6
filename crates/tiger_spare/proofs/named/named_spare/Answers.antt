use Rattle.std.proofs.Common.{arith}
use Rattle.proof_spare.proofs.Claims.{kept_spare_runs_meet_the_claims}
use Rattle.tiger_spare.proofs.Causes.{few_spare_orders}
use Rattle.tiger_spare.proofs.named.named_spare.Goals as goal

pub returns-in-Ok-clause-ran : goal.returns-in-Ok-clause-ran
returns-in-Ok-clause-ran g c = record {
  inputs = c.in_ok-scenario.field-0;
  read = c.in_ok-scenario.ensures.read;
  calls = c.in_ok-scenario.ensures.counted;
  run = record {
    sound = c.in_ok-scenario.ensures.sound;
    ran = c.in-Ok.ensures.ran;
    claims = kept_spare_runs_meet_the_claims _ c.in_ok-scenario.field-0.scenario c.in_ok-scenario.field-0.library _ c.in_ok-scenario.ensures.sound c.in_ok-scenario.ensures.short c.in-Ok.ensures.ran;
  };
}

pub returns-in-Ok-clause-few : goal.returns-in-Ok-clause-few
returns-in-Ok-clause-few g c =
    let few = few_spare_orders _ c.in_ok-scenario.field-0.scenario c.in_ok-scenario.field-0.library _ c.in_ok-scenario.ensures.sound c.in-Ok.ensures.ran in
    omega arith
