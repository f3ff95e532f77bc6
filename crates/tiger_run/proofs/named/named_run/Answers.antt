use Rattle.std.proofs.Common.{arith}
use Rattle.tiger_run.proofs.Endings.{few_orders}
use Rattle.tiger_run.proofs.named.named_run.Goals as goal

pub returns-in-Ok-clause-ran : goal.returns-in-Ok-clause-ran
returns-in-Ok-clause-ran g c = record {
  inputs = c.in_ok-scenario.field-0;
  read = c.in_ok-scenario.ensures.read;
  calls = c.in_ok-scenario.ensures.counted;
  run = record {
    sound = c.in_ok-scenario.ensures.sound;
    ran = c.in-Ok.ensures.ran;
    only = c.in-Ok.ensures.only;
    world = c.in-Ok.ensures.world;
    claims = c.in-Ok.ensures.claims;
    belief_in_time = c.in-Ok.ensures.belief_in_time;
  };
}

pub returns-in-Ok-clause-few : goal.returns-in-Ok-clause-few
returns-in-Ok-clause-few g c =
    let few = few_orders _ c.in_ok-scenario.field-0.scenario c.in_ok-scenario.field-0.library _ c.in_ok-scenario.ensures.sound c.in-Ok.ensures.ran in
    omega arith
