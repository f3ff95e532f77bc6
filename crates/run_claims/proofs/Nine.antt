-- The nine claims of a kept run are those of its account, one by one, both ways.
use Rattle.std.proofs.Common.{refl}
use Rattle.run_claims.specs.Nine.{ClaimsAreTheNine}

pub claims_are_the_nine : ClaimsAreTheNine
claims_are_the_nine k = (
  (λ nine. record {
    free = nine.puts;
    part = record { always = nine.views; local = nine.entries };
    no_return = nine.returns;
    one_per_visit = nine.visits;
    true_belief = nine.beliefs;
    true_faults = nine.failures;
    delivery = nine.blocks;
    in_order = nine.turns;
    starts = record {
      patient = λ cub beat reading low ticked. rw ticked.2 (nine.patience cub beat low ticked.0 ticked.1);
      commanded = nine.commands;
    };
  }),
  (λ claims. record {
    puts = claims.free;
    views = claims.part.always;
    entries = claims.part.local;
    returns = claims.no_return;
    visits = claims.one_per_visit;
    beliefs = claims.true_belief;
    failures = claims.true_faults;
    blocks = claims.delivery;
    turns = claims.in_order;
    patience = λ cub beat low early ends. claims.starts.patient cub beat _ low (early, ends, refl);
    commands = claims.starts.commanded;
  }),
)
