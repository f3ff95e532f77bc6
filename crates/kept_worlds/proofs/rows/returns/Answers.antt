use Rattle.std.proofs.Common.{refl}
use Rattle.node_kit.specs.Life.{acts, dies, returns}
use Rattle.run_facts.specs.Carried.{got_on}
use Rattle.kept_worlds.proofs.rows.returns.Goals as goal

pub returns-clause-back : goal.returns-clause-back
unfolding acts dies returns got_on
returns-clause-back c course back = rw (back.0, back.2) refl

pub returns-clause-away : goal.returns-clause-away
unfolding acts dies returns got_on
returns-clause-away c course back = rw (back.0, back.2) refl

pub returns-clause-once : goal.returns-clause-once
unfolding acts dies returns got_on
returns-clause-once c course back = rw (back.0, back.2) refl
