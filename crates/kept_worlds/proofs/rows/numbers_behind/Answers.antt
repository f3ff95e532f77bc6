use Rattle.std.proofs.Common.{refl}
use Rattle.node_kit.specs.Life.{acts, dies, returns}
use Rattle.run_facts.specs.Carried.{got_on}
use Rattle.kept_worlds.proofs.rows.numbers_behind.Goals as goal

pub returns-clause-later : goal.returns-clause-later
unfolding acts dies returns got_on
returns-clause-later c course back = rw (back.0, back.2) refl

pub returns-clause-first : goal.returns-clause-first
unfolding acts dies returns got_on
returns-clause-first c course back = rw (back.0, back.2) refl
