use Rattle.std.proofs.Common.{refl}
use Rattle.node_kit.specs.Life.{acts, dies, returns}
use Rattle.run_facts.specs.Carried.{got_on}
use Rattle.kept_worlds.proofs.rows.deaths_in_events.Goals as goal

pub returns-clause-in_take : goal.returns-clause-in_take
unfolding acts dies returns got_on
returns-clause-in_take c course cut = rw (cut.0, cut.1, cut.2) refl

pub returns-clause-in_tick : goal.returns-clause-in_tick
unfolding acts dies returns got_on
returns-clause-in_tick c course cut = rw (cut.0, cut.1, cut.2) refl

pub returns-clause-nothing_out : goal.returns-clause-nothing_out
unfolding acts dies returns got_on
returns-clause-nothing_out c course cut = rw (cut.0, cut.1, cut.2) refl

pub returns-clause-last_got : goal.returns-clause-last_got
unfolding acts dies returns got_on
returns-clause-last_got c course cut = rw (cut.0, cut.1, cut.2) refl

pub returns-clause-no_entries : goal.returns-clause-no_entries
unfolding acts dies returns got_on
returns-clause-no_entries c course cut = rw (cut.0, cut.1, cut.2) refl

pub returns-clause-before : goal.returns-clause-before
unfolding acts dies returns got_on
returns-clause-before c course cut = rw (cut.0, cut.2) refl

pub returns-clause-behind : goal.returns-clause-behind
unfolding acts dies returns got_on
returns-clause-behind c course cut = rw (cut.0, cut.2) refl
