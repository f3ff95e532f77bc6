use Rattle.std.proofs.Common.{[], refl, arith}
use Rattle.node_kit.specs.Life.{trimmed}
use Rattle.run_facts.specs.Beats.{opening_of}
use Rattle.run_facts.specs.Events.{kept_outs}
use Rattle.ring_cells.specs.Samples.{sends_five, one_tick, unused}
use Rattle.ring_cells.proofs.Fresh.{outflow-opens}
use Rattle.ring_cells.proofs.Outflows.{outflow-passes}
use Rattle.ring_cells.proofs.Tried.{none-gone, none-made_up}
use Rattle.ring_cells.proofs.worked.out_links.Goals as goal

pub returns-clause-opens : goal.returns-clause-opens
returns-clause-opens c line_of note course is =
    outflow-opens line_of note sends_five course 0 7 (unused line_of course 0) is refl refl refl refl

pub returns-clause-sent : goal.returns-clause-sent
unfolding kept_outs trimmed
returns-clause-sent c line_of note course is =
    outflow-passes line_of note sends_five course 0 7 0 [] one_tick (opening_of course 0 7) (unused line_of course 0) refl (omega arith) (refl, tt)
    (outflow-opens line_of note sends_five course 0 7 (unused line_of course 0) is refl refl refl refl)

pub returns-clause-not_sent : goal.returns-clause-not_sent
unfolding kept_outs trimmed
returns-clause-not_sent c line_of note course h = none-gone _ h.account.gone h.account.behind h.account.split

pub returns-clause-made_up : goal.returns-clause-made_up
returns-clause-made_up c line_of note course h = none-made_up _ h.account.gone h.account.split

pub returns-clause-closed_early : goal.returns-clause-closed_early
returns-clause-closed_early c line_of note course h = let e = h.its_closed in omega (arith, e)

pub returns-clause-left_open : goal.returns-clause-left_open
returns-clause-left_open c line_of note course h = let e = h.its_closed in omega (arith, e)
