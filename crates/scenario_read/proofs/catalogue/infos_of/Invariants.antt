use Rattle.scenario_read.proofs.OrderFacts.{GivesInfos}
use Rattle.scenario_read.proofs.catalogue.infos_of.Given as goal

abbrev pub invariant-loop-i : goal.invariant-loop-i
invariant-loop-i l = GivesInfos l.lines l.library l.infos.items l.i
