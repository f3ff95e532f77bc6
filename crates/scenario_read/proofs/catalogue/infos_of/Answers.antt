use Rattle.std.proofs.Common.{arith, refl}
use Rattle.scenario_read.proofs.OrderFacts.{GivesInfos-more, GivesInfos-all}
use Rattle.scenario_read.proofs.catalogue.infos_of.Goals as goal

pub loop-i-preserved : goal.loop-i-preserved
loop-i-preserved c =
    rw c.in_ok-push.ensures.items
    (GivesInfos-more c.args.lines.now c.args.library.now c.loop-i.infos.items c.loop-i.i _ c.index-lines-i.result c.bytes_of.result.now (omega arith) c.index-lines-i.is c.bytes_of.ensures refl c.loop-i.invariant)

pub returns : goal.returns
returns c = GivesInfos-all c.args.lines.now c.args.library.now c.loop-i.infos.items c.loop-i.i (omega arith) c.loop-i.invariant
