use Rattle.world.proofs.Asking.{is_link}
use Rattle.world.proofs.receiver.is_act_of.Goals as goal

pub returns-in-Some-clause-yes : goal.returns-in-Some-clause-yes
returns-in-Some-clause-yes c = is_link c.args.plan.now.params _ c.args.act c.in-Get.link c.in-Get.number _ _ _ c.in-Get.is c.new.ensures c.in-Some.ensures
