use Rattle.world.proofs.Asking.{is_last}
use Rattle.world.proofs.receiver.is_last_of.Goals as goal

pub returns-in-Some-clause-yes : goal.returns-in-Some-clause-yes
returns-in-Some-clause-yes c = is_last c.args.plan.now.params c.args.last c.in-Get.link c.in-Get.number _ _ _ c.in-Get.is c.new.ensures c.in-Some.ensures
