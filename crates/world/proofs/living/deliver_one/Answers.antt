use Rattle.std.proofs.Common.{sym}
use Rattle.std.proofs.lemmas.Result.{on_ok_weaker}
use Rattle.world.proofs.Posts.{posted_act}
use Rattle.world.proofs.living.deliver_one.Goals as goal

pub returns-in-Act-clause-channels : goal.returns-in-Act-clause-channels
returns-in-Act-clause-channels g c =
    on_ok_weaker c.write-in-Act.result (λ _. sym (posted_act c.args.stamp.beat c.args.output c.in-Act.what c.args.channels.now.items c.in-Act.is)) c.write-in-Act.ensures.ok
