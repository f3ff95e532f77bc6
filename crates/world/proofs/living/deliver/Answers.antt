use Rattle.std.proofs.Common.{sym, ap, ◌∙◌}
use Rattle.world.specs.Posting.{posted}
use Rattle.world.proofs.Posts.{written_on, sent_on, postable_on, posted_none}
use Rattle.world.proofs.living.deliver.Goals as goal

pub loop-output-preserved : goal.loop-output-preserved
loop-output-preserved g c = record {
  written = written_on _ c.loop-output.journal _ _ c.in-Some.output _ c.loop-output.outputs c.in_ok-deliver_one.ensures.journal c.in-Some.ensures c.loop-output.invariant.written;
  sent = sent_on _ c.loop-output.channels.items _ _ c.in-Some.output _ c.loop-output.outputs c.in_ok-deliver_one.ensures.channels c.in-Some.ensures c.loop-output.invariant.sent;
  links = postable_on _ _ _ c.loop-output.channels.items c.deliver_one.new.channels.items c.in-Some.output _ c.loop-output.outputs c.loop-output.channels.ok.0 c.deliver_one.new.channels.ok.0 c.in_ok-deliver_one.ensures.channels c.in-Some.ensures c.loop-output.invariant.links;
}

pub returns-clause-channels : goal.returns-clause-channels
returns-clause-channels g c =
    sym (ap (λ os. posted c.args.stamp.beat os c.loop-output.channels.items) c.in_default.ensures.0 ∙ posted_none c.args.stamp.beat c.loop-output.channels.items)
    ∙ c.loop-output.invariant.sent
