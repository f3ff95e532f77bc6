use Rattle.std.proofs.Common.{◌∙◌, ap}
use Rattle.node_kit.specs.Links.{link_count}
use Rattle.ring_world.specs.Machine.{empty_ways}
use Rattle.world.proofs.Kept.{kept_fresh}
use Rattle.world.proofs.machine.Machine.new.Goals as goal

pub invariant_of-result : goal.invariant_of-result
invariant_of-result g c =
    kept_fresh _ c.args.plan.now.params c.args.beats _ c.args.nodes.items _ _ _ c.requires.few c.requires.count c.args.nodes.ok.0 c.requires.stand
    c.in_ok-all_members.ensures (c.in_ok-all_channels.ensures ∙ ap empty_ways (c.count.ensures ∙ ap link_count c.new-links.ensures)) c.new.ensures.items
