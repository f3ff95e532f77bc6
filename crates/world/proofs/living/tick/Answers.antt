use Rattle.std.proofs.Common.{vec_len}
use Rattle.world.proofs.Deeds.{postable_event, has_ticked}
use Rattle.world.proofs.living.tick.Goals as goal

pub deliver-requires : goal.deliver-requires
deliver-requires g c = postable_event _ _ _ _ _ _ _ _ c.args.sends c.cut_off.ensures _ (vec_len c.args.channels.now) c.in_ok-tick.ensures c.new-outputs.ensures c.requires.stands

pub returns : goal.returns
returns g c =
    has_ticked _ _ _ _ _ _ _ _ c.args.sends c.cut_off.ensures _ _ _ _ _ c.in_ok-tick.ensures c.new-outputs.ensures c.new-journal.ensures
    c.in_ok-deliver.ensures.journal c.in_ok-deliver.ensures.channels
