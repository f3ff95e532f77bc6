use Rattle.std.proofs.Common.{vec_len}
use Rattle.world.proofs.Deeds.{postable_event, has_taken}
use Rattle.world.proofs.living.take.Goals as goal

pub deliver-requires : goal.deliver-requires
deliver-requires g c = postable_event _ _ _ _ _ _ _ _ c.args.sends c.cut_off.ensures _ (vec_len c.args.channels.now) c.in_ok-take.ensures c.new-outputs.ensures c.requires.stands.place

pub returns : goal.returns
returns g c =
    has_taken _ _ _ _ _ _ _ _ c.args.sends c.cut_off.ensures _ _ _ c.note-note.result _ _ _ _ _ c.in_ok-take.ensures c.new-outputs.ensures c.note-note.ensures c.new-journal.ensures
    c.in_ok-write.ensures.ok c.in_ok-deliver.ensures.journal c.in_ok-deliver.ensures.channels
