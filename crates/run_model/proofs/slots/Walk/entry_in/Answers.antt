use Rattle.run_model.proofs.Walking.{walks_none, entry_of_beat, entry_of_other}
use Rattle.run_model.proofs.slots.Walk.entry_in.Goals as goal

pub returns-then-e-beat : goal.returns-then-e-beat
returns-then-e-beat c n =
    rw (entry_of_beat c.args.beat n c.args.e.now c.if-e-beat.true) (c.in_ok-entry.ensures n)

pub returns : goal.returns
returns c n =
    rw (entry_of_other c.args.beat n c.args.e.now c.if-e-beat.false) (walks_none c.args.self.now)
