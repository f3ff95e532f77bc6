use Rattle.std.proofs.Common.{refl, sym, ◌∙◌}
use Rattle.run_model.proofs.Walking.{shows_put, shows_put_late}
use Rattle.run_model.proofs.slots.Walk.put.Goals as goal

pub returns-then-was_stopped : goal.returns-then-was_stopped
returns-then-was_stopped c =
    let gone = rw c.as_slice.ensures.value at (sym c.was_stopped.ensures ∙ c.if-was_stopped.true) in
    record { shows = λ s beat h. shows_put_late c.args.self.now _ s beat c.args.t gone refl h; left = refl }

pub returns : goal.returns
returns c =
    let free = rw c.as_slice.ensures.value at (sym c.was_stopped.ensures ∙ c.if-was_stopped.false) in
    record { shows = λ s beat h. shows_put c.args.self.now _ s beat c.args.t free c.in_ok-seat.ensures refl h; left = refl }
