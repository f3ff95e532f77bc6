use Rattle.std.proofs.Common.{sym, ◌∙◌}
use Rattle.run_model.proofs.Seats.{seated_set, seated_inserted}
use Rattle.run_model.proofs.slots.seat.Goals as goal

pub returns-then-has_slot : goal.returns-then-has_slot
returns-then-has_slot c =
    let slots = c.args.slots.now.items in
    let at = rw (c.as_slice-2.ensures.value, c.lower_slots-at.ensures.value, c.as_slice.ensures.value) at (sym c.has_slot.ensures.value ∙ c.if-has_slot.true) in
    rw (c.lower_slots-at.ensures.value, c.as_slice.ensures.value) (seated_set c.args.t slots at)

pub returns : goal.returns
returns c =
    let slots = c.args.slots.now.items in
    let at = rw (c.as_slice-2.ensures.value, c.lower_slots-at.ensures.value, c.as_slice.ensures.value) at (sym c.has_slot.ensures.value ∙ c.if-has_slot.false) in
    c.in_ok-insert.ensures.items ∙ rw (c.lower_slots-at.ensures.value, c.as_slice.ensures.value) (seated_inserted c.args.t slots at)
