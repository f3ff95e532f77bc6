use Rattle.std.proofs.Common.{◌+◌, ◌<◌, ◌^◌, ap, sym, ◌∙◌}
use Rattle.std.specs.Prelude.{slice_get}
use Rattle.ring_workers.proofs.Walks.{goes-on, place-on}
use Rattle.ring_workers.proofs.Places.{put-of-node}
use Rattle.ring_workers.proofs.closing.put_each.Goals as goal

pub loop-thing-preserved : goal.loop-thing-preserved
loop-thing-preserved g c =
    let inv = c.loop-thing.invariant in
    let next = c.in-Some.ensures.steps.0 in (
      tt,
      tt,
      goes-on _ c.loop-thing.yielded c.in-Some.thing _ _ inv.2 next,
      place-on c.checked_add.result c.loop-thing.place c.in_ok-place.place (c.loop-thing.place + 1 < 2 ^ 64) c.loop-thing.yielded c.in-Some.thing c.checked_add.ensures c.in_ok-place.ensures.ok_part inv.3,
      c.in_ok-put_at.ensures.size ∙ inv.4,
      put-of-node c.args.numbers.now c.args.things.items c.loop-thing.yielded c.in-Some.thing _ _ c.in_ok-number.number c.args.slots.now.items c.loop-thing.slots.items _ inv.2 next
          (ap (slice_get c.args.numbers.now) (sym inv.3) ∙ c.in_ok-number.ensures) inv.5 c.in_ok-put_at.ensures.put,
    )
