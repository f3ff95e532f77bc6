use Rattle.std.proofs.Common.{◌∷◌, [], Some, arith, ap, sym, ◌∙◌, length, length-append}
use Rattle.ring_workers.proofs.Walks.{goes-on, all-done, next-at}
use Rattle.ring_workers.proofs.Places.{none-stands, more-stands}
use Rattle.ring_workers.proofs.closing.all_of.Goals as goal

pub loop-slot-init : goal.loop-slot-init
loop-slot-init g c = (
  tt,
  tt,
  c.into_iter-slot-iterator.ensures.into_iter_gives.0,
  ap length c.new-all.ensures.items,
  none-stands _ _ c.new-all.ensures.items,
)

pub loop-slot-preserved : goal.loop-slot-preserved
loop-slot-preserved g c =
    let inv = c.loop-slot.invariant in
    let next = c.in-Some.ensures.steps.0 in (
      tt,
      tt,
      goes-on _ c.loop-slot.yielded c.in-Some.slot _ _ inv.2 next,
      omega (arith, c.in_ok-push.ensures.len, inv.3, length-append c.loop-slot.yielded (c.in-Some.slot ∷ [])),
      more-stands c.args.slots.items c.loop-slot.all.items _ c.in_ok-thing.thing c.in_ok-push.ensures.items
          (next-at c.args.slots.items c.loop-slot.yielded c.in-Some.slot _ _ (length c.loop-slot.all.items) inv.2 next inv.3 ∙ ap Some c.in_ok-thing.ensures.ok_part) inv.4,
    )

pub returns-clause-size : goal.returns-clause-size
returns-clause-size g c =
    let inv = c.loop-slot.invariant in
    inv.3 ∙ ap length (all-done c.args.slots.items c.loop-slot.yielded _ inv.2 (sym c.loop-slot.slot-iterator.rest.ok.0 ∙ c.in-None.ensures.steps.0))
