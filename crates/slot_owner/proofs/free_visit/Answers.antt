use Rattle.std.proofs.Common.{◌∙◌, sym}
use Rattle.slot_plan.specs.Keys.{Key}
use Rattle.slot_plan.proofs.Windows.{least_visit_is, least_visit_is_none}
use Rattle.partial_view.specs.Free.{is_free}
use Rattle.slot_owner.proofs.Search.{none_free, ends_at, goes_on, next_entered, time_passes, free_where_none}
use Rattle.slot_owner.proofs.free_visit.Goals as goal

pub returns-then-is_none-clause-least : goal.returns-then-is_none-clause-least
returns-then-is_none-clause-least c =
    ends_at c.args.plan.now.params c.args.reading c.args.disk.0 c.args.view.now.lines c.loop-slot.last c.loop-slot.invariant.taken (c.in-Some.slot, c.in-Some.visit) c.in-Some.ensures.next
    (sym (free_where_none c.args.view.now.lines (c.in-Some.slot, c.in-Some.visit) c.has.ensures c.is_none.ensures) ∙ c.if-is_none.true)

pub returns-then-is_none-clause-visit : goal.returns-then-is_none-clause-visit
returns-then-is_none-clause-visit c =
    sym (least_visit_is c.args.plan.now.params c.args.reading c.args.disk.0 (is_free c.args.view.now.lines) (c.in-Some.slot, c.in-Some.visit) c.args.plan.now.sound (returns-then-is_none-clause-least c))

pub loop-slot-smaller : goal.loop-slot-smaller
loop-slot-smaller c =
    time_passes c.args.plan.now.params c.args.reading c.args.disk.0 c.loop-slot.last (c.in-Some.slot, c.in-Some.visit) c.args.plan.now.sound c.loop-slot.invariant.entered c.in-Some.ensures.next

pub loop-slot-preserved : goal.loop-slot-preserved
loop-slot-preserved c =
    let p = c.args.plan.now.params in
    let k : Key = (c.in-Some.slot, c.in-Some.visit) in
    record {
      taken = goes_on p c.args.reading c.args.disk.0 c.args.view.now.lines c.loop-slot.last c.loop-slot.invariant.taken k c.in-Some.ensures.next
          (sym (free_where_none c.args.view.now.lines k c.has.ensures c.is_none.ensures) ∙ c.if-is_none.false);
      entered = next_entered p c.args.reading c.args.disk.0 c.loop-slot.last k c.in-Some.ensures.next c.in-Some.ensures.key;
    }

pub returns-clause-visit : goal.returns-clause-visit
returns-clause-visit c =
    sym (least_visit_is_none c.args.plan.now.params c.args.reading c.args.disk.0 (is_free c.args.view.now.lines) c.args.plan.now.sound
    (none_free c.args.plan.now.params c.args.reading c.args.disk.0 c.args.view.now.lines c.loop-slot.last c.loop-slot.invariant.taken c.in_default.ensures.next))
