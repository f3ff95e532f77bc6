use Rattle.std.proofs.Common.{ap, sym, not, ◌∙◌}
use Rattle.slot_plan.specs.Keys.{Key}
use Rattle.audit_waits.specs.Seen.{is_nobodys}
use Rattle.audit_waits.proofs.Seeing.{mark_full, mark_stops}
use Rattle.audit_waits.proofs.Windows.{next_in, none_missed, search_goes_on, time_goes}
use Rattle.audit_waits.proofs.holders.Holders.mark_behind.Goals as goal

pub loop-slot-init : goal.loop-slot-init
loop-slot-init c = record { sought = c.requires.sought; entered = c.requires.entered }

pub loop-slot-smaller : goal.loop-slot-smaller
loop-slot-smaller c =
    time_goes c.args.plan.now.params c.args.reading c.args.disk.0 c.loop-slot.last (c.in-Some.slot, c.in-Some.visit) c.args.plan.now.sound
    c.loop-slot.invariant.entered c.in-Some.ensures.next

pub loop-slot-preserved : goal.loop-slot-preserved
loop-slot-preserved c =
    let p = c.args.plan.now.params in
    let k : Key = (c.in-Some.slot, c.in-Some.visit) in
    record {
      sought = search_goes_on p c.args.reading c.args.disk.0 (is_nobodys c.args.self.now)
          c.loop-slot.last c.loop-slot.invariant.sought k c.in-Some.ensures.next (ap not (sym c.has_visit.ensures ∙ c.if-not-has_visit.false));
      entered = next_in p c.args.reading c.args.disk.0 c.loop-slot.last k c.in-Some.ensures.next c.in-Some.ensures.key;
    }

pub returns-then-not-has_visit-clause-mark : goal.returns-then-not-has_visit-clause-mark
returns-then-not-has_visit-clause-mark c =
    mark_stops c.args.plan.now.params c.args.self.now c.args.disk.0 c.args.reading c.loop-slot.last c.loop-slot.invariant.sought c.loop-slot.invariant.entered

pub returns-clause-mark : goal.returns-clause-mark
returns-clause-mark c =
    let p = c.args.plan.now.params in
    mark_full p c.args.self.now c.args.disk.0 c.args.reading _ c.loop-slot.last
    (none_missed p c.args.reading c.args.disk.0 (is_nobodys c.args.self.now) c.loop-slot.last c.loop-slot.invariant.sought c.in_default.ensures.next)
    c.next_entry.ensures.none_before c.loop-slot.invariant.entered
