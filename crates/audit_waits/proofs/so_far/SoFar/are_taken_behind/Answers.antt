use Rattle.std.proofs.Common.{ap, refl, sym, not, ◌∙◌}
use Rattle.std.proofs.lemmas.Bool.{false≢true}
use Rattle.slot_plan.specs.Keys.{Key}
use Rattle.audit_waits.specs.Ticks.{is_missed_by}
use Rattle.audit_waits.proofs.Windows.{next_in, none_missed, one_missed, search_goes_on, time_goes}
use Rattle.audit_waits.proofs.so_far.SoFar.are_taken_behind.Goals as goal

pub returns-then-not-is_taken : goal.returns-then-not-is_taken
returns-then-not-is_taken c =
    let p = c.args.plan.now.params in
    let k : Key = (c.in-Some.slot, c.in-Some.visit) in (
      (λ t. absurd (false≢true t)),
      (λ none. absurd (one_missed p c.args.tick.reading c.args.disk.0 (is_missed_by p c.args.self.now c.args.tick.cub.0 c.args.tick.beat)
          c.loop-slot.last k c.in-Some.ensures.next (ap not (sym c.is_taken.ensures ∙ c.if-not-is_taken.true)) none)),
    )

pub loop-slot-smaller : goal.loop-slot-smaller
loop-slot-smaller c =
    time_goes c.args.plan.now.params c.args.tick.reading c.args.disk.0 c.loop-slot.last (c.in-Some.slot, c.in-Some.visit) c.args.plan.now.sound
    c.loop-slot.invariant.entered c.in-Some.ensures.next

pub loop-slot-preserved : goal.loop-slot-preserved
loop-slot-preserved c =
    let p = c.args.plan.now.params in
    let k : Key = (c.in-Some.slot, c.in-Some.visit) in
    record {
      sought = search_goes_on p c.args.tick.reading c.args.disk.0 (is_missed_by p c.args.self.now c.args.tick.cub.0 c.args.tick.beat)
          c.loop-slot.last c.loop-slot.invariant.sought k c.in-Some.ensures.next (ap not (sym c.is_taken.ensures ∙ c.if-not-is_taken.false));
      entered = next_in p c.args.tick.reading c.args.disk.0 c.loop-slot.last k c.in-Some.ensures.next c.in-Some.ensures.key;
    }

pub returns : goal.returns
returns c =
    let p = c.args.plan.now.params in (
      (λ t. none_missed p c.args.tick.reading c.args.disk.0 (is_missed_by p c.args.self.now c.args.tick.cub.0 c.args.tick.beat)
          c.loop-slot.last c.loop-slot.invariant.sought c.in_default.ensures.next),
      (λ none. refl),
    )

pub loop-slot-init : goal.loop-slot-init
loop-slot-init c = record { sought = c.requires.sought; entered = c.requires.entered }
