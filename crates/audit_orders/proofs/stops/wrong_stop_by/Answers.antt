use Rattle.std.proofs.Common.{List, take, sym, subst, ◌∙◌}
use Rattle.node_kit.specs.declared.journal.Entry.{Entry}
use Rattle.audit_orders.specs.Stops.{TellsGone}
use Rattle.audit_orders.proofs.Walks.{one_more}
use Rattle.audit_orders.proofs.Missing.{none_wrong, missed_found}
use Rattle.audit_orders.proofs.Stopping.{no_gone, none_in_time, gone_more, in_time_more, wrong_stop_here, none_found}
use Rattle.audit_orders.proofs.stops.wrong_stop_by.Goals as goal

pub loop-i-init : goal.loop-i-init
loop-i-init c = record {
  written = no_gone _ c.new-gone.ensures;
  in_time = none_in_time c.args.course.now c.args.finishes.now c.args.places.now _ c.new-gone.ensures;
}

pub returns-then-is_wrong : goal.returns-then-is_wrong
returns-then-is_wrong c = record {
  here = wrong_stop_here c.args.course.now c.args.finishes.now c.args.places.now c.loop-i.gone c.args.orders.now c.args.journal.now c.loop-i.i
      c.entry_at-e.result c.requires.finishes c.requires.places c.requires.rising c.loop-i-test.true c.entry_at-e.ensures
      c.loop-i.invariant.written (sym c.is_wrong.ensures ∙ c.if-is_wrong.true);
  none_before = none_wrong c.args.course.now c.args.finishes.now c.args.places.now c.loop-i.gone c.args.orders.now c.args.journal.now c.loop-i.i
      c.requires.finishes c.requires.places c.requires.rising c.loop-i.invariant.written c.loop-i.invariant.in_time;
}

pub loop-i-preserved : goal.loop-i-preserved
loop-i-preserved c =
    let journal = c.args.journal.now in
    let e = c.entry_at-e.result in
    let right = sym c.is_wrong.ensures ∙ c.if-is_wrong.false in
    record {
      written = subst (λ (q : List Entry). TellsGone c.take_gone.new.gone q)
          (sym (one_more journal c.loop-i.i e c.loop-i-test.true c.entry_at-e.ensures))
          (gone_more c.args.course.now c.args.finishes.now c.args.places.now _ _ (take c.loop-i.i journal) e c.in_ok-take_gone.ensures right
          c.loop-i.invariant.written);
      in_time = in_time_more c.args.course.now c.args.finishes.now c.args.places.now _ _ e c.in_ok-take_gone.ensures right
          c.loop-i.invariant.in_time;
    }

pub returns-in-Some : goal.returns-in-Some
returns-in-Some c =
    missed_found c.args.course.now c.args.finishes.now c.args.places.now c.loop-i.gone c.args.orders.now c.args.journal.now c.loop-i.i
    c.first_missed.result c.requires.finishes c.requires.places c.requires.rising c.loop-i-test.false c.loop-i.invariant.written
    c.loop-i.invariant.in_time c.first_missed.ensures c.in-Some.order c.in-Some.is

pub returns : goal.returns
returns c =
    none_found c.args.course.now c.args.finishes.now c.args.places.now c.loop-i.gone c.args.orders.now c.args.journal.now c.loop-i.i
    c.first_missed.result c.requires.finishes c.requires.places c.requires.rising c.loop-i-test.false c.loop-i.invariant.written
    c.loop-i.invariant.in_time c.first_missed.ensures c.in-None.is
