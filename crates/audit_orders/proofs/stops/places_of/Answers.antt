use Rattle.std.proofs.Common.{List, take, sym, subst}
use Rattle.std.proofs.lemmas.List.{take_all}
use Rattle.node_kit.specs.declared.journal.Entry.{Entry}
use Rattle.audit_orders.specs.Stops.{TellsPlaces}
use Rattle.audit_orders.proofs.Walks.{one_more}
use Rattle.audit_orders.proofs.Placing.{no_place, place_more}
use Rattle.audit_orders.proofs.stops.places_of.Goals as goal

pub loop-i-init : goal.loop-i-init
loop-i-init c = record { tells = no_place c.args.plan.now.params _ c.new-places.ensures }

pub loop-i-preserved : goal.loop-i-preserved
loop-i-preserved c =
    let p = c.args.plan.now.params in
    let journal = c.args.journal.now in
    let e = c.entry_at-e.result in
    record {
      tells = subst (λ (q : List Entry). TellsPlaces p c.add_place.new.places q)
          (sym (one_more journal c.loop-i.i e c.loop-i-test.true c.entry_at-e.ensures))
          (place_more p _ _ (take c.loop-i.i journal) e c.in_ok-add_place.ensures c.loop-i.invariant.tells);
    }

pub returns : goal.returns
returns c =
    subst (λ (q : List Entry). TellsPlaces c.args.plan.now.params c.loop-i.places q) (take_all c.loop-i.i c.args.journal.now c.loop-i-test.false)
    c.loop-i.invariant.tells
