use Rattle.std.proofs.Common.{◌∙◌, refl, sym, subst}
use Rattle.std.proofs.lemmas.Bool.{both_ways}
use Rattle.std.specs.Option.{ForSome}
use Rattle.slot_plan.specs.declared.params.Params.{Params}
use Rattle.slot_plan.specs.Keys.{Key}
use Rattle.node_kit.specs.Deeds.{Did}
use Rattle.partial_view.specs.Free.{HasEntered}
use Rattle.partial_view.specs.Views.{Seen}
use Rattle.insert_queue.specs.Queues.{Queues}
use Rattle.cub_rules.specs.State.{IsAsk}
use Rattle.cub_rules.specs.Ticks.{putting_on}
use Rattle.cub_tick.specs.Placing.{putting_by}
use Rattle.cub_tick.proofs.FullDisks.{full_where_none, none_where_full}
use Rattle.cub_tick.proofs.Waiting.{is_asked_oldest, oldest_all}
use Rattle.cub_tick.proofs.Turns.{IsTurned, turned, all_put, all_taken}
use Rattle.cub_tick.proofs.insertion.put_on.Goals as goal

pub prove-unreachable-requires : goal.prove-unreachable-requires
prove-unreachable-requires c =
    both_ways c.is_asked.result c.if-prove.true (c.is_asked.ensures.asked ∙ is_asked_oldest c.loop-ask.store.starts c.args.disk c.in-Some.ask (sym c.in-Some.ensures))

pub tenancy_from-tenancy-requires-clause-count : goal.tenancy_from-tenancy-requires-clause-count
tenancy_from-tenancy-requires-clause-count c =
    oldest_all IsAsk c.loop-ask.store.starts.waiting c.args.disk c.in-Some.ask c.loop-ask.invariant.asks (sym c.in-Some.ensures)

-- what holds after a start is put
after_put : (c : goal.In_ok-put)
    → IsTurned c.args.kind c.args.site.now.plan.params c.args.site.now.cub.0 c.args.reading c.args.disk c.args.store.now c.args.out.now c.loop-ask.store c.put.new.store c.put.new.out
after_put c =
    let p = c.args.site.now.plan.params in
    let k : Key = c.in-Ok.free in
    turned c.args.kind p c.args.site.now.cub.0 c.args.reading c.args.disk c.args.store.now c.args.out.now c.loop-ask.store c.loop-ask.out c.in-Some.ask k c.put.new.store c.put.new.out
    c.loop-ask.invariant.plan c.loop-ask.invariant.asks c.loop-ask.invariant.comes c.is_asked.ensures.once (sym c.in-Some.ensures)
    c.in-Ok.ensures.free
    (rw c.tenancy_from-tenancy.ensures at c.in_ok-put.ensures)

pub loop-ask-preserved : goal.loop-ask-preserved
loop-ask-preserved c =
    let t = after_put c in
    record { comes = t.comes; plan = t.plan; asks = t.asks }

pub loop-ask-smaller : goal.loop-ask-smaller
loop-ask-smaller c = (after_put c).fewer

pub returns-then-is_full-clause-did : goal.returns-then-is_full-clause-did
returns-then-is_full-clause-did c =
    let p = c.args.site.now.plan.params in
    all_taken c.args.kind p c.args.site.now.cub.0 c.args.reading c.args.disk c.args.store.now c.args.out.now c.args.store.now c.args.out.now (record { outs = refl; state = refl })
    (none_where_full p c.args.reading c.args.disk.0 c.args.store.now c.args.site.now.plan.sound c.requires.plan (c.is_full.ensures c.if-is_full.true))

pub set_full-requires-clause-full : goal.set_full-requires-clause-full
set_full-requires-clause-full c =
    full_where_none c.args.site.now.plan.params c.args.reading c.args.disk.0 c.loop-ask.store c.args.site.now.plan.sound c.loop-ask.invariant.plan c.in-Err.ensures.free

pub set_full-requires-clause-last : goal.set_full-requires-clause-last
set_full-requires-clause-last c =
    subst (λ (q : Params). ForSome c.in-Err.last (HasEntered q c.args.reading)) (sym c.loop-ask.invariant.plan) c.in-Err.ensures.last

pub returns-in-Err-clause-did : goal.returns-in-Err-clause-did
returns-in-Err-clause-did c =
    let p = c.args.site.now.plan.params in
    subst (λ (v : Seen). Did (putting_on (putting_by c.args.kind p c.args.site.now.cub.0) p c.args.reading c.args.disk.0 c.args.store.now) c.args.out.now c.loop-ask.out (record c.loop-ask.store { view = v })) (sym c.set_full.ensures)
    (all_taken c.args.kind p c.args.site.now.cub.0 c.args.reading c.args.disk c.args.store.now c.args.out.now c.loop-ask.store c.loop-ask.out c.loop-ask.invariant.comes
    c.in-Err.ensures.free)

pub returns-clause-did : goal.returns-clause-did
returns-clause-did c =
    let p = c.args.site.now.plan.params in
    subst (λ (q : Queues). Did (putting_on (putting_by c.args.kind p c.args.site.now.cub.0) p c.args.reading c.args.disk.0 c.args.store.now) c.args.out.now c.loop-ask.out (record c.loop-ask.store { starts = q })) (sym c.note_none.ensures)
    (all_put c.args.kind p c.args.site.now.cub.0 c.args.reading c.args.disk c.args.store.now c.args.out.now c.loop-ask.store c.loop-ask.out c.loop-ask.invariant.comes
    (sym c.in_default.ensures))
