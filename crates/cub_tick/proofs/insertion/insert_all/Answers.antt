use Rattle.cub_tick.proofs.Turns.{none_inserted, full_inserted, own_alone, dead_full, not_dead}
use Rattle.cub_tick.proofs.insertion.insert_all.Goals as goal
use Rattle.cub_tick.proofs.insertion.insert_all.Goals.{then-not-waits-via-then-not-waits, then-not-waits-via-else-not-waits+then-all_full, else-store-via-then-store+else-not-all_full, else-store-via-else-store}

pub returns-then-not-waits : goal.returns-then-not-waits
returns-then-not-waits c =
    let p = c.args.site.now.plan.params in
    elim c.then-not-waits.branch [
      | then-not-waits-via-then-not-waits w ↦ none_inserted p c.args.site.now.cub.0 c.args.stamp c.args.store.now c.args.out.now c.waits.result c.waits.ensures w.if-not-waits.true
      | then-not-waits-via-else-not-waits+then-all_full w ↦ full_inserted p c.args.site.now.cub.0 c.args.stamp c.args.store.now c.args.out.now c.args.site.now.plan.sound c.requires.stored.view_plan (w.all_full.ensures w.if-all_full.true)
    ]

pub returns-else-store : goal.returns-else-store
returns-else-store c =
    let p = c.args.site.now.plan.params in
    let cub = c.args.site.now.cub.0 in
    let now = c.put_at.new.store in
    own_alone p cub c.args.stamp c.args.store.now c.args.out.now c.put_at.new.out now c.in_ok-put_at.ensures.did
    (elim c.else-store.branch [
      | else-store-via-then-store+else-not-all_full w ↦ dead_full p cub c.args.stamp now c.args.site.now.plan.sound c.in_ok-put_at.ensures.plan (w.all_full-then-store.ensures w.if-not-all_full.false)
      | else-store-via-else-store w ↦ not_dead p cub c.args.stamp now w.if-store.false
    ])
