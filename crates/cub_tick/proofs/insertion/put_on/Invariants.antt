use Rattle.std.proofs.Common.{◌≡◌, length}
use Rattle.std.specs.List.{AllByRecursion, filter}
use Rattle.cub_rules.specs.State.{IsAsk}
use Rattle.cub_rules.specs.Ticks.{putting_on, is_for}
use Rattle.cub_tick.specs.Placing.{putting_by}
use Rattle.cub_tick.proofs.Going.{ComesTo}
use Rattle.cub_tick.proofs.insertion.put_on.Given as goal

abbrev pub invariant-loop-ask : goal.invariant-loop-ask
invariant-loop-ask l =
    let p = l.site.plan.params in
    let rule = putting_on (putting_by l.kind p l.site.cub.0) p l.reading l.disk.0 in
    record {
      comes : ComesTo (rule l.fn.store) l.fn.out (rule l.store) l.out;
      plan : l.store.view.params ≡ p;
      asks : AllByRecursion IsAsk l.store.starts.waiting;
    }

abbrev pub decreases-loop-ask : goal.decreases-loop-ask
decreases-loop-ask l = length (filter (is_for l.disk.0) l.store.starts.waiting)
