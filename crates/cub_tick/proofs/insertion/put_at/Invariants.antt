use Rattle.std.proofs.Common.{◌≡◌}
use Rattle.std.specs.List.{AllByRecursion}
use Rattle.node_kit.specs.Deeds.{each_in_turn}
use Rattle.cub_rules.specs.State.{IsAsk}
use Rattle.cub_rules.specs.Ticks.{putting_on, disks_at}
use Rattle.cub_tick.specs.Placing.{putting_by}
use Rattle.cub_tick.proofs.Going.{ComesTo, disks_from}
use Rattle.cub_tick.proofs.insertion.put_at.Given as goal

abbrev pub invariant-loop-row : goal.invariant-loop-row
invariant-loop-row l =
    let p = l.site.plan.params in
    let rule = each_in_turn (putting_on (putting_by l.kind p l.site.cub.0) p l.reading) in
    record {
      comes : ComesTo (rule (disks_at p l.cub.0) l.fn.store) l.fn.out (rule (disks_from p l.cub.0 l.row) l.store) l.out;
      plan : l.store.view.params ≡ p;
      asks : AllByRecursion IsAsk l.store.starts.waiting;
    }
