use Rattle.std.proofs.Common.{take}
use Rattle.std.specs.List.{AllByRecursion}
use Rattle.partial_view.specs.Free.{IsFullAt}
use Rattle.cub_tick.proofs.insertion.all_full.Given as goal

abbrev pub invariant-loop-disk : goal.invariant-loop-disk
invariant-loop-disk l =
    AllByRecursion (λ d. IsFullAt l.store.view.params d.0 l.reading l.store.view.lines) (take l.disk-index l.disk-items)
