use Rattle.std.proofs.Common.{List, arith, subst}
use Rattle.std.specs.List.{AllByRecursion}
use Rattle.std.proofs.lemmas.List.{take_all}
use Rattle.tiger_base.specs.declared.number.DiskNo.{DiskNo}
use Rattle.partial_view.specs.Free.{IsFullAt}
use Rattle.cub_tick.proofs.FullDisks.{full_for}
use Rattle.cub_tick.proofs.insertion.all_full.Goals as goal

pub returns : goal.returns
returns c =
    let p = c.args.store.now.view.params in
    let lines = c.args.store.now.view.lines in
    let disks = c.disks-disk-items.result.now in
    λ e. full_for p c.args.reading lines disks c.args.store.now.starts.waiting c.disks-disk-items.ensures
    (subst (λ (ds : List DiskNo). AllByRecursion (λ (d : DiskNo). IsFullAt p d.0 c.args.reading lines) ds) (take_all c.loop-disk.disk-index disks (omega (arith, c.loop-disk-test.false))) c.loop-disk.invariant)
