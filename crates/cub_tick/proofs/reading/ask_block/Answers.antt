use Rattle.std.proofs.Common.{ℕ, ◌<◌, ◌*◌, sym, subst}
use Rattle.slot_plan.proofs.Times.{disk_below}
use Rattle.cub_tick.proofs.reading.ask_block.Goals as goal

pub ask-requires : goal.ask-requires
ask-requires c =
    let p = c.args.site.now.plan.params in
    subst (λ (n : ℕ). n < p.cubs * p.disks) (sym c.disk_of-disk.ensures) (disk_below p c.args.line.now.rec.visit c.args.site.now.plan.sound.ranges)
