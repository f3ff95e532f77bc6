use Rattle.std.proofs.Common.{subst, sym, ◌<◌, ◌*◌, ℕ}
use Rattle.cub_tick.proofs.Asked.{piece_disk_below}
use Rattle.cub_tick.proofs.reading.read_piece.Goals as goal

pub ask-requires : goal.ask-requires
ask-requires c =
    subst (λ (n : ℕ). n < c.args.site.now.plan.params.cubs * c.args.site.now.plan.params.disks) (sym c.piece_disk-disk.ensures) (piece_disk_below c.args.site.now.plan.params c.args.site.now.plan.sound c.disk_of.result.0 c.args.piece.piece)
