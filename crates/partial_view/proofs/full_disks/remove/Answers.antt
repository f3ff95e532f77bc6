use Rattle.std.proofs.Common.{rules, tests, not, ◌==◌}
use Rattle.std.proofs.lemmas.Fn.{filter_same}
use Rattle.partial_view.specs.declared.full_disks.FullDisk.{FullDisk}
use Rattle.partial_view.proofs.full_disks.remove.Goals as goal

pub returns : goal.returns
returns c = filter_same _ (λ (x : FullDisk). not (x.disk.0 == c.args.disk.0)) _ (λ x b q h. search (rules, tests)) _ _ c.retain.ensures.filtered
