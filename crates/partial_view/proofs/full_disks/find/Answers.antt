use Rattle.std.proofs.Common.{rules, tests, ◌∙◌}
use Rattle.std.proofs.lemmas.Iterator.{YieldsList-from_slice}
use Rattle.std.proofs.lemmas.Iterator.Search.{find_from_yields_List}
use Rattle.partial_view.specs.Free.{is_disk}
use Rattle.partial_view.proofs.full_disks.find.Goals as goal

pub returns : goal.returns
returns c =
    c.copied.ensures ∙ find_from_yields_List (is_disk c.args.disk.0) _ _ c.find.result c.find.ensures.ran (YieldsList-from_slice c.args.disks.now cc) (λ x b q k. search (rules, tests))
