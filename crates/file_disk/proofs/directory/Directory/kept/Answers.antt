use Rattle.std.proofs.Common.{◌∙◌, List, ap, slice_get}
use Rattle.file_disk.specs.declared.directory.Extent.{Extent}
use Rattle.file_disk.proofs.Finding.{get-end}
use Rattle.file_disk.proofs.directory.Directory.kept.Goals as goal

pub returns-clause-end : goal.returns-clause-end
returns-clause-end c =
    let same = c.as_slice.ensures.value in
    get-end c.self.inside.extents.items c.args.number c.extent_at.result c.self.invariant.ends
    (c.extent_at.ensures ∙ ap (λ (es : List Extent). slice_get es c.args.number) same)
