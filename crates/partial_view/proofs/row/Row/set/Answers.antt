use Rattle.std.proofs.Common.{◌∙◌, ap, slice_set}
use Rattle.std.proofs.lemmas.List.{drop-set-add}
use Rattle.partial_view.proofs.row.Row.set.Goals as goal

pub returns : goal.returns
returns g c =
    drop-set-add c.self.inside.gone c.self.inside.items.items c.args.place c.args.item ∙ ap (λ xs. slice_set xs c.args.place c.args.item) c.self.view_is
