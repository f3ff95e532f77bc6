use Rattle.std.proofs.Common.{◌∙◌, ap, drop}
use Rattle.std.specs.List.{remove}
use Rattle.partial_view.proofs.Gone.{remove-gone}
use Rattle.partial_view.proofs.row.Row.close_from_back.Goals as goal

pub returns : goal.returns
returns g c =
    ap (λ xs. drop c.self.inside.gone xs) c.remove.ensures.items
    ∙ (remove-gone c.self.inside.gone c.args.place c.self.inside.items.items c.self.invariant.0 ∙ ap (λ xs. remove xs c.args.place) c.self.view_is)
