use Rattle.std.proofs.Common.{◌∙◌, ap, drop}
use Rattle.std.proofs.lemmas.List.{with_items_is}
use Rattle.std.specs.List.{insert}
use Rattle.partial_view.proofs.Gone.{insert-gone}
use Rattle.partial_view.proofs.row.Row.insert.Goals as goal

pub returns-clause-ok : goal.returns-clause-ok
returns-clause-ok g c =
    ap (λ xs. drop c.self.inside.gone xs)
    (with_items_is c.push.new.self c.move_down.new.items (c.move_down.ensures.len ∙ c.as_mut_slice.ensures.len)
    ∙ c.move_down.ensures.moved c.args.item c.self.inside.items.items (c.as_mut_slice.ensures.value ∙ c.in_ok-push.ensures.items))
    ∙ (insert-gone c.self.inside.gone c.args.place c.self.inside.items.items c.args.item c.self.invariant.0 ∙ ap (λ xs. insert xs c.args.place c.args.item) c.self.view_is)
