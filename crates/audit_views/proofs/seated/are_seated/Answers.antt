use Rattle.std.proofs.Common.{rules, tests, List, ap, ◌∙◌}
use Rattle.std.specs.List.{list_all}
use Rattle.std.proofs.lemmas.Iterator.Consumers.{YieldsList-from_rest}
use Rattle.std.proofs.lemmas.Iterator.Search.{all_from_yields_List}
use Rattle.audit_frame.specs.declared.records.Held.{Held}
use Rattle.audit_views.specs.Views.{is_seated}
use Rattle.audit_views.proofs.seated.are_seated.Goals as goal

pub returns : goal.returns
returns c =
    all_from_yields_List (is_seated c.args.seats.now) _ _ c.all.result c.all.ensures.ran (YieldsList-from_rest c.under.result cc)
    (λ x b q k. search (rules, tests))
    ∙ ap (λ (hs : List Held). list_all (is_seated c.args.seats.now) hs) c.under.ensures
