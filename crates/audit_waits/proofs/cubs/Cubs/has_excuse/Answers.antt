use Rattle.std.proofs.Common.{rules, tests, List, ap, ◌∙◌}
use Rattle.std.specs.List.{list_any}
use Rattle.std.proofs.lemmas.Iterator.Consumers.{YieldsList-from_rest}
use Rattle.std.proofs.lemmas.Iterator.Search.{any_from_yields_List}
use Rattle.audit_frame.specs.Records.{is_held_at}
use Rattle.audit_frame.specs.declared.records.Held.{Held}
use Rattle.audit_waits.specs.Cubs.{is_excusing}
use Rattle.audit_waits.proofs.Grouped.{any_of_filter}
use Rattle.audit_waits.proofs.cubs.Cubs.has_excuse.Goals as goal

pub returns : goal.returns
returns c =
    let excuses = is_excusing c.args.plan.now.params c.args.holders.now c.args.beat in
    any_from_yields_List excuses _ _ c.any.result c.any.ensures.ran (YieldsList-from_rest c.at.result cc)
    (λ x b q k. search (rules, tests))
    ∙ ap (λ (hs : List Held). list_any excuses hs) c.at.ensures
    ∙ any_of_filter excuses (is_held_at c.args.slot.0 c.args.cub.0 c.args.visit) c.args.self.now.records
