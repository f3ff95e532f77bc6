use Rattle.std.proofs.Common.{rules, tests, eqb, ◌∙◌}
use Rattle.std.proofs.lemmas.Iterator.{YieldsList-from_slice}
use Rattle.std.proofs.lemmas.Iterator.Search.{find_from_yields_List}
use Rattle.net_schedule.specs.declared.ring.Own.{Own}
use Rattle.net_run.proofs.place.found.Goals as goal

pub returns : goal.returns
returns c =
    c.copied.ensures ∙ find_from_yields_List (λ (o : Own). eqb o.entry.instance.0 c.args.v.0) _ _ c.find.result c.find.ensures.ran (YieldsList-from_slice c.args.own.now cc) (λ x b q k. search (rules, tests))
