use Rattle.std.proofs.Common.{rules, tests, eqb, ◌∙◌}
use Rattle.std.proofs.lemmas.Iterator.{YieldsList-from_slice}
use Rattle.std.proofs.lemmas.Iterator.Search.{find_from_yields_List}
use Rattle.net_schedule.specs.declared.ring.Entry.{Entry}
use Rattle.net_schedule.proofs.entries.found_kept.Goals as goal

pub returns : goal.returns
returns c =
    c.copied.ensures ∙ find_from_yields_List (λ (e : Entry). eqb e.instance.0 c.args.v.0) _ _ c.find.result c.find.ensures.ran (YieldsList-from_slice c.args.kept.now cc) (λ x b q k. search (rules, tests))
