use Rattle.std.proofs.Common.{rules, tests, eqb, ◌∙◌}
use Rattle.std.proofs.lemmas.Iterator.{YieldsList-from_slice}
use Rattle.std.proofs.lemmas.Iterator.Search.{find_from_yields_List}
use Rattle.tiger_base.specs.declared.tenancy.Ask.{Ask}
use Rattle.insert_queue.proofs.starts.oldest_for.Goals as goal

pub returns : goal.returns
returns c =
    c.copied.ensures ∙ find_from_yields_List (λ (a : Ask). eqb a.disk.0 c.args.disk.0) _ _ c.find.result c.find.ensures.ran (YieldsList-from_slice c.args.asks.now cc) (λ x b q k. search (rules, tests))
