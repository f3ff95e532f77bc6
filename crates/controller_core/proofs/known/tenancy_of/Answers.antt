use Rattle.std.proofs.Common.{rules, tests, eqb, ◌∙◌}
use Rattle.std.proofs.lemmas.Iterator.{YieldsList-from_slice}
use Rattle.std.proofs.lemmas.Iterator.Search.{find_from_yields_List}
use Rattle.tiger_base.specs.declared.tenancy.Tenancy.{Tenancy}
use Rattle.controller_core.proofs.known.tenancy_of.Goals as goal

pub returns : goal.returns
returns c =
    c.copied.ensures ∙ find_from_yields_List (λ (t : Tenancy). eqb t.instance.0 c.args.instance.0) _ _ c.find.result c.find.ensures.ran (YieldsList-from_slice c.args.placed.now cc) (λ x b q k. search (rules, tests))
