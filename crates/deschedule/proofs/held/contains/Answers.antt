use Rattle.std.proofs.Common.{rules, tests}
use Rattle.std.proofs.lemmas.Iterator.Consumers.{YieldsList-from_deque}
use Rattle.std.proofs.lemmas.Iterator.Search.{any_from_yields_List}
use Rattle.deschedule.specs.Holds.{is_of}
use Rattle.deschedule.proofs.held.contains.Goals as goal

pub returns : goal.returns
returns c =
    any_from_yields_List (is_of c.args.instance) _ _ c.any.result c.any.ensures.ran (YieldsList-from_deque c.args.holds.now.items c.iter.ensures.rest)
    (λ x b q k. search (rules, tests))
