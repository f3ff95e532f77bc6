use Rattle.std.proofs.Common.{◌&&◌, not, rules, tests}
use Rattle.std.proofs.lemmas.Iterator.Consumers.{YieldsList-from_deque}
use Rattle.std.proofs.lemmas.Iterator.Search.{any_from_yields_List}
use Rattle.deschedule.specs.Holds.{is_of}
use Rattle.deschedule.proofs.held.must_pass.Goals as goal

pub returns : goal.returns
returns c =
    any_from_yields_List (λ h. is_of c.args.instance h && not h.passed) _ _ c.any.result c.any.ensures.ran (YieldsList-from_deque c.args.holds.now.items c.iter.ensures.rest)
    (λ x b q k. search (rules, tests))
