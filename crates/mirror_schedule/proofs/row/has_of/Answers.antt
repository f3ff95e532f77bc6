use Rattle.std.proofs.Common.{rules, tests}
use Rattle.std.proofs.lemmas.Iterator.Consumers.{YieldsList-from_deque}
use Rattle.std.proofs.lemmas.Iterator.Search.{any_from_yields_List}
use Rattle.mirror_schedule.specs.Pieces.{is_of}
use Rattle.mirror_schedule.proofs.row.has_of.Goals as goal

pub returns : goal.returns
returns c =
    any_from_yields_List (λ x. is_of c.args.instance x.0) _ _ c.any.result c.any.ensures.ran (YieldsList-from_deque c.args.items.now.items c.iter.ensures.rest)
    (λ x b q k. search (rules, tests))
