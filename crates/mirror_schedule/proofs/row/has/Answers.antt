use Rattle.std.proofs.Common.{rules, tests}
use Rattle.std.proofs.lemmas.Iterator.Consumers.{YieldsList-from_deque}
use Rattle.std.proofs.lemmas.Iterator.Search.{any_from_yields_List}
use Rattle.mirror_schedule.specs.Rows.{is_one}
use Rattle.mirror_schedule.specs.TimedPieces.{timed_before}
use Rattle.mirror_schedule.proofs.row.has.Goals as goal

pub returns : goal.returns
returns c =
    any_from_yields_List (is_one timed_before c.args.x.now) _ _ c.any.result c.any.ensures.ran (YieldsList-from_deque c.args.items.now.items c.iter.ensures.rest)
    (λ x b q k. search (rules, tests))
