use Rattle.std.proofs.Common.{sym}
use Rattle.std.proofs.lemmas.Bool.{ltb-true}
use Rattle.partial_view.proofs.Nexts.{next-there}
use Rattle.partial_view.proofs.wheel.next_in_turn.Goals as goal

pub returns-then-next-turn : goal.returns-then-next-turn
returns-then-next-turn c =
    next-there c.args.plan.now.params c.args.buckets.now c.in_ok-bucket.bucket.now c.args.turn c.args.key c.args.due c.found_at-next.result.due c.row_behind-row.result c.found_at-next.result.line c.requires.wheel
    (ltb-true _ _ (sym c.in_ok-bucket.ensures.lookup.0)) c.in_ok-bucket.ensures.lookup.1 c.requires.due c.requires.turn c.row_behind-row.ensures c.found_at-next.ensures.line c.found_at-next.ensures.due c.if-next-turn.true
