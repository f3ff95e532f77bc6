use Rattle.std.proofs.Common.{min, arith}
use Rattle.partial_view.specs.Wheel.{all_lines}
use Rattle.partial_view.specs.Work.{is_left}
use Rattle.partial_view.proofs.Lefts.{left-found, left-none, passes-seen}
use Rattle.partial_view.proofs.Rounds.{seen-of, walk-of, wheel-lent}
use Rattle.partial_view.proofs.wheel.Wheel.left_in_turn.Goals as goal

pub returns-in-Some : goal.returns-in-Some
returns-in-Some c =
    passes-seen c.self.inside.plan.params (is_left c.args.work) c.args.from c.in-Some.found.due (all_lines c.self.inside.plan.params c.as_slice.result.now)
    (seen-of c.self.inside.plan.params c.self.inside.buckets.items c.as_slice.result.now c.self.view_is c.as_slice.ensures.value)
    (left-found c.self.inside.plan.params (is_left c.args.work) c.args.from (min c.min-end.result c.at-turn.result.last) c.in-Some.found.due (all_lines c.self.inside.plan.params c.as_slice.result.now) c.in-Some.found.line
    (walk-of c.self.inside.plan.params c.as_slice.result.now (wheel-lent c.self.inside.plan.params c.self.inside.buckets.items c.as_slice.result.now c.as_slice.ensures.value c.self.invariant.0)) c.in-Some.ensures.there.due c.in-Some.ensures.first)

pub returns-in-None : goal.returns-in-None
returns-in-None c =
    passes-seen c.self.inside.plan.params (is_left c.args.work) c.args.from c.saturating_add.result (all_lines c.self.inside.plan.params c.as_slice.result.now)
    (seen-of c.self.inside.plan.params c.self.inside.buckets.items c.as_slice.result.now c.self.view_is c.as_slice.ensures.value)
    (left-none c.self.inside.plan.params (is_left c.args.work) c.args.from (min c.min-end.result c.at-turn.result.last) c.saturating_add.result (all_lines c.self.inside.plan.params c.as_slice.result.now) c.in-None.ensures.first (omega (arith, c.saturating_add.ensures, c.min-end.ensures)))
