use Rattle.run_report.proofs.Filling.{turns-more, turns-sorted}
use Rattle.std.proofs.Common.{◌≡◌, ◌∙◌, ap, arith, length}
use Rattle.std.specs.List.{range_with_len}
use Rattle.run_report.proofs.turns.turns_of.Goals as goal

pub loop-place-preserved : goal.loop-place-preserved
loop-place-preserved c =
    turns-more c.loop-place.turns.items _ _ c.loop-place.place
    c.in_ok-push.ensures.items c.in_ok-turn_of.ensures.place c.loop-place.invariant

pub returns : goal.returns
returns c =
    let all : c.loop-place.place ≡ length c.args.outcomes.now = omega arith in
    turns-sorted c.loop-place.turns.items _ (length c.args.outcomes.now)
    (c.loop-place.invariant ∙ ap (range_with_len 0) all) c.sort_unstable.ensures.permutation
