use Rattle.std.proofs.Common.{◌≡◌, IfSome, Some, subst}
use Rattle.partial_view.specs.Views.{Seen, next_behind}
use Rattle.partial_view.proofs.Rounds.{seen-of}
use Rattle.partial_view.proofs.wheel.Wheel.next_in_turn.Goals as goal

pub returns : goal.returns
returns c =
    subst (λ (s : Seen). IfSome c.next_in_turn.result (λ line. Some line ≡ next_behind s.params (Some c.args.key) s.lines))
    (seen-of c.self.inside.plan.params c.self.inside.buckets.items c.as_slice.result.now c.self.view_is c.as_slice.ensures.value) c.next_in_turn.ensures
