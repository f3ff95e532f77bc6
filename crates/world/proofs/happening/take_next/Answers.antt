use Rattle.std.proofs.Common.{◌≡◌, ◌<◌, Some, length, arith}
use Rattle.std.specs.Prelude.{slice_get, vec_len}
use Rattle.std.proofs.lemmas.Option.{slice_get_read, slice_get_within}
use Rattle.std.proofs.lemmas.Result.{on_ok_weaker}
use Rattle.world.proofs.Moves.{has_taken}
use Rattle.world.proofs.happening.take_next.Goals as goal

pub returns-in-Some-clause-lived : goal.returns-in-Some-clause-lived
returns-in-Some-clause-lived g c =
    let low : c.args.link.0 < length c.args.channels.now.items = slice_get_within _ _ _ c.requires.link.here in
    let len = c.args.channels.now.ok.0 in
    let here : slice_get c.args.channels.now.items c.args.link.0 ≡ Some c.index_mut-channel.result.now = slice_get_read _ (vec_len c.args.channels.now) _ _ len (omega (arith, low, len)) c.index_mut-channel.ensures.value in
    on_ok_weaker c.take-in-Some.result
    (λ l. has_taken _ _ _ c.args.stamp c.args.link c.in-Some.msg c.args.sends _ _ _ _ _ _ here c.in-Some.ensures.message c.in-Some.ensures.rest l) c.take-in-Some.ensures.lived
