use Rattle.std.proofs.Common.{◌≡◌, Some}
use Rattle.std.specs.Prelude.{slice_get, vec_len}
use Rattle.std.proofs.lemmas.Option.{slice_get_read}
use Rattle.std.proofs.lemmas.Result.{on_ok_weaker}
use Rattle.world.proofs.Posts.{posted_send}
use Rattle.world.proofs.living.send.Goals as goal

pub returns : goal.returns
returns g c =
    let here : slice_get c.args.channels.now.items c.args.link.0 ≡ Some c.index_mut-channel.result.now = slice_get_read _ (vec_len c.args.channels.now) _ _ c.args.channels.now.ok.0 c.requires c.index_mut-channel.ensures.value in
    on_ok_weaker c.post.result (λ e. posted_send _ _ _ _ _ _ here e) c.post.ensures
