use Rattle.std.proofs.Common.{◌≡◌, ◌<◌, Some, length, subst, arith}
use Rattle.std.specs.Prelude.{slice_get, vec_len}
use Rattle.std.proofs.lemmas.Option.{slice_get_read, slice_get_within}
use Rattle.std.proofs.lemmas.Result.{on_ok_weaker, on_err_weaker}
use Rattle.run_facts.proofs.Rows.{same-element}
use Rattle.world.specs.Moving.{IsReadyFor}
use Rattle.world.proofs.Moves.{has_moved, journals_set}
use Rattle.world.proofs.happening.happen.Goals as goal

pub happen_to-requires : goal.happen_to-requires
happen_to-requires g c =
    let low : c.args.node.0 < length c.args.members.now.items = slice_get_within _ _ _ c.requires.here in
    let len = c.args.members.now.ok.0 in
    let here : slice_get c.args.members.now.items c.args.node.0 ≡ Some c.index_mut-member.result.now = slice_get_read _ (vec_len c.args.members.now) _ _ len (omega (arith, low, len)) c.index_mut-member.ensures.value in
    subst (λ b. IsReadyFor g.T.Node.stands_at c.args.event b c.args.channels.now.items) (same-element c.args.members.now.items c.args.node.0 _ _ c.requires.here here) c.requires.ready

pub returns-clause-moved : goal.returns-clause-moved
returns-clause-moved g c =
    let low : c.args.node.0 < length c.args.members.now.items = slice_get_within _ _ _ c.requires.here in
    let len = c.args.members.now.ok.0 in
    let here : slice_get c.args.members.now.items c.args.node.0 ≡ Some c.index_mut-member.result.now = slice_get_read _ (vec_len c.args.members.now) _ _ len (omega (arith, low, len)) c.index_mut-member.ensures.value in
    on_ok_weaker c.happen_to.result (λ l. has_moved _ _ _ c.args.plan.now.params c.args.node.0 c.args.event _ _ c.args.members.now.items _ _ here l) c.happen_to.ensures.lived

pub returns-clause-journals : goal.returns-clause-journals
returns-clause-journals g c =
    let low : c.args.node.0 < length c.args.members.now.items = slice_get_within _ _ _ c.requires.here in
    let len = c.args.members.now.ok.0 in
    let here : slice_get c.args.members.now.items c.args.node.0 ≡ Some c.index_mut-member.result.now = slice_get_read _ (vec_len c.args.members.now) _ _ len (omega (arith, low, len)) c.index_mut-member.ensures.value in
    on_err_weaker c.happen_to.result (λ j. journals_set c.args.members.now.items c.args.node.0 _ _ here j) c.happen_to.ensures.journal
