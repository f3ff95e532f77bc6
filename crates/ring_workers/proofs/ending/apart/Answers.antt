use Rattle.std.proofs.Common.{◌≡◌, arith, sym, length, ◌∙◌}
use Rattle.ring_workers.proofs.Walks.{goes-on}
use Rattle.ring_workers.proofs.Parting.{parts-none, parts-more}
use Rattle.ring_workers.proofs.ending.apart.Goals as goal

pub loop-share-init : goal.loop-share-init
loop-share-init g c =
    let W = g.W.Named in (
      tt,
      tt,
      c.into_iter-share-iterator.ensures.into_iter_gives.0,
      parts-none g.M.Message.note_of g.T.Node.step g.T.Node.stands_at W.course W.opening W.line W.home _ c.new-parts.ensures.items,
    )

pub loop-share-preserved : goal.loop-share-preserved
loop-share-preserved g c =
    let inv = c.loop-share.invariant in
    let W = g.W.Named in
    let share = c.in-Some.share in
    let ens = c.into_parts.ensures in
    let at : share.number ≡ length c.loop-share.parts.items = omega arith in (
      tt,
      tt,
      goes-on c.args.shares.items c.loop-share.yielded share _ _ inv.2 c.in-Some.ensures.steps.0,
      parts-more g.M.Message.note_of g.T.Node.step g.T.Node.stands_at W.course W.opening W.line W.home c.loop-share.parts.items _ c.into_parts.result share c.in_ok-push.ensures.items
          (record { its_number = at; done = c.if-not-is_done.ensures.done; kept = ens.kept (sym c.is_spoilt.ensures ∙ c.if-is_spoilt.false) })
          (record { numbers = ens.numbers; nodes = ens.nodes; journals = ens.journals; ins = ens.ins; outs = ens.outs }) inv.3,
    )
