use Rattle.std.proofs.Common.{◌≡◌, ◌<◌, ◌≤◌, ◌∙◌, Some, length, get_or, ap, subst, sym, refl}
use Rattle.std.specs.Prelude.{slice_get}
use Rattle.std.proofs.lemmas.Option.{slice_get_read}
use Rattle.std.proofs.lemmas.Result.{on_ok_weaker}
use Rattle.tiger_base.specs.declared.number.NodeNo.{NodeNo}
use Rattle.ring_engine.specs.Quiet.{Network}
use Rattle.ring_engine.specs.Traffic.{received_on}
use Rattle.ring_engine.proofs.Arriving.{received_on-set}
use Rattle.ring_engine.proofs.Looking.{sent-quiet}
use Rattle.ring_engine.proofs.mail.Mail.receive.Goals as goal

pub invariant_of-self : goal.invariant_of-self
invariant_of-self g c = record {
  in_links = c.self.invariant.in_links;
  receivers_are = c.self.invariant.receivers_are;
  quiet = sent-quiet _ _ _ _ _ _ c.args.link.0 c.first_arrival-first.result c.self.invariant.receivers_are c.expect.ensures.no_later (subst (λ (to : NodeNo). get_or c.expect.new.quiet_until.items to.0 0 ≤ c.first_arrival-first.result) c.receiver_at-receiver.ensures c.expect.ensures.expected) c.first_arrival-first.ensures c.self.invariant.quiet;
}

pub returns-clause-channels : goal.returns-clause-channels
returns-clause-channels g c =
    let low : c.args.link.0 < length c.self.inside.channels.items = subst (λ (q : Network _). c.args.link.0 < length q.channels) (sym c.self.view_is) c.requires.link in
    let here : slice_get c.self.inside.channels.items c.args.link.0 ≡ Some c.index_mut-channel.result.now = slice_get_read _ (length c.self.inside.channels.items) _ _ refl low c.index_mut-channel.ensures.value in
    on_ok_weaker c.receive-put.result
    (λ e. received_on-set _ _ _ _ _ here e ∙ ap (λ (q : Network _). received_on c.args.link c.args.flight q.channels) c.self.view_is)
    c.receive-put.ensures
