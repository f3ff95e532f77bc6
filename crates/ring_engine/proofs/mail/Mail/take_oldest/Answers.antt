use Rattle.std.proofs.Common.{◌≡◌, ◌<◌, ◌∙◌, Some, length, ap, subst, sym, refl}
use Rattle.std.specs.Prelude.{slice_get}
use Rattle.std.proofs.lemmas.Option.{slice_get_read}
use Rattle.ring_engine.specs.Quiet.{Network}
use Rattle.ring_engine.specs.Traffic.{oldest_on, without_oldest_on}
use Rattle.ring_engine.proofs.Arriving.{without_oldest_on-set}
use Rattle.ring_engine.proofs.Arriving.{oldest_on-is}
use Rattle.ring_engine.proofs.Looking.{taken-quiet}
use Rattle.ring_engine.proofs.mail.Mail.take_oldest.Goals as goal

pub invariant_of-self : goal.invariant_of-self
invariant_of-self g c =
    let low : c.args.link.0 < length c.self.inside.channels.items = subst (λ (q : Network _). c.args.link.0 < length q.channels) (sym c.self.view_is) c.requires.link in
    let here : slice_get c.self.inside.channels.items c.args.link.0 ≡ Some c.index_mut-channel.result.now = slice_get_read _ (length c.self.inside.channels.items) _ _ refl low c.index_mut-channel.ensures.value in
    record {
      in_links = c.self.invariant.in_links;
      receivers_are = c.self.invariant.receivers_are;
      quiet = taken-quiet _ _ _ _ _ c.args.link.0 here c.take_first.ensures.quiet c.self.invariant.quiet;
    }

pub returns-clause-flight : goal.returns-clause-flight
returns-clause-flight g c =
    let low : c.args.link.0 < length c.self.inside.channels.items = subst (λ (q : Network _). c.args.link.0 < length q.channels) (sym c.self.view_is) c.requires.link in
    let here : slice_get c.self.inside.channels.items c.args.link.0 ≡ Some c.index_mut-channel.result.now = slice_get_read _ (length c.self.inside.channels.items) _ _ refl low c.index_mut-channel.ensures.value in
    oldest_on-is _ _ _ _ here c.take_first.ensures.flight ∙ ap (λ (q : Network _). oldest_on c.args.link q.channels) c.self.view_is

pub returns-clause-channels : goal.returns-clause-channels
returns-clause-channels g c =
    let low : c.args.link.0 < length c.self.inside.channels.items = subst (λ (q : Network _). c.args.link.0 < length q.channels) (sym c.self.view_is) c.requires.link in
    let here : slice_get c.self.inside.channels.items c.args.link.0 ≡ Some c.index_mut-channel.result.now = slice_get_read _ (length c.self.inside.channels.items) _ _ refl low c.index_mut-channel.ensures.value in
    without_oldest_on-set _ _ _ _ here c.take_first.ensures.rest ∙ ap (λ (q : Network _). without_oldest_on c.args.link q.channels) c.self.view_is
