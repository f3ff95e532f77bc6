use Rattle.std.proofs.Common.{◌≡◌, ◌<◌, ◌∙◌, length, ap, subst, sym, refl}
use Rattle.std.specs.Prelude.{is_some, slice_get}
use Rattle.std.proofs.lemmas.Option.{slice_get_read}
use Rattle.ring_engine.specs.Quiet.{Network}
use Rattle.ring_engine.specs.Traffic.{letters_on}
use Rattle.ring_engine.proofs.Commuting.{some-letter}
use Rattle.ring_engine.proofs.mail.Mail.has_arrived.Goals as goal

pub returns : goal.returns
returns g c =
    let low : c.args.link.0 < length c.self.inside.channels.items = subst (λ (q : Network _). c.args.link.0 < length q.channels) (sym c.self.view_is) c.requires.link in
    let here = slice_get_read c.self.inside.channels.items (length c.self.inside.channels.items) c.args.link.0 _ refl low c.index.ensures in
    c.has_arrived.ensures ∙ some-letter _ _ _ _ here ∙ ap (λ (q : Network _). is_some (slice_get (letters_on c.args.beat c.args.link q.channels) 0)) c.self.view_is
