use Rattle.std.proofs.Common.{◌≡◌, ◌∷◌, [], ap, sym, subst, ◌∙◌, arith}
use Rattle.tiger_base.specs.declared.number.LinkNo.{LinkNo}
use Rattle.ring_engine.specs.Traffic.{received_on}
use Rattle.ring_cells.specs.Shares.{HasPoured}
use Rattle.ring_cells.proofs.Pouring.{poured-look, poured-one}
use Rattle.std.proofs.lemmas.Result.{on_ok_weaker}
use Rattle.ring_cells.proofs.receiving.pour_one.Goals as goal

pub receive-requires : goal.receive-requires
receive-requires g c =
    let same = ap (λ (l : LinkNo). l.0) (c.link.ensures ∙ c.next_in.ensures.link) in
    omega (arith, same, c.requires)

pub returns-in_default-clause-poured : goal.returns-in_default-clause-poured
returns-in_default-clause-poured g c =
    poured-look c.args.mail.now.channels c.args.port.now c.next_in.new.self c.next_in.ensures.link c.next_in.ensures.line c.in_default.ensures.none (omega (arith, c.next_in.ensures.closed))

pub returns-clause-poured : goal.returns-clause-poured
returns-clause-poured g c =
    let e = c.next_in.ensures in
    let f = c.in-Some.flight in
    let same : c.receive.new.self.channels ≡ received_on c.args.port.now.link f c.args.mail.now.channels =
    c.in_ok-receive.ensures.channels ∙ ap (λ l. received_on l f c.args.mail.now.channels) (c.link.ensures ∙ e.link) in
    subst (λ ts. HasPoured c.args.mail.now.channels (c.args.port.now ∷ []) ts (c.next_in.new.self ∷ [])) (sym same)
    (poured-one c.args.mail.now.channels c.args.port.now c.next_in.new.self f e.link e.line e.closed c.in-Some.ensures.next c.in-Some.ensures.open e.ordered)
