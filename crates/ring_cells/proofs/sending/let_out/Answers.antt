use Rattle.std.proofs.Common.{◌≡◌, Some, None, ap, refl, sym, subst, ◌∙◌, arith, length}
use Rattle.tiger_base.specs.declared.number.LinkNo.{LinkNo}
use Rattle.ring_engine.specs.Traffic.{oldest_on, without_oldest_on}
use Rattle.ring_cells.specs.Shares.{HasGoneOut, sent_out}
use Rattle.ring_cells.proofs.Ending.{IsGoingOut, going-none, going-more, going-all}
use Rattle.ring_cells.proofs.Letting.{oldest-fewer, going-to, gone-to}
use Rattle.ring_cells.proofs.sending.let_out.Goals as goal

pub loop-flight-init : goal.loop-flight-init
loop-flight-init g c = record { going = going-none c.args.port.now c.args.mail.now.channels; its_link = c.link-link.ensures; links = refl }

pub take_oldest-requires : goal.take_oldest-requires
take_oldest-requires g c =
    let inv = c.loop-flight.invariant in
    let size = inv.going.same_size in
    let link = ap (λ (l : LinkNo). l.0) inv.its_link in
    omega (arith, size, link, c.requires)

pub loop-flight-preserved : goal.loop-flight-preserved
loop-flight-preserved g c =
    let inv = c.loop-flight.invariant in
    record {
      going = going-to c.args.port.now c.loop-flight.port _ c.args.mail.now.channels c.loop-flight.mail.channels _ c.in-Some.flight _ inv.its_link c.in-Some.ensures.flight c.in-Some.ensures.channels c.in_ok-send.ensures inv.going;
      its_link = inv.its_link;
      links = c.in-Some.ensures.links ∙ inv.links;
    }

pub loop-flight-smaller : goal.loop-flight-smaller
loop-flight-smaller g c = oldest-fewer _ c.loop-flight.mail.channels _ c.in-Some.flight c.in-Some.ensures.flight c.in-Some.ensures.channels

pub returns-clause-out : goal.returns-clause-out
returns-clause-out g c =
    let inv = c.loop-flight.invariant in
    gone-to c.args.port.now c.loop-flight.port c.args.mail.now.channels c.loop-flight.mail.channels _ _ inv.its_link c.in_default.ensures.flight c.in_default.ensures.channels inv.going
