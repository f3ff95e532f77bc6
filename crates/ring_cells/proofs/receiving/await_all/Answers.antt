use Rattle.std.proofs.Common.{◌≡◌, refl, ap, sym, subst, ◌∙◌, arith, length}
use Rattle.ring_cells.specs.Shares.{AreApart, AreWired}
use Rattle.ring_cells.proofs.Letting.{ports-kept, wired-kept, awaited-short, awaited-none, some-from}
use Rattle.ring_cells.proofs.Pouring.{poured-none, poured-on, closed-still, closed-all}
use Rattle.ring_cells.proofs.receiving.await_all.Goals as goal

pub loop-n-init : goal.loop-n-init
loop-n-init g c = record {
  poured = poured-none c.args.mail.now.channels c.args.ins.now.items;
  closed = c.requires.below;
  links = refl;
  end = c.len-n-end.ensures ∙ c.args.ins.now.ok.0;
}

pub await_at-requires-clause-here : goal.await_at-requires-clause-here
await_at-requires-clause-here g c =
    let inv = c.loop-n.invariant in
    let same = ports-kept _ _ inv.poured.same_links in
    omega (arith, c.loop-n-test.true, inv.end, same, c.loop-n.ins.ok.0)

pub await_at-requires-clause-apart : goal.await_at-requires-clause-apart
await_at-requires-clause-apart g c = subst AreApart (sym c.loop-n.invariant.poured.same_links) c.requires.apart

pub await_at-requires-clause-wired : goal.await_at-requires-clause-wired
await_at-requires-clause-wired g c =
    wired-kept _ _ _ _ c.loop-n.invariant.poured.same_size c.loop-n.invariant.poured.same_links c.requires.wired

pub returns-then-is_some-clause-poured : goal.returns-then-is_some-clause-poured
returns-then-is_some-clause-poured g c = poured-on _ _ _ _ _ _ c.loop-n.invariant.poured c.in_ok-short.ensures.poured

pub returns-then-is_some-clause-closed : goal.returns-then-is_some-clause-closed
returns-then-is_some-clause-closed g c =
    awaited-short c.args.beat c.loop-n.n c.in_ok-short.short _ _ (sym c.is_some.ensures ∙ c.if-is_some.true) c.in_ok-short.ensures.awaited c.loop-n.invariant.closed

pub returns-then-is_some-clause-below : goal.returns-then-is_some-clause-below
returns-then-is_some-clause-below g c =
    some-from c.in_ok-short.short (closed-still c.args.beat c.loop-n.n c.in_ok-short.short _ _ c.in_ok-short.ensures.awaited c.loop-n.invariant.closed)

pub loop-n-preserved : goal.loop-n-preserved
loop-n-preserved g c = record {
  poured = poured-on _ _ _ _ _ _ c.loop-n.invariant.poured c.in_ok-short.ensures.poured;
  closed = awaited-none c.args.beat c.loop-n.n c.in_ok-short.short _ _ (sym c.is_some.ensures ∙ c.if-is_some.false) c.in_ok-short.ensures.awaited c.loop-n.invariant.closed;
  links = c.in_ok-short.ensures.links ∙ c.loop-n.invariant.links;
  end = c.loop-n.invariant.end;
}

pub returns-clause-closed : goal.returns-clause-closed
returns-clause-closed g c =
    let inv = c.loop-n.invariant in
    let same = ports-kept _ _ inv.poured.same_links in
    closed-all c.args.beat c.loop-n.n _ (omega (arith, c.loop-n-test.false, inv.end, same)) inv.closed
