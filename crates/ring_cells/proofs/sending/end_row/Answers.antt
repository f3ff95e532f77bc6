use Rattle.std.proofs.Common.{◌≡◌, refl, ◌∙◌, arith, length}
use Rattle.ring_cells.proofs.Letting.{exits-kept, wired-exits}
use Rattle.ring_cells.proofs.Ending.{ended-open, ended-open_at, ended-more, ended-all}
use Rattle.ring_cells.proofs.sending.end_row.Goals as goal

pub loop-n-init : goal.loop-n-init
loop-n-init g c = record {
  ended = ended-open c.args.beat c.args.row.now.items c.args.mail.now.channels;
  links = refl;
  end = c.len-n-end.ensures ∙ c.args.row.now.ok.0;
}

pub end_at-requires-clause-here : goal.end_at-requires-clause-here
end_at-requires-clause-here g c =
    let inv = c.loop-n.invariant in
    let same = exits-kept _ _ inv.ended.same_links in
    omega (arith, c.loop-n-test.true, inv.end, same, c.loop-n.row.ok.0)

pub end_at-requires-clause-open : goal.end_at-requires-clause-open
end_at-requires-clause-open g c = ended-open_at _ _ _ _ _ _ c.loop-n.invariant.ended c.requires.open

pub end_at-requires-clause-wired : goal.end_at-requires-clause-wired
end_at-requires-clause-wired g c =
    wired-exits _ _ _ _ c.loop-n.invariant.ended.same_size c.loop-n.invariant.ended.same_links c.requires.wired

pub loop-n-preserved : goal.loop-n-preserved
loop-n-preserved g c = record {
  ended = ended-more _ _ _ _ _ _ _ _ c.requires.apart c.loop-n.invariant.ended c.in_ok-end_at.ensures.ended;
  links = c.in_ok-end_at.ensures.links ∙ c.loop-n.invariant.links;
  end = c.loop-n.invariant.end;
}

pub returns-clause-ended : goal.returns-clause-ended
returns-clause-ended g c =
    let inv = c.loop-n.invariant in
    ended-all _ c.loop-n.n _ _ _ _ (omega (arith, c.loop-n-test.false, inv.end)) inv.ended
