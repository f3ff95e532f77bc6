use Rattle.std.proofs.Common.{rules, sym, ◌∙◌}
use Rattle.std.proofs.lemmas.Bool.{OnTrue_at}
use Rattle.std.proofs.lemmas.Result.{on_ok_weaker}
use Rattle.ring_engine.proofs.Happening.{both-ok, postable-event, rested, rested-keeps, ticked, ready-event}
use Rattle.ring_engine.proofs.events.tick.Goals as goal

pub deliver-requires-clause-links : goal.deliver-requires-clause-links
deliver-requires-clause-links g c =
    let r = c.requires.ready in
    postable-event _ _ _ _ _ _ _ _ _ _ _ _ r.params r.number _ c.in_ok-tick.ensures c.requires.outputs c.trim.ensures.outs r.ready.stands_here r.ready.count

pub returns-then-rests-clause-event : goal.returns-then-rests-clause-event
returns-then-rests-clause-event g c =
    rested g.M.Message.note_of g.T.Node.step c.args.stamp _ (sym c.ends_in.ensures ∙ search rules)
    (OnTrue_at c.if-rests.true c.rests.ensures)

pub returns-then-rests-clause-keeps : goal.returns-then-rests-clause-keeps
returns-then-rests-clause-keeps g c =
    rested-keeps g.M.Message.note_of g.T.Node.step g.T.Node.stands_at c.args.stamp _ (sym c.ends_in.ensures ∙ search rules)
    (OnTrue_at c.if-rests.true c.rests.ensures)

pub returns-clause-event : goal.returns-clause-event
returns-clause-event g c =
    on_ok_weaker c.deliver.result
    (λ d. ticked _ _ _ _ _ _ _ _ _ _ _ _ _ _ _ c.in_ok-tick.ensures c.requires.outputs c.trim.ensures.life c.trim.ensures.outs d.0 d.1)
    (both-ok _ _ c.deliver.result c.deliver.ensures.journal c.deliver.ensures.channels)

pub returns-clause-keeps : goal.returns-clause-keeps
returns-clause-keeps g c =
    on_ok_weaker c.deliver.result (λ d. ready-event _ _ _ _ _ _ _ _ c.trim.new.out _ _ _ _ _ _ _ c.in_ok-tick.ensures d) c.deliver.ensures.channels
