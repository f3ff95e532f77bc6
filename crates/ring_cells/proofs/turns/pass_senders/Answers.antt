use Rattle.std.proofs.Common.{◌≡◌, ◌+◌, ◌<◌, ◌≤◌, ◌∙◌, Some, length, refl, ap, sym, subst, arith}
use Rattle.std.specs.Prelude.{slice_get, slice_set}
use Rattle.std.proofs.lemmas.Option.{slice_get_read}
use Rattle.node_kit.specs.Links.{Links}
use Rattle.ring_cells.specs.Cells.{IsAtWork}
use Rattle.ring_cells.specs.Moves.{HaveLived}
use Rattle.ring_engine.proofs.Running.{length-set_at}
use Rattle.ring_cells.proofs.Passing.{sender-turn}
use Rattle.ring_cells.proofs.Keeping.{dials-size, work-at-hand}
use Rattle.ring_cells.proofs.Wired.{row-open, row-wired, live-size}
use Rattle.ring_cells.proofs.Working.{lived-none, work-ready}
use Rattle.ring_cells.proofs.turns.pass_senders.Goals as goal

pub loop-n-init : goal.loop-n-init
loop-n-init g c = record {
  work = c.requires.work;
  lived = lived-none g.M.Message.note_of g.T.Node.step g.T.Node.stands_at g.W.Named.course g.W.Named.opening g.W.Named.line c.args.numbers.now c.args.dials.now c.args.mail.now.links c.args.beat _;
  rows = refl;
  end = c.len-n-end.ensures ∙ c.args.outs.now.ok.0;
  outputs = c.requires.outputs;
}

pub bounds-dials-n : goal.bounds-dials-n
bounds-dials-n g c =
    let low : c.loop-n.n < length c.args.numbers.now = omega (arith, c.loop-n-test.true, c.loop-n.invariant.end, c.loop-n.invariant.rows, c.loop-n.invariant.work.senders) in
    omega (arith, low, dials-size c.loop-n.invariant.work.course c.args.numbers.now c.args.dials.now c.loop-n.invariant.work.dialled)

pub number_at-number-requires : goal.number_at-number-requires
number_at-number-requires g c =
    let low : c.loop-n.n < length c.args.numbers.now = omega (arith, c.loop-n-test.true, c.loop-n.invariant.end, c.loop-n.invariant.rows, c.loop-n.invariant.work.senders) in
    low

pub live-requires-clause-number : goal.live-requires-clause-number
live-requires-clause-number g c = (work-at-hand g.M.Message.note_of g.T.Node.step g.T.Node.stands_at g.W.Named.course g.W.Named.opening g.W.Named.line c.args.numbers.now c.args.dials.now c.loop-n.mail.links c.args.beat c.loop-n.n _ _ _ c.loop-n.invariant.work).inside c.loop-n.n c.number_at-number.result (sym c.number_at-number.ensures)

pub live-requires-clause-ready : goal.live-requires-clause-ready
live-requires-clause-ready g c =
    let low : c.loop-n.n < length c.args.numbers.now = omega (arith, c.loop-n-test.true, c.loop-n.invariant.end, c.loop-n.invariant.rows, c.loop-n.invariant.work.senders) in
    let dial : slice_get c.args.dials.now c.loop-n.n ≡ Some _ = slice_get_read c.args.dials.now (length c.args.dials.now) c.loop-n.n _ refl (omega (arith, low, dials-size c.loop-n.invariant.work.course c.args.numbers.now c.args.dials.now c.loop-n.invariant.work.dialled)) c.index-dials-n.is in
    let seat = sym c.number_at-number.ensures in
    let node : slice_get c.loop-n.nodes.items c.loop-n.n ≡ Some c.index_mut.result.now = slice_get_read _ (length c.loop-n.nodes.items) _ _ refl (omega (arith, low, c.loop-n.invariant.work.manned.nodes)) c.index_mut.ensures.value in
    work-ready g.M.Message.note_of g.T.Node.step g.T.Node.stands_at g.W.Named.course g.W.Named.opening g.W.Named.line c.args.numbers.now c.args.dials.now c.loop-n.mail.links c.args.beat c.loop-n.n _ _ _ _ _ _ _ _ _ seat dial c.stamp-stamp.ensures.stamp node c.loop-n.invariant.work

pub end_turn-requires-clause-open : goal.end_turn-requires-clause-open
end_turn-requires-clause-open g c =
    let row : slice_get c.loop-n.outs.items c.loop-n.n ≡ Some c.index_mut-in-loop-n-3.result.now = slice_get_read _ (length c.loop-n.outs.items) _ _ refl (omega (arith, c.loop-n-test.true, c.loop-n.invariant.end, c.loop-n.invariant.rows)) c.index_mut-in-loop-n-3.ensures.value in
    row-open g.M.Message.note_of g.T.Node.step g.T.Node.stands_at g.W.Named.course g.W.Named.opening g.W.Named.line c.args.numbers.now c.args.dials.now c.loop-n.mail.links c.args.beat c.loop-n.n _ _ _ c.loop-n.invariant.work _ row

pub end_turn-requires-clause-apart : goal.end_turn-requires-clause-apart
end_turn-requires-clause-apart g c =
    let row : slice_get c.loop-n.outs.items c.loop-n.n ≡ Some c.index_mut-in-loop-n-3.result.now = slice_get_read _ (length c.loop-n.outs.items) _ _ refl (omega (arith, c.loop-n-test.true, c.loop-n.invariant.end, c.loop-n.invariant.rows)) c.index_mut-in-loop-n-3.ensures.value in
    c.loop-n.invariant.work.seated.outs_apart c.loop-n.n _ row

pub end_turn-requires-clause-wired : goal.end_turn-requires-clause-wired
end_turn-requires-clause-wired g c =
    let low : c.loop-n.n < length c.args.numbers.now = omega (arith, c.loop-n-test.true, c.loop-n.invariant.end, c.loop-n.invariant.rows, c.loop-n.invariant.work.senders) in
    let dial : slice_get c.args.dials.now c.loop-n.n ≡ Some _ = slice_get_read c.args.dials.now (length c.args.dials.now) c.loop-n.n _ refl (omega (arith, low, dials-size c.loop-n.invariant.work.course c.args.numbers.now c.args.dials.now c.loop-n.invariant.work.dialled)) c.index-dials-n.is in
    let seat = sym c.number_at-number.ensures in
    let node : slice_get c.loop-n.nodes.items c.loop-n.n ≡ Some c.index_mut.result.now = slice_get_read _ (length c.loop-n.nodes.items) _ _ refl (omega (arith, low, c.loop-n.invariant.work.manned.nodes)) c.index_mut.ensures.value in
    let row : slice_get c.loop-n.outs.items c.loop-n.n ≡ Some c.index_mut-in-loop-n-3.result.now = slice_get_read _ (length c.loop-n.outs.items) _ _ refl (omega (arith, c.loop-n-test.true, c.loop-n.invariant.end, c.loop-n.invariant.rows)) c.index_mut-in-loop-n-3.ensures.value in
    row-wired g.M.Message.note_of g.T.Node.step g.T.Node.stands_at g.W.Named.course g.W.Named.opening g.W.Named.line c.args.numbers.now c.args.dials.now c.loop-n.mail.links c.args.beat c.loop-n.n _ _ _ c.loop-n.invariant.work _ row _
    (live-size g.M.Message.note_of g.T.Node.step g.T.Node.stands_at g.W.Named.course g.W.Named.opening g.W.Named.line c.args.numbers.now c.args.dials.now c.loop-n.mail.links c.args.beat c.loop-n.n _ _ _ c.loop-n.invariant.work _ _ _ _ _ _ _ _ _ _ _ seat c.stamp-stamp.ensures.stamp node c.in_ok-live.ensures.keeps)

pub loop-n-preserved : goal.loop-n-preserved
loop-n-preserved g c =
    let low : c.loop-n.n < length c.args.numbers.now = omega (arith, c.loop-n-test.true, c.loop-n.invariant.end, c.loop-n.invariant.rows, c.loop-n.invariant.work.senders) in
    let dial : slice_get c.args.dials.now c.loop-n.n ≡ Some _ = slice_get_read c.args.dials.now (length c.args.dials.now) c.loop-n.n _ refl (omega (arith, low, dials-size c.loop-n.invariant.work.course c.args.numbers.now c.args.dials.now c.loop-n.invariant.work.dialled)) c.index-dials-n.is in
    let seat = sym c.number_at-number.ensures in
    let node : slice_get c.loop-n.nodes.items c.loop-n.n ≡ Some c.index_mut.result.now = slice_get_read _ (length c.loop-n.nodes.items) _ _ refl (omega (arith, low, c.loop-n.invariant.work.manned.nodes)) c.index_mut.ensures.value in
    let life : slice_get c.loop-n.lives.items c.loop-n.n ≡ Some c.index_mut-in-loop-n.result.now = slice_get_read _ (length c.loop-n.lives.items) _ _ refl (omega (arith, low, c.loop-n.invariant.work.manned.lives)) c.index_mut-in-loop-n.ensures.value in
    let journal : slice_get c.loop-n.journals.items c.loop-n.n ≡ Some c.index_mut-in-loop-n-2.result.now = slice_get_read _ (length c.loop-n.journals.items) _ _ refl (omega (arith, low, c.loop-n.invariant.work.manned.journals)) c.index_mut-in-loop-n-2.ensures.value in
    let row : slice_get c.loop-n.outs.items c.loop-n.n ≡ Some c.index_mut-in-loop-n-3.result.now = slice_get_read _ (length c.loop-n.outs.items) _ _ refl (omega (arith, c.loop-n-test.true, c.loop-n.invariant.end, c.loop-n.invariant.rows)) c.index_mut-in-loop-n-3.ensures.value in
    let inv = c.loop-n.invariant in
    let one = sender-turn g.M.Message.note_of g.T.Node.step g.T.Node.stands_at g.W.Named.course g.W.Named.opening g.W.Named.line c.args.numbers.now c.args.dials.now c.loop-n.mail.links c.args.beat c.loop-n.n _ _ _ inv.work c.requires.early c.requires.closed
    _ _ _ _ _ _ _ _ _ _ seat dial c.stamp-stamp.ensures.stamp node life journal c.in_ok-live.ensures.turn c.in_ok-live.ensures.keeps _ _ _ row c.in_ok-end_turn.ensures.ended in
    record {
      work = subst (λ (t : Links). IsAtWork g.M.Message.note_of g.T.Node.step g.T.Node.stands_at g.W.Named.course g.W.Named.opening g.W.Named.line c.args.numbers.now c.args.dials.now t c.args.beat (c.loop-n.n + 1)
          (record {
            nodes = slice_set c.loop-n.nodes.items c.loop-n.n c.live.new.node;
            lives = slice_set c.loop-n.lives.items c.loop-n.n c.live.new.life;
            journals = slice_set c.loop-n.journals.items c.loop-n.n c.live.new.journal;
            channels = c.end_turn.new.mail.channels;
          }) c.args.ins.now (slice_set c.loop-n.outs.items c.loop-n.n c.end_turn.new.row)) (sym (c.in_ok-end_turn.ensures.links ∙ c.in_ok-live.ensures.links)) one.work;
      lived = one.lived _ inv.lived;
      rows = length-set_at _ _ _ ∙ inv.rows;
      end = inv.end;
      outputs = c.in_ok-live.ensures.outputs;
    }

pub returns-clause-work : goal.returns-clause-work
returns-clause-work g c =
    let all : c.loop-n.n ≡ length c.args.outs.now.items = omega (arith, c.loop-n.auto.n-end, c.loop-n-test.false, c.loop-n.invariant.end) in
    subst (λ k. IsAtWork g.M.Message.note_of g.T.Node.step g.T.Node.stands_at g.W.Named.course g.W.Named.opening g.W.Named.line c.args.numbers.now c.args.dials.now c.loop-n.mail.links c.args.beat k
    (record { nodes = c.loop-n.nodes.items; lives = c.loop-n.lives.items; journals = c.loop-n.journals.items; channels = c.loop-n.mail.channels }) c.args.ins.now c.loop-n.outs.items) all c.loop-n.invariant.work

pub returns-clause-lived : goal.returns-clause-lived
returns-clause-lived g c =
    let all : c.loop-n.n ≡ length c.args.outs.now.items = omega (arith, c.loop-n.auto.n-end, c.loop-n-test.false, c.loop-n.invariant.end) in
    subst (λ k. HaveLived g.M.Message.note_of g.T.Node.step c.args.dials.now c.args.beat k
    (record { nodes = c.args.nodes.now.items; lives = c.args.lives.now.items; journals = c.args.journals.now.items; channels = c.args.mail.now.channels })
    (record { nodes = c.loop-n.nodes.items; lives = c.loop-n.lives.items; journals = c.loop-n.journals.items; channels = c.loop-n.mail.channels })) all c.loop-n.invariant.lived
