use Rattle.std.proofs.Common.{◌≡◌, ◌+◌, ◌≤◌, Result, Ok, Err, OnOk, length, refl, sym, subst, arith}
use Rattle.std.proofs.lemmas.Result.{on_ok_weaker}
use Rattle.node_kit.specs.Links.{Links}
use Rattle.ring_cells.specs.Cells.{IsAtWork}
use Rattle.ring_cells.proofs.Keeping.{work-at-hand}
use Rattle.ring_cells.proofs.Passing.{goes-over}
use Rattle.ring_cells.proofs.Working.{work-ends}
use Rattle.ring_cells.proofs.turns.pass_beat.Goals as goal

both : {T E : Type 0} (A B : Type 0) (r : Result T E) → OnOk r A → OnOk r B → OnOk r (A × B)
both A B (Ok x) a b = (a, b)
both A B (Err e) a b = a

pub pass_from-requires-clause-first : goal.pass_from-requires-clause-first
pass_from-requires-clause-first g c = omega (arith, c.len.ensures, c.pass_senders.new.outs.ok.0, c.in_ok-pass_senders.ensures.rows, c.in_ok-pass_senders.ensures.work.senders)

pub pass_from-requires-clause-ready : goal.pass_from-requires-clause-ready
pass_from-requires-clause-ready g c =
    work-at-hand g.M.Message.note_of g.T.Node.step g.T.Node.stands_at g.W.Named.course g.W.Named.opening g.W.Named.line c.args.numbers.now c.args.dials.now c.pass_senders.new.mail.links c.args.beat _ _ c.args.ins.now c.pass_senders.new.outs.items c.in_ok-pass_senders.ensures.work

pub returns-clause-work : goal.returns-clause-work
returns-clause-work g c =
    let rows : c.len.result ≡ length c.args.outs.now.items = omega (arith, c.len.ensures, c.pass_senders.new.outs.ok.0, c.in_ok-pass_senders.ensures.rows) in
    let long : length c.pass_senders.new.outs.items ≤ length c.args.outs.now.items = omega (arith, c.in_ok-pass_senders.ensures.rows) in
    on_ok_weaker c.pass_from.result
    (λ h. subst (λ (t : Links). IsAtWork g.M.Message.note_of g.T.Node.step g.T.Node.stands_at g.W.Named.course g.W.Named.opening g.W.Named.line c.args.numbers.now c.args.dials.now t (c.args.beat + 1) 0
    (record { nodes = c.pass_from.new.nodes.items; lives = c.pass_from.new.lives.items; journals = c.pass_from.new.journals.items; channels = c.pass_from.new.mail.channels }) c.args.ins.now c.pass_senders.new.outs.items) (sym h.1)
    (work-ends g.M.Message.note_of g.T.Node.step g.T.Node.stands_at g.W.Named.course g.W.Named.opening g.W.Named.line c.args.numbers.now c.args.dials.now c.pass_senders.new.mail.links c.args.beat (length c.args.numbers.now) _ _ _ (omega arith)
    (goes-over g.M.Message.note_of g.T.Node.step g.T.Node.stands_at g.W.Named.course g.W.Named.opening g.W.Named.line c.args.numbers.now c.args.dials.now c.pass_senders.new.mail.links c.args.beat c.len.result _ _ _ c.args.ins.now c.pass_senders.new.outs.items
    rows c.in_ok-pass_senders.ensures.work c.requires.early c.requires.closed long h.0).work))
    (both _ _ c.pass_from.result c.pass_from.ensures.turns c.pass_from.ensures.links)

pub returns-clause-lived : goal.returns-clause-lived
returns-clause-lived g c =
    let rows : c.len.result ≡ length c.args.outs.now.items = omega (arith, c.len.ensures, c.pass_senders.new.outs.ok.0, c.in_ok-pass_senders.ensures.rows) in
    let long : length c.pass_senders.new.outs.items ≤ length c.args.outs.now.items = omega (arith, c.in_ok-pass_senders.ensures.rows) in
    on_ok_weaker c.pass_from.result
    (λ h. (goes-over g.M.Message.note_of g.T.Node.step g.T.Node.stands_at g.W.Named.course g.W.Named.opening g.W.Named.line c.args.numbers.now c.args.dials.now c.pass_senders.new.mail.links c.args.beat c.len.result _ _ _ c.args.ins.now c.pass_senders.new.outs.items
    rows c.in_ok-pass_senders.ensures.work c.requires.early c.requires.closed long h).lived _ c.in_ok-pass_senders.ensures.lived)
    c.pass_from.ensures.turns
