use Rattle.std.proofs.Common.{◌≡◌, ◌+◌, ◌<◌, ◌≤◌, ◌∙◌, refl, sym, subst, ap, arith, length, false}
use Rattle.ring_cells.specs.Cells.{Seen}
use Rattle.ring_cells.specs.Moves.{DidBeat}
use Rattle.ring_cells.specs.Shares.{AreClosedTo, FirstShort}
use Rattle.ring_cells.proofs.Keeping.{work-lent, work-poured, share-goes, beat-lived}
use Rattle.ring_cells.proofs.Moving.{none-of, some-of}
use Rattle.ring_cells.proofs.Pouring.{closed-none}
use Rattle.ring_cells.proofs.Wired.{ins-wired}
use Rattle.ring_cells.proofs.share.Share.beat.Goals as goal

pub await_all-requires-clause-apart : goal.await_all-requires-clause-apart
await_all-requires-clause-apart g c =
    let W = g.W.Named in
    let sound : c.self.inside.spoilt ≡ false = ap (λ (q : Seen _ _). q.spoilt) c.self.view_is ∙ c.requires.0 in
    let h = c.self.invariant.1 sound in
    h.work.seated.ins_apart

pub await_all-requires-clause-wired : goal.await_all-requires-clause-wired
await_all-requires-clause-wired g c =
    let W = g.W.Named in
    let sound : c.self.inside.spoilt ≡ false = ap (λ (q : Seen _ _). q.spoilt) c.self.view_is ∙ c.requires.0 in
    let h = c.self.invariant.1 sound in
    ins-wired g.M.Message.note_of g.T.Node.step g.T.Node.stands_at W.course W.opening W.line _ _ _ _ _ _ _ _ h.work

pub await_all-requires-clause-below : goal.await_all-requires-clause-below
await_all-requires-clause-below g c =
    let sound : c.self.inside.spoilt ≡ false = ap (λ (q : Seen _ _). q.spoilt) c.self.view_is ∙ c.requires.0 in
    c.self.invariant.3 sound

pub invariant_of-self-then-is_some : goal.invariant_of-self-then-is_some
invariant_of-self-then-is_some g c =
    let W = g.W.Named in
    let sound : c.self.inside.spoilt ≡ false = ap (λ (q : Seen _ _). q.spoilt) c.self.view_is ∙ c.requires.0 in
    let h = c.self.invariant.1 sound in
    (c.self.invariant.0, λ _. share-goes g.M.Message.note_of g.T.Node.step g.T.Node.stands_at W.course W.opening W.line W.home _ _ refl refl refl h.within (work-poured g.M.Message.note_of g.T.Node.step g.T.Node.stands_at W.course W.opening W.line _ _ _ _ _ _ _ _ _ _ _ _ _ c.in-Ok.ensures.links c.in-Ok.ensures.poured h.work) h, λ _. c.self.invariant.2 sound, λ _. some-of _ c.in-Ok.short (sym c.is_some.ensures ∙ c.if-is_some.true) c.in-Ok.ensures.below)

pub pass_beat-requires-clause-closed : goal.pass_beat-requires-clause-closed
pass_beat-requires-clause-closed g c =
    subst (AreClosedTo c.self.inside.next) (sym c.as_slice-3.ensures.value)
    (none-of (AreClosedTo c.self.inside.next c.await_all.new.ins.items) (λ l. FirstShort c.self.inside.next l c.await_all.new.ins.items) c.in-Ok.short (sym c.is_some.ensures ∙ c.if-is_some.false) c.in-Ok.ensures.closed)

pub pass_beat-requires-clause-work : goal.pass_beat-requires-clause-work
pass_beat-requires-clause-work g c =
    let W = g.W.Named in
    let sound : c.self.inside.spoilt ≡ false = ap (λ (q : Seen _ _). q.spoilt) c.self.view_is ∙ c.requires.0 in
    let h = c.self.invariant.1 sound in
    work-lent g.M.Message.note_of g.T.Node.step g.T.Node.stands_at W.course W.opening W.line _ _ _ _ _ _ _ _ _ _ _ c.as_slice.ensures.value c.as_slice-2.ensures.value c.as_slice-3.ensures.value
    (work-poured g.M.Message.note_of g.T.Node.step g.T.Node.stands_at W.course W.opening W.line _ _ _ _ _ _ _ _ _ _ _ _ _ c.in-Ok.ensures.links c.in-Ok.ensures.poured h.work)

pub invariant_of-self-2 : goal.invariant_of-self-2
invariant_of-self-2 g c =
    let W = g.W.Named in
    let sound : c.self.inside.spoilt ≡ false = ap (λ (q : Seen _ _). q.spoilt) c.self.view_is ∙ c.requires.0 in
    let h = c.self.invariant.1 sound in
    let low : c.self.inside.next < c.self.inside.beats = subst (λ (q : Seen _ _). q.next < q.beats) (sym c.self.view_is) c.requires.1 in
    let work = work-lent g.M.Message.note_of g.T.Node.step g.T.Node.stands_at W.course W.opening W.line _ _ _ _ _ _ _ _ _ _ _ (sym c.as_slice.ensures.value) (sym c.as_slice-2.ensures.value) (sym c.as_slice-3.ensures.value)
    c.in-Ok-pass_beat.ensures.work in
    (c.self.invariant.0, λ _. share-goes g.M.Message.note_of g.T.Node.step g.T.Node.stands_at W.course W.opening W.line W.home _ _ refl refl refl (omega (arith, low)) work h, λ _. c.in-Ok-pass_beat.ensures.outputs, λ _. closed-none _ _)

pub returns-clause-done : goal.returns-clause-done
returns-clause-done g c =
    let W = g.W.Named in
    let sound : c.self.inside.spoilt ≡ false = ap (λ (q : Seen _ _). q.spoilt) c.self.view_is ∙ c.requires.0 in
    let h = c.self.invariant.1 sound in
    let was : Seen _ _ = record {
      number = c.self.inside.number;
      beats = c.self.inside.beats;
      next = c.self.inside.next;
      spoilt = c.self.inside.spoilt;
      numbers = c.self.inside.numbers.items;
      dials = c.self.inside.dials.items;
      nodes = c.self.inside.nodes.items;
      lives = c.self.inside.lives.items;
      journals = c.self.inside.journals.items;
      links = c.self.inside.mail.links;
      channels = c.self.inside.mail.channels;
      ins = c.self.inside.ins.items;
      outs = c.self.inside.outs.items;
    } in
    let now : Seen _ _ = record {
      number = c.self.inside.number;
      beats = c.self.inside.beats;
      next = c.self.inside.next + 1;
      spoilt = false;
      numbers = c.self.inside.numbers.items;
      dials = c.self.inside.dials.items;
      nodes = c.pass_beat.new.nodes.items;
      lives = c.pass_beat.new.lives.items;
      journals = c.pass_beat.new.journals.items;
      links = c.pass_beat.new.mail.links;
      channels = c.pass_beat.new.mail.channels;
      ins = c.await_all.new.ins.items;
      outs = c.pass_beat.new.outs.items;
    } in
    subst (λ (q : Seen _ _). DidBeat g.M.Message.note_of g.T.Node.step q now) c.self.view_is
    (beat-lived g.M.Message.note_of g.T.Node.step was now c.as_slice-2.result.now (length c.as_slice.result.now) c.await_all.new.mail.channels c.as_slice-2.ensures.value c.in-Ok-pass_beat.ensures.lived
    (omega (arith, h.work.manned.nodes, ap length c.as_slice.ensures.value)) refl)
