use Rattle.std.proofs.Common.{◌<◌, ◌≤◌, ◌∙◌, sym, refl, subst, arith, Bool, MatchBool}
use Rattle.ring_cells.specs.Moves.{HasMoved}
use Rattle.ring_cells.proofs.Moving.{moved-at, moved-end, done-none, done-on, next-on, same-on}
use Rattle.ring_cells.proofs.share.Share.go_on.Goals as goal

pub each-init : goal.each-init
each-init g c = (tt, tt, c.requires, record { number = refl; numbers = refl; dials = refl; beats = refl }, omega arith, done-none g.M.Message.note_of g.T.Node.step c.args.self.now)

pub returns-then-is_done-clause-moved : goal.returns-then-is_done-clause-moved
returns-then-is_done-clause-moved g c =
    let inv = c.each.invariant in
    let all : c.each.self.beats ≤ c.each.self.next = subst (λ (b : Bool). MatchBool b (c.each.self.beats ≤ c.each.self.next) (c.each.self.next < c.each.self.beats)) c.if-is_done.true c.is_done.ensures.done in
    subst (λ m. HasMoved g.M.Message.note_of g.T.Node.step m c.args.self.now c.each.self) (sym c.moved_after.ensures)
    (moved-end g.M.Message.note_of g.T.Node.step c.each.count c.args.self.now c.each.self inv.5 inv.3.beats all)

pub returns-then-is_some-clause-moved : goal.returns-then-is_some-clause-moved
returns-then-is_some-clause-moved g c =
    let inv = c.each.invariant in
    let low : c.each.self.next < c.each.self.beats = subst (λ (b : Bool). MatchBool b (c.each.self.beats ≤ c.each.self.next) (c.each.self.next < c.each.self.beats)) c.if-is_done.false c.is_done.ensures.done in
    subst (λ m. HasMoved g.M.Message.note_of g.T.Node.step m c.args.self.now c.beat.new.self) (sym c.moved_after-then-is_some.ensures)
    (moved-at g.M.Message.note_of g.T.Node.step c.each.count c.in-Ok.short c.args.self.now c.each.self c.beat.new.self inv.5 inv.3.beats low (sym c.is_some.ensures ∙ c.if-is_some.true) c.in-Ok.ensures.done)

pub each-preserved : goal.each-preserved
each-preserved g c =
    let inv = c.each.invariant in
    let went = sym c.is_some.ensures ∙ c.if-is_some.false in
    let next = next-on g.M.Message.note_of g.T.Node.step c.in-Ok.short c.each.self c.beat.new.self went c.in-Ok.ensures.done in (
      tt,
      tt,
      c.in-Ok.ensures.sound,
      same-on c.args.self.now c.each.self c.beat.new.self inv.3 c.in-Ok.ensures.same,
      omega (arith, next, inv.4),
      done-on g.M.Message.note_of g.T.Node.step c.each.count c.in-Ok.short c.args.self.now c.each.self c.beat.new.self inv.3.dials inv.5 went c.in-Ok.ensures.done,
    )
