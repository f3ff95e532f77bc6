use Rattle.std.proofs.Common.{refl, take, drop, ◌+◌, ◌++◌, ◌∙◌, sym, ap, subst, Vec, Global}
use Rattle.ring_world.specs.declared.event.Event.{Event}
use Rattle.kept_worlds.specs.declared.life_counts.Lives.{Lives}
use Rattle.kept_worlds.specs.Events.{lost_told}
use Rattle.kept_worlds.specs.Telling.{gets_told}
use Rattle.kept_worlds.proofs.Pushing.{AreCounted, counts-open, got-next, other-next, gets-end}
use Rattle.kept_worlds.proofs.telling.push_gets.Goals as goal
use Rattle.kept_worlds.proofs.telling.push_gets.Goals.{in-Got+in_ok-number+in_ok-push_in, in_default}

pub loop-place-init : goal.loop-place-init
loop-place-init c = record {
  told = refl;
  counts = counts-open c.args.course.now c.args.node.0 c.args.journals.now c.args.journal.now _ _ _ c.new-lives.ensures
      c.back_of-back.ensures c.in_ok-lost.ensures;
}

pub loop-place-preserved : goal.loop-place-preserved
loop-place-preserved c = elim c.match-entry.branch [
  | in-Got+in_ok-number+in_ok-push_in w ↦
      (let lost = lost_told c.args.course.now c.args.journals.now c.args.node.0 in
      let t = got-next c.args.course.now c.args.node.0 lost c.loop-place.place c.args.journal.now _ w.in-Got.link w.in-Got.message
      w.in_ok-number.number w.get_act-act.result c.args.events.now.items c.loop-place.events.items _ c.loop-place.lives _ c.loop-place-test.true
      w.in-Got.is w.in_ok-number.ensures.number w.in_ok-number.ensures.counted w.get_act-act.ensures w.in_ok-push_in.ensures
      c.loop-place.invariant.told c.loop-place.invariant.counts in
      record {
        told = ap (λ (v : Vec Event Global). v.items ++ gets_told c.args.course.now c.args.node.0 lost
            (take (c.loop-place.place + 1) c.args.journal.now) (drop (c.loop-place.place + 1) c.args.journal.now))
            w.events-is ∙ t.told;
        counts = subst (λ (s : Lives). AreCounted c.args.course.now c.args.node.0 lost (c.loop-place.place + 1) c.args.journal.now s)
            (sym w.lives-is) t.counts;
      })
  | in_default w ↦
      (let lost = lost_told c.args.course.now c.args.journals.now c.args.node.0 in
      let t = other-next c.args.course.now c.args.node.0 lost c.loop-place.place c.args.journal.now _
      c.args.events.now.items c.loop-place.events.items c.loop-place.lives c.loop-place-test.true
      w.in_default.not-Got c.loop-place.invariant.told c.loop-place.invariant.counts in
      record {
        told = ap (λ (v : Vec Event Global). v.items ++ gets_told c.args.course.now c.args.node.0 lost
            (take (c.loop-place.place + 1) c.args.journal.now) (drop (c.loop-place.place + 1) c.args.journal.now))
            w.events-is ∙ t.told;
        counts = subst (λ (s : Lives). AreCounted c.args.course.now c.args.node.0 lost (c.loop-place.place + 1) c.args.journal.now s)
            (sym w.lives-is) t.counts;
      })
]

pub returns : goal.returns
returns c =
    gets-end c.args.course.now c.args.node.0 (lost_told c.args.course.now c.args.journals.now c.args.node.0) c.loop-place.place
    c.args.journal.now _ _ c.loop-place-test.false c.loop-place.invariant.told
