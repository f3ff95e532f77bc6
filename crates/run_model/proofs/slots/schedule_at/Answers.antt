use Rattle.std.proofs.Common.{◌≡◌, ◌+◌, ℕ, sym, subst, zero-add, arith}
use Rattle.run_facts.specs.Order.{order_from, in_beat}
use Rattle.run_model.specs.Slots.{Walks}
use Rattle.run_model.proofs.Walking.{walks_on, walks_none, one_beat_more, shows_at_end}
use Rattle.run_model.proofs.slots.schedule_at.Goals as goal

pub loop-beat-init : goal.loop-beat-init
loop-beat-init c = walks_none _

pub loop-beat-preserved : goal.loop-beat-preserved
loop-beat-preserved c =
    let js = c.args.k.now.journals in
    rw (one_beat_more 0 c.loop-beat.beat js)
    (walks_on _ c.loop-beat.walk c.beat.new.self (order_from 0 c.loop-beat.beat js) (in_beat (0 + c.loop-beat.beat) 0 js) c.loop-beat.invariant
    (subst (λ (b : ℕ). Walks c.loop-beat.walk c.beat.new.self (in_beat b 0 js)) (sym (zero-add c.loop-beat.beat)) c.in_ok-beat.ensures))

pub returns : goal.returns
returns c =
    let js = c.args.k.now.journals in
    let same : c.loop-beat.beat ≡ c.args.k.now.course.beats = omega arith in
    rw (c.new-3.ensures, ← same)
    (shows_at_end _ c.loop-beat.walk (order_from 0 c.loop-beat.beat js) c.new.ensures.items c.new-2.ensures.items c.loop-beat.invariant)
