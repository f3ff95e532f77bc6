-- Each visit of its disk that comes by is tried for a start that waits, so that one free visit is enough.
use Rattle.std.proofs.Common.{◌≡◌, ℕ, ◌+◌, ◌*◌, ◌<◌, ◌≤◌, false, IsTrue, refl, sym, ap, subst, ◌∙◌, arith, ⊎_elim, inl, inr}
use Rattle.std.specs.Prelude.{◌⊎◌}
use Rattle.std.proofs.lemmas.Bool.{cases_Bool, cases_lt, true≢false}
use Rattle.slot_plan.specs.declared.params.Params.{Params}
use Rattle.slot_plan.specs.Conditions.{IsPlan}
use Rattle.slot_plan.specs.Times.{due, in_window, time_of}
use Rattle.slot_plan.proofs.Times.{product_le, time_mono, time_next, time_below}
use Rattle.node_kit.specs.declared.course.Kept.{Kept}
use Rattle.node_kit.specs.Courses.{reading_of, offset_of}
use Rattle.run_model.specs.Schedule.{is_stopped}
use Rattle.run_model.specs.Runs.{order_in}
use Rattle.run_promises.specs.Windows.{IsWide}
use Rattle.run_promises.specs.Kept.{IsKeptWell, after_tick}
use Rattle.run_promises.specs.Waits.{Wait, IsWaiting, IsOver, IsInWindowAt, IsTakenAt, IsATurn}
use Rattle.run_promises.specs.Placing.{EachVisitIsTried, ComesBy, AFreeVisitIsEnough, NobodyWaitsBesideAFreeSlot, AnEmptyRingPutsSoon}
use Rattle.run_promises.proofs.Windows.{within, opening, opens, met}
use Rattle.run_promises.proofs.Visits.{next, some_slot_comes_soon}
use Rattle.run_promises.proofs.Fronts.{put_stays, stop_stays, ends_each}
use Rattle.run_promises.proofs.Starts.{was_ordered, has_start}

-- ---- one visit

-- either its instance is over, or neither put nor stopped
pub over_or_not : (k : Kept) (a : Wait) (beat : ℕ)
    → IsOver k a beat ⊎ (((after_tick k a.cub beat).put a.ask.instance.0 ≡ false) × (is_stopped a.ask.instance.0 (after_tick k a.cub beat).schedule.stops ≡ false))
over_or_not k a beat = ⊎_elim
    (λ t. inl (inl t))
    (λ f. ⊎_elim (λ t. inl (inr t)) (λ g. inr (f, g)) (cases_Bool (is_stopped a.ask.instance.0 (after_tick k a.cub beat).schedule.stops)))
    (cases_Bool ((after_tick k a.cub beat).put a.ask.instance.0))

over_stays : (k : Kept) (a : Wait) (b last : ℕ) → b ≤ last → IsOver k a b → IsOver k a last
over_stays k a b last h over = ⊎_elim
    (λ t. inl (put_stays (order_in k) b last a.cub a.ask.instance.0 h t))
    (λ t. inr (stop_stays (order_in k) b last a.cub a.ask.instance.0 h t))
    over

pub each_visit_is_tried : (k : Kept) → IsKeptWell k → EachVisitIsTried k
each_visit_is_tried k w a beat slot visit h low high in_plan on_disk window =
    let ends = h.ends in
    let ticked = (w.claims.starts.patient a.cub beat (reading_of k.course a.cub beat) h.small
    (omega arith, ends_each k a.cub beat a.last high h.lives, refl)) in
    ⊎_elim
    (λ over. inl over)
    (λ not. inr (ticked.taken a.ask slot visit (was_ordered k.orders a.ask a.ordered h.asked) (has_start k a beat w h low high)
    not.0 not.1 in_plan on_disk window))
    (over_or_not k a beat)

-- ---- a visit that comes by

pub not_earlier : (p : Params) (a b : ℕ) → IsPlan p → time_of p a ≤ time_of p b → a ≤ b
not_earlier p a b ok h = ⊎_elim
    (λ (l : b < a). absurd (omega (arith, time_mono p (b + 1) a (omega arith), time_next p b, ok.ranges.beat)))
    (λ g. g)
    (cases_lt b a)

reading_is : (k : Kept) (c beat : ℕ) → reading_of k.course c beat ≡ time_of k.course.plan.params beat + offset_of k.course c
unfolding time_of
reading_is k c beat = refl

-- it is in the window at one of the ticks
record IsTriedAt (k : Kept) (a : Wait) (slot visit : ℕ) : Type 0 where
  beat : ℕ
  low : a.from ≤ beat
  high : beat ≤ a.last
  window : IsInWindowAt k a.cub beat slot visit

tried_at : (k : Kept) (a : Wait) (slot visit : ℕ) → IsWide k.course.plan.params → a.from ≤ a.last → ComesBy k a slot visit → IsTriedAt k a slot visit
tried_at k a slot visit wide rises by =
    let p = k.course.plan.params in
    let o : ℕ = offset_of k.course a.cub in
    let first = reading_is k a.cub a.from in
    let last = reading_is k a.cub a.last in
    let ahead = by.ahead in
    let in_time = by.in_time in
    ⊎_elim
    (λ (closed : time_of p a.from + o + p.window_a < due p slot visit).
    let b : ℕ = opening p o slot visit in
    let late : o + p.window_a ≤ due p slot visit = omega arith in
    let opened = opens p o slot visit k.course.plan.sound late in
    let o0 = opened.0 in
    let o1 = opened.1 in
    record {
      beat = b;
      low = not_earlier p a.from b k.course.plan.sound (omega arith);
      high = let q = time_next p a.last in let below = time_below p b (a.last + 1) (omega arith) in omega arith;
      window = subst (λ (r : ℕ). IsTrue (in_window p r slot visit)) (sym (reading_is k a.cub b)) (met p o slot visit k.course.plan.sound wide late);
    })
    (λ (opened : due p slot visit ≤ time_of p a.from + o + p.window_a).
    let self : a.from ≤ a.from = omega arith in
    record { beat = a.from; low = self; high = rises; window = within p slot visit (reading_of k.course a.cub a.from) (omega arith) ahead })
    (cases_lt (time_of p a.from + o + p.window_a) (due p slot visit))

-- and there its instance is over, or it is taken
over_or_taken : (k : Kept) (a : Wait) (slot visit : ℕ) → IsKeptWell k → IsWide k.course.plan.params → IsWaiting k a → ComesBy k a slot visit
    → IsOver k a a.last ⊎ ((t : IsTriedAt k a slot visit) × IsTakenAt k a.cub t.beat slot visit)
over_or_taken k a slot visit w wide h by =
    let t = tried_at k a slot visit wide h.rises by in
    ⊎_elim
    (λ over. inl (over_stays k a t.beat a.last t.high over))
    (λ taken. inr (t, taken))
    (each_visit_is_tried k w a t.beat slot visit h t.low t.high by.in_plan by.on_disk t.window)

pub a_free_visit_is_enough : (k : Kept) → IsKeptWell k → AFreeVisitIsEnough k
a_free_visit_is_enough k w a slot visit wide h by free = ⊎_elim
    (λ over. over)
    (λ q. absurd (free q.0.beat q.0.low q.0.high q.1))
    (over_or_taken k a slot visit w wide h by)

-- ---- a turn

-- in a turn each slot comes by
comes_by : (k : Kept) (a : Wait) (slot : ℕ) → IsWaiting k a → IsATurn k.course.plan.params a.from a.last → slot < k.course.plan.params.slots
    → (visit : ℕ) × ComesBy k a slot visit
comes_by k a slot h turn in_plan =
    let p = k.course.plan.params in
    let first = reading_is k a.cub a.from in
    let last = reading_is k a.cub a.last in
    let n = next p slot a.ask.disk.0 (reading_of k.course a.cub a.from + p.window_b + 1) k.course.plan.sound.ranges in_plan h.disk in
    let low = n.low in
    let whole = turn.0 in
    let begun = turn.1 in (
      n.visit,
      record {
        in_plan = in_plan;
        on_disk = n.on_disk;
        ahead = omega arith;
        in_time = ⊎_elim (λ l. omega arith) (λ l. omega arith) n.high;
      },
    )

pub nobody_waits_beside_a_free_slot : (k : Kept) → IsKeptWell k → NobodyWaitsBesideAFreeSlot k
nobody_waits_beside_a_free_slot k w a wide h turn = ⊎_elim
    (λ over. inl over)
    (λ not. inr (λ slot in_plan.
    let c = comes_by k a slot h turn in_plan in
    ⊎_elim
    (λ over. absurd (⊎_elim (λ t. true≢false (sym t ∙ not.0)) (λ t. true≢false (sym t ∙ not.1)) over))
    (λ q. record {
      visit = c.0;
      beat = q.0.beat;
      low = q.0.low;
      high = q.0.high;
      on_disk = c.1.on_disk;
      window = q.0.window;
      taken = q.1;
    })
    (over_or_taken k a slot c.0 w wide h c.1)))
    (over_or_not k a a.last)

-- ---- an empty ring

below_by_product : (n a b : ℕ) → n * a < n * b → a < b
below_by_product n a b h = ⊎_elim (λ l. l) (λ g. absurd (omega (arith, product_le n b n a (omega arith) g))) (cases_lt a b)

sum_product : (n a b : ℕ) → n * (a + b) ≡ n * a + n * b
sum_product n a b = omega arith

pub an_empty_ring_puts_soon : (k : Kept) → IsKeptWell k → AnEmptyRingPutsSoon k
an_empty_ring_puts_soon k w a wide h begun step empty =
    let p = k.course.plan.params in
    let n : ℕ = p.slots in
    let first = reading_is k a.cub a.from in
    let last = reading_is k a.cub a.last in
    let o : ℕ = offset_of k.course a.cub + 1 in
    let low : ℕ = reading_of k.course a.cub a.from + p.window_b + 1 in
    let high : ℕ = reading_of k.course a.cub a.last + p.window_a + 1 in
    let soon = some_slot_comes_soon p a.ask.disk.0 low k.course.plan.sound h.disk (omega arith) in
    let early = soon.high in
    let late = soon.low in
    let low_is : low ≡ time_of p a.from + p.window_b + o = omega arith in
    let high_is : high ≡ time_of p a.last + p.window_a + o = omega arith in
    let low_times : n * low ≡ n * (time_of p a.from + p.window_b) + n * o = ap (λ (x : ℕ). n * x) low_is ∙ sum_product n (time_of p a.from + p.window_b) o in
    let high_times : n * high ≡ n * (time_of p a.last + p.window_a) + n * o = ap (λ (x : ℕ). n * x) high_is ∙ sum_product n (time_of p a.last + p.window_a) o in
    let below : due p soon.slot soon.visit < high = below_by_product n (due p soon.slot soon.visit) high (omega (arith, low_times, high_times, early, step)) in
    a_free_visit_is_enough k w a soon.slot soon.visit wide h
    (record { in_plan = soon.in_plan; on_disk = soon.on_disk; ahead = omega (arith, late); in_time = omega (arith, below) })
    (empty soon.slot soon.visit)
