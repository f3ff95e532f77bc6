-- Runs of a beat or two, of whose cubs most write nothing.
use Rattle.std.proofs.Common.{◌≡◌, ℕ, zero, suc, ◌<◌, Bool, true, false, List, [], ◌∷◌, None, sym, subst, ⊎_elim, arith}
use Rattle.slot_plan.specs.declared.params.Params.{Params}
use Rattle.node_kit.specs.declared.course.Kept.{Kept}
use Rattle.node_kit.specs.declared.course.Order.{Order}
use Rattle.node_kit.specs.declared.journal.Entry.{Entry}
use Rattle.node_kit.specs.Courses.{reading_of}
use Rattle.node_kit.specs.Life.{lifetime_of}
use Rattle.run_model.specs.Fronts.{AnyByRecursion}
use Rattle.run_model.specs.Moments.{Moment}
use Rattle.run_model.specs.Orders.{IsNotPassedOver, IsStartOf, end_of_tick}
use Rattle.run_model.specs.Runs.{EndsBeat, order_in}
use Rattle.run_model.proofs.OnSamples.{of-eight}
use Rattle.run_claims.specs.Accounts.{ticks_in}
use Rattle.audit_waits.specs.Samples.{IsDecidedOf}

no_start : (v : ℕ) (redundant : Bool) (journal : List Entry) → journal ≡ [] → AnyByRecursion (λ e. IsStartOf v redundant e.what) journal → ⊥
no_start v redundant [] e h = h
no_start v redundant (x ∷ xs) e h = absurd (cc)

-- a cub that wrote nothing passes nobody over
pub idle : (p : Params) (orders : List Order) (m : Moment) (cub beat reading : ℕ) → m.journal cub ≡ [] → IsNotPassedOver p orders m cub beat reading
idle p orders m cub beat reading e = record {
  taken = λ a slot visit o s put gone l d w. ⊎_elim
      (λ own. absurd (no_start a.instance.0 false (m.journal cub) e own.1.1))
      (λ next. absurd (no_start a.instance.0 true (m.journal cub) e next.1.1)) s;
}

-- a cub passes nobody over in a beat
abbrev pub PassesNone : Kept → ℕ → ℕ → Type 0
PassesNone k beat cub = EndsBeat (lifetime_of k.course cub) beat
    → IsNotPassedOver k.course.plan.params k.orders (end_of_tick beat cub (order_in k)) cub beat (reading_of k.course cub beat)

pub all_eight : (k : Kept) (beat : ℕ) → PassesNone k beat 0 → PassesNone k beat 1 → PassesNone k beat 2 → PassesNone k beat 3 → PassesNone k beat 4
    → PassesNone k beat 5 → PassesNone k beat 6 → PassesNone k beat 7 → (cub : ℕ) → cub < 8 → PassesNone k beat cub
all_eight k beat p0 p1 p2 p3 p4 p5 p6 p7 = of-eight (PassesNone k beat) p0 p1 p2 p3 p4 p5 p6 p7

pub in_one_beat : (k : Kept) → k.course.plan.params.cubs ≡ 8 → k.course.beats ≡ 1 → ((cub : ℕ) → cub < 8 → PassesNone k 0 cub) → IsDecidedOf k None
in_one_beat k eight one first cub beat reading low t =
    let early = t.0 in
    let here : 0 ≡ beat = omega (arith, one, early) in
    let inside : cub < 8 = omega (arith, eight, low) in
    subst (λ (r : ℕ). IsNotPassedOver k.course.plan.params k.orders (end_of_tick beat cub (order_in k)) cub beat r) (sym t.2)
    (subst (λ (b : ℕ). PassesNone k b cub) here (first cub inside) t.1)

pub in_two_beats : (k : Kept) → k.course.plan.params.cubs ≡ 8 → k.course.beats ≡ 2 → ((cub : ℕ) → cub < 8 → PassesNone k 0 cub)
    → ((cub : ℕ) → cub < 8 → PassesNone k 1 cub) → IsDecidedOf k None
in_two_beats k eight two first second cub beat reading low t =
    let early = t.0 in
    let inside : cub < 8 = omega (arith, eight, low) in
    subst (λ (r : ℕ). IsNotPassedOver k.course.plan.params k.orders (end_of_tick beat cub (order_in k)) cub beat r) (sym t.2)
    (go beat (omega (arith, two, early)) (first cub inside) (second cub inside) t.1)
  where
    go : (b : ℕ) → b < 2 → PassesNone k 0 cub → PassesNone k 1 cub → PassesNone k b cub
    go zero l p q = p
    go (suc zero) l p q = q
    go (suc (suc b)) l p q = absurd (omega (arith, l))

pub in_three_beats : (k : Kept) → k.course.plan.params.cubs ≡ 8 → k.course.beats ≡ 3 → ((cub : ℕ) → cub < 8 → PassesNone k 0 cub)
    → ((cub : ℕ) → cub < 8 → PassesNone k 1 cub) → ((cub : ℕ) → cub < 8 → PassesNone k 2 cub) → IsDecidedOf k None
in_three_beats k eight three first second third cub beat reading low t =
    let early = t.0 in
    let inside : cub < 8 = omega (arith, eight, low) in
    subst (λ (r : ℕ). IsNotPassedOver k.course.plan.params k.orders (end_of_tick beat cub (order_in k)) cub beat r) (sym t.2)
    (go beat (omega (arith, three, early)) (first cub inside) (second cub inside) (third cub inside) t.1)
  where
    go : (b : ℕ) → b < 3 → PassesNone k 0 cub → PassesNone k 1 cub → PassesNone k 2 cub → PassesNone k b cub
    go zero l p q r = p
    go (suc zero) l p q r = q
    go (suc (suc zero)) l p q r = r
    go (suc (suc (suc b))) l p q r = absurd (omega (arith, l))

-- what the cubs pass in beat 0 is all that comes before beat 1
pub passes_before : (k : Kept) (cub beat reading : ℕ) → ((c : ℕ) → c < 8 → PassesNone k 0 c) → cub < 8 → beat < 1 → ticks_in k.course cub beat reading
    → IsNotPassedOver k.course.plan.params k.orders (end_of_tick beat cub (order_in k)) cub beat reading
passes_before k cub zero reading first low l t =
    subst (λ (r : ℕ). IsNotPassedOver k.course.plan.params k.orders (end_of_tick 0 cub (order_in k)) cub 0 r) (sym t.2) (first cub low t.1)
passes_before k cub (suc b) reading first low l t = absurd (omega (arith, l))

-- and what they pass in beats 0 and 1 is all that comes before beat 2
pub passes_before_two : (k : Kept) (cub beat reading : ℕ) → ((c : ℕ) → c < 8 → PassesNone k 0 c) → ((c : ℕ) → c < 8 → PassesNone k 1 c)
    → cub < 8 → beat < 2 → ticks_in k.course cub beat reading
    → IsNotPassedOver k.course.plan.params k.orders (end_of_tick beat cub (order_in k)) cub beat reading
passes_before_two k cub zero reading first second low l t =
    subst (λ (r : ℕ). IsNotPassedOver k.course.plan.params k.orders (end_of_tick 0 cub (order_in k)) cub 0 r) (sym t.2) (first cub low t.1)
passes_before_two k cub (suc zero) reading first second low l t =
    subst (λ (r : ℕ). IsNotPassedOver k.course.plan.params k.orders (end_of_tick 1 cub (order_in k)) cub 1 r) (sym t.2) (second cub low t.1)
passes_before_two k cub (suc (suc b)) reading first second low l t = absurd (omega (arith, l))
