-- That an event has no fault, fault by fault.
use Rattle.std.proofs.Common.{◌≡◌, ℕ, suc, ◌+◌, ◌<◌, ◌≤◌, List, [], ◌∷◌, true, false, Some, None, refl, arith, cond, ⊎_elim, subst, sym}
use Rattle.std.specs.Prelude.{slice_get, nat_le, min, max, ◌==◌}
use Rattle.std.specs.List.{AllByRecursion}
use Rattle.std.proofs.lemmas.Bool.{cases_Bool, eqb-true, eq-eqb}
use Rattle.std.proofs.lemmas.Bool.Decides.{nat_tests}
use Rattle.tiger_base.specs.declared.number.LinkNo.{LinkNo}
use Rattle.slot_plan.specs.declared.params.Params.{Params}
use Rattle.slot_plan.specs.Times.{time_of}
use Rattle.node_kit.specs.Links.{links_of, ends_of, leads_to}
use Rattle.run_facts.specs.Events.{Dated}
use Rattle.ring_world.specs.declared.event.Act.TheVariants as act
use Rattle.ring_world.specs.declared.event.Event.{Event}
use Rattle.ring_world.specs.Machine.{Machine, Being, Way, oldest, node_of}
use Rattle.ring_world.specs.Faults.{beat_fault, is_behind, least_behind, missed_fault, life_fault, has_done, node_fault, is_next, take_fault, late_in, least_late, late_fault, has_died, cub_before, cub_after, beside_fault, death_fault, fault_of}

pub none-beat : (now b : ℕ) → now ≤ b → b ≤ suc now → beat_fault now b ≡ None
none-beat now b low high = ⊎_elim
    (λ (same : (b == now) ≡ true). rw same refl)
    (λ (other : (b == now) ≡ false).
    let next : (b == suc now) ≡ true = grind (arith, nat_tests, other, low, high) in
    rw (other, next) refl)
    (cases_Bool (b == now))

none-behind : {S : Type 0} (now i : ℕ) (bs : List (Being S))
    → ((k : ℕ) (c : Being S) → slice_get bs k ≡ Some c → is_behind now c ≡ false) → least_behind now i bs ≡ None
none-behind now i [] level = refl
none-behind now i (b ∷ bs) level =
    let here = level 0 b refl in
    rw here (none-behind now (suc i) bs (λ k c at. level (suc k) c at))

-- in the next beat, if each that lives has ticked in all before it
pub none-missed : {S : Type 0} (now b : ℕ) (bs : List (Being S))
    → ((k : ℕ) (c : Being S) → slice_get bs k ≡ Some c → c.dead ≡ false → b ≤ c.ticked) → missed_fault now b bs ≡ None
none-missed {S} now b bs level = ⊎_elim
    (λ (next : (b == suc now) ≡ true).
    let is : b ≡ suc now = eqb-true _ _ next in
    rw next (none-behind now 0 bs (λ k c at. ⊎_elim
    (λ (dead : c.dead ≡ true). rw dead refl)
    (λ (lives : c.dead ≡ false).
    let low = level k c at lives in
    let on : nat_le c.ticked now ≡ false = grind (arith, nat_tests, low, is) in
    rw (lives, on) refl)
    (cases_Bool c.dead))))
    (λ (other : (b == suc now) ≡ false). rw other refl)
    (cases_Bool (b == suc now))

pub none-node : {S : Type 0} (p : Params) (n : ℕ) (e : Event) (b : Being S)
    → life_fault n e.act e.stamp.beat b ≡ None → has_done e.act e.stamp.beat b ≡ false → time_of p e.stamp.beat ≤ e.stamp.reading
    → e.stamp.reading ≤ time_of p e.stamp.beat + p.skew → b.reading ≤ e.stamp.reading
    → node_fault p n e (Some b) ≡ None
none-node p n e b lives undone low high later =
    let from : nat_le (time_of p e.stamp.beat) e.stamp.reading ≡ true = grind (arith, nat_tests, low) in
    let until : nat_le e.stamp.reading (time_of p e.stamp.beat + p.skew) ≡ true = grind (arith, nat_tests, high) in
    let on : nat_le b.reading e.stamp.reading ≡ true = grind (arith, nat_tests, later) in
    rw (lives, undone, from, until, on) refl

pub none-take : {M : Type 0} (ways : List (Way M)) (beat : ℕ) (link : LinkNo) (number : ℕ) (w : Way M) (d : Dated M)
    → slice_get ways link.0 ≡ Some w → number ≡ w.gone → oldest ways link.0 ≡ Some d → d.beat < beat
    → take_fault ways beat (act.Get link number) ≡ None
none-take ways beat link number w d at same first earlier =
    let next : is_next number (slice_get ways link.0) ≡ true = rw at (eq-eqb _ _ same) in
    let other : (d.beat == beat) ≡ false = grind (arith, nat_tests, earlier) in
    rw (next, first, other) refl

none-late_in : {M : Type 0} (l most beat : ℕ) (ds : List (Dated M))
    → AllByRecursion (λ (d : Dated M). beat < d.beat + most) ds → late_in l most beat ds ≡ None
none-late_in l most beat [] young = refl
none-late_in l most beat (d ∷ ds) young =
    let first = young.0 in
    let on : nat_le (d.beat + most) beat ≡ false = grind (arith, nat_tests, first) in
    rw on (none-late_in l most beat ds young.1)

none-least_late : {M : Type 0} (p : Params) (n beat l : ℕ) (ws : List (Way M))
    → ((k j : ℕ) (w : Way M) → l + k ≡ j → slice_get ws k ≡ Some w → leads_to n (ends_of (links_of p) j) ≡ true
    → AllByRecursion (λ (d : Dated M). beat < d.beat + p.delay) w.under_way)
    → least_late p n beat l ws ≡ None
none-least_late p n beat l [] young = refl
none-least_late p n beat l (w ∷ ws) young =
    let rest = none-least_late p n beat (suc l) ws
    (λ k j v sum at leads. young (suc k) j v (omega (arith, sum)) at leads) in
    let leads = leads_to n (ends_of (links_of p) l) in
    let here : cond leads (late_in l p.delay beat w.under_way) None ≡ None = ⊎_elim
    (λ (t : leads ≡ true). rw t (none-late_in l p.delay beat w.under_way (young 0 l w (omega arith) refl t)))
    (λ (t : leads ≡ false). rw t refl)
    (cases_Bool leads) in
    rw (here, rest) refl

-- a tick, if all that is under way to the node may still arrive in a later beat
pub none-late : {M : Type 0} (p : Params) (n beat : ℕ) (ws : List (Way M))
    → ((l : ℕ) (w : Way M) → slice_get ws l ≡ Some w → leads_to n (ends_of (links_of p) l) ≡ true
    → AllByRecursion (λ (d : Dated M). beat < d.beat + p.delay) w.under_way)
    → late_fault p ws beat (act.Tick (record { 0 = n })) ≡ None
none-late {M} p n beat ws young =
    none-least_late p n beat 0 ws (λ k j w sum at leads.
    let same : k ≡ j = omega (arith, sum) in
    young k w at (subst (λ (q : ℕ). leads_to n (ends_of (links_of p) q) ≡ true) (sym same) leads))

min-or-max : (P : ℕ → Type 0) (a b : ℕ) → P a → P b → P (min a b) × P (max a b)
min-or-max P a b one two = ⊎_elim
    (λ (t : nat_le a b ≡ true).
    let low : min a b ≡ a = grind (arith, nat_tests, t) in
    let high : max a b ≡ b = grind (arith, nat_tests, t) in
    (subst P (sym low) one, subst P (sym high) two))
    (λ (t : nat_le a b ≡ false).
    let low : min a b ≡ b = grind (arith, nat_tests, t) in
    let high : max a b ≡ a = grind (arith, nat_tests, t) in
    (subst P (sym low) two, subst P (sym high) one))
    (cases_Bool (nat_le a b))

none-beside : {S : Type 0} (beings : List (Being S)) (a b : ℕ) → has_died (slice_get beings a) ≡ false
    → has_died (slice_get beings b) ≡ false → beside_fault beings a b ≡ None
none-beside beings a b one two = rw (one, two) refl

-- a death between two cubs that have never died
pub none-death : {S : Type 0} (p : Params) (beings : List (Being S)) (n : ℕ)
    → has_died (slice_get beings (cub_before p n)) ≡ false → has_died (slice_get beings (cub_after p n)) ≡ false
    → death_fault p beings (act.Die (record { 0 = n })) ≡ None
none-death {S} p beings n before after =
    let both = min-or-max (λ k. has_died (slice_get beings k) ≡ false) (cub_before p n) (cub_after p n) before after in
    none-beside beings (min (cub_before p n) (cub_after p n)) (max (cub_before p n) (cub_after p n)) both.0 both.1

-- all faults apart
pub none-all : {M S : Type 0} (p : Params) (m : Machine M S) (e : Event) → beat_fault m.beat e.stamp.beat ≡ None
    → missed_fault m.beat e.stamp.beat m.beings ≡ None
    → node_fault p (node_of p e.act) e (slice_get m.beings (node_of p e.act)) ≡ None
    → take_fault m.ways e.stamp.beat e.act ≡ None → late_fault p m.ways e.stamp.beat e.act ≡ None
    → death_fault p m.beings e.act ≡ None → fault_of p m e ≡ None
none-all p m e beat missed node take late death = rw (beat, missed, node, take, late, death) refl
