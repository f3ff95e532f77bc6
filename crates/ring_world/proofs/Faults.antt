-- What holds where an event has no fault.
use Rattle.std.proofs.Common.{◌≡◌, ℕ, zero, suc, ◌+◌, ◌<◌, ◌≤◌, List, [], ◌∷◌, Bool, true, false, not, ◌&&◌, ◌||◌}
use Rattle.std.proofs.Common.{Option, Some, None, refl, ap, sym, ◌∙◌, subst, arith, cond, ⊎_elim, inl, inr}
use Rattle.std.specs.Prelude.{slice_get, nat_le, min, max, is_some, ◌==◌, ◌⊎◌}
use Rattle.std.specs.List.{AllByRecursion}
use Rattle.std.specs.Option.{option_or}
use Rattle.std.proofs.lemmas.Option.{none-some}
use Rattle.std.proofs.lemmas.Bool.{eqb-true, eq-eqb}
use Rattle.std.proofs.lemmas.Bool.Decides.{nat_tests}
use Rattle.tiger_base.specs.declared.number.LinkNo.{LinkNo}
use Rattle.slot_plan.specs.declared.params.Params.{Params}
use Rattle.slot_plan.specs.Times.{time_of}
use Rattle.node_kit.specs.Links.{links_of, ends_of, leads_to}
use Rattle.run_facts.specs.Events.{Dated}
use Rattle.ring_world.specs.declared.event.Act.{Act}
use Rattle.ring_world.specs.declared.event.Act.TheVariants as act
use Rattle.ring_world.specs.declared.event.Event.{Event}
use Rattle.ring_world.specs.declared.event.StepFault.{StepFault}
use Rattle.ring_world.specs.declared.event.StepFault.TheVariants as fault
use Rattle.ring_world.specs.Machine.{Being, Way, oldest}
use Rattle.ring_world.specs.Faults.{beat_fault, is_behind, least_behind, missed_fault, is_past, may_return, dead_fault}
use Rattle.ring_world.specs.Faults.{life_fault, has_done, is_shown, stamp_fault, node_fault, is_next, early_fault, get_fault}
use Rattle.ring_world.specs.Faults.{late_in, least_late, cub_before, cub_after, has_died, beside_fault, neighbour_fault}

pub or-none : (a o : Option StepFault) → option_or a o ≡ None → (a ≡ None) × (o ≡ None)
or-none None o h = (refl, h)
or-none (Some f) o h = absurd (none-some f (sym h))

-- a test that must be false, and one that must be true
if-none : (t : Bool) (f : StepFault) (o : Option StepFault) → cond t (Some f) o ≡ None → (t ≡ false) × (o ≡ None)
if-none true f o h = absurd (none-some f (sym h))
if-none false f o h = (refl, h)

unless-none : (t : Bool) (f : StepFault) (o : Option StepFault) → cond t o (Some f) ≡ None → (t ≡ true) × (o ≡ None)
unless-none true f o h = (refl, h)
unless-none false f o h = absurd (none-some f (sym h))

both : (a b : Bool) → a && b ≡ true → (a ≡ true) × (b ≡ true)
both true b h = (refl, h)
both false b h = absurd (cc)

neither : (a b : Bool) → a || b ≡ false → (a ≡ false) × (b ≡ false)
neither true b h = absurd (cc)
neither false b h = (refl, h)

either : (a b : Bool) → a || b ≡ true → (a ≡ true) ⊎ (b ≡ true)
either true b h = inl refl
either false b h = inr h

pub beat-none : (now b : ℕ) → beat_fault now b ≡ None → (b ≡ now) ⊎ (b ≡ suc now)
beat-none now b h =
    let q = unless-none (b == now || b == suc now) (fault.WrongBeat now) None h in
    ⊎_elim (λ e. inl (eqb-true _ _ e)) (λ e. inr (eqb-true _ _ e)) (either (b == now) (b == suc now) q.0)

behind-none : {S : Type 0} (now i : ℕ) (bs : List (Being S)) → least_behind now i bs ≡ None → (k : ℕ) (c : Being S) → slice_get bs k ≡ Some c → is_behind now c ≡ false
behind-none now i [] h k c at = absurd (none-some c at)
behind-none {S} now i (b ∷ bs) h zero c at =
    let same : b ≡ c = cc in
    ap (is_behind now) (sym same) ∙ (if-none (is_behind now b) (fault.TickMissed (record { 0 = i })) (least_behind now (suc i) bs) h).0
behind-none now i (b ∷ bs) h (suc k) c at =
    behind-none now (suc i) bs (if-none (is_behind now b) (fault.TickMissed (record { 0 = i })) (least_behind now (suc i) bs) h).1 k c at

-- who lives has ticked in all beats before
pub missed-none : {S : Type 0} (now b : ℕ) (bs : List (Being S)) → (b ≡ now) ⊎ (b ≡ suc now) → missed_fault now b bs ≡ None
    → (k : ℕ) (c : Being S) → slice_get bs k ≡ Some c → c.dead ≡ false → now ≤ c.ticked → b ≤ c.ticked
missed-none {S} now b bs goes h k c at alive low = ⊎_elim
    (λ (same : b ≡ now). omega (arith, same, low))
    (λ (next : b ≡ suc now).
    let t : (b == suc now) ≡ true = eq-eqb _ _ next in
    let none : least_behind now 0 bs ≡ None = sym (ap (λ q. cond q (least_behind now 0 bs) None) t) ∙ h in
    let test : not c.dead && nat_le c.ticked now ≡ false = behind-none now 0 bs none k c at in
    let ticks : nat_le c.ticked now ≡ false = sym (ap (λ q. not q && nat_le c.ticked now) alive) ∙ test in
    grind (arith, nat_tests, ticks, next))
    goes

-- an act may happen to a node: it is up; it has never died, if the act is a death; and to return it is dead, and has been
-- for two beats or more
abbrev pub MayAct : {S : Type 0} → Act → ℕ → Being S → Type 0
MayAct (act.Get link number) beat b = b.dead ≡ false
MayAct (act.Tick node) beat b = b.dead ≡ false
MayAct (act.Die cub) beat b = (b.dead ≡ false) × (b.died ≡ None)
MayAct (act.DieIn final sends) beat b = (b.dead ≡ false) × (b.died ≡ None)
MayAct (act.Return cub) beat b = (b.dead ≡ true) × (d : ℕ) × (b.died ≡ Some d) × (d + 2 ≤ beat)

dead-none : (n : ℕ) (t : Bool) → dead_fault n t ≡ None → t ≡ false
dead-none n t h = (if-none t (fault.Dead (record { 0 = n })) None h).0

none-of : {X : Type 0} (o : Option X) → is_some o ≡ false → o ≡ None
none-of None h = refl
none-of (Some x) h = absurd (cc)

never-none : {S : Type 0} (n : ℕ) (b : Being S) → dead_fault n (b.dead || is_some b.died) ≡ None
    → (b.dead ≡ false) × (b.died ≡ None)
never-none n b h =
    let q = neither b.dead (is_some b.died) (dead-none n (b.dead || is_some b.died) h) in
    (q.0, none-of b.died q.1)

past-some : (beat : ℕ) (o : Option ℕ) → is_past beat o ≡ true → (d : ℕ) × (o ≡ Some d) × (d + 2 ≤ beat)
past-some beat None h = absurd (cc)
past-some beat (Some d) h = (d, refl, grind (arith, nat_tests, h))

pub life-none : {S : Type 0} (n : ℕ) (a : Act) (beat : ℕ) (b : Being S) → life_fault n a beat b ≡ None → MayAct a beat b
life-none n (act.Get link number) beat b h = dead-none n b.dead h
life-none n (act.Tick node) beat b h = dead-none n b.dead h
life-none n (act.Die cub) beat b h = never-none n b h
life-none n (act.DieIn final sends) beat b h = never-none n b h
life-none n (act.Return cub) beat b h =
    let q = unless-none (may_return beat b) (fault.NotBack (record { 0 = n })) None h in
    let one = both b.dead (is_past beat b.died && not b.returned) q.0 in
    let two = both (is_past beat b.died) (not b.returned) one.1 in
    let d = past-some beat b.died two.0 in
    (one.0, d.0, d.1, d.2)

pub record IsFree {S : Type 0} (p : Params) (e : Event) (b : Being S) : Type 0 where
  pub life : MayAct e.act e.stamp.beat b
  pub undone : has_done e.act e.stamp.beat b ≡ false
  pub from : time_of p e.stamp.beat ≤ e.stamp.reading
  pub until : e.stamp.reading ≤ time_of p e.stamp.beat + p.skew
  pub later : b.reading ≤ e.stamp.reading

pub node-none : {S : Type 0} (p : Params) (n : ℕ) (e : Event) (b : Being S) → node_fault p n e (Some b) ≡ None
    → IsFree p e b
node-none p n e b h =
    let one = or-none (life_fault n e.act e.stamp.beat b) (stamp_fault p n e b) h in
    let two = if-none (has_done e.act e.stamp.beat b) (fault.Ticked (record { 0 = n }))
    (cond (is_shown p e.stamp b) None (Some (fault.ReadingOff e.stamp.reading))) one.1 in
    let three = unless-none (is_shown p e.stamp b) (fault.ReadingOff e.stamp.reading) None two.1 in
    let first = both (nat_le (time_of p e.stamp.beat) e.stamp.reading)
    (nat_le e.stamp.reading (time_of p e.stamp.beat + p.skew) && nat_le b.reading e.stamp.reading) three.0 in
    let second = both (nat_le e.stamp.reading (time_of p e.stamp.beat + p.skew)) (nat_le b.reading e.stamp.reading) first.1 in
    let f = first.0 in
    let u = second.0 in
    let l = second.1 in
    record {
      life = life-none n e.act e.stamp.beat b one.0;
      undone = two.0;
      from = grind (arith, nat_tests, f);
      until = grind (arith, nat_tests, u);
      later = grind (arith, nat_tests, l);
    }

-- the oldest message of a link, and where it is under way
pub record IsOldest {M : Type 0} (ways : List (Way M)) (l beat : ℕ) : Type 0 where
  pub way : Way M
  pub here : slice_get ways l ≡ Some way
  pub head : Dated M
  pub tail : List (Dated M)
  pub all : way.under_way ≡ head ∷ tail
  pub first : oldest ways l ≡ Some head
  pub other : head.beat ≡ beat → ⊥

early-none : {M : Type 0} (beat : ℕ) (f : StepFault) (o : Option (Dated M)) → early_fault beat f o ≡ None → (d : Dated M) × (o ≡ Some d) × (d.beat ≡ beat → ⊥)
early-none beat f None h = absurd (none-some f (sym h))
early-none beat f (Some d) h =
    let q = if-none (d.beat == beat) (fault.TooEarly d.beat) None h in
    (d, refl, λ e. (let t : (d.beat == beat) ≡ true = eq-eqb _ _ e in let u = q.0 in absurd (cc)))

pub take-none : {M : Type 0} (ways : List (Way M)) (beat : ℕ) (link : LinkNo) (number : ℕ) → get_fault ways beat link number ≡ None → IsOldest ways link.0 beat
take-none {M} ways beat link number h =
    let one = unless-none (is_next number (slice_get ways link.0)) (fault.NotNext link) (early_fault beat (fault.NotNext link) (oldest ways link.0)) h in
    let two = early-none beat (fault.NotNext link) (oldest ways link.0) one.1 in
    at_way (slice_get ways link.0) refl two.0 two.1 two.2
  where
    under : (w : Way M) (ws : List (Dated M)) (d : Dated M) → slice_get ways link.0 ≡ Some w → w.under_way ≡ ws → oldest ways link.0 ≡ Some d → (d.beat ≡ beat → ⊥) → IsOldest ways link.0 beat
    under w [] d at is first other =
        let q : oldest ways link.0 ≡ None = rw (at, is) refl in absurd (none-some d (sym q ∙ first))
    under w (x ∷ xs) d at is first other =
        let q : oldest ways link.0 ≡ Some x = rw (at, is) refl in
        let same : Some x ≡ Some d = sym q ∙ first in
        let eq : x ≡ d = cc in
        record { way = w; here = at; head = x; tail = xs; all = is; first = q; other = λ e. other (ap (λ (y : Dated M). y.beat) (sym eq) ∙ e) }

    at_way : (o : Option (Way M)) → slice_get ways link.0 ≡ o → (d : Dated M) → oldest ways link.0 ≡ Some d → (d.beat ≡ beat → ⊥) → IsOldest ways link.0 beat
    at_way None at d first other = let q : oldest ways link.0 ≡ None = rw at refl in absurd (none-some d (sym q ∙ first))
    at_way (Some w) at d first other = under w w.under_way d at refl first other

late-in-none : {M : Type 0} (l most beat : ℕ) (ds : List (Dated M)) → late_in l most beat ds ≡ None → AllByRecursion (λ (d : Dated M). beat < d.beat + most) ds
late-in-none l most beat [] h = tt
late-in-none l most beat (d ∷ ds) h =
    let q = if-none (nat_le (d.beat + most) beat) (fault.TooLate (record { 0 = l }) d.beat) (late_in l most beat ds) h in
    let t = q.0 in
    (grind (arith, nat_tests, t), late-in-none l most beat ds q.1)

pub late-none : {M : Type 0} (p : Params) (n beat l : ℕ) (ws : List (Way M)) → least_late p n beat l ws ≡ None → (k j : ℕ) (w : Way M) → l + k ≡ j → slice_get ws k ≡ Some w
    → leads_to n (ends_of (links_of p) j) ≡ true → AllByRecursion (λ (d : Dated M). beat < d.beat + p.delay) w.under_way
late-none p n beat l [] h k j w sum at leads = absurd (none-some w at)
late-none {M} p n beat l (v ∷ ws) h zero j w sum at leads =
    let parts = or-none (cond (leads_to n (ends_of (links_of p) l)) (late_in l p.delay beat v.under_way) None) (least_late p n beat (suc l) ws) h in
    let same_link : j ≡ l = omega (arith, sum) in
    let test : leads_to n (ends_of (links_of p) l) ≡ true = ap (λ q. leads_to n (ends_of (links_of p) q)) (sym same_link) ∙ leads in
    let none : late_in l p.delay beat v.under_way ≡ None = sym (ap (λ q. cond q (late_in l p.delay beat v.under_way) None) test) ∙ parts.0 in
    let same : v ≡ w = cc in
    subst (λ (x : Way M). AllByRecursion (λ (d : Dated M). beat < d.beat + p.delay) x.under_way) same (late-in-none l p.delay beat v.under_way none)
late-none {M} p n beat l (v ∷ ws) h (suc k) j w sum at leads =
    let parts = or-none (cond (leads_to n (ends_of (links_of p) l)) (late_in l p.delay beat v.under_way) None) (least_late p n beat (suc l) ws) h in
    late-none p n beat (suc l) ws parts.1 k j w (omega (arith, sum)) at leads

-- neither neighbour of a cub that may die has died
pub beside-none : {S : Type 0} (beings : List (Being S)) (a b : ℕ) → beside_fault beings a b ≡ None
    → (has_died (slice_get beings a) ≡ false) × (has_died (slice_get beings b) ≡ false)
beside-none {S} beings a b h =
    let rest = cond (has_died (slice_get beings b)) (Some (fault.NeighbourDead (record { 0 = b }))) None in
    let one = if-none (has_died (slice_get beings a)) (fault.NeighbourDead (record { 0 = a })) rest h in
    let two = if-none (has_died (slice_get beings b)) (fault.NeighbourDead (record { 0 = b })) None one.1 in
    (one.0, two.0)

least-and-most : (P : ℕ → Type 0) (a b : ℕ) → P (min a b) → P (max a b) → P a × P b
least-and-most P a b low high = ⊎_elim
    (λ (h : a ≤ b).
    let q : min a b ≡ a = omega (arith, h) in
    let r : max a b ≡ b = omega (arith, h) in
    (subst P q low, subst P r high))
    (λ (h : b ≤ a).
    let q : min a b ≡ b = omega (arith, h) in
    let r : max a b ≡ a = omega (arith, h) in
    (subst P r high, subst P q low))
    (either_way a b)
  where
    either_way : (x y : ℕ) → (x ≤ y) ⊎ (y ≤ x)
    either_way zero y = inl (omega arith)
    either_way (suc x) zero = inr (omega arith)
    either_way (suc x) (suc y) = ⊎_elim (λ h. inl (omega (arith, h))) (λ h. inr (omega (arith, h))) (either_way x y)

pub death-none : {S : Type 0} (p : Params) (beings : List (Being S)) (cub : ℕ) → neighbour_fault p beings cub ≡ None
    → (has_died (slice_get beings (cub_before p cub)) ≡ false) × (has_died (slice_get beings (cub_after p cub)) ≡ false)
death-none {S} p beings cub h =
    let q = beside-none beings (min (cub_before p cub) (cub_after p cub)) (max (cub_before p cub) (cub_after p cub)) h in
    least-and-most (λ k. has_died (slice_get beings k) ≡ false) (cub_before p cub) (cub_after p cub) q.0 q.1
