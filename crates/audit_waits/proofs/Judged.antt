-- A tick is judged by the tables.
use Rattle.std.proofs.Common.{◌≡◌, ℕ, zero, suc, ◌+◌, ◌-◌, ◌*◌, ◌/◌, ◌%◌, ◌<◌, ◌≤◌, Bool, true, false, not, ◌&&◌, ◌==◌, IsTrue, nat_le, List, [], ◌∷◌, get_or, Option, Some, None, refl, sym, ap, subst, ◌∙◌, ⊎_elim, inl, inr, arith}
use Rattle.std.specs.Prelude.{◌↔◌, ◌⊎◌}
use Rattle.std.specs.Ordering.{is_eq, nat_cmp, ordering_then}
use Rattle.std.proofs.lemmas.Bool.{eqb-true, eq-eqb, false≢true, cases_lt}
use Rattle.std.proofs.lemmas.Nat.{div-add-mod', mod_below, mod-mul-add, div_below, mul-le}
use Rattle.tiger_base.specs.declared.tenancy.Ask.{Ask}
use Rattle.tiger_base.specs.declared.tenancy.Tenancy.{Tenancy}
use Rattle.slot_plan.specs.declared.params.Params.{Params}
use Rattle.slot_plan.specs.Conditions.{IsPlan}
use Rattle.slot_plan.specs.Keys.{Key}
use Rattle.slot_plan.specs.Times.{disk_of, disk_count, in_window}
use Rattle.slot_plan.specs.Windows.{IsOpen}
use Rattle.slot_plan.proofs.Times.{disk_below}
use Rattle.node_kit.specs.declared.course.Order.{Order}
use Rattle.run_model.specs.Fronts.{AnyByRecursion}
use Rattle.run_model.specs.Moments.{Moment, view_of}
use Rattle.run_model.specs.Schedule.{is_stopped}
use Rattle.run_model.specs.Orders.{IsNotPassedOver, IsOfRecentlyStopped, IsOrdered, IsStartOf, IsTaken, HasStart}
use Rattle.run_model.proofs.Reflects.{and_both, and_left, and_right, or_either, or_first, or_second, at_most, either}
use Rattle.audit_frame.specs.Tables.{has_number, has_pair}
use Rattle.audit_frame.proofs.Tabled.{both_same}
use Rattle.audit_waits.specs.Groups.{has_group}
use Rattle.audit_waits.specs.Cubs.{excuses_in}
use Rattle.audit_waits.specs.Holders.{has_its_visit, holder_in}
use Rattle.audit_waits.specs.Starts.{cub_for, waiting_in}
use Rattle.audit_waits.specs.Ticks.{AreDisksServed, AreVisitsTaken, IsDiskServed, TellsWaits, is_missed_by, is_taken_by}
use Rattle.audit_waits.specs.declared.so_far.SoFar.{SoFar}
use Rattle.audit_waits.proofs.Excusing.{excuses_is}
use Rattle.audit_waits.proofs.Ordered.{asked_of}
use Rattle.audit_waits.proofs.Waiting.{waits_is}

-- ---- a visit

its_visit : (o : Option Tenancy) (visit : ℕ) → IsTrue (has_its_visit o visit) ↔ ((t : Tenancy) × (o ≡ Some t) × (t.first ≤ visit) × (visit ≤ t.last))
its_visit None visit = ((λ h. absurd (false≢true h)), (λ h. absurd (none_of h.0 h.1)))
  where
    none_of : (t : Tenancy) → None ≡ Some t → ⊥
    none_of t e = absurd (cc)
its_visit (Some t) visit = (
  (λ h. (
    t,
    refl,
    (at_most t.first visit).0 (and_left (nat_le t.first visit) (nat_le visit t.last) h),
    (at_most visit t.last).0 (and_right (nat_le t.first visit) (nat_le visit t.last) h),
  )),
  (λ h. let same : h.0 ≡ t = one_of h.0 t h.1 in
      and_both (nat_le t.first visit) (nat_le visit t.last)
      ((at_most t.first visit).1 (subst (λ (u : Tenancy). u.first ≤ visit) same h.2))
      ((at_most visit t.last).1 (subst (λ (u : Tenancy). visit ≤ u.last) same h.3))),
)
  where
    one_of : (u v : Tenancy) → Some v ≡ Some u → u ≡ v
    one_of u v e = cc

pub taken_is : (p : Params) (orders : List Order) (s : SoFar) (m : Moment) (c beat : ℕ) (k : Key) → TellsWaits p orders s m
    → IsTrue (is_taken_by p s c beat k) ↔ IsTaken p m c beat k.0.0 k.1
taken_is p orders s m c beat k tells =
    either (has_its_visit (holder_in s.holders k.0.0) k.1) (excuses_in p s.holders s.cubs c beat k.0.0 k.1)
    ((t : Tenancy) × (m.schedule.holder k.0.0 ≡ Some t) × (t.first ≤ k.1) × (k.1 ≤ t.last))
    (AnyByRecursion (IsOfRecentlyStopped p m beat k.0.0 k.1) (view_of m c))
    (subst (λ (o : Option Tenancy). IsTrue (has_its_visit (holder_in s.holders k.0.0) k.1) ↔ ((t : Tenancy) × (o ≡ Some t) × (t.first ≤ k.1) × (k.1 ≤ t.last)))
    (sym (tells.holders.holder k.0.0)) (its_visit (holder_in s.holders k.0.0) k.1))
    (excuses_is p s.holders s.cubs m c beat k.0.0 k.1 tells.holders tells.cubs)

-- all visits of a disk in the window
visits_are : (p : Params) (orders : List Order) (s : SoFar) (m : Moment) (c beat reading disk : ℕ) → TellsWaits p orders s m
    → ((k : Key) → IsOpen p reading disk (is_missed_by p s c beat) k → ⊥) → AreVisitsTaken p m c beat reading disk
visits_are p orders s m c beat reading disk tells none slot visit low on window =
    (taken_is p orders s m c beat (record { 0 = slot }, visit) tells).0 (go (is_taken_by p s c beat (record { 0 = slot }, visit)) refl)
  where
    go : (b : Bool) → is_taken_by p s c beat (record { 0 = slot }, visit) ≡ b → IsTrue b
    go true e = refl
    go false e = absurd (none (record { 0 = slot }, visit) (record { in_plan = low; on_disk = on; window = window; passes = ap not e }))

none_are : (p : Params) (orders : List Order) (s : SoFar) (m : Moment) (c beat reading disk : ℕ) → TellsWaits p orders s m
    → AreVisitsTaken p m c beat reading disk → (k : Key) → IsOpen p reading disk (is_missed_by p s c beat) k → ⊥
none_are p orders s m c beat reading disk tells all k o =
    false≢true (ap not (sym ((taken_is p orders s m c beat k tells).1 (all k.0.0 k.1 o.in_plan o.on_disk o.window))) ∙ o.passes)

-- ---- a disk

group_of : (d v : ℕ) (pairs : List (ℕ × ℕ)) → IsTrue (has_pair d v pairs) → IsTrue (has_group d pairs)
group_of d v [] h = absurd (false≢true h)
group_of d v (k ∷ ks) h = ⊎_elim
    (λ a. or_first (k.0 == d) (has_group d ks)
    (eq-eqb k.0 d (sym (eqb-true d k.0 (and_left (d == k.0) (v == k.1) (sym (both_same d v k.0 k.1) ∙ a))))))
    (λ a. or_second (k.0 == d) (has_group d ks) (group_of d v ks a))
    (or_either (is_eq (ordering_then (nat_cmp d k.0) (nat_cmp v k.1))) (has_pair d v ks) h)

group_has : (d : ℕ) (pairs : List (ℕ × ℕ)) → IsTrue (has_group d pairs) → (v : ℕ) × IsTrue (has_pair d v pairs)
group_has d [] h = absurd (false≢true h)
group_has d (k ∷ ks) h = ⊎_elim
    (λ a. (
      k.1,
      or_first (is_eq (ordering_then (nat_cmp d k.0) (nat_cmp k.1 k.1))) (has_pair d k.1 ks)
          (both_same d k.1 k.0 k.1 ∙ and_both (d == k.0) (k.1 == k.1) (eq-eqb d k.0 (sym (eqb-true k.0 d a))) (eq-eqb k.1 k.1 refl)),
    ))
    (λ a. let r = group_has d ks a in (r.0, or_second (is_eq (ordering_then (nat_cmp d k.0) (nat_cmp r.0 k.1))) (has_pair d r.0 ks) r.1))
    (or_either (k.0 == d) (has_group d ks) h)

pub none_waits : (p : Params) (orders : List Order) (s : SoFar) (m : Moment) (c beat reading : ℕ) (redundant : Bool) (disk : ℕ) (r : Bool)
    → TellsWaits p orders s m → r ≡ has_group disk (waiting_in redundant s.starts) → r ≡ false
    → IsDiskServed p s.starts.disks m c beat reading redundant disk
none_waits p orders s m c beat reading redundant disk r tells is e v waits =
    absurd (false≢true (sym (sym is ∙ e)
    ∙ group_of disk v (waiting_in redundant s.starts) (tells.starts.waiting redundant disk v ∙ waits)))

pub all_taken : (p : Params) (orders : List Order) (s : SoFar) (m : Moment) (c beat reading : ℕ) (redundant : Bool) (disk : ℕ)
    → TellsWaits p orders s m → ((k : Key) → IsOpen p reading disk (is_missed_by p s c beat) k → ⊥)
    → IsDiskServed p s.starts.disks m c beat reading redundant disk
all_taken p orders s m c beat reading redundant disk tells none v waits = visits_are p orders s m c beat reading disk tells none

pub none_asked : (p : Params) (orders : List Order) (s : SoFar) (m : Moment) (c beat reading : ℕ) (redundant : Bool) (disk : ℕ) (r : Bool)
    → TellsWaits p orders s m → r ≡ get_or s.starts.asked.items disk true → r ≡ false
    → IsDiskServed p s.starts.disks m c beat reading redundant disk
none_asked p orders s m c beat reading redundant disk r tells is e v waits =
    let there = and_left (has_pair v disk s.starts.disks) _ waits in
    absurd (false≢true (sym e ∙ (is ∙ asked_of s.starts.asked.items orders v disk tells.asked ((tells.disks v disk).0 there))))

pub some_wait : (p : Params) (orders : List Order) (s : SoFar) (m : Moment) (c beat reading : ℕ) (redundant : Bool) (disk : ℕ) (r q : Bool)
    → TellsWaits p orders s m → r ≡ has_group disk (waiting_in redundant s.starts) → r ≡ true
    → IsTrue q ↔ ((k : Key) → IsOpen p reading disk (is_missed_by p s c beat) k → ⊥)
    → IsTrue q ↔ IsDiskServed p s.starts.disks m c beat reading redundant disk
some_wait p orders s m c beat reading redundant disk r q tells is e judged = (
  (λ h v waits. visits_are p orders s m c beat reading disk tells (judged.0 h)),
  (λ served.
      let v = group_has disk (waiting_in redundant s.starts) (sym is ∙ e) in
      judged.1 (none_are p orders s m c beat reading disk tells
      (served v.0 (sym (tells.starts.waiting redundant disk v.0) ∙ v.1)))),
)

-- ---- the disks of a cub

-- a cub before a cub
before_is : (cubs c before : ℕ) → c < cubs → before ≡ (c + cubs - 1) % cubs → (before + 1 ≡ c) ⊎ ((c ≡ 0) × (before + 1 ≡ cubs))
before_is cubs zero before low is =
    let same : 0 + cubs - 1 ≡ 0 * cubs + (cubs - 1) = omega arith in
    let rest = mod-mul-add 0 cubs (cubs - 1) (omega (arith, low)) in
    let last : before ≡ cubs - 1 = is ∙ (ap (λ (n : ℕ). n % cubs) same ∙ rest) in
    inr (refl, omega (arith, last, low))
before_is cubs (suc c) before low is =
    let same : suc c + cubs - 1 ≡ 1 * cubs + c = omega arith in
    let rest = mod-mul-add 1 cubs c (omega (arith, low)) in
    let last : before ≡ c = is ∙ (ap (λ (n : ℕ). n % cubs) same ∙ rest) in
    inl (omega (arith, last))

-- a disk of a cub, and the next cub of a disk of the one before
own_disk : (cubs c k : ℕ) → c < cubs → (c + k * cubs) % cubs ≡ c
own_disk cubs c k low =
    let same : c + k * cubs ≡ k * cubs + c = omega arith in
    ap (λ (n : ℕ). n % cubs) same ∙ mod-mul-add k cubs c low

next_disk : (cubs c before k : ℕ) → c < cubs → before ≡ (c + cubs - 1) % cubs → (before + k * cubs + 1) % cubs ≡ c
next_disk cubs c before k low is = ⊎_elim
    (λ e.
    let same : before + k * cubs + 1 ≡ k * cubs + c = omega (arith, e) in
    ap (λ (n : ℕ). n % cubs) same ∙ mod-mul-add k cubs c low)
    (λ e.
    let first = e.0 in
    let last = e.1 in
    let same : before + k * cubs + 1 ≡ (k + 1) * cubs + 0 = omega (arith, last) in
    ap (λ (n : ℕ). n % cubs) same ∙ mod-mul-add (k + 1) cubs 0 (omega (arith, low)) ∙ sym first)
    (before_is cubs c before low is)

-- each disk whose cub is the one is one of its disks
its_place : (cubs disks c disk : ℕ) → 0 < cubs → disk < cubs * disks → disk % cubs ≡ c → (k : ℕ) × (k < disks) × (c + k * cubs ≡ disk)
its_place cubs disks c disk some low on =
    let parts = div-add-mod' disk cubs in
    let turned : disk < disks * cubs = omega (arith, low) in
    (disk / cubs, div_below disk cubs disks some turned, omega (arith, parts, on))

cub_back : (cubs c before disk : ℕ) → c < cubs → before ≡ (c + cubs - 1) % cubs → (disk + 1) % cubs ≡ c → disk % cubs ≡ before
cub_back cubs c before disk low is on =
    let parts = div-add-mod' disk cubs in
    let rest = mod_below disk cubs (omega (arith, low)) in
    ⊎_elim
    (λ (inside : disk % cubs + 1 < cubs).
    let same : disk + 1 ≡ disk / cubs * cubs + (disk % cubs + 1) = omega (arith, parts) in
    let here : c ≡ disk % cubs + 1 = sym on ∙ (ap (λ (n : ℕ). n % cubs) same ∙ mod-mul-add (disk / cubs) cubs (disk % cubs + 1) inside) in
    ⊎_elim (λ e. omega (arith, e, here)) (λ e. let first = e.0 in absurd (omega (arith, first, here))) (before_is cubs c before low is))
    (λ (over : cubs ≤ disk % cubs + 1).
    let same : disk + 1 ≡ (disk / cubs + 1) * cubs + 0 = omega (arith, parts, over, rest) in
    let here : c ≡ 0 = sym on ∙ (ap (λ (n : ℕ). n % cubs) same ∙ mod-mul-add (disk / cubs + 1) cubs 0 (omega (arith, low))) in
    ⊎_elim (λ e. absurd (omega (arith, e, here))) (λ e. let last = e.1 in omega (arith, last, over, rest)) (before_is cubs c before low is))
    (cases_lt (disk % cubs + 1) cubs)

-- ---- a tick

-- a start of a disk waits, so that the visits of the disk are taken
taken_for : (p : Params) (orders : List Order) (s : SoFar) (m : Moment) (c beat reading : ℕ) (redundant : Bool) (cub : ℕ) (ask : Ask) → IsPlan p
    → TellsWaits p orders s m → AreDisksServed p s.starts.disks m c beat reading redundant cub
    → IsOrdered orders ask → AnyByRecursion (λ e. IsStartOf ask.instance.0 redundant e.what) (m.journal (cub_for p redundant ask.disk.0))
    → m.put ask.instance.0 ≡ false → is_stopped ask.instance.0 m.schedule.stops ≡ false → ask.disk.0 % p.cubs ≡ cub
    → (slot visit : ℕ) → slot < p.slots → disk_of p visit ≡ ask.disk.0 → IsTrue (in_window p reading slot visit) → IsTaken p m c beat slot visit
taken_for p orders s m c beat reading redundant cub ask plan tells served ordered got put stopped on slot visit low at window =
    let some : 0 < p.cubs = omega (arith, plan.ranges.cubs) in
    let below : ask.disk.0 < p.cubs * p.disks = subst (λ (d : ℕ). d < disk_count p) at (disk_below p visit plan.ranges) in
    let k = its_place p.cubs p.disks cub ask.disk.0 some below on in
    let waits = (waits_is p orders s.starts.disks m redundant ask.disk.0 ask.instance.0 tells.disks).1 (record {
      ordered = (ask, ordered, refl, refl);
      got = got;
      put = put;
      stopped = stopped;
    }) in
    subst (λ (d : ℕ). IsDiskServed p s.starts.disks m c beat reading redundant d) k.2 (served k.0 k.1) ask.instance.0 waits slot visit low at window

-- and back
served_for : (p : Params) (orders : List Order) (s : SoFar) (m : Moment) (c beat reading : ℕ) (redundant : Bool) (cub : ℕ)
    → TellsWaits p orders s m → IsNotPassedOver p orders m c beat reading
    → ((k : ℕ) (ask : Ask) → ask.disk.0 ≡ cub + k * p.cubs
    → AnyByRecursion (λ e. IsStartOf ask.instance.0 redundant e.what) (m.journal (cub_for p redundant (cub + k * p.cubs))) → HasStart p m c ask)
    → AreDisksServed p s.starts.disks m c beat reading redundant cub
served_for p orders s m c beat reading redundant cub tells patient has k low v waits slot visit in_plan on window =
    let w = (waits_is p orders s.starts.disks m redundant (cub + k * p.cubs) v tells.disks).0 waits in
    let who = w.ordered.2 in
    let disk = w.ordered.3 in
    patient.taken w.ordered.0 slot visit w.ordered.1
    (has k w.ordered.0 disk
    (subst (λ (i : ℕ). AnyByRecursion (λ e. IsStartOf i redundant e.what) (m.journal (cub_for p redundant (cub + k * p.cubs)))) (sym who) w.got))
    (ap m.put who ∙ w.put) (ap (λ (i : ℕ). is_stopped i m.schedule.stops) who ∙ w.stopped) in_plan (on ∙ sym disk) window

tick_there : (p : Params) (orders : List Order) (s : SoFar) (m : Moment) (c beat reading before : ℕ) → IsPlan p → c < p.cubs
    → before ≡ (c + p.cubs - 1) % p.cubs → TellsWaits p orders s m
    → (m.dead c ≡ false → AreDisksServed p s.starts.disks m c beat reading false c)
    → (m.believed c before ≡ true → AreDisksServed p s.starts.disks m c beat reading true before) → IsNotPassedOver p orders m c beat reading
tick_there p orders s m c beat reading before plan low is tells own other = record {
  taken = λ ask slot visit ordered start put stopped in_plan on window. ⊎_elim
      (λ a. taken_for p orders s m c beat reading false c ask plan tells (own a.1.0) ordered
      (subst (λ (n : ℕ). AnyByRecursion (λ e. IsStartOf ask.instance.0 false e.what) (m.journal n)) (sym a.0) a.1.1)
      put stopped a.0 slot visit in_plan on window)
      (λ a.
      let back = cub_back p.cubs c before ask.disk.0 low is a.0 in
      taken_for p orders s m c beat reading true before ask plan tells
      (other (ap (m.believed c) (sym back) ∙ a.1.0)) ordered
      (subst (λ (n : ℕ). AnyByRecursion (λ e. IsStartOf ask.instance.0 true e.what) (m.journal n)) (sym a.0) a.1.1)
      put stopped back slot visit in_plan on window)
      start;
}

tick_back : (p : Params) (orders : List Order) (s : SoFar) (m : Moment) (c beat reading before : ℕ) → c < p.cubs → before < p.cubs
    → before ≡ (c + p.cubs - 1) % p.cubs → TellsWaits p orders s m → IsNotPassedOver p orders m c beat reading
    → (m.dead c ≡ false → AreDisksServed p s.starts.disks m c beat reading false c)
    × (m.believed c before ≡ true → AreDisksServed p s.starts.disks m c beat reading true before)
tick_back p orders s m c beat reading before low early is tells patient = (
  (λ lives. served_for p orders s m c beat reading false c tells patient
      (λ k ask disk got.
      let on = own_disk p.cubs c k low in
      inl (
        ap (λ (n : ℕ). n % p.cubs) disk ∙ on,
        (lives, subst (λ (n : ℕ). AnyByRecursion (λ e. IsStartOf ask.instance.0 false e.what) (m.journal n)) on got),
      ))),
  (λ believed. served_for p orders s m c beat reading true before tells patient
      (λ k ask disk got.
      let on = next_disk p.cubs c before k low is in
      let home = own_disk p.cubs before k early in
      inr (
        ap (λ (n : ℕ). (n + 1) % p.cubs) disk ∙ on,
        (
          ap (λ (n : ℕ). m.believed c (n % p.cubs)) disk ∙ ap (m.believed c) home ∙ believed,
          subst (λ (n : ℕ). AnyByRecursion (λ e. IsStartOf ask.instance.0 true e.what) (m.journal n)) on got,
        ),
      ))),
)

-- if no start waits anywhere
pub nobody_waits : (p : Params) (orders : List Order) (s : SoFar) (m : Moment) (c beat reading : ℕ) → IsPlan p → c < p.cubs
    → TellsWaits p orders s m → ((redundant : Bool) → waiting_in redundant s.starts ≡ []) → IsNotPassedOver p orders m c beat reading
nobody_waits p orders s m c beat reading plan low tells none =
    tick_there p orders s m c beat reading ((c + p.cubs - 1) % p.cubs) plan low refl tells
    (λ lives. none_there false c) (λ believed. none_there true ((c + p.cubs - 1) % p.cubs))
  where
    none_there : (redundant : Bool) (cub : ℕ) → AreDisksServed p s.starts.disks m c beat reading redundant cub
    none_there redundant cub k few v waits = absurd (false≢true
        (sym (ap (has_pair (cub + k * p.cubs) v) (none redundant)) ∙ (tells.starts.waiting redundant (cub + k * p.cubs) v ∙ waits)))

-- the plain starts of a cub count if it has never died
pub not_living : (p : Params) (orders : List Order) (s : SoFar) (m : Moment) (c : ℕ) (died : Bool) (D : Type 0) → TellsWaits p orders s m
    → died ≡ has_number c s.cubs.dead → died ≡ true → IsTrue true ↔ (m.dead c ≡ false → D)
not_living p orders s m c died D tells told e = (
  (λ t lives. absurd (false≢true (sym lives ∙ (tells.cubs.dead c ∙ (sym told ∙ e))))),
  (λ f. refl),
)

pub is_living : (p : Params) (orders : List Order) (s : SoFar) (m : Moment) (c : ℕ) (died q : Bool) (D : Type 0) → TellsWaits p orders s m
    → died ≡ has_number c s.cubs.dead → died ≡ false → IsTrue q ↔ D → IsTrue q ↔ (m.dead c ≡ false → D)
is_living p orders s m c died q D tells told e judged = (
  (λ t lives. judged.0 t),
  (λ f. judged.1 (f (tells.cubs.dead c ∙ (sym told ∙ e)))),
)

-- the redundant starts of the cub before a cub count if that one is believed dead
pub not_believed : (p : Params) (orders : List Order) (s : SoFar) (m : Moment) (c before : ℕ) (believes : Bool) (D : Type 0) → TellsWaits p orders s m
    → believes ≡ has_pair c before s.cubs.believed → believes ≡ false → IsTrue true ↔ (m.believed c before ≡ true → D)
not_believed p orders s m c before believes D tells told e = (
  (λ t believed. absurd (false≢true (sym e ∙ (told ∙ (sym (tells.cubs.believed c before) ∙ believed))))),
  (λ f. refl),
)

pub is_believed : (p : Params) (orders : List Order) (s : SoFar) (m : Moment) (c before : ℕ) (believes q : Bool) (D : Type 0) → TellsWaits p orders s m
    → believes ≡ has_pair c before s.cubs.believed → believes ≡ true → IsTrue q ↔ D → IsTrue q ↔ (m.believed c before ≡ true → D)
is_believed p orders s m c before believes q D tells told e judged = (
  (λ t believed. judged.0 t),
  (λ f. judged.1 (f (tells.cubs.believed c before ∙ (sym told ∙ e)))),
)

pub tick_judged : (p : Params) (orders : List Order) (s : SoFar) (m : Moment) (c beat reading before : ℕ) (own other : Bool) → IsPlan p
    → c < p.cubs → before < p.cubs → before ≡ (c + p.cubs - 1) % p.cubs → TellsWaits p orders s m
    → IsTrue own ↔ (m.dead c ≡ false → AreDisksServed p s.starts.disks m c beat reading false c)
    → IsTrue other ↔ (m.believed c before ≡ true → AreDisksServed p s.starts.disks m c beat reading true before)
    → IsTrue (own && other) ↔ IsNotPassedOver p orders m c beat reading
tick_judged p orders s m c beat reading before own other plan low early is tells first second = (
  (λ h. tick_there p orders s m c beat reading before plan low is tells (first.0 (and_left own other h)) (second.0 (and_right own other h))),
  (λ patient.
      let all = tick_back p orders s m c beat reading before low early is tells patient in
      and_both own other (first.1 all.0) (second.1 all.1)),
)

-- ---- the loop over the disks of a cub

pub disk_inside : (p : Params) (cub k disk : ℕ) → cub < p.cubs → k < p.disks → disk ≡ cub + k * p.cubs → disk < disk_count p
disk_inside p cub k disk low few is =
    let most = mul-le (k + 1) p.cubs p.disks p.cubs (omega (arith, few)) (omega arith) in
    omega (arith, low, is, most)

pub disk_missed : (p : Params) (s : SoFar) (m : Moment) (c beat reading : ℕ) (redundant : Bool) (cub k disk : ℕ) (r : Bool) → k < p.disks
    → disk ≡ cub + k * p.cubs → r ≡ false → IsTrue r ↔ IsDiskServed p s.starts.disks m c beat reading redundant disk
    → IsTrue false ↔ AreDisksServed p s.starts.disks m c beat reading redundant cub
disk_missed p s m c beat reading redundant cub k disk r low is e judged = (
  (λ t. absurd (false≢true t)),
  (λ all. sym e ∙ judged.1 (subst (λ (d : ℕ). IsDiskServed p s.starts.disks m c beat reading redundant d) (sym is) (all k low))),
)

pub disk_served : (p : Params) (s : SoFar) (m : Moment) (c beat reading : ℕ) (redundant : Bool) (cub k disk : ℕ) (r : Bool)
    → disk ≡ cub + k * p.cubs → r ≡ true → IsTrue r ↔ IsDiskServed p s.starts.disks m c beat reading redundant disk
    → ((j : ℕ) → j < k → IsDiskServed p s.starts.disks m c beat reading redundant (cub + j * p.cubs))
    → (j : ℕ) → j < k + 1 → IsDiskServed p s.starts.disks m c beat reading redundant (cub + j * p.cubs)
disk_served p s m c beat reading redundant cub k disk r is e judged before j low = ⊎_elim
    (λ (l : j < k). before j l)
    (λ (g : k ≤ j).
    let same : k ≡ j = omega (arith, g, low) in
    subst (λ (i : ℕ). IsDiskServed p s.starts.disks m c beat reading redundant (cub + i * p.cubs)) same
    (subst (λ (d : ℕ). IsDiskServed p s.starts.disks m c beat reading redundant d) is (judged.0 e)))
    (cases_lt j k)
