-- Whether the records of an instance are part of the schedule is told by the tables.
use Rattle.std.proofs.Common.{◌≡◌, ℕ, zero, suc, ◌+◌, ◌-◌, ◌/◌, ◌<◌, ◌≤◌, Bool, true, false, not, ◌&&◌, IsTrue, nat_lt, nat_le, cond, List, [], ◌∷◌, length, filter, Option, Some, None, is_some, option_map, refl, sym, ap, subst, ◌∙◌, ⊎_elim, inl, inr, arith}
use Rattle.std.specs.Prelude.{◌==◌, ◌↔◌, ◌⊎◌, slice_index_or}
use Rattle.std.specs.List.{AllByRecursion, list_all, list_any}
use Rattle.std.specs.List.Sorted.{IsNonDecreasingBy, IsPartitionPoint}
use Rattle.std.specs.Ordering.{is_eq}
use Rattle.std.proofs.lemmas.Bool.{eqb-true, eq-eqb, false≢true, both_ways, cases_lt, ltb-true}
use Rattle.tiger_base.specs.declared.number.Instance.{Instance}
use Rattle.tiger_base.specs.declared.tenancy.Rec.{Rec}
use Rattle.tiger_base.specs.declared.tenancy.Tenancy.{Tenancy}
use Rattle.slot_plan.specs.declared.params.Params.{Params}
use Rattle.slot_plan.specs.Times.{time_of}
use Rattle.slot_plan.proofs.Times.{time_mono}
use Rattle.node_kit.specs.declared.journal.What.{What}
use Rattle.node_kit.specs.declared.journal.What.TheVariants as what
use Rattle.run_facts.specs.Order.{Noted}
use Rattle.run_facts.proofs.Rows.{all-given}
use Rattle.run_model.specs.Schedule.{Schedule, Stop}
use Rattle.run_model.specs.Moments.{Moment, next_moment}
use Rattle.run_model.specs.Parts.{HasVisit, IsPart, ViewsArePart, was_just_stopped}
use Rattle.run_model.proofs.Reflects.{and_both, and_left, and_right, or_either, or_first, or_second, any_found, any_gives, at_most}
use Rattle.audit_frame.specs.Tables.{MarkNumbers, Tenancies, mark_under, seat_under, unless_by}
use Rattle.audit_frame.specs.Records.{held_by, held_cmp, record_of, tenancy_held}
use Rattle.audit_frame.specs.declared.records.By.TheVariants as way
use Rattle.audit_frame.specs.declared.records.Held.{Held}
use Rattle.audit_frame.proofs.Added.{meet, not_below}
use Rattle.audit_frame.proofs.Kept.{held_again, held_itself, one_held}
use Rattle.audit_frame.proofs.Recorded.{one_tenancy, tenancy_itself}
use Rattle.audit_frame.proofs.Spans.{same_test, within_is}
use Rattle.audit_views.specs.Standing.{has_record}
use Rattle.audit_views.specs.Views.{is_in_view, is_in_time, is_marked, is_of, is_held_visit, is_seated, are_seated, of_instance, IsInstancePart, IsLatestStop, IsRecordTaken, IsTakenPart, LateArePart, RunsOut, RunsOutUpTo, Touches, TellsSchedule, TellsViews, told_stop, stops_of}
use Rattle.audit_views.specs.declared.views.Stopped.{Stopped}
use Rattle.audit_views.proofs.Members.{all_part}
use Rattle.audit_views.proofs.Steps.{is_stop_in_time, kept_part, part_of_all, late_of_all}

-- ---- who was just stopped

in_time_later : (p : Params) (beat one other : ℕ) → one ≤ other → IsTrue (is_in_time p beat one) → IsTrue (is_in_time p beat other)
in_time_later p beat one other le h =
    let early = (at_most (time_of p beat) (time_of p one + p.play)).0 h in
    let times = time_mono p one other le in
    (at_most (time_of p beat) (time_of p other + p.play)).1 (omega (arith, early, times))

just_by_latest : (p : Params) (m : Moment) (v stop : ℕ) → IsLatestStop v m.schedule.stops (Some stop)
    → was_just_stopped p m v ≡ is_in_time p m.beat stop
just_by_latest p m v stop h = same_test (was_just_stopped p m v) (is_in_time p m.beat stop)
    (λ t. meet (λ s. IsTrue (is_stop_in_time p m.beat v s)) (λ s. s.instance ≡ v → s.beat ≤ stop) (IsTrue (is_in_time p m.beat stop))
    m.schedule.stops
    (λ s q late. in_time_later p m.beat s.beat stop (late (eqb-true s.instance v (and_left (s.instance == v) (is_in_time p m.beat s.beat) q)))
    (and_right (s.instance == v) (is_in_time p m.beat s.beat) q))
    (any_found (λ s. IsTrue (is_stop_in_time p m.beat v s)) (is_stop_in_time p m.beat v) (λ s q. q) m.schedule.stops t) h.0)
    (λ t. any_gives (λ s. (s.instance ≡ v) × (s.beat ≡ stop)) (is_stop_in_time p m.beat v)
    (λ s q. and_both (s.instance == v) (is_in_time p m.beat s.beat) (eq-eqb s.instance v q.0)
    (subst (λ (b : ℕ). IsTrue (is_in_time p m.beat b)) (sym q.1) t)) m.schedule.stops h.1)

not_just : (p : Params) (m : Moment) (v : ℕ) → IsLatestStop v m.schedule.stops None → IsTrue (was_just_stopped p m v) → ⊥
not_just p m v h t = meet (λ s. IsTrue (is_stop_in_time p m.beat v s)) (λ s. s.instance ≡ v → ⊥) ⊥ m.schedule.stops
    (λ s q other. other (eqb-true s.instance v (and_left (s.instance == v) (is_in_time p m.beat s.beat) q)))
    (any_found (λ s. IsTrue (is_stop_in_time p m.beat v s)) (is_stop_in_time p m.beat v) (λ s q. q) m.schedule.stops t) h

-- ---- the records of an instance among all

abbrev IsAmong : Held → List Held → Type 0
IsAmong h held = IsTrue (list_any (λ q. is_eq (held_cmp h q)) held)

all_found : (t k : Held → Bool) (xs : List Held) → IsTrue (list_all t (filter k xs)) → (h : Held) → IsAmong h xs → IsTrue (k h) → IsTrue (t h)
all_found t k [] all h among here = absurd (false≢true among)
all_found t k (x ∷ xs) all h among here = go (k x) refl all (λ rest. all_found t k xs rest h) where
  go : (b : Bool) → k x ≡ b → IsTrue (list_all t (cond b (x ∷ filter k xs) (filter k xs)))
      → (IsTrue (list_all t (filter k xs)) → IsAmong h xs → IsTrue (k h) → IsTrue (t h)) → IsTrue (t h)
  go true e all again = ⊎_elim
      (λ a. subst (λ (q : Held). IsTrue (t q)) (sym (one_held h x a)) (and_left (t x) (list_all t (filter k xs)) all))
      (λ a. again (and_right (t x) (list_all t (filter k xs)) all) a here)
      (or_either (is_eq (held_cmp h x)) (list_any (λ q. is_eq (held_cmp h q)) xs) among)
  go false e all again = ⊎_elim
      (λ a. absurd (both_ways (k x) e (subst (λ (q : Held). IsTrue (k q)) (one_held h x a) here)))
      (λ a. again all a here)
      (or_either (is_eq (held_cmp h x)) (list_any (λ q. is_eq (held_cmp h q)) xs) among)

all_given : (t k : Held → Bool) (xs : List Held) → ((h : Held) → IsAmong h xs → IsTrue (k h) → IsTrue (t h)) → IsTrue (list_all t (filter k xs))
all_given t k [] f = refl
all_given t k (x ∷ xs) f = go (k x) refl
    (all_given t k xs (λ h a b. f h (or_second (is_eq (held_cmp h x)) (list_any (λ q. is_eq (held_cmp h q)) xs) a) b)) where
      go : (b : Bool) → k x ≡ b → IsTrue (list_all t (filter k xs)) → IsTrue (list_all t (cond b (x ∷ filter k xs) (filter k xs)))
      go true e rest = and_both (t x) (list_all t (filter k xs))
          (f x (or_first (is_eq (held_cmp x x)) (list_any (λ q. is_eq (held_cmp x q)) xs) (held_itself x)) e) rest
      go false e rest = rest

none_found : (xs : List Held) → xs ≡ [] → IsTrue (list_all (λ h. false) xs)
none_found xs e = subst (λ (hs : List Held). IsTrue (list_all (λ h. false) hs)) (sym e) refl

none_given : (xs : List Held) → IsTrue (list_all (λ h. false) xs) → xs ≡ []
none_given [] t = refl
none_given (x ∷ xs) t = absurd (false≢true t)

-- ---- views and tables

in_table : (p : Params) (seats : Tenancies) (marks : MarkNumbers) (kept : List Stopped) (held : List Held) (now : ℕ) (m : Moment)
    → TellsViews p seats marks kept held now m → (c : ℕ) (r : Rec) → IsTrue (is_in_view p m c r) → IsAmong (held_by way.Instance c r) held
in_table p seats marks kept held now m h c r t = h.records c r ∙ t

in_its_view : (p : Params) (seats : Tenancies) (marks : MarkNumbers) (kept : List Stopped) (held : List Held) (now : ℕ) (m : Moment)
    → TellsViews p seats marks kept held now m → (k : Held) → IsAmong k held → IsTrue (is_in_view p m k.cub (record_of way.Instance k))
in_its_view p seats marks kept held now m h k among =
    sym (h.records k.cub (record_of way.Instance k)) ∙ subst (λ (q : Held). IsAmong q held) (sym (held_again way.Instance k)) among

-- ---- an instance that was stopped

abbrev marked_of : MarkNumbers → Option Tenancy → Bool
marked_of marks None = false
marked_of marks (Some t) = is_marked marks t.instance.0

seated_if : (marks : MarkNumbers) (u t : Tenancy) (b : Bool) → is_marked marks u.instance.0 ≡ b → cond b None (Some u) ≡ Some t
    → (Some u ≡ Some t) × (is_marked marks t.instance.0 ≡ false)
seated_if marks u t true e q = absurd (false≢true (ap is_some q))
seated_if marks u t false e q = (q, subst (λ (k : Option Tenancy). marked_of marks k ≡ false) q e)

nobody_seated : (marks : MarkNumbers) (o : Option Tenancy) (t : Tenancy) → unless_by (is_marked marks) o ≡ Some t
    → (o ≡ Some t) × (is_marked marks t.instance.0 ≡ false)
nobody_seated marks None t e = absurd (false≢true (ap is_some e))
nobody_seated marks (Some u) t e = seated_if marks u t (is_marked marks u.instance.0) refl e

stopped_holds_none : (p : Params) (seats : Tenancies) (marks : MarkNumbers) (kept : List Stopped) (now : ℕ) (s : Schedule) (stop : ℕ) (t : Tenancy)
    → TellsSchedule seats marks kept now s → mark_under t.instance.0 marks ≡ Some stop → s.holder t.slot.0 ≡ Some t → ⊥
stopped_holds_none p seats marks kept now s stop t h marked has =
    let not_marked = (nobody_seated marks (seat_under t.slot.0 seats) t (sym (h.holder t.slot.0) ∙ has)).1 in
    both_ways (is_marked marks t.instance.0) not_marked (ap is_some marked)

pub may_stand_judged : (p : Params) (seats : Tenancies) (marks : MarkNumbers) (kept : List Stopped) (held : List Held) (now : ℕ)
    (m : Moment) (v stop : ℕ) (r : Bool) → mark_under v marks ≡ Some stop
    → IsTrue r ↔ (IsTrue (is_in_time p now stop) ⊎ (of_instance v held ≡ []))
    → TellsViews p seats marks kept held now m → IsTrue r ↔ IsInstancePart p m v
may_stand_judged p seats marks kept held now m v stop r marked judged h =
    let latest : IsLatestStop v m.schedule.stops (Some stop) = subst (IsLatestStop v m.schedule.stops) marked (h.schedule.latest v) in
    let just : was_just_stopped p m v ≡ is_in_time p now stop =
    just_by_latest p m v stop latest ∙ ap (λ (b : ℕ). is_in_time p b stop) (sym h.beat) in (
      (λ t. ⊎_elim
          (λ a c q seen own. inr (subst (λ (k : ℕ). IsTrue (was_just_stopped p m k)) (sym own) (just ∙ a)))
          (λ none c q seen own. absurd (false≢true
          (all_found (λ k. false) (λ k. k.under == v) held (none_found (of_instance v held) none) (held_by way.Instance c q)
          (in_table p seats marks kept held now m h c q seen) (eq-eqb q.tenancy.instance.0 v own))))
          (judged.0 t)),
      (λ part. judged.1 (go (is_in_time p now stop) refl part)),
    )
  where
    nowhere : (is_in_time p now stop ≡ false) → IsInstancePart p m v → (k : Held) → IsAmong k held → IsTrue (k.under == v) → ⊥
    nowhere late part k among own =
        let is = eqb-true k.under v own in
        ⊎_elim
        (λ has. stopped_holds_none p seats marks kept now m.schedule stop (tenancy_held way.Instance k) h.schedule
        (subst (λ (n : ℕ). mark_under n marks ≡ Some stop) (sym is) marked) has.holder)
        (λ just. both_ways (is_in_time p now stop) late
        (sym (just_by_latest p m v stop (subst (IsLatestStop v m.schedule.stops) marked (h.schedule.latest v))
        ∙ ap (λ (b : ℕ). is_in_time p b stop) (sym h.beat)) ∙ subst (λ (n : ℕ). IsTrue (was_just_stopped p m n)) is just))
        (part k.cub (record_of way.Instance k) (in_its_view p seats marks kept held now m h k among) is)

    go : (b : Bool) → is_in_time p now stop ≡ b → IsInstancePart p m v → IsTrue (is_in_time p now stop) ⊎ (of_instance v held ≡ [])
    go true e part = inl e
    go false e part = inr (none_given (of_instance v held)
        (all_given (λ k. false) (λ k. k.under == v) held (λ k among own. absurd (nowhere e part k among own))))

-- ---- one that was not stopped

seat_found : (s : Schedule) (marks : MarkNumbers) (o : Option Tenancy) (k : Held) → is_marked marks k.under ≡ false
    → s.holder k.beside ≡ unless_by (is_marked marks) o → IsTrue (is_held_visit o k) → HasVisit s (tenancy_held way.Instance k) k.visit
seat_found s marks None k free holder h = absurd (false≢true h)
seat_found s marks (Some t) k free holder h =
    let visits = nat_le k.first k.visit && nat_le k.visit k.last in
    let same = one_tenancy t (tenancy_held way.Instance k) (and_left (is_of t k) visits h) in
    let rest = and_right (is_of t k) visits h in
    record {
      holder = holder ∙ ap (λ (u : Tenancy). cond (is_marked marks u.instance.0) None (Some u)) same
          ∙ ap (λ (b : Bool). cond b None (Some (tenancy_held way.Instance k))) free;
      first = (at_most k.first k.visit).0 (and_left (nat_le k.first k.visit) (nat_le k.visit k.last) rest);
      last = (at_most k.visit k.last).0 (and_right (nat_le k.first k.visit) (nat_le k.visit k.last) rest);
    }

seat_given : (s : Schedule) (marks : MarkNumbers) (o : Option Tenancy) (k : Held) → s.holder k.beside ≡ unless_by (is_marked marks) o
    → HasVisit s (tenancy_held way.Instance k) k.visit → IsTrue (is_held_visit o k)
seat_given s marks o k holder h =
    let is = (nobody_seated marks o (tenancy_held way.Instance k) (sym holder ∙ h.holder)).0 in
    subst (λ (q : Option Tenancy). IsTrue (is_held_visit q k)) (sym is)
    (and_both (is_of (tenancy_held way.Instance k) k) (nat_le k.first k.visit && nat_le k.visit k.last) (tenancy_itself (tenancy_held way.Instance k))
    (and_both (nat_le k.first k.visit) (nat_le k.visit k.last) ((at_most k.first k.visit).1 h.first) ((at_most k.visit k.last).1 h.last)))

pub seated_judged : (p : Params) (seats : Tenancies) (marks : MarkNumbers) (kept : List Stopped) (held : List Held) (now : ℕ)
    (m : Moment) (v : ℕ) (r : Bool) → mark_under v marks ≡ None → r ≡ are_seated seats v held
    → TellsViews p seats marks kept held now m → IsTrue r ↔ IsInstancePart p m v
seated_judged p seats marks kept held now m v r free judged h = (
  (λ t c q seen own.
      let k = held_by way.Instance c q in
      let seated = all_found (is_seated seats) (λ e. e.under == v) held (sym judged ∙ t) k
      (in_table p seats marks kept held now m h c q seen) (eq-eqb q.tenancy.instance.0 v own) in
      inl (seat_found m.schedule marks (seat_under q.tenancy.slot.0 seats) k (not_marked q.tenancy.instance.0 own)
      (h.schedule.holder q.tenancy.slot.0) seated)),
  (λ part. judged ∙ all_given (is_seated seats) (λ e. e.under == v) held (λ k among own.
      let is = eqb-true k.under v own in
      ⊎_elim
      (λ has. seat_given m.schedule marks (seat_under k.beside seats) k (h.schedule.holder k.beside) has)
      (λ just. absurd (not_just p m v (subst (IsLatestStop v m.schedule.stops) free (h.schedule.latest v))
      (subst (λ (n : ℕ). IsTrue (was_just_stopped p m n)) is just)))
      (part k.cub (record_of way.Instance k) (in_its_view p seats marks kept held now m h k among) is))),
) where
  not_marked : (n : ℕ) → n ≡ v → is_marked marks n ≡ false
  not_marked n e = ap (is_marked marks) e ∙ ap is_some free

-- ---- what an entry touches

seat_of : (marks : MarkNumbers) (seats : Tenancies) (s : Schedule) (slot : ℕ) (u : Tenancy)
    → ((k : ℕ) → s.holder k ≡ unless_by (is_marked marks) (seat_under k seats)) → s.holder slot ≡ Some u → seat_under slot seats ≡ Some u
seat_of marks seats s slot u tells has = (nobody_seated marks (seat_under slot seats) u (sym (tells slot) ∙ has)).0

pub put_touches : (marks : MarkNumbers) (seats : Tenancies) (s : Schedule) (w : What) (t : Tenancy) (v : ℕ) (o : Option Instance)
    → w ≡ what.Put t → o ≡ option_map (λ u. u.instance) (seat_under t.slot.0 seats)
    → ((k : ℕ) → s.holder k ≡ unless_by (is_marked marks) (seat_under k seats)) → Touches s w v → o ≡ Some (record { 0 = v })
put_touches marks seats s w t v o is e tells touched =
    let u = subst (λ (k : What). Touches s k v) is touched in
    e ∙ ap (option_map (λ (q : Tenancy). q.instance)) (seat_of marks seats s t.slot.0 u.0 tells u.1)
    ∙ ap (λ (n : ℕ). Some (record { 0 = n })) u.2

pub none_touched : (s : Schedule) (w : What) (v : ℕ) (o : Option Instance) → ((t : Tenancy) → w ≡ what.Put t → ⊥)
    → Touches s w v → o ≡ Some (record { 0 = v })
none_touched s (what.Put q) v o b t = absurd (b q refl)
none_touched s other v o b t = absurd t

pub touched_judged : (p : Params) (m : Moment) (touched : Option Instance) (v : Instance) (r : Bool) → touched ≡ Some v
    → IsTrue r ↔ IsInstancePart p m v.0 → IsTrue r ↔ ((u : Instance) → touched ≡ Some u → IsInstancePart p m u.0)
touched_judged p m touched v r is judged = (
  (λ t u e. subst (λ (o : Option Instance). part_of o) (sym is ∙ e) (judged.0 t)),
  (λ all. judged.1 (all v is)),
) where
  part_of : Option Instance → Type 0
  part_of None = Unit {0}
  part_of (Some u) = IsInstancePart p m u.0

pub untouched_judged : (p : Params) (m : Moment) (touched : Option Instance) → touched ≡ None
    → IsTrue true ↔ ((u : Instance) → touched ≡ Some u → IsInstancePart p m u.0)
untouched_judged p m touched is = (
  (λ t u e. absurd (false≢true (ap is_some (sym is ∙ e)))),
  (λ all. refl),
)

-- ---- what an entry takes

-- a record of an instance that was stopped
pub stopped_part : (p : Params) (seats : Tenancies) (marks : MarkNumbers) (kept : List Stopped) (held : List Held) (now : ℕ)
    (m : Moment) (q : Rec) (stop : ℕ) (r : Bool) → mark_under q.tenancy.instance.0 marks ≡ Some stop → r ≡ is_in_time p now stop
    → TellsViews p seats marks kept held now m → IsTrue r ↔ IsPart p m q.tenancy q.visit
stopped_part p seats marks kept held now m q stop r marked judged h =
    let v = q.tenancy.instance.0 in
    let just : was_just_stopped p m v ≡ is_in_time p now stop =
    just_by_latest p m v stop (subst (IsLatestStop v m.schedule.stops) marked (h.schedule.latest v))
    ∙ ap (λ (b : ℕ). is_in_time p b stop) (sym h.beat) in (
      (λ t. inr (just ∙ (sym judged ∙ t))),
      (λ part. ⊎_elim
          (λ has. absurd (stopped_holds_none p seats marks kept now m.schedule stop q.tenancy h.schedule marked has.holder))
          (λ a. judged ∙ (sym just ∙ a))
          part),
    )

-- and one of an instance that was not
pub seated_part : (p : Params) (seats : Tenancies) (marks : MarkNumbers) (kept : List Stopped) (held : List Held) (now : ℕ)
    (m : Moment) (c : ℕ) (q : Rec) (r : Bool) → mark_under q.tenancy.instance.0 marks ≡ None → r ≡ is_seated seats (held_by way.Instance c q)
    → TellsViews p seats marks kept held now m → IsTrue r ↔ IsPart p m q.tenancy q.visit
seated_part p seats marks kept held now m c q r free judged h =
    let slot = q.tenancy.slot.0 in (
      (λ t. inl (seat_found m.schedule marks (seat_under slot seats) (held_by way.Instance c q) (ap is_some free) (h.schedule.holder slot) (sym judged ∙ t))),
      (λ part. ⊎_elim
          (λ has. judged ∙ seat_given m.schedule marks (seat_under slot seats) (held_by way.Instance c q) (h.schedule.holder slot) has)
          (λ just. absurd (not_just p m q.tenancy.instance.0
          (subst (IsLatestStop q.tenancy.instance.0 m.schedule.stops) free (h.schedule.latest q.tenancy.instance.0)) just))
          part),
    )

-- a record counts if the node's view has it
pub right_part : (p : Params) (m : Moment) (c : ℕ) (q : Rec) (a : Bool) → a ≡ true → IsTrue a ↔ IsPart p m q.tenancy q.visit
    → IsTrue true ↔ (IsTrue (is_in_view p m c q) → IsPart p m q.tenancy q.visit)
right_part p m c q a e judged = (
  (λ t seen. judged.0 e),
  (λ all. refl),
)

pub absent_part : (p : Params) (seats : Tenancies) (marks : MarkNumbers) (kept : List Stopped) (held : List Held) (now : ℕ)
    (m : Moment) (c : ℕ) (q : Rec) (r a : Bool) → r ≡ has_record c q held → a ≡ false → TellsViews p seats marks kept held now m
    → IsTrue a ↔ IsPart p m q.tenancy q.visit → IsTrue (not r) ↔ (IsTrue (is_in_view p m c q) → IsPart p m q.tenancy q.visit)
absent_part p seats marks kept held now m c q r a is e h judged = go r refl where
  go : (b : Bool) → r ≡ b → IsTrue (not b) ↔ (IsTrue (is_in_view p m c q) → IsPart p m q.tenancy q.visit)
  go false f = ((λ t seen. absurd (false≢true (sym f ∙ (is ∙ (h.records c q ∙ seen))))), (λ all. refl))
  go true f = (
    (λ t. absurd (false≢true t)),
    (λ all. absurd (false≢true (sym e ∙ judged.1 (all (sym (h.records c q) ∙ (sym is ∙ f)))))),
  )

pub took_judged : (p : Params) (m : Moment) (c : ℕ) (w : What) (q : Rec) (r : Bool) → w ≡ what.Took q
    → IsTrue r ↔ (IsTrue (is_in_view p m c q) → IsPart p m q.tenancy q.visit) → IsTrue r ↔ IsTakenPart p m c w
took_judged p m c w q r is judged = (
  (λ t k taken seen.
      let same : k ≡ q = subst (λ (x : What). IsRecordTaken x k) is taken in
      subst (λ (z : Rec). IsPart p m z.tenancy z.visit) (sym same)
      (judged.0 t (subst (λ (z : Rec). IsTrue (is_in_view p m c z)) same seen))),
  (λ all. judged.1 (λ seen. all q (subst (λ (x : What). IsRecordTaken x q) (sym is) refl) seen)),
)

takes_none : (w : What) (k : Rec) → ((q : Rec) → w ≡ what.Took q → ⊥) → IsRecordTaken w k → ⊥
takes_none (what.Took q) k other taken = other q refl
takes_none w k other taken = taken

pub other_judged : (p : Params) (m : Moment) (c : ℕ) (w : What) → ((q : Rec) → w ≡ what.Took q → ⊥) → IsTrue true ↔ IsTakenPart p m c w
other_judged p m c w other = (
  (λ t k taken seen. absurd (takes_none w k other taken)),
  (λ all. refl),
)

-- ---- what runs out

all_stops : (P : Stop → Type 0) (kept : List Stopped) → ((j : ℕ) (d : Stopped) → j < length kept → P (told_stop (slice_index_or kept j d)))
    → AllByRecursion P (stops_of kept)
all_stops P [] f = tt
all_stops P (s ∷ ss) f = (f 0 s (omega arith), all_stops P ss (λ j d low. f (suc j) d (omega (arith, low))))

one_stop : (P : Stop → Type 0) (kept : List Stopped) (j : ℕ) (d : Stopped) → AllByRecursion P (stops_of kept) → j < length kept
    → P (told_stop (slice_index_or kept j d))
one_stop P [] j d h low = absurd (omega (arith, low))
one_stop P (s ∷ ss) zero d h low = h.0
one_stop P (s ∷ ss) (suc j) d h low = one_stop P ss j d h.1 (omega (arith, low))

pub late_judged : (p : Params) (seats : Tenancies) (marks : MarkNumbers) (kept : List Stopped) (held : List Held) (now : ℕ)
    (m : Moment) (before from to : ℕ) (r : Bool) → to ≤ length kept
    → (IsNonDecreasingBy (λ s. s.beat) kept → RunsOutUpTo p before kept from)
    → (IsNonDecreasingBy (λ s. s.beat) kept → RunsOutUpTo p now kept to)
    → IsTrue r ↔ ((j : ℕ) (d : Stopped) → from ≤ j → j < to → IsInstancePart p m (slice_index_or kept j d).instance.0)
    → TellsViews p seats marks kept held now m → IsTrue r ↔ LateArePart p m before
late_judged p seats marks kept held now m before from to r fits first second judged h =
    let one = first h.schedule.rising in
    let other = second h.schedule.rising in
    let runs = λ (s : Stop). RunsOut p before m.beat s → IsInstancePart p m s.instance in (
      (λ t. subst (λ (ss : List Stop). AllByRecursion runs ss) (sym h.schedule.stops)
          (all_stops runs kept (λ j d low out. judged.0 t j d
          (⊎_elim (λ (l : j < from). absurd (both_ways (is_in_time p before (slice_index_or kept j d).beat) (one.out j d l) out.0)) (λ (g : from ≤ j). g)
          (cases_lt j from))
          (⊎_elim (λ (l : j < to). l)
          (λ (g : to ≤ j). absurd (both_ways (is_in_time p m.beat (slice_index_or kept j d).beat) out.1
          (subst (λ (b : ℕ). IsTrue (is_in_time p b (slice_index_or kept j d).beat)) h.beat (other.in_time j d g low))))
          (cases_lt j to))))),
      (λ all. judged.1 (λ j d up down.
          one_stop runs kept j d (subst (λ (ss : List Stop). AllByRecursion runs ss) h.schedule.stops all) (omega (arith, down, fits)) (
            one.in_time j d up (omega (arith, down, fits)),
            subst (λ (b : ℕ). is_in_time p b (slice_index_or kept j d).beat ≡ false) h.beat (other.out j d down),
          ))),
    )

-- within a beat none runs out
pub none_late : (p : Params) (seats : Tenancies) (marks : MarkNumbers) (kept : List Stopped) (held : List Held) (now : ℕ)
    (m : Moment) (before : ℕ) → before ≡ now → TellsViews p seats marks kept held now m → IsTrue true ↔ LateArePart p m before
none_late p seats marks kept held now m before same h = (
  (λ t. all-given (λ (stop : Stop). RunsOut p before m.beat stop → IsInstancePart p m stop.instance) m.schedule.stops
      (λ stop out. absurd (both_ways (is_in_time p m.beat stop.beat) out.1
      (subst (λ (b : ℕ). IsTrue (is_in_time p b stop.beat)) (same ∙ h.beat) out.0)))),
  (λ all. refl),
)

-- ---- one instance after another

pub one_fails : (p : Params) (m : Moment) (kept : List Stopped) (from to at : ℕ) (s : Stopped) (r : Bool)
    → ((d : Stopped) → slice_index_or kept at d ≡ s) → r ≡ false → IsTrue r ↔ IsInstancePart p m s.instance.0 → from ≤ at → at < to
    → IsTrue false ↔ ((j : ℕ) (d : Stopped) → from ≤ j → j < to → IsInstancePart p m (slice_index_or kept j d).instance.0)
one_fails p m kept from to at s r is fails judged up down = (
  (λ t. absurd (false≢true t)),
  (λ all. absurd (both_ways r fails (judged.1 (subst (λ (q : Stopped). IsInstancePart p m q.instance.0) (is s) (all at s up down))))),
)

pub one_more : (p : Params) (m : Moment) (kept : List Stopped) (from at : ℕ) (s : Stopped) (r : Bool)
    → ((d : Stopped) → slice_index_or kept at d ≡ s) → IsTrue r → IsTrue r ↔ IsInstancePart p m s.instance.0
    → ((j : ℕ) (d : Stopped) → from ≤ j → j < at → IsInstancePart p m (slice_index_or kept j d).instance.0)
    → (j : ℕ) (d : Stopped) → from ≤ j → j < at + 1 → IsInstancePart p m (slice_index_or kept j d).instance.0
one_more p m kept from at s r is fine judged before j d up down = ⊎_elim
    (λ (l : j < at). before j d up l)
    (λ (g : at ≤ j).
    let same : at ≡ j = omega (arith, g, down) in
    subst (λ (n : ℕ). IsInstancePart p m (slice_index_or kept n d).instance.0) same
    (subst (λ (q : Stopped). IsInstancePart p m q.instance.0) (sym (is d)) (judged.0 fine)))
    (cases_lt j at)

pub all_before : (p : Params) (m : Moment) (kept : List Stopped) (from to at : ℕ) → to ≤ at
    → ((j : ℕ) (d : Stopped) → from ≤ j → j < at → IsInstancePart p m (slice_index_or kept j d).instance.0)
    → IsTrue true ↔ ((j : ℕ) (d : Stopped) → from ≤ j → j < to → IsInstancePart p m (slice_index_or kept j d).instance.0)
all_before p m kept from to at over before = (
  (λ t j d up down. before j d up (omega (arith, down, over))),
  (λ all. refl),
)

-- ---- a step

pub step_judged : (p : Params) (m : Moment) (x : Noted) (before : ℕ) (touched : Option Instance) (t a b r : Bool) → before ≡ m.beat
    → r ≡ (t && (a && b))
    → ((v : ℕ) → Touches m.schedule x.entry.what v → touched ≡ Some (record { 0 = v }))
    → IsTrue t ↔ IsTakenPart p (next_moment m x) x.node x.entry.what
    → IsTrue a ↔ ((v : Instance) → touched ≡ Some v → IsInstancePart p (next_moment m x) v.0)
    → IsTrue b ↔ LateArePart p (next_moment m x) before
    → ViewsArePart p m → IsTrue r ↔ ViewsArePart p (next_moment m x)
step_judged p m x before touched t a b r is e touches taken in_place in_time part = (
  (λ h.
      let all : IsTrue (t && (a && b)) = sym e ∙ h in
      let both = and_right t (a && b) all in
      kept_part p m x part (record {
        taken = taken.0 (and_left t (a && b) all);
        touched = λ v q. in_place.0 (and_left a b both) (record { 0 = v }) (touches v q);
        late = subst (λ (n : ℕ). LateArePart p (next_moment m x) n) is (in_time.0 (and_right a b both));
      })),
  (λ all. e ∙ and_both t (a && b)
      (taken.1 (λ q own seen. all_part p (next_moment m x) all x.node q seen))
      (and_both a b
      (in_place.1 (λ v q. part_of_all p (next_moment m x) v.0 all))
      (in_time.1 (late_of_all p (next_moment m x) before all)))),
)

-- ---- the first stop that has not run out

pub first_in_time_is : (p : Params) (beat stop : ℕ) → 1 ≤ p.beat → is_in_time p beat stop ≡ nat_le (beat - p.play / p.beat) stop
first_in_time_is p beat stop some =
    sym (within_is p beat stop p.play some)
    ∙ same_test (nat_le (beat - stop) (p.play / p.beat)) (nat_le (beat - p.play / p.beat) stop)
    (λ h. let le = (at_most (beat - stop) (p.play / p.beat)).0 h in (at_most (beat - p.play / p.beat) stop).1 (omega (arith, le)))
    (λ h. let le = (at_most (beat - p.play / p.beat) stop).0 h in (at_most (beat - stop) (p.play / p.beat)).1 (omega (arith, le)))

not_at_most : (n k : ℕ) (b : Bool) → nat_le k n ≡ b → n < k → b ≡ false
not_at_most n k true e l = let le = (at_most k n).0 e in absurd (omega (arith, le, l))
not_at_most n k false e l = refl

pub runs_out_up_to : (p : Params) (beat first : ℕ) (kept : List Stopped) (place : ℕ)
    → ((stop : ℕ) → is_in_time p beat stop ≡ nat_le first stop)
    → IsPartitionPoint (λ s. nat_lt s.beat first ≡ true) (λ s. nat_lt s.beat first ≡ false) kept place → RunsOutUpTo p beat kept place
runs_out_up_to p beat first kept place is point = record {
  out = λ j d low.
      let s = slice_index_or kept j d in
      is s.beat ∙ not_at_most s.beat first (nat_le first s.beat) refl (ltb-true s.beat first (point.0 j d (omega arith) low));
  in_time = λ j d up low.
      let s = slice_index_or kept j d in
      is s.beat ∙ (at_most first s.beat).1 (not_below s.beat first (point.1 j d up low));
}
