-- Views that were part of the schedule stay so if what an entry touches is part after it.
use Rattle.std.proofs.Common.{◌≡◌, ℕ, ◌+◌, Bool, true, false, not, ◌&&◌, ◌||◌, IsTrue, nat_lt, cond, List, [], ◌∷◌, ◌++◌, Some, None, append-nil, refl, sym, ap, subst, ◌∙◌, ⊎_elim, inl, inr, arith}
use Rattle.std.specs.Prelude.{◌==◌, ◌⊎◌}
use Rattle.std.specs.List.{AllByRecursion, list_any}
use Rattle.std.proofs.lemmas.Bool.{eqb-true, eq-eqb, false≢true}
use Rattle.std.proofs.lemmas.List.Folds.{list_any-append}
use Rattle.tiger_base.specs.declared.tenancy.Rec.{Rec}
use Rattle.tiger_base.specs.declared.tenancy.Tenancy.{Tenancy}
use Rattle.slot_plan.specs.declared.params.Params.{Params}
use Rattle.slot_plan.specs.Times.{time_of}
use Rattle.node_kit.specs.declared.journal.What.{What}
use Rattle.node_kit.specs.declared.journal.What.TheVariants as what
use Rattle.run_facts.specs.Order.{Noted, beat_of}
use Rattle.run_facts.proofs.Rows.{all-given, all-left}
use Rattle.run_model.specs.Fronts.{Always, AtEach}
use Rattle.run_model.specs.Schedule.{Schedule, Stop, is_stopped, unless_of, after_entry, changed}
use Rattle.run_model.specs.Views.{same_record, recorded}
use Rattle.run_model.specs.Moments.{Moment, next_moment, opening}
use Rattle.run_model.specs.Parts.{IsPart, ViewsArePart, ViewsAreAlwaysPart, was_just_stopped}
use Rattle.run_model.proofs.Reflects.{and_both, and_left, and_right, or_either, or_first, or_second, at_most}
use Rattle.audit_frame.proofs.Added.{or_false}
use Rattle.audit_frame.proofs.Deciding.{GoesBySteps}
use Rattle.audit_frame.proofs.Recorded.{one_record}
use Rattle.audit_views.specs.Views.{is_in_view, IsInstancePart, IsRecordTaken, Touches, KeepsPart, LateArePart, RunsOut, is_in_time}
use Rattle.audit_views.proofs.Members.{kept_stood, of_cub, stands, all_part, from_part}

-- ---- a record that stands after an entry stood before it, or is the one that it takes

was_taken : (w : What) (r : Rec) (xs : List Rec) → IsTrue (list_any (same_record r) (recorded xs w))
    → IsTrue (list_any (same_record r) xs) ⊎ IsRecordTaken w r
was_taken (what.Took q) r xs t = ⊎_elim
    (λ a. inl a)
    (λ a. inr (one_record r q (sym (or_false (same_record r q)) ∙ a)))
    (or_either (list_any (same_record r) xs) (same_record r q || false) (sym (list_any-append (same_record r) xs (q ∷ [])) ∙ t))
was_taken (what.Dropped q) r xs t = inl (kept_stood (same_record r) (λ k. not (same_record q k)) xs t)
was_taken what.Died r xs t = absurd (false≢true t)
was_taken what.Returned r xs t = absurd (false≢true t)
was_taken other r xs t = inl t

taken_by : (b : Bool) (w : What) (r : Rec) (xs : List Rec) → IsTrue (list_any (same_record r) (cond b (recorded xs w) xs))
    → IsTrue (list_any (same_record r) xs) ⊎ (IsTrue b × IsRecordTaken w r)
taken_by true w r xs t = ⊎_elim (λ a. inl a) (λ a. inr (refl, a)) (was_taken w r xs t)
taken_by false w r xs t = inl t

stood : (p : Params) (m : Moment) (x : Noted) (c : ℕ) (r : Rec) → IsTrue (is_in_view p (next_moment m x) c r)
    → IsTrue (is_in_view p m c r) ⊎ (IsTrue (x.node == c) × IsRecordTaken x.entry.what r)
unfolding next_moment
stood p m x c r t = ⊎_elim
    (λ a. inl (stands p m c r (of_cub p (next_moment m x) c r t) a))
    (λ a. inr a)
    (taken_by (x.node == c) x.entry.what r (m.records c)
    (and_right (nat_lt c p.cubs)
    (list_any (same_record r) (cond (x.node == c) (recorded (m.records c) x.entry.what) (m.records c))) t))

-- ---- a tenancy that had its slot has it after an entry, or is touched by it, or is stopped

abbrev IsStopOf : What → ℕ → Type 0
IsStopOf (what.Gone v) u = v.0 ≡ u
IsStopOf other u = ⊥

put_beside : (s : Schedule) (u t : Tenancy) (a b : Bool) → (u.slot.0 == t.slot.0) ≡ b → s.holder t.slot.0 ≡ Some t
    → ((cond a s (record { holder = λ slot. cond (u.slot.0 == slot) (Some u) (s.holder slot); stops = s.stops })).holder t.slot.0 ≡ Some t)
    ⊎ Touches s (what.Put u) t.instance.0
put_beside s u t true b e has = inl has
put_beside s u t false true e has =
    inr (t, subst (λ (k : ℕ). s.holder k ≡ Some t) (sym (eqb-true u.slot.0 t.slot.0 e)) has, refl)
put_beside s u t false false e has = inl (ap (λ (b : Bool). cond b (Some u) (s.holder t.slot.0)) e ∙ has)

stopped_or : (v : ℕ) (t : Tenancy) (b : Bool) → (t.instance.0 == v) ≡ b → (unless_of v (Some t) ≡ Some t) ⊎ (v ≡ t.instance.0)
stopped_or v t true e = inr (sym (eqb-true t.instance.0 v e))
stopped_or v t false e = inl (ap (λ (b : Bool). cond b None (Some t)) e)

holds_on : (s : Schedule) (beat : ℕ) (w : What) (t : Tenancy) → s.holder t.slot.0 ≡ Some t
    → ((changed s beat w).holder t.slot.0 ≡ Some t) ⊎ (Touches s w t.instance.0 ⊎ IsStopOf w t.instance.0)
holds_on s beat (what.Put u) t has = ⊎_elim
    (λ a. inl a)
    (λ a. inr (inl a))
    (put_beside s u t (is_stopped u.instance.0 s.stops) (u.slot.0 == t.slot.0) refl has)
holds_on s beat (what.Gone v) t has = ⊎_elim
    (λ a. inl (ap (unless_of v.0) has ∙ a))
    (λ a. inr (inr a))
    (stopped_or v.0 t (t.instance.0 == v.0) refl)
holds_on s beat other t has = inl has

-- ---- who was just stopped still is, or that has run out

in_its_beat : (p : Params) (beat : ℕ) → IsTrue (is_in_time p beat beat)
in_its_beat p beat = (at_most (time_of p beat) (time_of p beat + p.play)).1 (omega arith)

abbrev pub is_stop_in_time : Params → ℕ → ℕ → Stop → Bool
is_stop_in_time p beat v stop = (stop.instance == v) && is_in_time p beat stop.beat

stopped_now : (p : Params) (s : Schedule) (beat : ℕ) (w : What) (v : ℕ) → IsStopOf w v
    → IsTrue (list_any (is_stop_in_time p beat v) (changed s beat w).stops)
stopped_now p s beat (what.Gone u) v e =
    list_any-append (is_stop_in_time p beat v) s.stops ((record { instance = u.0; beat = beat }) ∷ [])
    ∙ or_second (list_any (is_stop_in_time p beat v) s.stops) (((u.0 == v) && is_in_time p beat beat) || false)
    (or_first ((u.0 == v) && is_in_time p beat beat) false
    (and_both (u.0 == v) (is_in_time p beat beat) (eq-eqb u.0 v e) (in_its_beat p beat)))
stopped_now p s beat other v e = absurd e

put_nothing : (s : Schedule) (t : Tenancy) (b : Bool)
    → (cond b s (record { holder = λ slot. cond (t.slot.0 == slot) (Some t) (s.holder slot); stops = s.stops })).stops ≡ s.stops ++ []
put_nothing s t true = sym (append-nil s.stops)
put_nothing s t false = sym (append-nil s.stops)

more_stops : (s : Schedule) (beat : ℕ) (w : What) → (more : List Stop) × ((changed s beat w).stops ≡ s.stops ++ more)
more_stops s beat (what.Put t) = ([], put_nothing s t (is_stopped t.instance.0 s.stops))
more_stops s beat (what.Gone v) = ((record { instance = v.0; beat = beat }) ∷ [], refl)
more_stops s beat other = ([], sym (append-nil s.stops))

one_still : (p : Params) (before beat v : ℕ) (C : ℕ → Type 0) (s : Stop) (b : Bool) → is_in_time p beat s.beat ≡ b
    → (RunsOut p before beat s → C s.instance) → IsTrue (is_stop_in_time p before v s) → IsTrue (is_stop_in_time p beat v s) ⊎ C v
one_still p before beat v C s true e late h =
    inl (and_both (s.instance == v) (is_in_time p beat s.beat) (and_left (s.instance == v) (is_in_time p before s.beat) h) e)
one_still p before beat v C s false e late h =
    inr (subst C (eqb-true s.instance v (and_left (s.instance == v) (is_in_time p before s.beat) h))
    (late (and_right (s.instance == v) (is_in_time p before s.beat) h, e)))

some_still : (p : Params) (before beat v : ℕ) (C : ℕ → Type 0) (ss : List Stop)
    → AllByRecursion (λ s. RunsOut p before beat s → C s.instance) ss → IsTrue (list_any (is_stop_in_time p before v) ss)
    → IsTrue (list_any (is_stop_in_time p beat v) ss) ⊎ C v
some_still p before beat v C [] late h = absurd (false≢true h)
some_still p before beat v C (s ∷ ss) late h = ⊎_elim
    (λ a. ⊎_elim
    (λ q. inl (or_first (is_stop_in_time p beat v s) (list_any (is_stop_in_time p beat v) ss) q))
    (λ q. inr q)
    (one_still p before beat v C s (is_in_time p beat s.beat) refl late.0 a))
    (λ a. ⊎_elim
    (λ q. inl (or_second (is_stop_in_time p beat v s) (list_any (is_stop_in_time p beat v) ss) q))
    (λ q. inr q)
    (some_still p before beat v C ss late.1 a))
    (or_either (is_stop_in_time p before v s) (list_any (is_stop_in_time p before v) ss) h)

still_stopped : (p : Params) (m : Moment) (x : Noted) (v : ℕ) → LateArePart p (next_moment m x) m.beat
    → IsTrue (was_just_stopped p m v) → IsTrue (was_just_stopped p (next_moment m x) v) ⊎ IsInstancePart p (next_moment m x) v
unfolding next_moment after_entry
still_stopped p m x v late just =
    let C = IsInstancePart p (next_moment m x) in
    let more = more_stops m.schedule (beat_of x) x.entry.what in
    let runs = λ (s : Stop). RunsOut p m.beat (beat_of x) s → C s.instance in
    let here = all-left runs m.schedule.stops more.0 (subst (λ (ss : List Stop). AllByRecursion runs ss) more.1 late) in
    let test = is_stop_in_time p (beat_of x) v in
    ⊎_elim
    (λ a. inl (ap (list_any test) more.1 ∙ (list_any-append test m.schedule.stops more.0
    ∙ or_first (list_any test m.schedule.stops) (list_any test more.0) a)))
    (λ a. inr a)
    (some_still p m.beat (beat_of x) v C m.schedule.stops here just)

-- ---- one step

still_part : (p : Params) (m : Moment) (x : Noted) → KeepsPart p m x → (c : ℕ) (r : Rec) → IsTrue (is_in_view p (next_moment m x) c r)
    → IsPart p m r.tenancy r.visit → IsPart p (next_moment m x) r.tenancy r.visit
unfolding next_moment after_entry
still_part p m x k c r t part = ⊎_elim
    (λ has. ⊎_elim
    (λ still. inl (record { holder = still; first = has.first; last = has.last }))
    (λ lost. ⊎_elim
    (λ touched. k.touched r.tenancy.instance.0 touched c r t refl)
    (λ gone. inr (stopped_now p m.schedule (beat_of x) x.entry.what r.tenancy.instance.0 gone))
    lost)
    (holds_on m.schedule (beat_of x) x.entry.what r.tenancy has.holder))
    (λ just. ⊎_elim (λ a. inr a) (λ a. a c r t refl) (still_stopped p m x r.tenancy.instance.0 k.late just))
    part

pub kept_part : (p : Params) (m : Moment) (x : Noted) → ViewsArePart p m → KeepsPart p m x → ViewsArePart p (next_moment m x)
kept_part p m x h k = from_part p (next_moment m x) (λ c r t. ⊎_elim
    (λ a. still_part p m x k c r t (all_part p m h c r a))
    (λ a. k.taken r a.1 (subst (λ (n : ℕ). IsTrue (is_in_view p (next_moment m x) n r)) (sym (eqb-true x.node c a.0)) t))
    (stood p m x c r t))

pub part_of_all : (p : Params) (m : Moment) (v : ℕ) → ViewsArePart p m → IsInstancePart p m v
part_of_all p m v h c r t e = all_part p m h c r t

pub late_of_all : (p : Params) (m : Moment) (before : ℕ) → ViewsArePart p m → LateArePart p m before
late_of_all p m before h = all-given (λ (stop : Stop). RunsOut p before m.beat stop → IsInstancePart p m stop.instance) m.schedule.stops
    (λ stop out. part_of_all p m stop.instance h)

-- ---- all steps

first_of : {S X : Type 0} (P : S → Type 0) (f : S → X → S) (s : S) (xs : List X) → Always P f s xs → P s
first_of P f s [] h = h
first_of P f s (x ∷ xs) h = h.0

behind_each : {S X : Type 0} (P : S → Type 0) (f : S → X → S) (s : S) (xs : List X) → Always P f s xs
    → AtEach (λ t x. P (f t x)) f s xs
behind_each P f s [] h = tt
behind_each P f s (x ∷ xs) h = (first_of P f (f s x) xs h.1, behind_each P f (f s x) xs h.1)

always_by : {S X : Type 0} (P : S → Type 0) (f : S → X → S) (s : S) (xs : List X) → P s → AtEach (λ t x. P (f t x)) f s xs
    → Always P f s xs
always_by P f s [] h g = h
always_by P f s (x ∷ xs) h g = (h, always_by P f (f s x) xs g.0 g.1)

pub opening_part : (p : Params) → ViewsArePart p opening
opening_part p c low = tt

pub views_go_by_steps : (p : Params) → GoesBySteps (ViewsAreAlwaysPart p) (λ m x. ViewsArePart p (next_moment m x)) next_moment opening
views_go_by_steps p log = (
  (λ h. behind_each (ViewsArePart p) next_moment opening log h),
  (λ h. always_by (ViewsArePart p) next_moment opening log (opening_part p) h),
)
