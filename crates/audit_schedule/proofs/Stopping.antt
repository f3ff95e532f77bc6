-- What comes after the earliest stop of an instance is judged by it alone.
use Rattle.std.proofs.Common.{◌≡◌, ℕ, ◌+◌, ◌≤◌, Bool, true, false, IsTrue, nat_lt, nat_le, cond, List, [], ◌∷◌, ◌++◌, Option, Some, None, refl, sym, ap, subst, ◌∙◌, ⊎_elim, arith}
use Rattle.std.specs.Prelude.{◌==◌, ◌↔◌}
use Rattle.std.specs.List.{AllByRecursion}
use Rattle.std.proofs.lemmas.Bool.{eqb-true, eq-eqb, both_ways, ltb-true}
use Rattle.tiger_base.specs.declared.number.Instance.{Instance}
use Rattle.tiger_base.specs.declared.number.LinkNo.{LinkNo}
use Rattle.tiger_base.specs.declared.message.Note.{Note}
use Rattle.tiger_base.specs.declared.message.Note.TheVariants as note
use Rattle.tiger_base.specs.declared.part.Span.{Span}
use Rattle.tiger_base.specs.declared.tenancy.Rec.{Rec}
use Rattle.tiger_base.specs.declared.tenancy.Want.{Want}
use Rattle.tiger_base.specs.declared.tenancy.Tenancy.{Tenancy}
use Rattle.slot_plan.specs.declared.params.Params.{Params}
use Rattle.slot_plan.specs.Conditions.{longest_way}
use Rattle.slot_plan.specs.Times.{time_of}
use Rattle.slot_plan.proofs.Times.{time_mono}
use Rattle.node_kit.specs.declared.journal.What.{What}
use Rattle.node_kit.specs.declared.journal.What.TheVariants as what
use Rattle.run_facts.specs.Order.{Noted, beat_of}
use Rattle.run_facts.proofs.Rows.{all-append}
use Rattle.run_model.specs.Fronts.{AnyByRecursion}
use Rattle.run_model.specs.Schedule.{Schedule, Stop, after_entry, changed}
use Rattle.run_model.specs.Moments.{Moment, next_moment, opening}
use Rattle.run_model.proofs.Reflects.{at_most}
use Rattle.run_claims.specs.Returns.{NobodyComesBack, BringsNobodyBack, IsSoonAfterStops, IsWithin}
use Rattle.audit_frame.specs.Tables.{MarkNumbers, mark_under}
use Rattle.audit_frame.proofs.Added.{any_before, any_end, not_below}
use Rattle.audit_frame.proofs.Deciding.{GoesBySteps}
use Rattle.audit_frame.proofs.Seated.{put_stops}
use Rattle.audit_schedule.specs.Stops.{TellsStops, IsEarliest, earlier}

pub returns_go_by_steps : (p : Params)
    → GoesBySteps (NobodyComesBack p) (λ m x. BringsNobodyBack p m (beat_of x) x.entry.what) next_moment opening
returns_go_by_steps p log = ((λ h. h), (λ h. h))

-- ---- all stops of an instance, and the earliest

soon_if_none : (p : Params) (v span beat : ℕ) (stops : List Stop) → AllByRecursion (λ s. s.instance ≡ v → ⊥) stops
    → AllByRecursion (IsWithin p v span beat) stops
soon_if_none p v span beat [] h = tt
soon_if_none p v span beat (s ∷ ss) h = ((λ e. absurd (h.0 e)), soon_if_none p v span beat ss h.1)

soon_by_first : (p : Params) (v span beat first : ℕ) (stops : List Stop) → AllByRecursion (λ s. s.instance ≡ v → first ≤ s.beat) stops
    → time_of p beat ≤ time_of p first + span → AllByRecursion (IsWithin p v span beat) stops
soon_by_first p v span beat first [] h le = tt
soon_by_first p v span beat first (s ∷ ss) h le = (
  (λ e. let later = time_mono p first s.beat (h.0 e) in omega (arith, later, le)),
  soon_by_first p v span beat first ss h.1 le,
)

first_if_soon : (p : Params) (v span beat first : ℕ) (stops : List Stop) → AnyByRecursion (λ s. (s.instance ≡ v) × (s.beat ≡ first)) stops
    → AllByRecursion (IsWithin p v span beat) stops → time_of p beat ≤ time_of p first + span
first_if_soon p v span beat first [] a h = absurd a
first_if_soon p v span beat first (s ∷ ss) a h = ⊎_elim
    (λ q. subst (λ (b : ℕ). time_of p beat ≤ time_of p b + span) q.1 (h.0 q.0))
    (λ q. first_if_soon p v span beat first ss q h.1)
    a

pub soon_by_mark : (p : Params) (marks : MarkNumbers) (m : Moment) (v span beat first : ℕ) (r : Bool) → mark_under v marks ≡ Some first
    → r ≡ nat_le (time_of p beat) (time_of p first + span) → TellsStops marks m → IsTrue r ↔ IsSoonAfterStops p m v span beat
soon_by_mark p marks m v span beat first r is e h =
    let earliest : IsEarliest v m.schedule.stops (Some first) = subst (IsEarliest v m.schedule.stops) is (h v) in (
      (λ t. soon_by_first p v span beat first m.schedule.stops earliest.0 ((at_most (time_of p beat) (time_of p first + span)).0 (sym e ∙ t))),
      (λ all. e ∙ (at_most (time_of p beat) (time_of p first + span)).1 (first_if_soon p v span beat first m.schedule.stops earliest.1 all)),
    )

pub soon_without_mark : (p : Params) (marks : MarkNumbers) (m : Moment) (v span beat : ℕ) → mark_under v marks ≡ None
    → TellsStops marks m → IsTrue true ↔ IsSoonAfterStops p m v span beat
soon_without_mark p marks m v span beat is h =
    let none : IsEarliest v m.schedule.stops None = subst (IsEarliest v m.schedule.stops) is (h v) in
    ((λ t. soon_if_none p v span beat m.schedule.stops none), (λ all. refl))

-- ---- each kind of entry

pub put_judged : (p : Params) (m : Moment) (beat : ℕ) (w : What) (t : Tenancy) (span : ℕ) (r : Bool) → w ≡ what.Put t → span ≡ longest_way p
    → IsTrue r ↔ IsSoonAfterStops p m t.instance.0 span beat → IsTrue r ↔ BringsNobodyBack p m beat w
put_judged p m beat w t span r is e h =
    subst (λ (v : What). IsTrue r ↔ BringsNobodyBack p m beat v) (sym is)
    (subst (λ (s : ℕ). IsTrue r ↔ IsSoonAfterStops p m t.instance.0 s beat) e h)

pub took_judged : (p : Params) (m : Moment) (beat : ℕ) (w : What) (q : Rec) (r : Bool) → w ≡ what.Took q
    → IsTrue r ↔ IsSoonAfterStops p m q.tenancy.instance.0 p.play beat → IsTrue r ↔ BringsNobodyBack p m beat w
took_judged p m beat w q r is h = subst (λ (v : What). IsTrue r ↔ BringsNobodyBack p m beat v) (sym is) h

pub sent_judged : (p : Params) (m : Moment) (beat : ℕ) (w : What) (link : LinkNo) (n : Note) (r : Bool) → w ≡ what.Sent link n
    → IsTrue r ↔ BringsNobodyBack p m beat (what.Sent link n) → IsTrue r ↔ BringsNobodyBack p m beat w
sent_judged p m beat w link n r is h = subst (λ (v : What). IsTrue r ↔ BringsNobodyBack p m beat v) (sym is) h

pub other_judged : (p : Params) (m : Moment) (beat : ℕ) (w : What) → ((t : Tenancy) → w ≡ what.Put t → ⊥)
    → ((q : Rec) → w ≡ what.Took q → ⊥) → ((link : LinkNo) (n : Note) → w ≡ what.Sent link n → ⊥)
    → IsTrue true ↔ BringsNobodyBack p m beat w
other_judged p m beat (what.Put t) a b c = absurd (a t refl)
other_judged p m beat (what.Took q) a b c = absurd (b q refl)
other_judged p m beat (what.Sent link n) a b c = absurd (c link n refl)
other_judged p m beat other a b c = ((λ h. tt), (λ h. refl))

pub whole_judged : (p : Params) (m : Moment) (beat : ℕ) (link : LinkNo) (n : Note) (want : Want) (sent : ℕ) (part : Span) (r : Bool)
    → n ≡ note.Whole want sent part → IsTrue r ↔ IsSoonAfterStops p m want.instance.0 p.play beat
    → IsTrue r ↔ BringsNobodyBack p m beat (what.Sent link n)
whole_judged p m beat link n want sent part r is h =
    subst (λ (k : Note). IsTrue r ↔ BringsNobodyBack p m beat (what.Sent link k)) (sym is) h

pub piece_judged : (p : Params) (m : Moment) (beat : ℕ) (link : LinkNo) (n : Note) (want : Want) (sent : ℕ) (part : Span) (r : Bool)
    → n ≡ note.Piece want sent part → IsTrue r ↔ IsSoonAfterStops p m want.instance.0 p.play beat
    → IsTrue r ↔ BringsNobodyBack p m beat (what.Sent link n)
piece_judged p m beat link n want sent part r is h =
    subst (λ (k : Note). IsTrue r ↔ BringsNobodyBack p m beat (what.Sent link k)) (sym is) h

pub other_note_judged : (p : Params) (m : Moment) (beat : ℕ) (link : LinkNo) (n : Note)
    → ((want : Want) (sent : ℕ) (part : Span) → n ≡ note.Whole want sent part → ⊥)
    → ((want : Want) (sent : ℕ) (part : Span) → n ≡ note.Piece want sent part → ⊥)
    → IsTrue true ↔ BringsNobodyBack p m beat (what.Sent link n)
other_note_judged p m beat link (note.Whole want sent part) a b = absurd (a want sent part refl)
other_note_judged p m beat link (note.Piece want sent part) a b = absurd (b want sent part refl)
other_note_judged p m beat link other a b = ((λ h. tt), (λ h. refl))

-- ---- one stop more

all_of_none : (n beat : ℕ) (stops : List Stop) → AllByRecursion (λ s. s.instance ≡ n → ⊥) stops
    → AllByRecursion (λ s. s.instance ≡ n → beat ≤ s.beat) stops
all_of_none n beat [] h = tt
all_of_none n beat (s ∷ ss) h = ((λ e. absurd (h.0 e)), all_of_none n beat ss h.1)

all_lower : (n beat first : ℕ) (stops : List Stop) → beat ≤ first → AllByRecursion (λ s. s.instance ≡ n → first ≤ s.beat) stops
    → AllByRecursion (λ s. s.instance ≡ n → beat ≤ s.beat) stops
all_lower n beat first [] le h = tt
all_lower n beat first (s ∷ ss) le h = (
  (λ e. let later = h.0 e in omega (arith, le, later)),
  all_lower n beat first ss le h.1,
)

abbrev stop_of : ℕ → ℕ → Stop
stop_of v beat = record { instance = v; beat = beat }

own_stop : (n v beat : ℕ) (stops : List Stop) (o : Option ℕ) → v ≡ n → IsEarliest n stops o
    → IsEarliest n (stops ++ stop_of v beat ∷ []) (Some (earlier o beat))
own_stop n v beat stops None is h = (
  all-append (λ s. s.instance ≡ n → beat ≤ s.beat) stops (stop_of v beat ∷ []) (all_of_none n beat stops h) ((λ e. omega arith), tt),
  any_end (λ s. (s.instance ≡ n) × (s.beat ≡ beat)) stops (stop_of v beat) (is, refl),
)
own_stop n v beat stops (Some first) is h = go (nat_lt beat first) refl where
  go : (b : Bool) → nat_lt beat first ≡ b → IsEarliest n (stops ++ stop_of v beat ∷ []) (Some (cond b beat first))
  go true t = (
    all-append (λ s. s.instance ≡ n → beat ≤ s.beat) stops (stop_of v beat ∷ [])
        (all_lower n beat first stops (let less = ltb-true beat first t in omega (arith, less)) h.0) ((λ e. omega arith), tt),
    any_end (λ s. (s.instance ≡ n) × (s.beat ≡ beat)) stops (stop_of v beat) (is, refl),
  )
  go false t = (
    all-append (λ s. s.instance ≡ n → first ≤ s.beat) stops (stop_of v beat ∷ []) h.0
        ((λ e. not_below beat first t), tt),
    any_before (λ s. (s.instance ≡ n) × (s.beat ≡ first)) stops (stop_of v beat ∷ []) h.1,
  )

other_stop : (n v beat : ℕ) (stops : List Stop) (o : Option ℕ) → (v ≡ n → ⊥) → IsEarliest n stops o
    → IsEarliest n (stops ++ stop_of v beat ∷ []) o
other_stop n v beat stops None ne h =
    all-append (λ s. s.instance ≡ n → ⊥) stops (stop_of v beat ∷ []) h ((λ e. ne e), tt)
other_stop n v beat stops (Some first) ne h = (
  all-append (λ s. s.instance ≡ n → first ≤ s.beat) stops (stop_of v beat ∷ []) h.0 ((λ e. absurd (ne e)), tt),
  any_before (λ s. (s.instance ≡ n) × (s.beat ≡ first)) stops (stop_of v beat ∷ []) h.1,
)

pub no_stops : (marks : MarkNumbers) → marks ≡ [] → TellsStops marks opening
no_stops marks e v = subst (λ (rows : MarkNumbers). IsEarliest v [] (mark_under v rows)) (sym e) tt

pub gone_marked : (marks new : MarkNumbers) (m : Moment) (x : Noted) (v : Instance) → x.entry.what ≡ what.Gone v
    → ((n : ℕ) → mark_under n new ≡ cond (v.0 == n) (Some (earlier (mark_under v.0 marks) (beat_of x))) (mark_under n marks))
    → TellsStops marks m → TellsStops new (next_moment m x)
unfolding next_moment after_entry
gone_marked marks new m x v is set h n =
    subst (λ (ss : List Stop). IsEarliest n ss (mark_under n new))
    (sym (ap (λ (w : What). (changed m.schedule (beat_of x) w).stops) is))
    (subst (λ (o : Option ℕ). IsEarliest n (m.schedule.stops ++ stop_of v.0 (beat_of x) ∷ []) o) (sym (set n)) (go (v.0 == n) refl)) where
      go : (b : Bool) → (v.0 == n) ≡ b
          → IsEarliest n (m.schedule.stops ++ stop_of v.0 (beat_of x) ∷ [])
          (cond b (Some (earlier (mark_under v.0 marks) (beat_of x))) (mark_under n marks))
      go true e =
          let same = eqb-true v.0 n e in
          own_stop n v.0 (beat_of x) m.schedule.stops (mark_under v.0 marks) same
          (subst (λ (k : ℕ). IsEarliest n m.schedule.stops (mark_under k marks)) (sym same) (h n))
      go false e = other_stop n v.0 (beat_of x) m.schedule.stops (mark_under n marks)
          (λ same. both_ways (v.0 == n) e (eq-eqb v.0 n same)) (h n)

stops_stay : (s : Schedule) (beat : ℕ) (w : What) → ((v : Instance) → w ≡ what.Gone v → ⊥) → (changed s beat w).stops ≡ s.stops
stops_stay s beat (what.Put t) h = put_stops s beat t
stops_stay s beat (what.Gone v) h = absurd (h v refl)
stops_stay s beat other h = refl

pub other_marked : (marks : MarkNumbers) (m : Moment) (x : Noted) → ((v : Instance) → x.entry.what ≡ what.Gone v → ⊥)
    → TellsStops marks m → TellsStops marks (next_moment m x)
unfolding next_moment after_entry
other_marked marks m x not h n =
    subst (λ (ss : List Stop). IsEarliest n ss (mark_under n marks)) (sym (stops_stay m.schedule (beat_of x) x.entry.what not)) (h n)
