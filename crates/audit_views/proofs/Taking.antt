-- What the tables tell after one entry more.
use Rattle.std.proofs.Common.{◌≡◌, ℕ, ◌-◌, ◌≤◌, Bool, true, false, not, ◌&&◌, ◌||◌, nat_lt, cond, List, [], ◌∷◌, ◌++◌, length, Option, Some, None, is_some, refl, sym, ap, subst, ◌∙◌, arith}
use Rattle.std.specs.Prelude.{◌==◌}
use Rattle.std.specs.List.{AllByRecursion, list_any}
use Rattle.std.proofs.lemmas.Bool.{eqb-true, eq-eqb, false≢true, both_ways}
use Rattle.std.proofs.lemmas.List.{map-append}
use Rattle.std.proofs.lemmas.List.Folds.{list_any-append}
use Rattle.std.proofs.lemmas.List.Sorted.{IsNonDecreasingBy-push}
use Rattle.tiger_base.specs.declared.number.Instance.{Instance}
use Rattle.tiger_base.specs.declared.tenancy.Rec.{Rec}
use Rattle.tiger_base.specs.declared.tenancy.Tenancy.{Tenancy}
use Rattle.slot_plan.specs.declared.params.Params.{Params}
use Rattle.node_kit.specs.declared.journal.What.{What}
use Rattle.node_kit.specs.declared.journal.What.TheVariants as what
use Rattle.run_facts.specs.Order.{Noted, beat_of}
use Rattle.run_facts.proofs.Rows.{all-append, all-map, all-weaker}
use Rattle.run_model.specs.Schedule.{Schedule, Stop, is_stopped, unless_of, after_entry, changed}
use Rattle.run_model.specs.Views.{same_record, recorded}
use Rattle.run_model.specs.Moments.{Moment, next_moment, opening}
use Rattle.run_model.proofs.Reflects.{any_gives}
use Rattle.audit_frame.specs.Tables.{MarkNumbers, Tenancies, mark_under, seat_under, seat_by, unless_by}
use Rattle.audit_frame.specs.Records.{is_same}
use Rattle.audit_frame.specs.declared.records.Held.{Held}
use Rattle.audit_frame.proofs.Added.{any_before, any_end, or_none}
use Rattle.audit_frame.proofs.Deciding.{each_at}
use Rattle.audit_frame.proofs.Keyed.{any_filtered}
use Rattle.audit_frame.proofs.Recorded.{one_record, same_turned}
use Rattle.audit_frame.proofs.Seated.{put_holder, put_stops, gone_seat}
use Rattle.audit_views.specs.Standing.{has_record}
use Rattle.audit_views.specs.Views.{is_in_view, is_marked, IsLatestStop, told_stop, TellsSchedule, TellsRecords, TellsViews}
use Rattle.audit_views.specs.declared.views.Stopped.{Stopped}

-- ---- the schedule

none_stopped : (v : ℕ) (ss : List Stop) → AllByRecursion (λ s. s.instance ≡ v → ⊥) ss → is_stopped v ss ≡ false
none_stopped v [] h = refl
none_stopped v (s ∷ ss) h = go (s.instance == v) refl (none_stopped v ss h.1) where
  go : (b : Bool) → (s.instance == v) ≡ b → is_stopped v ss ≡ false → (b || is_stopped v ss) ≡ false
  go true e r = absurd (h.0 (eqb-true s.instance v e))
  go false e r = r

pub stopped_is : (v : ℕ) (ss : List Stop) (o : Option ℕ) → IsLatestStop v ss o → is_stopped v ss ≡ is_some o
stopped_is v ss None h = none_stopped v ss h
stopped_is v ss (Some b) h =
    any_gives (λ s. (s.instance ≡ v) × (s.beat ≡ b)) (λ s. s.instance == v) (λ s q. eq-eqb s.instance v q.0) ss h.1

early_still : (now soon : ℕ) (kept : List Stopped) → now ≤ soon → AllByRecursion (λ s. s.beat ≤ now) kept
    → AllByRecursion (λ s. s.beat ≤ soon) kept
early_still now soon kept le h = all-weaker (λ s. s.beat ≤ now) (λ s. s.beat ≤ soon) kept (λ s q. omega (arith, q, le)) h

still_told : (seats : Tenancies) (marks : MarkNumbers) (kept : List Stopped) (now soon : ℕ) (s t : Schedule) → t ≡ s → now ≤ soon
    → TellsSchedule seats marks kept now s → TellsSchedule seats marks kept soon t
still_told seats marks kept now soon s t same le h =
    subst (λ (q : Schedule). TellsSchedule seats marks kept soon q) (sym same) (record {
      holder = h.holder;
      stops = h.stops;
      rising = h.rising;
      early = early_still now soon kept le h.early;
      latest = h.latest;
    })

put_told : (seats new : Tenancies) (marks : MarkNumbers) (kept : List Stopped) (now soon : ℕ) (s : Schedule) (t : Tenancy)
    → ((k : ℕ) → seat_under k new ≡ seat_by (is_marked marks) seats t k) → now ≤ soon → TellsSchedule seats marks kept now s
    → TellsSchedule new marks kept soon (changed s soon (what.Put t))
put_told seats new marks kept now soon s t seated le h = record {
  holder = λ slot.
      put_holder s soon t (is_marked marks) seats h.holder
      (stopped_is t.instance.0 s.stops (mark_under t.instance.0 marks) (h.latest t.instance.0)) slot
      ∙ ap (unless_by (is_marked marks)) (sym (seated slot));
  stops = put_stops s soon t ∙ h.stops;
  rising = h.rising;
  early = early_still now soon kept le h.early;
  latest = λ v. subst (λ (ss : List Stop). IsLatestStop v ss (mark_under v marks)) (sym (put_stops s soon t)) (h.latest v);
}

-- ---- a stop more

abbrev stopped : Instance → ℕ → Stopped
stopped v beat = record { instance = v; beat = beat }

abbrev stop_by : ℕ → ℕ → Stop
stop_by v beat = record { instance = v; beat = beat }

marked_more : (v soon n : ℕ) (marks new : MarkNumbers) → mark_under n new ≡ cond (v == n) (Some soon) (mark_under n marks)
    → is_marked new n ≡ (is_marked marks n || (v == n))
marked_more v soon n marks new set = ap is_some set ∙ go (v == n) (mark_under n marks) where
  go : (b : Bool) (o : Option ℕ) → is_some (cond b (Some soon) o) ≡ (is_some o || b)
  go true None = refl
  go true (Some k) = refl
  go false None = refl
  go false (Some k) = refl

own_latest : (n v soon : ℕ) (ss : List Stop) → v ≡ n → AllByRecursion (λ s. s.beat ≤ soon) ss
    → IsLatestStop n (ss ++ stop_by v soon ∷ []) (Some soon)
own_latest n v soon ss is early = (
  all-append (λ s. s.instance ≡ n → s.beat ≤ soon) ss (stop_by v soon ∷ [])
      (all-weaker (λ s. s.beat ≤ soon) (λ s. s.instance ≡ n → s.beat ≤ soon) ss (λ s q e. q) early) ((λ e. omega arith), tt),
  any_end (λ s. (s.instance ≡ n) × (s.beat ≡ soon)) ss (stop_by v soon) (is, refl),
)

other_latest : (n v soon : ℕ) (ss : List Stop) (o : Option ℕ) → (v ≡ n → ⊥) → IsLatestStop n ss o
    → IsLatestStop n (ss ++ stop_by v soon ∷ []) o
other_latest n v soon ss None ne h =
    all-append (λ s. s.instance ≡ n → ⊥) ss (stop_by v soon ∷ []) h ((λ e. ne e), tt)
other_latest n v soon ss (Some b) ne h = (
  all-append (λ s. s.instance ≡ n → s.beat ≤ b) ss (stop_by v soon ∷ []) h.0 ((λ e. absurd (ne e)), tt),
  any_before (λ s. (s.instance ≡ n) × (s.beat ≡ b)) ss (stop_by v soon ∷ []) h.1,
)

latest_more : (n v soon : ℕ) (ss : List Stop) (o : Option ℕ) (b : Bool) → (v == n) ≡ b → AllByRecursion (λ s. s.beat ≤ soon) ss
    → IsLatestStop n ss o → IsLatestStop n (ss ++ stop_by v soon ∷ []) (cond b (Some soon) o)
latest_more n v soon ss o true e early h = own_latest n v soon ss (eqb-true v n e) early
latest_more n v soon ss o false e early h = other_latest n v soon ss o (λ same. both_ways (v == n) e (eq-eqb v n same)) h

gone_told : (seats : Tenancies) (marks new : MarkNumbers) (kept : List Stopped) (now soon : ℕ) (s : Schedule) (v : Instance)
    → ((n : ℕ) → mark_under n new ≡ cond (v.0 == n) (Some soon) (mark_under n marks)) → now ≤ soon
    → TellsSchedule seats marks kept now s
    → TellsSchedule seats new (kept ++ stopped v soon ∷ []) soon (changed s soon (what.Gone v))
gone_told seats marks new kept now soon s v set le h =
    let early = early_still now soon kept le h.early in
    record {
      holder = λ slot.
          ap (unless_of v.0) (h.holder slot)
          ∙ gone_seat v.0 (is_marked marks) (is_marked new) (λ n. marked_more v.0 soon n marks new (set n)) (seat_under slot seats);
      stops = ap (λ (ss : List Stop). ss ++ stop_by v.0 soon ∷ []) h.stops ∙ sym (map-append told_stop kept (stopped v soon ∷ []));
      rising = IsNonDecreasingBy-push (λ (q : Stopped). q.beat) kept (stopped v soon) h.rising
          (λ d some. each_at (λ (q : Stopped). q.beat ≤ soon) kept (length kept - 1) d early (omega (arith, some)));
      early = all-append (λ (q : Stopped). q.beat ≤ soon) kept (stopped v soon ∷ []) early (omega arith, tt);
      latest = λ n.
          subst (λ (o : Option ℕ). IsLatestStop n (s.stops ++ stop_by v.0 soon ∷ []) o) (sym (set n))
          (latest_more n v.0 soon s.stops (mark_under n marks) (v.0 == n) refl
          (subst (λ (ss : List Stop). AllByRecursion (λ q. q.beat ≤ soon) ss) (sym h.stops)
          (all-map (λ (q : Stop). q.beat ≤ soon) told_stop kept early)) (h.latest n));
    }

-- ---- which entries change what

abbrev of_schedule : What → Bool
of_schedule (what.Put t) = true
of_schedule (what.Gone v) = true
of_schedule other = false

abbrev pub of_records : What → Bool
of_records (what.Took r) = true
of_records (what.Dropped r) = true
of_records what.Died = true
of_records what.Returned = true
of_records other = false

unchanged : (s : Schedule) (beat : ℕ) (w : What) → of_schedule w ≡ false → changed s beat w ≡ s
unchanged s beat (what.Put t) e = absurd (false≢true (sym e))
unchanged s beat (what.Gone v) e = absurd (false≢true (sym e))
unchanged s beat other e = refl

unrecorded : (xs : List Rec) (w : What) → of_records w ≡ false → recorded xs w ≡ xs
unrecorded xs (what.Took r) e = absurd (false≢true (sym e))
unrecorded xs (what.Dropped r) e = absurd (false≢true (sym e))
unrecorded xs what.Died e = absurd (false≢true (sym e))
unrecorded xs what.Returned e = absurd (false≢true (sym e))
unrecorded xs other e = refl

-- ---- the records

-- what the view of a cub has after an entry of a node, if that is the cub, and if it is not
abbrev seen_after : Params → Moment → ℕ → Rec → Bool → What → Bool
seen_after p m c r here w = nat_lt c p.cubs && list_any (same_record r) (cond here (recorded (m.records c) w) (m.records c))

-- ---- a record is taken

taken_bits : (low a s : Bool) → ((low && a) || (low && s)) ≡ (low && (a || (s || false)))
taken_bits false a s = refl
taken_bits true true s = refl
taken_bits true false true = refl
taken_bits true false false = refl

took_here : (p : Params) (m : Moment) (n c : ℕ) (q r : Rec) (b : Bool) → (n == c) ≡ b
    → (is_in_view p m c r || (nat_lt n p.cubs && (b && same_record q r))) ≡ seen_after p m c r b (what.Took q)
took_here p m n c q r true e =
    ap (λ (k : ℕ). is_in_view p m c r || (nat_lt k p.cubs && same_record q r)) (eqb-true n c e)
    ∙ (taken_bits (nat_lt c p.cubs) (list_any (same_record r) (m.records c)) (same_record q r)
    ∙ (ap (λ (s : Bool). nat_lt c p.cubs && (list_any (same_record r) (m.records c) || (s || false))) (same_turned q r)
    ∙ ap (λ (s : Bool). nat_lt c p.cubs && s) (sym (list_any-append (same_record r) (m.records c) (q ∷ [])))))
took_here p m n c q r false e = or_none (is_in_view p m c r) (nat_lt n p.cubs)

pub took_told : (p : Params) (old new : List Held) (m : Moment) (x : Noted) (q : Rec) → x.entry.what ≡ what.Took q
    → ((c : ℕ) (r : Rec) → has_record c r new ≡ (has_record c r old || (nat_lt x.node p.cubs && is_same x.node q c r)))
    → TellsRecords p old m → TellsRecords p new (next_moment m x)
unfolding next_moment
took_told p old new m x q is added h c r =
    added c r
    ∙ ap (λ (b : Bool). b || (nat_lt x.node p.cubs && is_same x.node q c r)) (h c r)
    ∙ took_here p m x.node c q r (x.node == c) refl
    ∙ ap (seen_after p m c r (x.node == c)) (sym is)

-- ---- a record is dropped

dropped_bits : (low a s : Bool) → ((low && a) && s) ≡ (low && (a && s))
dropped_bits false a s = refl
dropped_bits true a s = refl

and_true : (b : Bool) → (b && true) ≡ b
and_true true = refl
and_true false = refl

dropped_here : (p : Params) (m : Moment) (c : ℕ) (q r : Rec) (b : Bool)
    → (is_in_view p m c r && not (b && same_record q r)) ≡ seen_after p m c r b (what.Dropped q)
dropped_here p m c q r true =
    dropped_bits (nat_lt c p.cubs) (list_any (same_record r) (m.records c)) (not (same_record q r))
    ∙ ap (λ (s : Bool). nat_lt c p.cubs && s)
    (sym (any_filtered (same_record r) (λ k. not (same_record q k)) (not (same_record q r)) (m.records c)
    (λ k e. ap (λ (y : Rec). not (same_record q y)) (sym (one_record r k e)))))
dropped_here p m c q r false = and_true (is_in_view p m c r)

pub dropped_told : (p : Params) (old new : List Held) (m : Moment) (x : Noted) (q : Rec) → x.entry.what ≡ what.Dropped q
    → ((c : ℕ) (r : Rec) → has_record c r new ≡ (has_record c r old && not (is_same x.node q c r)))
    → TellsRecords p old m → TellsRecords p new (next_moment m x)
unfolding next_moment
dropped_told p old new m x q is removed h c r =
    removed c r
    ∙ ap (λ (b : Bool). b && not (is_same x.node q c r)) (h c r)
    ∙ dropped_here p m c q r (x.node == c)
    ∙ ap (seen_after p m c r (x.node == c)) (sym is)

-- ---- a node dies, or is back: its view is empty

abbrev pub empties : What → Bool
empties what.Died = true
empties what.Returned = true
empties other = false

and_none : (b : Bool) → (b && false) ≡ false
and_none true = refl
and_none false = refl

emptied_here : (p : Params) (m : Moment) (c : ℕ) (r : Rec) (w : What) (b : Bool) → empties w ≡ true
    → (is_in_view p m c r && not b) ≡ seen_after p m c r b w
emptied_here p m c r what.Died true e = and_none (is_in_view p m c r) ∙ sym (and_none (nat_lt c p.cubs))
emptied_here p m c r what.Returned true e = and_none (is_in_view p m c r) ∙ sym (and_none (nat_lt c p.cubs))
emptied_here p m c r w false e = and_true (is_in_view p m c r)
emptied_here p m c r other true e = absurd (false≢true e)

pub emptied_told : (p : Params) (old new : List Held) (m : Moment) (x : Noted) → empties x.entry.what ≡ true
    → ((c : ℕ) (r : Rec) → has_record c r new ≡ (has_record c r old && not (x.node == c)))
    → TellsRecords p old m → TellsRecords p new (next_moment m x)
unfolding next_moment
emptied_told p old new m x is cleared h c r =
    cleared c r
    ∙ ap (λ (b : Bool). b && not (x.node == c)) (h c r)
    ∙ emptied_here p m c r x.entry.what (x.node == c) is

-- ---- another entry

other_here : (p : Params) (m : Moment) (c : ℕ) (r : Rec) (w : What) (b : Bool) → of_records w ≡ false
    → is_in_view p m c r ≡ seen_after p m c r b w
other_here p m c r w true e =
    ap (λ (xs : List Rec). nat_lt c p.cubs && list_any (same_record r) xs) (sym (unrecorded (m.records c) w e))
other_here p m c r w false e = refl

pub same_told : (p : Params) (held : List Held) (m : Moment) (x : Noted) → of_records x.entry.what ≡ false
    → TellsRecords p held m → TellsRecords p held (next_moment m x)
unfolding next_moment
same_told p held m x e h c r = h c r ∙ other_here p m c r x.entry.what (x.node == c) e

-- ---- all tables, for each kind of entry

pub put_taken : (p : Params) (seats new : Tenancies) (marks : MarkNumbers) (kept : List Stopped) (held : List Held)
    (now : ℕ) (m : Moment) (x : Noted) (t : Tenancy) → x.entry.what ≡ what.Put t
    → ((k : ℕ) → seat_under k new ≡ seat_by (is_marked marks) seats t k)
    → TellsViews p seats marks kept held now m → m.beat ≤ beat_of x
    → TellsViews p new marks kept held (beat_of x) (next_moment m x)
unfolding next_moment after_entry
put_taken p seats new marks kept held now m x t is seated h le = record {
  beat = refl;
  schedule = subst (λ (w : What). TellsSchedule new marks kept (beat_of x) (changed m.schedule (beat_of x) w)) (sym is)
      (put_told seats new marks kept now (beat_of x) m.schedule t seated (let b = h.beat in omega (arith, b, le)) h.schedule);
  records = same_told p held m x (ap of_records is) h.records;
}

pub gone_taken : (p : Params) (seats : Tenancies) (marks new : MarkNumbers) (kept more : List Stopped) (held : List Held)
    (now : ℕ) (m : Moment) (x : Noted) (v : Instance) → x.entry.what ≡ what.Gone v
    → ((n : ℕ) → mark_under n new ≡ cond (v.0 == n) (Some (beat_of x)) (mark_under n marks))
    → more ≡ kept ++ stopped v (beat_of x) ∷ []
    → TellsViews p seats marks kept held now m → m.beat ≤ beat_of x
    → TellsViews p seats new more held (beat_of x) (next_moment m x)
unfolding next_moment after_entry
gone_taken p seats marks new kept more held now m x v is set pushed h le = record {
  beat = refl;
  schedule = subst (λ (w : What). TellsSchedule seats new more (beat_of x) (changed m.schedule (beat_of x) w)) (sym is)
      (subst (λ (ss : List Stopped). TellsSchedule seats new ss (beat_of x) (changed m.schedule (beat_of x) (what.Gone v))) (sym pushed)
      (gone_told seats marks new kept now (beat_of x) m.schedule v set (let b = h.beat in omega (arith, b, le)) h.schedule));
  records = same_told p held m x (ap of_records is) h.records;
}

records_taken : (p : Params) (seats : Tenancies) (marks : MarkNumbers) (kept : List Stopped) (held new : List Held)
    (now : ℕ) (m : Moment) (x : Noted) → of_schedule x.entry.what ≡ false
    → TellsRecords p new (next_moment m x)
    → TellsViews p seats marks kept held now m → m.beat ≤ beat_of x
    → TellsViews p seats marks kept new (beat_of x) (next_moment m x)
unfolding next_moment after_entry
records_taken p seats marks kept held new now m x e told h le = record {
  beat = refl;
  schedule = still_told seats marks kept now (beat_of x) m.schedule (changed m.schedule (beat_of x) x.entry.what)
      (unchanged m.schedule (beat_of x) x.entry.what e) (let b = h.beat in omega (arith, b, le)) h.schedule;
  records = told;
}

pub took_taken : (p : Params) (seats : Tenancies) (marks : MarkNumbers) (kept : List Stopped) (held new : List Held)
    (now : ℕ) (m : Moment) (x : Noted) (q : Rec) → x.entry.what ≡ what.Took q
    → ((c : ℕ) (r : Rec) → has_record c r new
    ≡ (has_record c r held || (nat_lt x.node p.cubs && is_same x.node q c r)))
    → TellsViews p seats marks kept held now m → m.beat ≤ beat_of x
    → TellsViews p seats marks kept new (beat_of x) (next_moment m x)
took_taken p seats marks kept held new now m x q is added h le =
    records_taken p seats marks kept held new now m x (ap of_schedule is)
    (took_told p held new m x q is added h.records) h le

pub dropped_taken : (p : Params) (seats : Tenancies) (marks : MarkNumbers) (kept : List Stopped) (held new : List Held)
    (now : ℕ) (m : Moment) (x : Noted) (q : Rec) → x.entry.what ≡ what.Dropped q
    → ((c : ℕ) (r : Rec) → has_record c r new ≡ (has_record c r held && not (is_same x.node q c r)))
    → TellsViews p seats marks kept held now m → m.beat ≤ beat_of x
    → TellsViews p seats marks kept new (beat_of x) (next_moment m x)
dropped_taken p seats marks kept held new now m x q is removed h le =
    records_taken p seats marks kept held new now m x (ap of_schedule is)
    (dropped_told p held new m x q is removed h.records) h le

no_schedule : (w : What) → empties w ≡ true → of_schedule w ≡ false
no_schedule what.Died e = refl
no_schedule what.Returned e = refl
no_schedule other e = absurd (false≢true e)

pub emptied_taken : (p : Params) (seats : Tenancies) (marks : MarkNumbers) (kept : List Stopped) (held new : List Held)
    (now : ℕ) (m : Moment) (x : Noted) → empties x.entry.what ≡ true
    → ((c : ℕ) (r : Rec) → has_record c r new ≡ (has_record c r held && not (x.node == c)))
    → TellsViews p seats marks kept held now m → m.beat ≤ beat_of x
    → TellsViews p seats marks kept new (beat_of x) (next_moment m x)
emptied_taken p seats marks kept held new now m x is cleared h le =
    records_taken p seats marks kept held new now m x (no_schedule x.entry.what is)
    (emptied_told p held new m x is cleared h.records) h le

other_kind : (w : What) → ((t : Tenancy) → w ≡ what.Put t → ⊥) → ((v : Instance) → w ≡ what.Gone v → ⊥)
    → ((r : Rec) → w ≡ what.Took r → ⊥) → ((r : Rec) → w ≡ what.Dropped r → ⊥) → (w ≡ what.Died → ⊥)
    → (w ≡ what.Returned → ⊥) → (of_schedule w ≡ false) × (of_records w ≡ false)
other_kind (what.Put t) a b c d e f = absurd (a t refl)
other_kind (what.Gone v) a b c d e f = absurd (b v refl)
other_kind (what.Took r) a b c d e f = absurd (c r refl)
other_kind (what.Dropped r) a b c d e f = absurd (d r refl)
other_kind what.Died a b c d e f = absurd (e refl)
other_kind what.Returned a b c d e f = absurd (f refl)
other_kind other a b c d e f = (refl, refl)

pub other_taken : (p : Params) (seats : Tenancies) (marks : MarkNumbers) (kept : List Stopped) (held : List Held)
    (now : ℕ) (m : Moment) (x : Noted) → ((t : Tenancy) → x.entry.what ≡ what.Put t → ⊥)
    → ((v : Instance) → x.entry.what ≡ what.Gone v → ⊥) → ((r : Rec) → x.entry.what ≡ what.Took r → ⊥)
    → ((r : Rec) → x.entry.what ≡ what.Dropped r → ⊥) → (x.entry.what ≡ what.Died → ⊥) → (x.entry.what ≡ what.Returned → ⊥)
    → TellsViews p seats marks kept held now m → m.beat ≤ beat_of x
    → TellsViews p seats marks kept held (beat_of x) (next_moment m x)
other_taken p seats marks kept held now m x a b c d e f h le =
    let kind = other_kind x.entry.what a b c d e f in
    records_taken p seats marks kept held held now m x kind.0 (same_told p held m x kind.1 h.records) h le

-- ---- before the first entry

pub nothing_told : (p : Params) → TellsRecords p [] opening
nothing_told p c r = sym (and_none (nat_lt c p.cubs))

pub tells_opening : (p : Params) (seats : Tenancies) (marks : MarkNumbers) (kept : List Stopped) (held : List Held) (now : ℕ)
    → seats ≡ [] → marks ≡ [] → kept ≡ [] → held ≡ [] → now ≡ 0 → TellsViews p seats marks kept held now opening
tells_opening p seats marks kept held now a b c d e = rw (a, b, c, d, e) (record {
  beat = refl;
  schedule = record {
    holder = λ slot. refl;
    stops = refl;
    rising = λ i j q le low. absurd (omega (arith, low));
    early = tt;
    latest = λ v. tt;
  };
  records = nothing_told p;
})
