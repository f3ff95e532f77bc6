-- Who holds each slot and whose stop is recent, after one entry more.
use Rattle.std.proofs.Common.{◌≡◌, ℕ, ◌+◌, ◌≤◌, Bool, true, false, not, ◌&&◌, ◌||◌, ◌==◌, IsTrue, nat_lt, nat_le, cond, List, [], ◌∷◌, Option, Some, None, is_some, refl, sym, ap, subst, ◌∙◌, arith}
use Rattle.std.specs.List.{list_any}
use Rattle.std.proofs.lemmas.Bool.{eqb-true, false≢true, ltb-true}
use Rattle.std.proofs.lemmas.List.Folds.{list_any-append}
use Rattle.tiger_base.specs.declared.number.Instance.{Instance}
use Rattle.tiger_base.specs.declared.tenancy.Tenancy.{Tenancy}
use Rattle.slot_plan.specs.declared.params.Params.{Params}
use Rattle.slot_plan.specs.Times.{time_of}
use Rattle.slot_plan.proofs.Times.{time_mono}
use Rattle.node_kit.specs.declared.journal.What.{What}
use Rattle.node_kit.specs.declared.journal.What.TheVariants as what
use Rattle.run_facts.specs.Order.{Noted, beat_of}
use Rattle.run_model.specs.Schedule.{Schedule, Stop, after_entry, changed, empty_schedule, is_stopped, unless_of}
use Rattle.run_model.specs.Moments.{Moment, next_moment}
use Rattle.run_model.proofs.Reflects.{at_most}
use Rattle.audit_frame.specs.Tables.{MarkNumbers, Tenancies, mark_under, seat_under, seat_by, unless_by}
use Rattle.audit_frame.proofs.Added.{not_below, or_false}
use Rattle.audit_frame.proofs.Seated.{gone_seat, put_holder, put_stops}
use Rattle.audit_waits.specs.Holders.{TellsHolders, has_its_visit, has_mark, is_latest_recent, is_recent_stop, is_soon_behind, later_stop}
use Rattle.audit_waits.specs.Seen.{KeepsVisits}
use Rattle.audit_waits.specs.declared.holders.Holders.{Holders}

-- ---- a Put

put_held : (p : Params) (old new : Holders) (s : Schedule) (beat : ℕ) (t : Tenancy) → new.stops ≡ old.stops
    → ((k : ℕ) → seat_under k new.seats ≡ seat_by (has_mark old.stops) old.seats t k)
    → TellsHolders p old s → TellsHolders p new (changed s beat (what.Put t))
put_held p old new s beat t same seated h = record {
  holder = λ slot.
      put_holder s beat t (has_mark old.stops) old.seats h.holder (h.stopped t.instance.0) slot
      ∙ ap (unless_by (has_mark old.stops)) (sym (seated slot))
      ∙ ap (λ (marks : MarkNumbers). unless_by (has_mark marks) (seat_under slot new.seats)) (sym same);
  stopped = λ v.
      ap (λ (ss : List Stop). is_stopped v ss) (put_stops s beat t) ∙ h.stopped v
      ∙ ap (λ (marks : MarkNumbers). has_mark marks v) (sym same);
  recent = λ v b.
      ap (λ (ss : List Stop). list_any (is_recent_stop p b v) ss) (put_stops s beat t) ∙ h.recent v b
      ∙ ap (λ (marks : MarkNumbers). is_latest_recent p b (mark_under v marks)) (sym same);
}

-- ---- a stop

with_reason : (a b : Bool) → (IsTrue b → IsTrue a) → a ≡ (a || b)
with_reason true b f = refl
with_reason false true f = f refl
with_reason false false f = refl

with_late : (a b : Bool) → (IsTrue a → IsTrue b) → b ≡ (a || b)
with_late true b f = f refl
with_late false b f = refl

soon_behind_later : (p : Params) (beat a b : ℕ) → a ≤ b → IsTrue (is_soon_behind p beat a) → IsTrue (is_soon_behind p beat b)
soon_behind_later p beat a b le h =
    let most = (at_most (time_of p beat) (time_of p a + p.play)).0 h in
    let later = time_mono p a b le in
    (at_most (time_of p beat) (time_of p b + p.play)).1 (omega (arith, most, later))

recent_more : (p : Params) (beat : ℕ) (o : Option ℕ) (b : ℕ)
    → is_latest_recent p beat (Some (later_stop o b)) ≡ (is_latest_recent p beat o || is_soon_behind p beat b)
recent_more p beat None b = refl
recent_more p beat (Some other) b = go (nat_lt b other) refl where
  go : (t : Bool) → nat_lt b other ≡ t → is_soon_behind p beat (cond t other b) ≡ (is_soon_behind p beat other || is_soon_behind p beat b)
  go true e = with_reason (is_soon_behind p beat other) (is_soon_behind p beat b)
      (soon_behind_later p beat b other (let less = ltb-true b other e in omega (arith, less)))
  go false e = with_late (is_soon_behind p beat other) (is_soon_behind p beat b) (soon_behind_later p beat other b (not_below b other e))

abbrev is_set : ℕ → ℕ → MarkNumbers → MarkNumbers → Type 0
is_set v b old new = (n : ℕ) → mark_under n new ≡ cond (v == n) (Some (later_stop (mark_under v old) b)) (mark_under n old)

marked_more : (v b n : ℕ) (old new : MarkNumbers) → is_set v b old new → has_mark new n ≡ (has_mark old n || (v == n))
marked_more v b n old new set = ap is_some (set n) ∙ go (v == n) (mark_under n old) where
  go : (t : Bool) (o : Option ℕ) → is_some (cond t (Some (later_stop (mark_under v old) b)) o) ≡ (is_some o || t)
  go true None = refl
  go true (Some k) = refl
  go false None = refl
  go false (Some k) = refl

recent_set : (p : Params) (v b n beat : ℕ) (old new : MarkNumbers) → is_set v b old new
    → is_latest_recent p beat (mark_under n new) ≡ (is_latest_recent p beat (mark_under n old) || ((v == n) && is_soon_behind p beat b))
recent_set p v b n beat old new set = ap (is_latest_recent p beat) (set n) ∙ go (v == n) refl where
  go : (t : Bool) → (v == n) ≡ t → is_latest_recent p beat (cond t (Some (later_stop (mark_under v old) b)) (mark_under n old))
      ≡ (is_latest_recent p beat (mark_under n old) || (t && is_soon_behind p beat b))
  go true e =
      recent_more p beat (mark_under v old) b
      ∙ ap (λ (k : ℕ). is_latest_recent p beat (mark_under k old) || is_soon_behind p beat b) (eqb-true v n e)
  go false e = sym (or_false (is_latest_recent p beat (mark_under n old)))

gone_held : (p : Params) (old new : Holders) (s : Schedule) (beat : ℕ) (v : Instance) → new.seats ≡ old.seats
    → is_set v.0 beat old.stops new.stops → TellsHolders p old s → TellsHolders p new (changed s beat (what.Gone v))
gone_held p old new s beat v same set h = record {
  holder = λ slot.
      ap (unless_of v.0) (h.holder slot)
      ∙ gone_seat v.0 (has_mark old.stops) (has_mark new.stops) (λ n. marked_more v.0 beat n old.stops new.stops set) (seat_under slot old.seats)
      ∙ ap (λ (seats : Tenancies). unless_by (has_mark new.stops) (seat_under slot seats)) (sym same);
  stopped = λ n.
      list_any-append (λ (stop : Stop). stop.instance == n) s.stops ((record { instance = v.0; beat = beat }) ∷ [])
      ∙ ap (λ (b : Bool). is_stopped n s.stops || b) (or_false (v.0 == n))
      ∙ ap (λ (b : Bool). b || (v.0 == n)) (h.stopped n)
      ∙ sym (marked_more v.0 beat n old.stops new.stops set);
  recent = λ n b.
      list_any-append (is_recent_stop p b n) s.stops ((record { instance = v.0; beat = beat }) ∷ [])
      ∙ ap (λ (q : Bool). list_any (is_recent_stop p b n) s.stops || q) (or_false ((v.0 == n) && is_soon_behind p b beat))
      ∙ ap (λ (q : Bool). q || ((v.0 == n) && is_soon_behind p b beat)) (h.recent n b)
      ∙ sym (recent_set p v.0 beat n b old.stops new.stops set);
}

-- ---- one entry more

pub put_holds : (p : Params) (old new : Holders) (m : Moment) (x : Noted) (t : Tenancy) → x.entry.what ≡ what.Put t
    → new.stops ≡ old.stops → ((k : ℕ) → seat_under k new.seats ≡ seat_by (has_mark old.stops) old.seats t k)
    → TellsHolders p old m.schedule → TellsHolders p new (next_moment m x).schedule
unfolding next_moment after_entry
put_holds p old new m x t is same seated h =
    subst (λ (w : What). TellsHolders p new (changed m.schedule (beat_of x) w)) (sym is)
    (put_held p old new m.schedule (beat_of x) t same seated h)

pub gone_holds : (p : Params) (old new : Holders) (m : Moment) (x : Noted) (v : Instance) → x.entry.what ≡ what.Gone v
    → new.seats ≡ old.seats → is_set v.0 (beat_of x) old.stops new.stops
    → TellsHolders p old m.schedule → TellsHolders p new (next_moment m x).schedule
unfolding next_moment after_entry
gone_holds p old new m x v is same set h =
    subst (λ (w : What). TellsHolders p new (changed m.schedule (beat_of x) w)) (sym is)
    (gone_held p old new m.schedule (beat_of x) v same set h)

unchanged : (s : Schedule) (beat : ℕ) (w : What) → ((t : Tenancy) → w ≡ what.Put t → ⊥) → ((v : Instance) → w ≡ what.Gone v → ⊥)
    → changed s beat w ≡ s
unchanged s beat (what.Put t) a b = absurd (a t refl)
unchanged s beat (what.Gone v) a b = absurd (b v refl)
unchanged s beat other a b = refl

pub other_holds : (p : Params) (s : Holders) (m : Moment) (x : Noted) → ((t : Tenancy) → x.entry.what ≡ what.Put t → ⊥)
    → ((v : Instance) → x.entry.what ≡ what.Gone v → ⊥) → TellsHolders p s m.schedule → TellsHolders p s (next_moment m x).schedule
unfolding next_moment after_entry
other_holds p s m x a b h =
    subst (λ (q : Schedule). TellsHolders p s q) (sym (unchanged m.schedule (beat_of x) x.entry.what a b)) h

-- ---- before the first entry

pub holders_opening : (p : Params) (s : Holders) → s.seats ≡ [] → s.stops ≡ [] → TellsHolders p s empty_schedule
holders_opening p s seats stops = record {
  holder = λ slot. sym (ap (λ (rows : Tenancies). unless_by (has_mark s.stops) (seat_under slot rows)) seats);
  stopped = λ v. sym (ap (λ (marks : MarkNumbers). has_mark marks v) stops);
  recent = λ v beat. sym (ap (λ (marks : MarkNumbers). is_latest_recent p beat (mark_under v marks)) stops);
}

-- ---- who has a visit

pub marked_not : (o : Option ℕ) (r : Bool) → is_some o ≡ not r → r ≡ not (is_some o)
marked_not o true e = sym (ap not e)
marked_not o false e = sym (ap not e)

-- what the one seat of a slot tells
pub seat_tells : (gone : ℕ → Bool) (t : Tenancy) (visit : ℕ) (seat : Option Tenancy) (r : Bool) → seat ≡ Some t → r ≡ not (gone t.instance.0)
    → (r && (nat_le t.first visit && nat_le visit t.last)) ≡ has_its_visit (unless_by gone seat) visit
seat_tells gone t visit seat r is e =
    ap (λ (b : Bool). b && (nat_le t.first visit && nat_le visit t.last)) e
    ∙ go (gone t.instance.0)
    ∙ ap (λ (o : Option Tenancy). has_its_visit (unless_by gone o) visit) (sym is)
  where
    go : (b : Bool) → (not b && (nat_le t.first visit && nat_le visit t.last)) ≡ has_its_visit (cond b None (Some t)) visit
    go true = refl
    go false = refl

-- ---- who keeps what

seat_stays : (gone : ℕ → Bool) (t : Tenancy) (slot visit : ℕ) (seats : Tenancies) → is_some (seat_under t.slot.0 seats) ≡ false
    → IsTrue (has_its_visit (unless_by gone (seat_under slot seats)) visit)
    → IsTrue (has_its_visit (unless_by gone (seat_by gone seats t slot)) visit)
seat_stays gone t slot visit seats none had = go (gone t.instance.0) (t.slot.0 == slot) refl
  where
    nobody : (o : Option Tenancy) → is_some o ≡ false → IsTrue (has_its_visit (unless_by gone o) visit) → ⊥
    nobody None e h = false≢true h
    nobody (Some u) e h = false≢true (sym e)

    go : (a b : Bool) → (t.slot.0 == slot) ≡ b
        → IsTrue (has_its_visit (unless_by gone (cond a (seat_under slot seats) (cond b (Some t) (seat_under slot seats)))) visit)
    go true b e = had
    go false true e = absurd (nobody (seat_under slot seats)
        (subst (λ (k : ℕ). is_some (seat_under k seats) ≡ false) (eqb-true t.slot.0 slot e) none) had)
    go false false e = had

-- where a Put finds that nobody had its slot, each visit that was had is had
pub put_keeps : (old new : Holders) (t : Tenancy) (seat : Option Tenancy) (first : Bool) → seat ≡ seat_under t.slot.0 old.seats
    → is_some seat ≡ not first → IsTrue first → new.stops ≡ old.stops
    → ((k : ℕ) → seat_under k new.seats ≡ seat_by (has_mark old.stops) old.seats t k) → KeepsVisits old new
put_keeps old new t seat first is e sure same seated k had =
    subst (λ (o : Option Tenancy). IsTrue (has_its_visit (unless_by (has_mark new.stops) o) k.1)) (sym (seated k.0.0))
    (subst (λ (marks : MarkNumbers). IsTrue (has_its_visit (unless_by (has_mark marks) (seat_by (has_mark old.stops) old.seats t k.0.0)) k.1)) (sym same)
    (seat_stays (has_mark old.stops) t k.0.0 k.1 old.seats (ap is_some (sym is) ∙ e ∙ ap not sure) had))
