-- What the tables tell after one entry more.
use Rattle.std.proofs.Common.{◌≡◌, ℕ, Bool, false, ◌&&◌, ◌||◌, List, [], ◌∷◌, refl, sym, ap, ◌∙◌}
use Rattle.std.specs.Prelude.{◌==◌}
use Rattle.std.proofs.lemmas.List.Folds.{list_any-append}
use Rattle.tiger_base.specs.declared.tenancy.Tenancy.{Tenancy}
use Rattle.tiger_base.specs.declared.number.CubNo.{CubNo}
use Rattle.tiger_base.specs.declared.number.Instance.{Instance}
use Rattle.node_kit.specs.declared.journal.What.{What}
use Rattle.node_kit.specs.declared.journal.What.TheVariants as what
use Rattle.run_facts.specs.Order.{Noted, beat_of}
use Rattle.run_model.specs.Schedule.{Schedule, Stop, is_stopped, unless_of, after_entry, changed}
use Rattle.run_model.specs.Moments.{Moment, next_moment, opening, is_belief_of, is_put_of}
use Rattle.audit_frame.specs.Tables.{Tenancies, has_number, has_pair, seat_under}
use Rattle.audit_frame.proofs.Added.{or_false, or_none}
use Rattle.audit_frame.proofs.Seated.{put_holder, put_stops, gone_seat}
use Rattle.audit_schedule.specs.Puts.{TellsPuts, unless_in, seat_after}

-- before the first entry
pub tells_opening : (seats : Tenancies) (gone puts : List ℕ) (beliefs : List (ℕ × ℕ)) → seats ≡ [] → gone ≡ [] → puts ≡ [] → beliefs ≡ []
    → TellsPuts seats gone puts beliefs opening
tells_opening seats gone puts beliefs a b c d = rw (a, b, c, d) (record {
  holder = λ slot. refl;
  stopped = λ v. refl;
  put = λ v. refl;
  believed = λ n k. refl;
})

-- ---- a Put

pub put_tells : (seats new_seats : Tenancies) (gone puts new_puts : List ℕ) (beliefs : List (ℕ × ℕ)) (m : Moment) (x : Noted) (t : Tenancy)
    → x.entry.what ≡ what.Put t
    → ((k : ℕ) → seat_under k new_seats ≡ seat_after gone seats t k)
    → ((n : ℕ) → has_number n new_puts ≡ (has_number n puts || (t.instance.0 == n)))
    → TellsPuts seats gone puts beliefs m → TellsPuts new_seats gone new_puts beliefs (next_moment m x)
unfolding next_moment after_entry
put_tells seats new_seats gone puts new_puts beliefs m x t is seated put h = record {
  holder = λ slot.
      ap (λ (w : What). (changed m.schedule (beat_of x) w).holder slot) is
      ∙ put_holder m.schedule (beat_of x) t (λ v. has_number v gone) seats h.holder (h.stopped t.instance.0) slot
      ∙ ap (unless_in gone) (sym (seated slot));
  stopped = λ v.
      ap (λ (w : What). is_stopped v (changed m.schedule (beat_of x) w).stops) is
      ∙ ap (λ (ss : List Stop). is_stopped v ss) (put_stops m.schedule (beat_of x) t) ∙ h.stopped v;
  put = λ v.
      ap (λ (w : What). m.put v || is_put_of v w) is
      ∙ ap (λ (b : Bool). b || (t.instance.0 == v)) (h.put v) ∙ sym (put v);
  believed = λ c d.
      ap (λ (w : What). m.believed c d || ((x.node == c) && is_belief_of d w)) is
      ∙ or_none (m.believed c d) (x.node == c) ∙ h.believed c d;
}

-- ---- a stop

pub gone_tells : (seats : Tenancies) (gone new_gone puts : List ℕ) (beliefs : List (ℕ × ℕ)) (m : Moment) (x : Noted) (v : Instance)
    → x.entry.what ≡ what.Gone v
    → ((n : ℕ) → has_number n new_gone ≡ (has_number n gone || (v.0 == n)))
    → TellsPuts seats gone puts beliefs m → TellsPuts seats new_gone puts beliefs (next_moment m x)
unfolding next_moment after_entry
gone_tells seats gone new_gone puts beliefs m x v is set h = record {
  holder = λ slot.
      ap (λ (w : What). (changed m.schedule (beat_of x) w).holder slot) is
      ∙ ap (unless_of v.0) (h.holder slot)
      ∙ gone_seat v.0 (λ n. has_number n gone) (λ n. has_number n new_gone) set (seat_under slot seats);
  stopped = λ u.
      ap (λ (w : What). is_stopped u (changed m.schedule (beat_of x) w).stops) is
      ∙ list_any-append (λ stop. stop.instance == u) m.schedule.stops ((record { instance = v.0; beat = beat_of x }) ∷ [])
      ∙ ap (λ (b : Bool). b || ((v.0 == u) || false)) (h.stopped u)
      ∙ ap (λ (b : Bool). has_number u gone || b) (or_false (v.0 == u))
      ∙ sym (set u);
  put = λ u. ap (λ (w : What). m.put u || is_put_of u w) is ∙ or_false (m.put u) ∙ h.put u;
  believed = λ c d.
      ap (λ (w : What). m.believed c d || ((x.node == c) && is_belief_of d w)) is
      ∙ or_none (m.believed c d) (x.node == c) ∙ h.believed c d;
}

-- ---- a belief

pub belief_tells : (seats : Tenancies) (gone puts : List ℕ) (beliefs new_beliefs : List (ℕ × ℕ)) (m : Moment) (x : Noted) (cub : CubNo)
    → x.entry.what ≡ what.Believed cub
    → ((c d : ℕ) → has_pair c d new_beliefs ≡ (has_pair c d beliefs || ((x.node == c) && (cub.0 == d))))
    → TellsPuts seats gone puts beliefs m → TellsPuts seats gone puts new_beliefs (next_moment m x)
unfolding next_moment after_entry
belief_tells seats gone puts beliefs new_beliefs m x cub is set h = record {
  holder = λ slot. ap (λ (w : What). (changed m.schedule (beat_of x) w).holder slot) is ∙ h.holder slot;
  stopped = λ v. ap (λ (w : What). is_stopped v (changed m.schedule (beat_of x) w).stops) is ∙ h.stopped v;
  put = λ v. ap (λ (w : What). m.put v || is_put_of v w) is ∙ or_false (m.put v) ∙ h.put v;
  believed = λ c d.
      ap (λ (w : What). m.believed c d || ((x.node == c) && is_belief_of d w)) is
      ∙ ap (λ (b : Bool). b || ((x.node == c) && (cub.0 == d))) (h.believed c d) ∙ sym (set c d);
}

-- ---- any other entry

other_parts : (w : What) → ((t : Tenancy) → w ≡ what.Put t → ⊥) → ((v : Instance) → w ≡ what.Gone v → ⊥) → ((c : CubNo) → w ≡ what.Believed c → ⊥)
    → ((s : Schedule) (beat : ℕ) → changed s beat w ≡ s) × ((v : ℕ) → is_put_of v w ≡ false) × ((d : ℕ) → is_belief_of d w ≡ false)
other_parts (what.Put t) p g b = absurd (p t refl)
other_parts (what.Gone v) p g b = absurd (g v refl)
other_parts (what.Believed c) p g b = absurd (b c refl)
other_parts other p g b = ((λ s beat. refl), (λ v. refl), (λ d. refl))

pub other_tells : (seats : Tenancies) (gone puts : List ℕ) (beliefs : List (ℕ × ℕ)) (m : Moment) (x : Noted)
    → ((t : Tenancy) → x.entry.what ≡ what.Put t → ⊥) → ((v : Instance) → x.entry.what ≡ what.Gone v → ⊥) → ((c : CubNo) → x.entry.what ≡ what.Believed c → ⊥)
    → TellsPuts seats gone puts beliefs m → TellsPuts seats gone puts beliefs (next_moment m x)
unfolding next_moment after_entry
other_tells seats gone puts beliefs m x p g b h =
    let parts = other_parts x.entry.what p g b in
    record {
      holder = λ slot. ap (λ (s : Schedule). s.holder slot) (parts.0 m.schedule (beat_of x)) ∙ h.holder slot;
      stopped = λ v. ap (λ (s : Schedule). is_stopped v s.stops) (parts.0 m.schedule (beat_of x)) ∙ h.stopped v;
      put = λ v. ap (λ (q : Bool). m.put v || q) (parts.1 v) ∙ or_false (m.put v) ∙ h.put v;
      believed = λ c d. ap (λ (q : Bool). m.believed c d || ((x.node == c) && q)) (parts.2 d) ∙ or_none (m.believed c d) (x.node == c) ∙ h.believed c d;
    }
