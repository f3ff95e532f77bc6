-- A walk along the order shows the schedule.
use Rattle.std.proofs.Common.{◌≡◌, ℕ, zero, suc, ◌+◌, ◌-◌, ◌<◌, ◌≤◌, Bool, true, false, not, List, [], ◌∷◌, ◌++◌, length, take, drop, filter, get_or, refl, sym, ap, subst, ◌∙◌, append_assoc, append-nil, arith}
use Rattle.std.specs.Prelude.{◌==◌}
use Rattle.std.specs.List.{list_any, fold}
use Rattle.std.proofs.lemmas.Bool.{eq-eqb, ne_eqb}
use Rattle.std.proofs.lemmas.List.{map-append, length-append, take_more, drop_more, drop_all}
use Rattle.std.proofs.lemmas.List.Elements.{filter-append}
use Rattle.std.proofs.lemmas.List.Folds.{list_any-append}
use Rattle.std.proofs.lemmas.List.Sums.{fold-append}
use Rattle.tiger_base.specs.declared.tenancy.Tenancy.{Tenancy}
use Rattle.tiger_base.specs.declared.number.Instance.{Instance}
use Rattle.node_kit.specs.declared.journal.What.{What}
use Rattle.node_kit.specs.declared.journal.What.TheVariants as what
use Rattle.node_kit.specs.declared.journal.Entry.{Entry}
use Rattle.run_facts.specs.Order.{Noted, in_beat, order_from}
use Rattle.run_model.specs.declared.slots.Walk.{Walk}
use Rattle.run_model.specs.Schedule.{Schedule, Stop, empty_schedule, is_stopped, changed, after_entry, schedule_of}
use Rattle.run_model.specs.Slots.{AreSlotsOf, seated, Shows, Walks, beat_entries}
use Rattle.run_model.proofs.Seats.{at_seated, seated_by_slot, at_filtered, filtered_by_slot}

-- the front of two lists
take_none : {X : Type 0} (n : ℕ) → take {A = X} n [] ≡ []
take_none zero = refl
take_none (suc n) = refl

pub take-append : {X : Type 0} (n : ℕ) (xs ys : List X) → take n (xs ++ ys) ≡ take n xs ++ take (n - length xs) ys
take-append {X} n [] ys = let e : n - 0 ≡ n = omega arith in rw (e, take_none {X = X} n) refl
take-append zero (x ∷ xs) ys = let e : 0 - length (x ∷ xs) ≡ 0 = omega arith in rw e refl
take-append (suc n) (x ∷ xs) ys =
    let e : suc n - length (x ∷ xs) ≡ n - length xs = omega arith in
    rw e (ap (λ zs. x ∷ zs) (take-append n xs ys))

-- a walk that stays went past nothing, and one walk goes on where another ended
pub walks_none : (w : Walk) → Walks w w []
walks_none w = record { shows = λ s h. rw (take_none {X = Noted} w.left) h; left = omega arith }

pub walks_on : (a b c : Walk) (xs ys : List Noted) → Walks a b xs → Walks b c ys → Walks a c (xs ++ ys)
walks_on a b c xs ys f g = record {
  shows = λ s h.
      let front : take a.left (xs ++ ys) ≡ take a.left xs ++ take b.left ys = take-append a.left xs ys ∙ ap (λ (n : ℕ). take a.left xs ++ take n ys) (sym f.left) in
      subst (λ (zs : List Noted). Shows c (fold after_entry s zs)) (sym front)
      (subst (λ (t : Schedule). Shows c t) (sym (fold-append after_entry s (take a.left xs) (take b.left ys)))
      (g.shows (fold after_entry s (take a.left xs)) (f.shows s h)));
  left = omega (arith, f.left, g.left, length-append xs ys);
}

pub shows_put : (w new : Walk) (s : Schedule) (beat : ℕ) (t : Tenancy) → list_any (λ instance. instance.0 == t.instance.0) w.stopped.items ≡ false
    → new.slots.items ≡ seated t w.slots.items → new.stopped.items ≡ w.stopped.items → Shows w s → Shows new (changed s beat (what.Put t))
shows_put w new s beat t free slots stopped h =
    let test : is_stopped t.instance.0 s.stops ≡ false = sym (h.stopped t.instance.0) ∙ free in
    rw test (record {
      slots = record {
        by_slot = rw slots (seated_by_slot t w.slots.items h.slots.by_slot);
        same = λ slot. rw (slots, at_seated t slot w.slots.items, h.slots.same slot) refl;
      };
      stopped = λ v. rw stopped (h.stopped v);
    })

pub shows_put_late : (w new : Walk) (s : Schedule) (beat : ℕ) (t : Tenancy) → list_any (λ instance. instance.0 == t.instance.0) w.stopped.items ≡ true
    → new ≡ w → Shows w s → Shows new (changed s beat (what.Put t))
shows_put_late w new s beat t gone e h =
    let test : is_stopped t.instance.0 s.stops ≡ true = sym (h.stopped t.instance.0) ∙ gone in
    rw (test, e) h

pub shows_stop : (w new : Walk) (s : Schedule) (beat : ℕ) (v : Instance)
    → new.slots.items ≡ filter (λ t. not (t.instance.0 == v.0)) w.slots.items → new.stopped.items ≡ w.stopped.items ++ v ∷ []
    → Shows w s → Shows new (changed s beat (what.Gone v))
shows_stop w new s beat v slots stopped h = record {
  slots = record {
    by_slot = rw slots (filtered_by_slot (λ t. not (t.instance.0 == v.0)) w.slots.items h.slots.by_slot);
    same = λ slot. rw (slots, at_filtered v.0 slot w.slots.items h.slots.by_slot, h.slots.same slot) refl;
  };
  stopped = λ u.
      let stop : Stop = record { instance = v.0; beat = beat } in
      rw (
        stopped,
        list_any-append (λ (instance : Instance). instance.0 == u) w.stopped.items (v ∷ []),
        list_any-append (λ (x : Stop). x.instance == u) s.stops (stop ∷ []),
        h.stopped u,
      ) refl;
}

-- one entry is gone past, where one is left
pub walks_past : (w new : Walk) (x : Noted) → 0 < w.left → new.left + 1 ≡ w.left
    → ((s : Schedule) → Shows w s → Shows new (after_entry s x)) → Walks w new (x ∷ [])
walks_past w new x some left f = record {
  shows = λ s h. let one : take w.left (x ∷ []) ≡ x ∷ [] = first w.left some in
      subst (λ (zs : List Noted). Shows new (fold after_entry s zs)) (sym one) (f s h);
  left = omega arith;
} where
  first : (n : ℕ) → 0 < n → take n (x ∷ []) ≡ x ∷ []
  first zero l = absurd (omega arith)
  first (suc n) l = ap (λ zs. x ∷ zs) (take_none {X = Noted} n)

-- what is shown does not depend on how many entries are left
shows_fewer : (w : Walk) (n : ℕ) (s : Schedule) → Shows w s → Shows (record { slots = w.slots; stopped = w.stopped; left = n }) s
shows_fewer w n s h = record { slots = h.slots; stopped = h.stopped }

-- one entry is gone past, where it did to the walk what it does to the schedule
pub walks_by : (w new : Walk) (n : ℕ) (e : Entry) (said : What) → e.what ≡ said → (w.left ≡ 0 → ⊥) → new.left ≡ w.left - 1
    → ((s : Schedule) (beat : ℕ) → Shows (record { slots = w.slots; stopped = w.stopped; left = w.left - 1 }) s → Shows new (changed s beat said))
    → Walks w new (record { node = n; entry = e } ∷ [])
unfolding after_entry
walks_by w new n e said is some less f =
    walks_past w new (record { node = n; entry = e }) (omega arith) (omega arith)
    (λ s h. rw is (f s e.stamp.beat (shows_fewer w (w.left - 1) s h)))

-- an entry of another kind leaves the schedule
other_changes : (s : Schedule) (beat : ℕ) (w : What) → ((t : Tenancy) → w ≡ what.Put t → ⊥) → ((v : Instance) → w ≡ what.Gone v → ⊥) → changed s beat w ≡ s
other_changes s beat (what.Put t) f g = absurd (f t refl)
other_changes s beat (what.Gone v) f g = absurd (g v refl)
other_changes s beat other f g = refl

pub walks_other : (w : Walk) (n : ℕ) (e : Entry) → ((t : Tenancy) → e.what ≡ what.Put t → ⊥) → ((v : Instance) → e.what ≡ what.Gone v → ⊥) → (w.left ≡ 0 → ⊥)
    → Walks w (record { slots = w.slots; stopped = w.stopped; left = w.left - 1 }) (record { node = n; entry = e } ∷ [])
walks_other w n e f g some =
    walks_by w (record { slots = w.slots; stopped = w.stopped; left = w.left - 1 }) n e e.what refl some refl
    (λ s beat h. rw (other_changes s beat e.what f g) h)

-- the beats so far, and one more
pub one_beat_more : (b k : ℕ) (js : List (List Entry)) → order_from b (k + 1) js ≡ order_from b k js ++ in_beat (b + k) 0 js
one_beat_more b zero js = let e : b + 0 ≡ b = omega arith in rw e (append-nil (in_beat b 0 js))
one_beat_more b (suc k) js =
    let e : b + suc k ≡ b + 1 + k = omega arith in
    let n : suc k + 1 ≡ suc (k + 1) = omega arith in
    rw (n, e) (ap (λ xs. in_beat b 0 js ++ xs) (one_beat_more (b + 1) k js) ∙ sym (append_assoc (in_beat b 0 js) (order_from (b + 1) k js) (in_beat (b + 1 + k) 0 js)))

-- one entry more of a journal, of the beat or not
pub entries_more : (beat n i : ℕ) (journal : List Entry) (d : Entry) → i < length journal
    → beat_entries beat n (take (i + 1) journal)
    ≡ beat_entries beat n (take i journal) ++ beat_entries beat n (get_or journal i d ∷ [])
entries_more beat n i journal d h =
    let test : Entry → Bool = λ (e : Entry). e.stamp.beat == beat in
    rw (take_more journal i d h, filter-append test (take i journal) (get_or journal i d ∷ []))
    (map-append (λ (e : Entry). (record { node = n; entry = e })) (filter test (take i journal)) (filter test (get_or journal i d ∷ [])))

pub walks_more : (a b c : Walk) (beat n i : ℕ) (journal : List Entry) (d : Entry) → Walks b c (beat_entries beat n (get_or journal i d ∷ []))
    → i < length journal → Walks a b (beat_entries beat n (take i journal)) → Walks a c (beat_entries beat n (take (i + 1) journal))
walks_more a b c beat n i journal d one h so =
    rw (entries_more beat n i journal d h) (walks_on a b c (beat_entries beat n (take i journal)) (beat_entries beat n (get_or journal i d ∷ [])) so one)

pub entry_of_beat : (beat n : ℕ) (e : Entry) → e.stamp.beat ≡ beat → beat_entries beat n (e ∷ []) ≡ record { node = n; entry = e } ∷ []
entry_of_beat beat n e is = rw (eq-eqb e.stamp.beat beat is) refl

pub entry_of_other : (beat n : ℕ) (e : Entry) → (e.stamp.beat ≡ beat → ⊥) → beat_entries beat n (e ∷ []) ≡ []
entry_of_other beat n e other = rw (ne_eqb e.stamp.beat beat other) refl

-- one journal more of a beat
pub journals_more : (beat i : ℕ) (js : List (List Entry)) (d : List Entry) → i < length js
    → in_beat beat i (drop i js) ≡ beat_entries beat i (get_or js i d) ++ in_beat beat (i + 1) (drop (i + 1) js)
journals_more beat i js d h = rw (drop_more js i d h) refl

-- no journal is left
pub journals_end : (beat n i : ℕ) (js : List (List Entry)) → length js ≤ i → in_beat beat n (drop i js) ≡ []
journals_end beat n i js h = rw (drop_all i js h) refl

-- a walk that began with nothing shows the schedule of what it went past
pub shows_at_end : (w new : Walk) (xs : List Noted) → w.slots.items ≡ [] → w.stopped.items ≡ [] → Walks w new xs
    → AreSlotsOf (schedule_of (take w.left xs)).holder new.slots.items
shows_at_end w new xs slots stopped h =
    let begun : Shows w empty_schedule = record {
      slots = record { by_slot = rw slots tt; same = λ slot. rw slots refl };
      stopped = λ v. rw stopped refl;
    } in
    (h.shows empty_schedule begun).slots
