-- Who has a slot at a moment was put there before, and is not among the stops; and who was put has the slot or was replaced.
use Rattle.std.proofs.Common.{◌≡◌, ℕ, ◌≤◌, List, [], ◌∷◌, ◌++◌, cond, Option, Some, None, refl, sym, ap, subst, ◌∙◌, arith, ⊎_elim, inl, inr, Bool, true, false}
use Rattle.std.specs.Prelude.{◌⊎◌, ◌||◌, ◌==◌}
use Rattle.std.specs.List.{fold}
use Rattle.std.proofs.lemmas.Bool.{cases_Bool, cases_eq, eqb-true, eq-eqb, ne_eqb, true≢false}
use Rattle.std.proofs.lemmas.List.Folds.{list_any-append}
use Rattle.tiger_base.specs.declared.number.Instance.{Instance}
use Rattle.tiger_base.specs.declared.tenancy.Tenancy.{Tenancy}
use Rattle.node_kit.specs.declared.journal.What.{What}
use Rattle.node_kit.specs.declared.journal.What.TheVariants as what
use Rattle.run_facts.specs.Accounts.{Rising}
use Rattle.run_facts.specs.Order.{Noted, beat_of}
use Rattle.run_model.specs.Schedule.{Schedule, Stop, is_stopped, unless_of, empty_schedule, changed, after_entry, schedule_of}
use Rattle.lists.specs.Elements.{In}
use Rattle.lists.proofs.Elements.{chosen, in_left, in_right, in_cases}
use Rattle.lists.proofs.Each.{all_in}

abbrev given_slot : Schedule → Tenancy → Schedule
given_slot sch u = record { holder = λ slot. cond (u.slot.0 == slot) (Some u) (sch.holder slot); stops = sch.stops }

abbrev stop_of : Instance → ℕ → Stop
stop_of v beat = record { instance = v.0; beat = beat }

-- what each of some entries keeps is so after all of them
kept_along : (P : Schedule → Type 0) (rest : List Noted) (sch : Schedule) → ((x : Noted) (q : Schedule) → In x rest → P q → P (changed q (beat_of x) x.entry.what)) → P sch → P (fold after_entry sch rest)
unfolding after_entry
kept_along P [] sch step had = had
kept_along P (x ∷ xs) sch step had = kept_along P xs (after_entry sch x) (λ y q i h. step y q (inr i) h) (step x sch (inl refl) had)

-- ---- who has a slot

-- a tenancy was put into a slot, and is not among the stops
pub record IsPutIn (log : List Noted) (sch : Schedule) (s : ℕ) (t : Tenancy) : Type 0 where
  pub entry : Noted
  pub there : In entry log
  pub is : entry.entry.what ≡ what.Put t
  pub slot : t.slot.0 ≡ s
  pub fresh : is_stopped t.instance.0 sch.stops ≡ false

abbrev ArePutIn : List Noted → Schedule → Type 0
ArePutIn log sch = (s : ℕ) (t : Tenancy) → sch.holder s ≡ Some t → IsPutIn log sch s t

-- who is left by a stop was there, and is another
left_there : (v : ℕ) (o : Option Tenancy) (t : Tenancy) → unless_of v o ≡ Some t → (o ≡ Some t) × ((t.instance.0 == v) ≡ false)
left_there v None t e = absurd (cc)
left_there v (Some u) t e = chosen (λ (o : Option Tenancy). o ≡ Some t → (Some u ≡ Some t) × ((t.instance.0 == v) ≡ false)) (u.instance.0 == v) None (Some u)
    (λ _ q. absurd (cc))
    (λ f q. let same : u ≡ t = cc in (q, ap (λ (w : Tenancy). w.instance.0 == v) (sym same) ∙ f))
    e

-- a stop of another leaves an instance unstopped
still_fresh : (v : Instance) (beat k : ℕ) (stops : List Stop) → is_stopped k stops ≡ false → (v.0 == k) ≡ false → is_stopped k (stops ++ stop_of v beat ∷ []) ≡ false
still_fresh v beat k stops had other =
    let one : is_stopped k (stop_of v beat ∷ []) ≡ false = rw other refl in
    list_any-append (λ (stop : Stop). stop.instance == k) stops (stop_of v beat ∷ []) ∙ ap (λ (b : Bool). b || is_stopped k (stop_of v beat ∷ [])) had ∙ one

put_by : (log : List Noted) (sch : Schedule) (x : Noted) (w : What) → x.entry.what ≡ w → In x log → ArePutIn log sch → ArePutIn log (changed sch (beat_of x) w)
put_by log sch x (what.Put u) is i had =
    chosen (λ (q : Schedule). ArePutIn log q) (is_stopped u.instance.0 sch.stops) sch (given_slot sch u)
    (λ _. had)
    (λ fresh s t e. chosen (λ (o : Option Tenancy). o ≡ Some t → IsPutIn log (given_slot sch u) s t) (u.slot.0 == s) (Some u) (sch.holder s)
    (λ here q.
    let same : u ≡ t = cc in
    record {
      entry = x;
      there = i;
      is = is ∙ ap (λ (v : Tenancy). what.Put v) same;
      slot = ap (λ (v : Tenancy). v.slot.0) (sym same) ∙ eqb-true _ _ here;
      fresh = ap (λ (v : Tenancy). is_stopped v.instance.0 sch.stops) (sym same) ∙ fresh;
    })
    (λ _ q. let h = had s t q in record { entry = h.entry; there = h.there; is = h.is; slot = h.slot; fresh = h.fresh })
    e)
put_by log sch x (what.Gone v) is i had = λ s t e.
    let q = left_there v.0 (sch.holder s) t e in
    let h = had s t q.0 in
    let other : (v.0 == t.instance.0) ≡ false = ne_eqb _ _ (λ k. true≢false (sym (eq-eqb t.instance.0 v.0 (sym k)) ∙ q.1)) in
    record { entry = h.entry; there = h.there; is = h.is; slot = h.slot; fresh = still_fresh v (beat_of x) t.instance.0 sch.stops h.fresh other }
put_by log sch x other is i had = had

pub who_has : (front : List Noted) (s : ℕ) (t : Tenancy) → (schedule_of front).holder s ≡ Some t → IsPutIn front (schedule_of front) s t
who_has front = kept_along (ArePutIn front) front empty_schedule (λ x q i h. put_by front q x x.entry.what refl i h) (λ s t e. absurd (cc))

-- ---- who was put

-- A tenancy has its slot, or another that was put there in this beat or later has or had it.
pub record IsReplaced (log : List Noted) (s b : ℕ) (t : Tenancy) : Type 0 where
  pub entry : Noted
  pub there : In entry log
  pub tenancy : Tenancy
  pub is : entry.entry.what ≡ what.Put tenancy
  pub slot : tenancy.slot.0 ≡ s
  pub other : tenancy.instance.0 ≡ t.instance.0 → ⊥
  pub later : b ≤ beat_of entry

abbrev HoldsOr : List Noted → ℕ → ℕ → Tenancy → Schedule → Type 0
HoldsOr log s b t sch = (sch.holder s ≡ Some t) ⊎ IsReplaced log s b t

-- no entry is a stop of an instance; and all Puts of an instance are of one tenancy
abbrev pub IsNeverGone : ℕ → List Noted → Type 0
IsNeverGone v xs = (x : Noted) (i : Instance) → In x xs → x.entry.what ≡ what.Gone i → i.0 ≡ v → ⊥

abbrev pub IsOnlyPut : Tenancy → List Noted → Type 0
IsOnlyPut t xs = (x : Noted) (u : Tenancy) → In x xs → x.entry.what ≡ what.Put u → u.instance.0 ≡ t.instance.0 → u ≡ t

unless_other : (v : ℕ) (t : Tenancy) → (t.instance.0 ≡ v → ⊥) → unless_of v (Some t) ≡ Some t
unless_other v t ne = let f : (t.instance.0 == v) ≡ false = ne_eqb t.instance.0 v ne in rw f refl

holds_more : (log : List Noted) (s b : ℕ) (t : Tenancy) (sch : Schedule) (x : Noted) (w : What) → x.entry.what ≡ w → In x log → b ≤ beat_of x → IsNeverGone t.instance.0 log → IsOnlyPut t log
    → HoldsOr log s b t sch → HoldsOr log s b t (changed sch (beat_of x) w)
holds_more log s b t sch x (what.Put u) is i low never only had =
    chosen (λ (q : Schedule). HoldsOr log s b t q) (is_stopped u.instance.0 sch.stops) sch (given_slot sch u) (λ _. had)
    (λ _. ⊎_elim
    (λ (same : (u.slot.0 == s) ≡ true). ⊎_elim
    (λ (e : u.instance.0 ≡ t.instance.0). inl (ap (λ (k : Bool). cond k (Some u) (sch.holder s)) same ∙ ap (λ (v : Tenancy). Some v) (only x u i is e)))
    (λ (ne : u.instance.0 ≡ t.instance.0 → ⊥). inr (record { entry = x; there = i; tenancy = u; is = is; slot = eqb-true _ _ same; other = ne; later = low }))
    (cases_eq u.instance.0 t.instance.0))
    (λ (other : (u.slot.0 == s) ≡ false). ⊎_elim (λ h. inl (ap (λ (k : Bool). cond k (Some u) (sch.holder s)) other ∙ h)) (λ k. inr k) had)
    (cases_Bool (u.slot.0 == s)))
holds_more log s b t sch x (what.Gone v) is i low never only had = ⊎_elim
    (λ h. inl (ap (unless_of v.0) h ∙ unless_other v.0 t (λ e. never x v i is (sym e)))) (λ k. inr k) had
holds_more log s b t sch x other is i low never only had = had

-- no stop of it stands among the stops
fresh_more : (v : ℕ) (sch : Schedule) (beat : ℕ) (w : What) → ((i : Instance) → w ≡ what.Gone i → i.0 ≡ v → ⊥) → is_stopped v sch.stops ≡ false → is_stopped v (changed sch beat w).stops ≡ false
fresh_more v sch beat (what.Put u) never had = chosen (λ (q : Schedule). is_stopped v q.stops ≡ false) (is_stopped u.instance.0 sch.stops) sch (given_slot sch u) (λ _. had) (λ _. had)
fresh_more v sch beat (what.Gone w) never had = still_fresh w beat v sch.stops had (ne_eqb w.0 v (never w refl))
fresh_more v sch beat other never had = had

given_here : (sch : Schedule) (beat : ℕ) (t : Tenancy) (w : What) → w ≡ what.Put t → is_stopped t.instance.0 sch.stops ≡ false → (changed sch beat w).holder t.slot.0 ≡ Some t
given_here sch beat t w is fresh = subst (λ (x : What). (changed sch beat x).holder t.slot.0 ≡ Some t) (sym is)
    (subst (λ (k : Bool). (cond k sch (given_slot sch t)).holder t.slot.0 ≡ Some t) (sym fresh) (ap (λ (k : Bool). cond k (Some t) (sch.holder t.slot.0)) (eq-eqb t.slot.0 t.slot.0 refl)))

holds_at : (log rest : List Noted) (t : Tenancy) (sch : Schedule) (y : Noted) → ((x : Noted) → In x rest → In x log) → Rising beat_of rest → IsNeverGone t.instance.0 log → IsOnlyPut t log
    → is_stopped t.instance.0 sch.stops ≡ false → In y rest → y.entry.what ≡ what.Put t → HoldsOr log t.slot.0 (beat_of y) t (fold after_entry sch rest)
unfolding after_entry
holds_at log [] t sch y within rising never only fresh i is = absurd i
holds_at log (x ∷ xs) t sch y within rising never only fresh i is = ⊎_elim
    (λ e.
    let here : x.entry.what ≡ what.Put t = ap (λ (z : Noted). z.entry.what) (sym e) ∙ is in
    let same : beat_of y ≡ beat_of x = ap beat_of e in
    kept_along (HoldsOr log t.slot.0 (beat_of y) t) xs (after_entry sch x)
    (λ z q k h. let l = all_in (λ w. beat_of x ≤ beat_of w) z xs rising.0 k in holds_more log t.slot.0 (beat_of y) t q z z.entry.what refl (within z (inr k)) (omega arith) never only h)
    (inl (given_here sch (beat_of x) t x.entry.what here fresh)))
    (λ k. holds_at log xs t (after_entry sch x) y (λ z l. within z (inr l)) rising.1 never only
    (fresh_more t.instance.0 sch (beat_of x) x.entry.what (λ v w s. never x v (within x (inl refl)) w s) fresh) k is)
    i

-- a tenancy that was put, and whose instance was not stopped, has its slot, or was replaced
pub holder_or : (front : List Noted) (y : Noted) (t : Tenancy) → Rising beat_of front → IsNeverGone t.instance.0 front → IsOnlyPut t front → In y front → y.entry.what ≡ what.Put t
    → ((schedule_of front).holder t.slot.0 ≡ Some t) ⊎ IsReplaced front t.slot.0 (beat_of y) t
holder_or front y t rising never only i is = holds_at front front t empty_schedule y (λ x k. k) rising never only refl i is

-- ---- the stops

-- a stop of the schedule is an entry, and an entry of a stop is a stop of the schedule
pub record WasGone (log : List Noted) (stop : Stop) : Type 0 where
  pub entry : Noted
  pub there : In entry log
  pub instance : Instance
  pub is : entry.entry.what ≡ what.Gone instance
  pub same : stop.instance ≡ instance.0
  pub beat : stop.beat ≡ beat_of entry

gone_by : (log : List Noted) (sch : Schedule) (x : Noted) (w : What) → x.entry.what ≡ w → In x log → ((q : Stop) → In q sch.stops → WasGone log q) → (q : Stop) → In q (changed sch (beat_of x) w).stops → WasGone log q
gone_by log sch x (what.Put u) is i had q k = chosen (λ (z : Schedule). In q z.stops → WasGone log q) (is_stopped u.instance.0 sch.stops) sch (given_slot sch u) (λ _ l. had q l) (λ _ l. had q l) k
gone_by log sch x (what.Gone v) is i had q k = ⊎_elim
    (λ l. had q l)
    (λ l. ⊎_elim
    (λ e. record { entry = x; there = i; instance = v; is = is; same = ap (λ (z : Stop). z.instance) e; beat = ap (λ (z : Stop). z.beat) e })
    (λ n. absurd n) l)
    (in_cases q sch.stops (stop_of v (beat_of x) ∷ []) k)
gone_by log sch x other is i had q k = had q k

pub stop_from : (front : List Noted) (q : Stop) → In q (schedule_of front).stops → WasGone front q
stop_from front = kept_along (λ (sch : Schedule). (q : Stop) → In q sch.stops → WasGone front q) front empty_schedule (λ x q i h. gone_by front q x x.entry.what refl i h) (λ q l. absurd l)

stays_stop : (sch : Schedule) (beat : ℕ) (w : What) (q : Stop) → In q sch.stops → In q (changed sch beat w).stops
stays_stop sch beat (what.Put u) q k = chosen (λ (z : Schedule). In q z.stops) (is_stopped u.instance.0 sch.stops) sch (given_slot sch u) (λ _. k) (λ _. k)
stays_stop sch beat (what.Gone v) q k = in_left q sch.stops (stop_of v beat ∷ []) k
stays_stop sch beat other q k = k

stop_here : (sch : Schedule) (beat : ℕ) (w : What) (v : Instance) → w ≡ what.Gone v → In (stop_of v beat) (changed sch beat w).stops
stop_here sch beat w v is = subst (λ (x : What). In (stop_of v beat) (changed sch beat x).stops) (sym is) (in_right (stop_of v beat) sch.stops (stop_of v beat ∷ []) (inl refl))

stop_among : (rest : List Noted) (sch : Schedule) (y : Noted) (v : Instance) → In y rest → y.entry.what ≡ what.Gone v → In (stop_of v (beat_of y)) (fold after_entry sch rest).stops
unfolding after_entry
stop_among [] sch y v i is = absurd i
stop_among (x ∷ xs) sch y v i is = ⊎_elim
    (λ e. kept_along (λ (q : Schedule). In (stop_of v (beat_of y)) q.stops) xs (after_entry sch x) (λ z q k h. stays_stop q (beat_of z) z.entry.what (stop_of v (beat_of y)) h)
    (subst (λ (z : Noted). In (stop_of v (beat_of z)) (changed sch (beat_of x) x.entry.what).stops) (sym e) (stop_here sch (beat_of x) x.entry.what v (ap (λ (z : Noted). z.entry.what) (sym e) ∙ is))))
    (λ k. stop_among xs (after_entry sch x) y v k is) i

pub stop_in : (front : List Noted) (y : Noted) (v : Instance) → In y front → y.entry.what ≡ what.Gone v → In (stop_of v (beat_of y)) (schedule_of front).stops
stop_in front y v i is = stop_among front empty_schedule y v i is
