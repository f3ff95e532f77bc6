-- Who is stopped was ordered to stop, and is gone from then on.
use Rattle.std.proofs.Common.{◌≡◌, ◌≢◌, ℕ, ◌+◌, ◌<◌, ◌≤◌, Bool, true, false, not, ◌&&◌, IsTrue, List, [], ◌∷◌, ◌++◌, filter, refl, sym, ap, subst, ◌∙◌, arith, ⊎_elim, inl}
use Rattle.std.specs.Prelude.{◌==◌, nat_lt, nat_le, Option, unwrap_or}
use Rattle.std.proofs.lemmas.Bool.{cases_Bool, cases_eq, eqb-true, eq-eqb, ltb-true, leb-true, lt-ltb, true≢false}
use Rattle.tiger_base.specs.declared.number.Instance.{Instance}
use Rattle.tiger_base.specs.declared.tenancy.Rec.{Rec}
use Rattle.slot_plan.specs.declared.params.Params.{Params}
use Rattle.slot_plan.specs.Times.{time_of}
use Rattle.slot_plan.proofs.Times.{time_below, time_mono}
use Rattle.node_kit.specs.declared.course.Kept.{Kept}
use Rattle.node_kit.specs.declared.journal.What.{What}
use Rattle.node_kit.specs.declared.journal.What.TheVariants as what
use Rattle.node_kit.specs.declared.journal.Entry.{Entry}
use Rattle.node_kit.specs.Courses.{reading_of}
use Rattle.node_kit.specs.Links.{links_of, controller_of}
use Rattle.run_facts.specs.Accounts.{Rising}
use Rattle.run_facts.specs.Commanded.{is_gone, is_gone_of, gone_in, gone_before, stop_ordered, is_over, place_known}
use Rattle.run_facts.specs.Order.{Noted, beat_of, IsNotAfter}
use Rattle.run_facts.proofs.Rows.{all-weaker, same-element}
use Rattle.run_model.specs.Excuses.{IsStopOf}
use Rattle.run_model.specs.Moments.{moment_at, moment_time, view_of, last_beat}
use Rattle.run_model.specs.Parts.{IsPart, HasVisit, was_just_stopped}
use Rattle.run_model.specs.Runs.{order_in}
use Rattle.run_model.specs.Schedule.{Stop, schedule_of}
use Rattle.run_model.specs.Served.{journal_at}
use Rattle.run_model.proofs.Moments.{part_at_fronts}
use Rattle.run_model.proofs.Reflects.{and_left, and_right, and_both}
use Rattle.lists.specs.Elements.{In}
use Rattle.proof_moments.specs.Ties.{StandsIn}
use Rattle.proof_moments.proofs.Holders.{who_has, stop_from, stop_in}
use Rattle.proof_moments.proofs.Lists.{any_passes, any_passing}
use Rattle.lists.proofs.Elements.{in_left, in_cases, in_filter}
use Rattle.proof_moments.proofs.Orders.{noted_at, order_sorted}
use Rattle.proof_moments.proofs.Sorted.{sorted_rises, rises_before, not_above, last_is}
use Rattle.run_promises.specs.Kept.{IsKeptWell}
use Rattle.run_promises.specs.Stops.{HasNoSlot, IsGoneFrom, IsNotOver, AStoppedViewerIsGone}
use Rattle.run_promises.proofs.Fronts.{IsGoneBy}
use Rattle.run_promises.proofs.Journals.{journal_there, only_one, in_the_order, from_the_order}

-- ---- the controller's entry

gone_tests : (v : ℕ) (w : What) (i : Instance) → w ≡ what.Gone i → i.0 ≡ v → (is_gone_of v w ≡ true) × (is_gone w ≡ true)
gone_tests v w i is same = subst (λ (z : What). (is_gone_of v z ≡ true) × (is_gone z ≡ true)) (sym is) (eq-eqb i.0 v same, refl)

gone_is : (v : ℕ) (w : What) → is_gone_of v w ≡ true → (i : Instance) × (w ≡ what.Gone i) × (i.0 ≡ v)
gone_is v (what.Gone i) t = (i, refl, eqb-true i.0 v t)
gone_is v other t = absurd (cc)

pub stop_is : (v : ℕ) (w : What) → IsStopOf v w → (i : Instance) × (w ≡ what.Gone i) × (i.0 ≡ v)
stop_is v (what.Gone i) h = (i, refl, h)
stop_is v other h = absurd h

-- an entry of a journal that stops an instance is one of the log
abbrev pub gone_by : (k : Kept) (v n : ℕ) (e : Entry) → IsKeptWell k → StandsIn k.journals n e → (i : Instance) × (e.what ≡ what.Gone i) × (i.0 ≡ v)
    → IsGoneBy (order_in k) v
gone_by k v n e w s q = record { entry = noted_at n e; there = in_the_order k n e w s; instance = q.0; is = q.1; same = q.2 }

-- and stands in the controller's journal
pub by_controller : (k : Kept) (v : ℕ) → IsKeptWell k → (g : IsGoneBy (order_in k) v)
    → StandsIn k.journals (controller_of (links_of k.course.plan.params)) g.entry.entry
by_controller k v w g =
    let here : ℕ = controller_of (links_of k.course.plan.params) in
    let s = from_the_order k g.entry g.there in
    let t = (gone_tests v g.entry.entry.what g.instance g.is g.same).1 in
    ⊎_elim
    (λ (own : g.entry.node ≡ here). subst (λ (n : ℕ). StandsIn k.journals n g.entry.entry) own s)
    (λ other. absurd (true≢false (sym (any_passes (λ (x : Entry). is_gone x.what) s.journal g.entry.entry s.there t)
    ∙ w.claims.starts.commanded.others g.entry.node s.journal other s.at)))
    (cases_eq g.entry.node here)

-- a stop that is written was ordered in its beat
pub stop_was_ordered : (k : Kept) (v : ℕ) → IsKeptWell k → (g : IsGoneBy (order_in k) v) → stop_ordered k.orders v (beat_of g.entry) ≡ true
unfolding gone_in
stop_was_ordered k v w g =
    let s = by_controller k v w g in
    let e : Entry = g.entry.entry in
    let b : ℕ = e.stamp.beat in
    let written : gone_in s.journal v b ≡ true = any_passes (λ (x : Entry). x.stamp.beat == b && is_gone_of v x.what) s.journal e s.there
    (and_both (b == b) (is_gone_of v e.what) (eq-eqb b b refl) (gone_tests v e.what g.instance g.is g.same).0) in
    and_left (stop_ordered k.orders v b) _ (and_right (nat_lt b k.course.beats) _
    (sym ((w.claims.starts.commanded.controller s.journal s.at).stops v b) ∙ written))

-- and an instance is stopped in one beat alone
one_stop : (k : Kept) (v : ℕ) → IsKeptWell k → (g h : IsGoneBy (order_in k) v) → beat_of g.entry ≡ beat_of h.entry
one_stop k v w g h =
    let a = by_controller k v w g in
    let b = by_controller k v w h in
    let one : b.journal ≡ a.journal = same-element k.journals (controller_of (links_of k.course.plan.params)) b.journal a.journal b.at a.at in
    let there : In h.entry.entry a.journal = subst (λ (es : List Entry). In h.entry.entry es) one b.there in
    let test : Entry → Bool = λ e. is_gone_of v e.what in
    let same : g.entry.entry ≡ h.entry.entry = only_one (filter test a.journal) g.entry.entry h.entry.entry
    ((w.claims.starts.commanded.controller a.journal a.at).once v)
    (in_filter test g.entry.entry a.journal a.there (gone_tests v g.entry.entry.what g.instance g.is g.same).0)
    (in_filter test h.entry.entry a.journal there (gone_tests v h.entry.entry.what h.instance h.is h.same).0) in
    ap (λ (e : Entry). e.stamp.beat) same

-- ---- what an order does

-- an instance is stopped in a beat or before
abbrev pub IsStoppedBy : Kept → ℕ → ℕ → Type 0
IsStoppedBy k v beat = (g : IsGoneBy (order_in k) v) × (beat_of g.entry ≤ beat)

stop_takes_effect : (ordered gone over : Bool) → ordered ≡ true → gone ≡ false → over ≡ false → (ordered && (not gone && not over)) ≡ true
stop_takes_effect ordered gone over a b c = rw (a, b, c) refl

is_stopped_by : (k : Kept) (v beat : ℕ) → IsKeptWell k → beat < k.course.beats → stop_ordered k.orders v beat ≡ true → IsNotOver k v beat → IsStoppedBy k v beat
unfolding gone_in gone_before journal_at
is_stopped_by k v beat w early ordered not_over =
    let p = k.course.plan.params in
    let here : ℕ = controller_of (links_of p) in
    let self : here ≤ here = omega arith in
    let j = journal_there k here w self in
    let journal : List Entry = j.0 in
    let by : (e : Entry) → In e journal → is_gone_of v e.what ≡ true → e.stamp.beat ≤ beat → IsStoppedBy k v beat =
    λ e i t low. (gone_by k v here e w (record { journal = journal; at = j.1; there = i }) (gone_is v e.what t), low) in
    ⊎_elim
    (λ (before : gone_before journal v beat ≡ true).
    let q = any_passing (λ (e : Entry). nat_lt e.stamp.beat beat && is_gone_of v e.what) journal before in
    let l = ltb-true q.0.stamp.beat beat (and_left (nat_lt q.0.stamp.beat beat) (is_gone_of v q.0.what) q.2) in
    by q.0 q.1 (and_right (nat_lt q.0.stamp.beat beat) (is_gone_of v q.0.what) q.2) (omega arith))
    (λ (first : gone_before journal v beat ≡ false).
    let over : is_over p (reading_of k.course here beat) (place_known p journal v beat) ≡ false =
    subst (λ (o : Option (List Entry)). is_over p (reading_of k.course here beat) (place_known p (unwrap_or o []) v beat) ≡ false) j.1 not_over in
    let is : gone_in journal v beat ≡ true = (w.claims.starts.commanded.controller journal j.1).stops v beat
    ∙ and_both (nat_lt beat k.course.beats) _ (lt-ltb beat k.course.beats early) (stop_takes_effect _ _ _ ordered first over) in
    let q = any_passing (λ (e : Entry). e.stamp.beat == beat && is_gone_of v e.what) journal is in
    let l = eqb-true q.0.stamp.beat beat (and_left (q.0.stamp.beat == beat) (is_gone_of v q.0.what) q.2) in
    by q.0 q.1 (and_right (q.0.stamp.beat == beat) (is_gone_of v q.0.what) q.2) (omega arith))
    (cases_Bool (gone_before journal v beat))

-- ---- later moments

order_rises : (k : Kept) → Rising beat_of (order_in k)
order_rises k = sorted_rises IsNotAfter beat_of (λ x y o. ⊎_elim (λ l. omega arith) (λ q. let e = q.0 in omega arith) o) (order_in k)
    (order_sorted 0 k.course.beats k.journals)

-- what is of an earlier beat than the last entry of some first entries is one of them
is_among : (front back : List Noted) (x : Noted) → Rising beat_of (front ++ back) → In x (front ++ back) → beat_of x < last_beat front → In x front
is_among [] back x rise i l = absurd (omega arith)
is_among (y ∷ ys) back x rise i l = ⊎_elim
    (λ there. there)
    (λ behind.
    let last = last_is (y ∷ ys) y (inl refl) (rises_before beat_of (y ∷ ys) back rise) in
    let is = last.beat in
    let low = not_above beat_of (y ∷ ys) back last.entry x rise last.there behind in
    absurd (omega arith))
    (in_cases x (y ∷ ys) back i)

-- at a moment after the stop, whoever has a slot is another
pub another_has : (front : List Noted) (v : ℕ) (g : Noted) (i : Instance) → In g front → g.entry.what ≡ what.Gone i → i.0 ≡ v
    → HasNoSlot (moment_at front) v
unfolding moment_at
another_has front v g i there is same slot t held e =
    let q = who_has front slot t held in
    let stop = stop_in front g i there is in
    absurd (true≢false (sym (any_passes (λ (s : Stop). s.instance == t.instance.0) (schedule_of front).stops _ stop (eq-eqb i.0 t.instance.0 (same ∙ sym e))) ∙ q.fresh))

-- who was just stopped was stopped a block play time before at most
just_stopped : (front : List Noted) (p : Params) (v : ℕ) → IsTrue (was_just_stopped p (moment_at front) v)
    → (g : IsGoneBy front v) × (moment_time p (moment_at front) ≤ time_of p (beat_of g.entry) + p.play)
unfolding moment_at
just_stopped front p v h =
    let m = moment_at front in
    let q = any_passing (λ (s : Stop). (s.instance == v) && nat_le (moment_time p m) (time_of p s.beat + p.play)) m.schedule.stops h in
    let both = q.2 in
    let late = leb-true (moment_time p m) (time_of p q.0.beat + p.play) (and_right (q.0.instance == v) (nat_le (moment_time p m) (time_of p q.0.beat + p.play)) both) in
    let g = stop_from front q.0 q.1 in
    let own = eqb-true q.0.instance v (and_left (q.0.instance == v) (nat_le (moment_time p m) (time_of p q.0.beat + p.play)) both) in (
      record { entry = g.entry; there = g.there; instance = g.instance; is = g.is; same = sym g.same ∙ own },
      subst (λ (b : ℕ). moment_time p m ≤ time_of p b + p.play) g.beat late,
    )

abbrev into_order : (k : Kept) (front back : List Noted) (v : ℕ) → front ++ back ≡ order_in k → IsGoneBy front v → IsGoneBy (order_in k) v
into_order k front back v is g = record {
  entry = g.entry;
  there = subst (λ (xs : List Noted). In g.entry xs) is (in_left g.entry front back g.there);
  instance = g.instance;
  is = g.is;
  same = g.same;
}

is_gone_from : (k : Kept) (v beat : ℕ) → IsKeptWell k → IsStoppedBy k v beat → IsGoneFrom k v beat
unfolding moment_at
is_gone_from k v beat w stopped =
    let p = k.course.plan.params in
    let g = stopped.0 in
    let no_slot : (front back : List Noted) → front ++ back ≡ order_in k → time_of p beat < moment_time p (moment_at front) → HasNoSlot (moment_at front) v =
    λ front back is late.
    let low = stopped.1 in
    let after = time_below p beat (last_beat front) late in
    let rise = subst (λ (xs : List Noted). Rising beat_of xs) (sym is) (order_rises k) in
    let i = subst (λ (xs : List Noted). In g.entry xs) (sym is) g.there in
    another_has front v g.entry g.instance (is_among front back g.entry rise i (omega arith)) g.is g.same in
    record {
      slots = no_slot;
      views = λ front back is late cub small.
          let m = moment_at front in
          all-weaker (λ (r : Rec). IsPart p m r.tenancy r.visit) (λ (r : Rec). r.tenancy.instance.0 ≢ v) (view_of m cub)
          (λ r part e. ⊎_elim
          (λ (has : HasVisit m.schedule r.tenancy r.visit). no_slot front back is (omega arith) r.tenancy.slot.0 r.tenancy has.holder e)
          (λ just.
          let q = just_stopped front p v (subst (λ (u : ℕ). IsTrue (was_just_stopped p m u)) e just) in
          let h = into_order k front back v is q.0 in
          let same = one_stop k v w h g in
          let soon = q.1 in
          let low = stopped.1 in
          let grows = time_mono p (beat_of q.0.entry) beat (omega arith) in
          absurd (omega arith))
          part)
          ((part_at_fronts p (order_in k)).0 w.claims.part.always front back is cub small);
    }

pub a_stopped_viewer_is_gone : (k : Kept) → IsKeptWell k → AStoppedViewerIsGone k
a_stopped_viewer_is_gone k w v beat early ordered not_over = is_gone_from k v beat w (is_stopped_by k v beat w early ordered not_over)
