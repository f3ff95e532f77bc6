-- Every record of every view is part of the schedule.
use Rattle.std.proofs.Common.{◌≡◌, ℕ, ◌+◌, ◌-◌, ◌<◌, ◌≤◌, List, ◌∷◌, ◌++◌, true, false, IsTrue, Some, sym, ap, subst, ◌∙◌, arith, ⊎_elim, inl, inr, append_assoc}
use Rattle.std.specs.Prelude.{◌⊎◌, ◌==◌, ◌&&◌, nat_le, slice_get}
use Rattle.std.proofs.lemmas.Bool.{cases_Bool, eqb-true, eq-eqb, and_from, le-leb, true≢false}
use Rattle.tiger_base.specs.declared.tenancy.Rec.{Rec}
use Rattle.tiger_base.specs.declared.tenancy.Tenancy.{Tenancy}
use Rattle.slot_plan.specs.declared.params.Params.{Params}
use Rattle.slot_plan.specs.Times.{time_of, due}
use Rattle.slot_plan.proofs.Times.{time_next, time_mono}
use Rattle.node_kit.specs.declared.course.Order.{Order}
use Rattle.node_kit.specs.declared.journal.What.TheVariants as what
use Rattle.node_kit.specs.declared.journal.Entry.{Entry}
use Rattle.run_facts.specs.Order.{Noted, beat_of, journal_of, order_of}
use Rattle.run_facts.specs.Accounts.{Rising}
use Rattle.run_model.specs.Schedule.{Stop, schedule_of, is_stopped}
use Rattle.run_model.specs.Views.{records_of}
use Rattle.run_model.specs.Moments.{moment_at, last_beat}
use Rattle.run_model.specs.Parts.{IsPart, ViewsArePart, ViewsAreAlwaysPart, was_just_stopped}
use Rattle.run_model.proofs.Moments.{part_at_fronts}
use Rattle.proof_schedule.specs.Facts.{Facts, Entered, GoneBefore, IsFirstLife}
use Rattle.lists.specs.Elements.{In}
use Rattle.proof_moments.specs.Ties.{StandsIn, IsCutAt, IsDeadIn}
use Rattle.proof_moments.specs.Recorded.{IsRecorded}
use Rattle.proof_moments.proofs.Lists.{any_passes, any_passing}
use Rattle.lists.proofs.Elements.{in_left, in_right, in_cases}
use Rattle.lists.proofs.Each.{all_by}
use Rattle.lists.proofs.Cuts.{cut_by}
use Rattle.proof_moments.proofs.Holders.{IsNeverGone, IsOnlyPut, IsReplaced, holder_or, stop_from, stop_in}
use Rattle.proof_moments.proofs.Records.{was_taken, taken_since, records_cut}
use Rattle.proof_moments.proofs.Sorted.{IsLast, last_is, split_at, rises_before, not_above}
use Rattle.proof_moments.proofs.Truths.{wave_over}
use Rattle.proof_moments.proofs.Bridge as bridge

module _ (p : Params) (r : Facts) (orders : List Order) (journals : List (List Entry)) (w : IsRecorded p r orders journals) (beats : ℕ)
    (front back : List Noted) (is_log : front ++ back ≡ order_of beats journals) where
  pub front_rises : Rising beat_of front
  front_rises = rises_before beat_of front back (bridge.rises p r orders journals w beats front back is_log)

  pub tells_put : (y : Noted) (t : Tenancy) → In y front → y.entry.what ≡ what.Put t → r.Put y.node t (beat_of y)
  tells_put y t i is = (w.tells.put y.node y.entry t (bridge.stands p r orders journals w beats y (bridge.in_log p r orders journals w beats front back is_log y i)) is).put

  pub only_put : (y : Noted) (t : Tenancy) → In y front → y.entry.what ≡ what.Put t → IsOnlyPut t front
  only_put y t i is x u k k_is same = (w.one.once y.node x.node (beat_of y) (beat_of x) t u (tells_put y t i is) (tells_put x u k k_is) same).1

  -- where no stop of an instance stands among the schedule's, no entry of the front is one
  pub never_gone : (v : ℕ) → is_stopped v (schedule_of front).stops ≡ false → IsNeverGone v front
  never_gone v none x i k is same =
      true≢false (sym (any_passes (λ (stop : Stop). stop.instance == v) (schedule_of front).stops _ (stop_in front x i k is) (eq-eqb _ _ same)) ∙ none)

  -- an instance was just stopped, if it is among the stops and each stop of it is recent
  pub just_stopped : (v : ℕ) → is_stopped v (schedule_of front).stops ≡ true → ((z : ℕ) → r.Gone v z → time_of p (last_beat front) ≤ time_of p z + p.play) → IsTrue (was_just_stopped p (moment_at front) v)
  unfolding moment_at
  just_stopped v some recent =
      let s = any_passing (λ (stop : Stop). stop.instance == v) (schedule_of front).stops some in
      let g = stop_from front s.0 s.1 in
      let gone = w.tells.gone g.entry.node g.entry.entry g.instance (bridge.stands p r orders journals w beats g.entry (bridge.in_log p r orders journals w beats front back is_log g.entry g.there)) g.is in
      let same : g.instance.0 ≡ v = sym g.same ∙ eqb-true _ _ s.2 in
      let late = recent (beat_of g.entry) (subst (λ (n : ℕ). r.Gone n (beat_of g.entry)) same gone) in
      let there : time_of p (last_beat front) ≤ time_of p s.0.beat + p.play = subst (λ (b : ℕ). time_of p (last_beat front) ≤ time_of p b + p.play) (sym g.beat) late in
      any_passes (λ (stop : Stop). (stop.instance == v) && nat_le (time_of p (last_beat front)) (time_of p stop.beat + p.play)) (schedule_of front).stops s.0 s.1 (and_from _ _ s.2 (le-leb _ _ there))

  -- a cub's taking of a record stands in the front
  record IsTakenHere (c : ℕ) (q : Rec) : Type 0 where
    noted : Noted
    there : In noted front
    stands : StandsIn journals c noted.entry
    enters : Entered r c q.tenancy q.visit (beat_of noted)

  taken_here : (c : ℕ) (q : Rec) (e : Entry) → In e (journal_of c front) → e.what ≡ what.Took q → IsTakenHere c q
  taken_here c q e i is =
      let y = bridge.noted_there c front e i in
      let s = bridge.stands p r orders journals w beats y.0 (bridge.in_log p r orders journals w beats front back is_log y.0 y.1) in
      let mine : StandsIn journals c y.0.entry = subst (λ (n : ℕ). StandsIn journals n y.0.entry) y.2 s in
      record { noted = y.0; there = y.1; stands = mine; enters = w.tells.took c y.0.entry q mine (ap (λ (x : Entry). x.what) y.3 ∙ is) }

  -- the tenancy of a record was put in the front
  record IsPutHere (t : Tenancy) : Type 0 where
    entry : Noted
    there : In entry front
    is : entry.entry.what ≡ what.Put t

  put_here : (c : ℕ) (q : Rec) (e : Entry) → In e (journal_of c front) → e.what ≡ what.Took q → IsPutHere q.tenancy
  put_here c q e i is =
      let taken = taken_here c q e i is in
      let mine : List Entry = journal_of c front in
      let cut = cut_by e mine i in
      let j = bridge.journal_cut p r orders journals w beats front back is_log c taken.stands.journal taken.stands.at in
      let tail : List Entry = journal_of c back ++ j.0 in
      let whole : cut.front ++ e ∷ (cut.back ++ tail) ≡ taken.stands.journal = sym (append_assoc cut.front (e ∷ cut.back) tail) ∙ ap (λ (l : List Entry). l ++ tail) cut.is ∙ j.1 in
      let y = bridge.noted_there c front e i in
      let yb : beat_of y.0 ≡ e.stamp.beat = ap (λ (x : Entry). x.stamp.beat) y.3 in
      ⊎_elim
      (λ f.
      let k = bridge.noted_there c front f.0 (subst (λ (l : List Entry). In f.0 l) cut.is (in_left f.0 cut.front (e ∷ cut.back) f.1)) in
      record { entry = k.0; there = k.1; is = ap (λ (x : Entry). x.what) k.3 ∙ f.2 })
      (λ f.
      let low = f.3 in
      let high = bridge.below p r orders journals w beats y.0 (bridge.in_log p r orders journals w beats front back is_log y.0 y.1) in
      let k = bridge.logged p r orders journals w beats f.0 f.1 _ (w.logged.put f.0 f.1 q.tenancy f.2) (omega arith) in
      let kb = k.beat in
      record { entry = k.entry; there = bridge.lower p r orders journals w beats front back is_log y.0 k.entry y.1 k.there (omega arith); is = k.is })
      (w.keeps.put_first c cut.front (cut.back ++ tail) e q (taken.stands.at ∙ ap (λ (l : List Entry). Some l) (sym whole)) is)

  -- What is told of a record at the last beat of the front: each stop of its instance is recent, and it entered in this
  -- beat or was not due at the end of the one before.
  record IsLive (c n b : ℕ) (t : Tenancy) : Type 0 where
    recent : (z : ℕ) → r.Gone t.instance.0 z → time_of p b ≤ time_of p z + p.play
    fresh : Entered r c t n b ⊎ (time_of p b < due p t.slot.0 n + p.beat)

  live_entered : (c n b : ℕ) (t : Tenancy) → Entered r c t n b → IsLive c n b t
  live_entered c n b t e = record { recent = λ z g. wave_over p w.plan z b (w.one.over c n b z t e g); fresh = inl e }

  live_shown : (c n b : ℕ) (t : Tenancy) → r.Shows c t n b → IsLive c n (b + 1) t
  live_shown c n b t s =
      let u = w.more.undue c n b t s in
      let m = time_next p b in
      record { recent = (w.one.shown c n b t s).1; fresh = inr (omega arith) }

  -- what stands behind a death is written since the return: so a journal that goes up to a beat tells of no record, if
  -- the cub is dead in the beat
  none_told : (c b : ℕ) (lower rest : List Entry) (q : Rec) → c < p.cubs → slice_get journals c ≡ Some (lower ++ rest)
      → ((e : Entry) → In e lower → e.stamp.beat ≤ b) → (d : Entry) → In d lower → d.what ≡ what.Died
      → In q (records_of lower) → IsFirstLife r c b → ⊥
  none_told c b lower rest q small at low d i is told away =
      let death = cut_by d lower i in
      let k = taken_since death.front death.back d q is (subst (λ (l : List Entry). In q (records_of l)) (sym death.is) told) in
      let at_death : slice_get journals c ≡ Some (death.front ++ d ∷ (death.back ++ rest)) = at ∙ ap (λ (l : List Entry). Some l) (ap (λ (l : List Entry). l ++ rest) (sym death.is) ∙ append_assoc death.front (d ∷ death.back) rest) in
      let v = w.keeps.since c death.front (death.back ++ rest) d k.0 small at_death is (in_left k.0 death.back rest k.1) in
      let by = v.by in
      let early = low k.0 (subst (λ (l : List Entry). In k.0 l) death.is (in_right k.0 death.front (d ∷ death.back) (inr k.1))) in
      let late = away v.beat v.returned in
      omega (arith, by, early, late)

  live : (c : ℕ) → c < p.cubs → (q : Rec) → In q (records_of (journal_of c front)) → (z : IsLast front (last_beat front))
      → IsLive c q.visit (last_beat front) q.tenancy
  live c small q i z =
      let b : ℕ = last_beat front in
      let zb : b ≡ beat_of z.entry = z.beat in
      let z_log = bridge.in_log p r orders journals w beats front back is_log z.entry z.there in
      let mine : List Entry = journal_of c front in
      let took = was_taken mine q i in
      let taken = taken_here c q took.0 took.1 took.2 in
      let j = bridge.journal_cut p r orders journals w beats front back is_log c taken.stands.journal taken.stands.at in
      let tail : List Entry = journal_of c back ++ j.0 in
      let rise : Rising (λ (e : Entry). e.stamp.beat) (mine ++ tail) = subst (λ (l : List Entry). Rising (λ (e : Entry). e.stamp.beat) l) (sym j.1) (w.keeps.rising c taken.stands.journal taken.stands.at) in
      let s = split_at (λ (e : Entry). e.stamp.beat) b mine (rises_before (λ (e : Entry). e.stamp.beat) mine tail rise) in
      ⊎_elim
      (λ (old : In q (records_of s.lower)).
      let k = was_taken s.lower q old in
      let kb = s.below k.0 k.1 in
      let next : b - 1 + 1 ≡ b = omega arith in
      let at : slice_get journals c ≡ Some (s.lower ++ (s.upper ++ tail)) = taken.stands.at ∙ ap (λ (l : List Entry). Some l) (sym j.1 ∙ ap (λ (l : List Entry). l ++ tail) (sym s.is) ∙ append_assoc s.lower s.upper tail) in
      ⊎_elim
      (λ ended.
      let cut : IsCutAt journals c (b - 1) s.lower (s.upper ++ tail) = record {
        at = at;
        early = λ e l. let h = s.below e l in omega arith;
        late = λ e l. ⊎_elim
            (λ k. let h = s.above e k in let g : b - 1 < e.stamp.beat = omega arith in g)
            (λ k. ⊎_elim
            (λ m.
            let y = bridge.noted_there c back e m in
            let h = not_above beat_of front back z.entry y.0 (bridge.rises p r orders journals w beats front back is_log) z.there y.1 in
            let yb : beat_of y.0 ≡ e.stamp.beat = ap (λ (x : Entry). x.stamp.beat) y.3 in
            let g : b - 1 < e.stamp.beat = omega arith in g)
            (λ m. let h = j.2 e m in let h2 = bridge.below p r orders journals w beats z.entry z_log in let g : b - 1 < e.stamp.beat = omega arith in g)
            (in_cases e (journal_of c back) j.0 k))
            (in_cases e s.upper tail l);
      } in
      subst (λ (n : ℕ). IsLive c q.visit n q.tenancy) next (live_shown c q.visit (b - 1) q.tenancy (w.keeps.shows c (b - 1) ended.reading s.lower (s.upper ++ tail) q cut ended.ticked old)))
      (λ (d : IsDeadIn r c (b - 1)).
      let by = d.died.by in
      let y = bridge.death_in p r orders journals w beats front back is_log c z.entry z.there d.died.beat d.died.died (omega arith) in
      let yb = y.2.1 in
      let low : In y.0 s.lower = ⊎_elim (λ l. l) (λ u. let h = s.above y.0 u in absurd (omega arith)) (in_cases y.0 s.lower s.upper (subst (λ (l : List Entry). In y.0 l) (sym s.is) y.1)) in
      absurd (none_told c (b - 1) s.lower (s.upper ++ tail) q small at
      (λ e i. let h = s.below e i in let g : e.stamp.beat ≤ b - 1 = omega (arith, h) in g) y.0 low y.2.0 old d.away))
      (w.keeps.ended z.entry.node c (b - 1) z.entry.entry (bridge.stands p r orders journals w beats z.entry z_log) (omega arith) small))
      (λ k.
      let here : In k.0 mine = subst (λ (l : List Entry). In k.0 l) s.is (in_right k.0 s.lower s.upper k.1) in
      let y = bridge.noted_there c front k.0 here in
      let yb : beat_of y.0 ≡ k.0.stamp.beat = ap (λ (x : Entry). x.stamp.beat) y.3 in
      let up = z.high y.0 y.1 in
      let low = s.above k.0 k.1 in
      let same : k.0.stamp.beat ≡ b = omega arith in
      let t = taken_here c q k.0 here k.2 in
      live_entered c q.visit b q.tenancy (subst (λ (n : ℕ). Entered r c q.tenancy q.visit n) same (w.tells.took c k.0 q (subst (λ (x : Entry). StandsIn journals c x) y.3 (subst (λ (n : ℕ). StandsIn journals n y.0.entry) y.2 (bridge.stands p r orders journals w beats y.0 (bridge.in_log p r orders journals w beats front back is_log y.0 y.1)))) k.2)))
      (records_cut s.lower s.upper q (subst (λ (l : List Entry). In q (records_of l)) (sym s.is) i))

  -- a tenancy that was put and not stopped has its slot, while a record of it is live
  held_still : (c n e : ℕ) (t : Tenancy) (y : Noted) → In y front → y.entry.what ≡ what.Put t → is_stopped t.instance.0 (schedule_of front).stops ≡ false → Entered r c t n e
      → IsLast front (last_beat front) → IsLive c n (last_beat front) t → (schedule_of front).holder t.slot.0 ≡ Some t
  held_still c n e t y i is none enters z l =
      let never = never_gone t.instance.0 none in
      let t_put = tells_put y t i is in
      ⊎_elim
      (λ q. q)
      (λ (k : IsReplaced front t.slot.0 (beat_of y) t).
      let u_put = tells_put k.entry k.tenancy k.there k.is in
      let up = z.high k.entry k.there in
      let zb = z.beat in
      let m = time_mono p (beat_of k.entry) (last_beat front) (omega arith) in
      let out : (d : ℕ) → Entered r c t n d → ((d < beat_of k.entry) × (due p t.slot.0 n + p.beat ≤ time_of p (beat_of k.entry))) ⊎ GoneBefore r t.instance.0 (beat_of k.entry) =
      λ d en. w.one.retired k.entry.node y.node c n (beat_of k.entry) (beat_of y) d k.tenancy t u_put t_put k.later (sym k.slot) (λ s. k.other (sym s)) en in
      let gone : GoneBefore r t.instance.0 (beat_of k.entry) → ⊥ =
      λ g. let h = bridge.gone_there p r orders journals w beats front back is_log t.instance.0 k.entry k.there g in never h.0 h.2.instance h.1 h.2.is h.2.same in
      ⊎_elim
      (λ en. ⊎_elim (λ h. let h0 = h.0 in absurd (omega arith)) (λ g. absurd (gone g)) (out (last_beat front) en))
      (λ early. ⊎_elim (λ h. let h1 = h.1 in absurd (omega arith)) (λ g. absurd (gone g)) (out e enters))
      l.fresh)
      (holder_or front y t front_rises never (only_put y t i is) i is)

  record_part : (c : ℕ) → c < p.cubs → (q : Rec) → In q (records_of (journal_of c front)) → IsPart p (moment_at front) q.tenancy q.visit
  unfolding moment_at
  record_part c small q i =
      let took = was_taken (journal_of c front) q i in
      let taken = taken_here c q took.0 took.1 took.2 in
      let put = put_here c q took.0 took.1 took.2 in
      let held = w.one.held c q.visit (beat_of taken.noted) q.tenancy taken.enters in
      let z = last_is front taken.noted taken.there front_rises in
      let l = live c small q i z in
      ⊎_elim
      (λ (some : is_stopped q.tenancy.instance.0 (schedule_of front).stops ≡ true). inr (just_stopped q.tenancy.instance.0 some l.recent))
      (λ (none : is_stopped q.tenancy.instance.0 (schedule_of front).stops ≡ false).
      inl (record { holder = held_still c q.visit (beat_of taken.noted) q.tenancy put.entry put.there put.is none taken.enters z l; first = held.low; last = held.high }))
      (cases_Bool (is_stopped q.tenancy.instance.0 (schedule_of front).stops))

  views_part : ViewsArePart p (moment_at front)
  unfolding moment_at
  views_part c small =
      all_by (λ q. IsPart p (moment_at front) q.tenancy q.visit) (records_of (journal_of c front)) (λ q i. record_part c small q i)

pub views_are_part : (p : Params) (r : Facts) (orders : List Order) (journals : List (List Entry)) (beats : ℕ) → IsRecorded p r orders journals → ViewsAreAlwaysPart p (order_of beats journals)
views_are_part p r orders journals beats w = (part_at_fronts p (order_of beats journals)).1
    (λ front back is. views_part p r orders journals w beats front back is)
