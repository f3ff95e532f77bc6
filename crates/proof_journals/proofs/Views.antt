-- After each tick of a cub its journal up to then tells exactly the records of its view.
use Rattle.std.proofs.Common.{◌≡◌, ℕ, zero, suc, ◌+◌, ◌<◌, ◌≤◌, List, ◌++◌, None, refl, sym, ap, subst, ◌∙◌, arith}
use Rattle.tiger_base.specs.declared.tenancy.Rec.{Rec}
use Rattle.tiger_base.specs.declared.tenancy.Tenancy.{Tenancy}
use Rattle.tiger_base.specs.declared.message.Msg.{Msg}
use Rattle.tiger_base.specs.Notes.{noted}
use Rattle.slot_plan.specs.declared.params.Params.{Params}
use Rattle.node_kit.specs.declared.course.Order.{Order}
use Rattle.node_kit.specs.declared.journal.Entry.{Entry}
use Rattle.node_kit.specs.declared.outbox.Out.{Out}
use Rattle.node_kit.specs.Steps.{Deed, Input}
use Rattle.run_facts.specs.Histories.{History, past}
use Rattle.run_model.specs.Views.{records_of}
use Rattle.disk_core.specs.State.{DiskState}
use Rattle.proof_lives.specs.Lives.{cut_in, store_at, outs_at, outs_in}
use Rattle.proof_lives.proofs.Cuts.{whole_before, whole_outs}
use Rattle.proof_lives.specs.Facts.{TickedAt}
use Rattle.proof_lives.specs.Records.{recorded_by, AreRecordsOf}
use Rattle.proof_lives.proofs.KeepingRecords.{keeps_records}
use Rattle.proof_journals.proofs.Written.{written_at, one_event_more}
use Rattle.proof_journals.proofs.Journals.{so_far, wrote, beat_is, so_far_on}
use Rattle.proof_journals.proofs.Records.{additions_recorded, records_after, event_recorded, recorded_by_more}
use Rattle.lists.specs.Elements.{In}
use Rattle.proof_moments.specs.Ties.{IsCutAt}
use Rattle.proof_lives.specs.FactsBy.{ShowsAt}
use Rattle.proof_facts.specs.Beside.{Additions}
use Rattle.proof_facts.specs.Facts.{facts_of}
use Rattle.proof_journals.proofs.BothLives.{before_it, beside_it, nothing_later, in_life, by_life}
use Rattle.proof_lives.specs.TwoLifeRun.{WhichLife, life_in, event_in}
use Rattle.proof_lives.specs.TwoLifeRun.WhichLife.{First, Later}
use Rattle.proof_journals.proofs.Living.{whole_lives}
use Rattle.proof_journals.proofs.Events.{AreKept, adds_few, fair, journal_is, cub_inside, event_of_life, cut_of_input, outs_at_input, tick_event, beats_rise, behind_tick}
use Rattle.proof_journals.proofs.Lists.{same_cut}

module _ {S : Type 0} {step : S → Input Msg → Deed Msg S} {p : Params} {orders : List Order}
    {disk_at : ℕ → DiskState} {added : Additions} {h : History Msg S} {journals : List (List Entry)}
    (kept : AreKept step p orders disk_at added h journals) where
  -- What the journal tells of the view when the outputs of the cub's rules begin, at an input of one of its lives.
  abbrev pub records_at : WhichLife → ℕ → ℕ → List Rec
  records_at w c i = recorded_by (before_it h p w c i) (records_of (so_far step h c (event_in h w c i)))

  records_next : (w : WhichLife) (c i : ℕ) → c < p.cubs → i < (life_in h w).count c → cut_in (life_in h w) c i ≡ None
      → records_of (so_far step h c (suc (event_in h w c i)))
      ≡ recorded_by (outs_at p c ((life_in h w).input c) i) (records_at w c i)
  records_next w c i small low whole =
      let at : ℕ = event_in h w c i in
      let old : List Entry = so_far step h c at in
      let event = event_of_life kept w c i (cub_inside kept c small) low in
      ap records_of (one_event_more step h c at)
      ∙ records_after old (wrote step h c at)
      ∙ event_recorded step p c (h.event c at) (past noted step h c at) (records_of old)
      (fair kept c at (cub_inside kept c small) event.0)
      (whole_lives (h.event c at) event.1 (sym (cut_of_input kept w c i (cub_inside kept c small) low) ∙ whole))
      ∙ ap (λ (os : List (Out Msg)). recorded_by os (records_of old)) (outs_at_input kept w c i small low)
      ∙ recorded_by_more (before_it h p w c i) (outs_in p (life_in h w) c i ++ beside_it added w c i) (records_of old)
      ∙ recorded_by_more (outs_in p (life_in h w) c i) (beside_it added w c i) (records_at w c i)
      ∙ additions_recorded p c (beside_it added w c i) _ (adds_few kept w c i small low)
      ∙ ap (λ (os : List (Out Msg)). recorded_by os (records_at w c i)) (whole_outs p (life_in h w) c i whole)

  next_event : (w : WhichLife) (c i : ℕ) → event_in h w c (suc i) ≡ suc (event_in h w c i)
  next_event First c i = refl
  next_event Later c i = omega arith

  records_then : (w : WhichLife) (c i : ℕ) → records_at w c (suc i) ≡ records_of (so_far step h c (suc (event_in h w c i)))
  records_then w c i =
      ap (λ (os : List (Out Msg)). recorded_by os (records_of (so_far step h c (event_in h w c (suc i)))))
      (nothing_later h p w c i)
      ∙ ap (λ (k : ℕ). records_of (so_far step h c k)) (next_event w c i)

  -- The inputs before one of a cub's life are whole.
  pub whole_below : (w : WhichLife) (c i : ℕ) → i < (life_in h w).count c → (j : ℕ) → j < i
      → cut_in (life_in h w) c j ≡ None
  whole_below w c i low j less = whole_before (life_in h w) c j i less low

  -- Behind whole inputs of a life the journal tells the records of the view. A return empties both.
  pub told_before : (w : WhichLife) (c i : ℕ) → c < p.cubs → i ≤ (life_in h w).count c
      → ((j : ℕ) → j < i → cut_in (life_in h w) c j ≡ None)
      → AreRecordsOf (store_at p c ((life_in h w).input c) i).view.lines (records_at w c i)
  told_before First c zero small low whole = record { seen = λ r k. absurd k; told = λ x k. absurd k }
  told_before Later c zero small low whole = record { seen = λ r k. absurd k; told = λ x k. absurd k }
  told_before w c (suc i) small low whole =
      subst (λ (rs : List Rec). AreRecordsOf (store_at p c ((life_in h w).input c) (suc i)).view.lines rs)
      (sym (records_then w c i ∙ records_next w c i small (omega arith) (whole i (omega arith))))
      ((keeps_records p c ((life_in h w).input c) i kept.plan small).records (records_at w c i)
      (told_before w c i small (omega arith) (λ j less. whole j (omega arith))))

  -- A journal that is cut behind a beat is cut behind that beat's tick.
  cut_is : (w : WhichLife) (c b l : ℕ) (upper lower : List Entry) → IsCutAt journals c b upper lower
      → (k : TickedAt p (life_in h w) c b l) → upper ≡ so_far step h c (suc (event_in h w c k.at))
  cut_is w c b l upper lower cut k =
      let at : ℕ = event_in h w c k.at in
      let known = cub_inside kept c k.small in
      let done = (event_of_life kept w c k.at known k.done).0 in
      let tick = tick_event kept w c k.at b l known k.done k.is in
      let beat_b = tick.1 in
      let more = so_far_on step h c (suc at) (h.count c) (omega arith) in
      same_cut (λ (e : Entry). e.stamp.beat ≤ b) upper lower (so_far step h c (suc at)) more.rest
      ((journal_is kept c (upper ++ lower) cut.at).1 ∙ sym more.is)
      (λ e i. cut.early e i)
      (λ e i low. let late = cut.late e i in absurd (omega arith))
      (λ e i.
      let x = written_at step h c (suc at) e i in
      let xb = x.before in
      let one = beat_is step h c x.at e x.there in
      let r = beats_rise kept c x.at at known (omega arith) done in
      omega arith)
      (λ e i low.
      let x = more.from e i in
      let x1 = x.1 in
      let one = beat_is step h c x.0 e x.3 in
      let r = behind_tick kept c at x.0 known (omega arith) x.2 tick.0 in
      absurd (omega arith))

  pub told_after : (w : WhichLife) (c b l : ℕ) (upper lower : List Entry) → IsCutAt journals c b upper lower
      → (k : TickedAt p (life_in h w) c b l)
      → AreRecordsOf (store_at p c ((life_in h w).input c) (suc k.at)).view.lines (records_of upper)
  told_after w c b l upper lower cut k =
      let old = told_before w c k.at k.small (let d = k.done in omega arith) (whole_below w c k.at k.done) in
      let new = (keeps_records p c ((life_in h w).input c) k.at kept.plan k.small).records (records_at w c k.at) old in
      subst (λ (rs : List Rec). AreRecordsOf (store_at p c ((life_in h w).input c) (suc k.at)).view.lines rs)
      (sym (ap records_of (cut_is w c b l upper lower cut k) ∙ records_next w c k.at k.small k.done k.whole)) new

  shows_in : (w : WhichLife) (c b l : ℕ) (upper lower : List Entry) (q : Rec) → IsCutAt journals c b upper lower
      → TickedAt p (life_in h w) c b l → In q (records_of upper)
      → ShowsAt p (life_in h w) c q.tenancy q.visit b
  shows_in w c b l upper lower q cut k i =
      let x = (told_after w c b l upper lower cut k).seen q i in
      record {
        reading = l;
        ticked = k;
        line = x.0;
        there = x.1;
        tenancy = ap (λ (r : Rec). r.tenancy) x.2;
        visit = ap (λ (r : Rec). r.visit) x.2;
      }

  pub shows : (c b l : ℕ) (upper lower : List Entry) (q : Rec) → IsCutAt journals c b upper lower
      → (facts_of p orders h).Ticked c b l → In q (records_of upper)
      → (facts_of p orders h).Shows c q.tenancy q.visit b
  shows c b l upper lower q cut k i = by_life h (λ lives. TickedAt p lives c b l)
      (λ w t. in_life h (λ lives. ShowsAt p lives c q.tenancy q.visit b) w (shows_in w c b l upper lower q cut t i))
      k

  shown_in : (w : WhichLife) (c b n : ℕ) (t : Tenancy) (upper lower : List Entry) → IsCutAt journals c b upper lower
      → ShowsAt p (life_in h w) c t n b
      → (q : Rec) × In q (records_of upper) × (q.tenancy ≡ t) × (q.visit ≡ n)
  shown_in w c b n t upper lower cut s = (
    s.line.rec,
    ((told_after w c b s.reading upper lower cut s.ticked).told s.line s.there),
    s.tenancy,
    s.visit,
  )

  pub shown : (c b n : ℕ) (t : Tenancy) (upper lower : List Entry) → IsCutAt journals c b upper lower
      → (facts_of p orders h).Shows c t n b
      → (q : Rec) × In q (records_of upper) × (q.tenancy ≡ t) × (q.visit ≡ n)
  shown c b n t upper lower cut s = by_life h (λ lives. ShowsAt p lives c t n b)
      (λ w k. shown_in w c b n t upper lower cut k) s
