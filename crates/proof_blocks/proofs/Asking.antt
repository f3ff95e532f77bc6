-- The laws of asking for whole blocks: what is asked for is due within the read lead, and what is due so is asked for.
use Rattle.std.proofs.Common.{◌≡◌, ℕ, suc, ◌+◌, ◌<◌, ◌≤◌, true, false, refl, sym, ap, subst, ◌∙◌, ⊎_elim, inl, inr, arith}
use Rattle.std.specs.Prelude.{◌⊎◌}
use Rattle.std.proofs.lemmas.Bool.{cases_Bool}
use Rattle.tiger_base.specs.Kinds.{is_own}
use Rattle.tiger_base.specs.Records.{own_of}
use Rattle.tiger_base.specs.declared.number.Stamp.{Stamp}
use Rattle.tiger_base.specs.declared.tenancy.Kind.{Kind}
use Rattle.tiger_base.specs.declared.tenancy.Kind.TheVariants.{Own, Backup}
use Rattle.tiger_base.specs.declared.tenancy.Rec.{Rec}
use Rattle.tiger_base.specs.declared.tenancy.Tenancy.{Tenancy}
use Rattle.slot_plan.specs.declared.params.Params.{Params}
use Rattle.slot_plan.specs.Times.{due, cub_of}
use Rattle.node_kit.specs.Steps.Input.{Tick}
use Rattle.partial_view.specs.declared.line.Line.{Line}
use Rattle.disk_core.specs.State.{DiskState}
use Rattle.cub_rules.specs.State.{IsRecordOf, IsLineOf}
use Rattle.proof_lives.specs.Lives.{Lives}
use Rattle.run_facts.specs.Events.{is_tick_input}
use Rattle.proof_lives.specs.Facts.{TickedAt}
use Rattle.proof_lives.proofs.Cuts.{was_put_out}
use Rattle.proof_lives.proofs.Fitting.{Fits}
use Rattle.cub_changes.proofs.Numbers.{piece_parts}
use Rattle.proof_lives.proofs.Inputs.{entered_did}
use Rattle.proof_lives.proofs.Leaving.{stays_or_stopped}
use Rattle.lists.proofs.Each.{all_in}
use Rattle.proof_lives.proofs.Moves.{Stays, taken_out}
use Rattle.proof_lives.proofs.Order.{beats_rise, not_behind}
use Rattle.proof_lives.proofs.SameLife.{same_life}
use Rattle.proof_lives.proofs.States.{own_kind}
use Rattle.proof_schedule.specs.Facts.{Facts, Entered}
use Rattle.proof_pieces.specs.PieceFacts.{PieceFacts}
use Rattle.proof_pieces.specs.PieceLaws.{IsThere}
use Rattle.proof_service.specs.ServiceFacts.{ServiceFacts, ArisesBy, AsksInLife, IsCutOff, MayServe}
use Rattle.proof_lives.specs.FactsBy.{Beyond, facts_by}
use Rattle.proof_facts.specs.Pieces.{piece, AsksAt, pieces_by}
use Rattle.proof_facts.specs.Pieces as facts
use Rattle.proof_facts.specs.Blocks.{blocks_by}
use Rattle.proof_blocks.proofs.Tracing.{trail, trail_unread, marked}
use Rattle.proof_blocks.proofs.Living.{AreCubs, store_of, beat_is, reading_is, kept_here, there_at}
use Rattle.proof_parts.proofs.AskOutputs.{read_parts}
use Rattle.proof_blocks.proofs.Comebacks.{may_ask}

-- an own record, by its parts
pub own_record : (t : Tenancy) (n : ℕ) (kind : Kind) → is_own kind ≡ true
    → record { tenancy = t; visit = n; kind = kind } ≡ own_of t n
own_record t n Own e = refl
own_record t n Backup e = absurd (cc)

module _ (p : Params) (lives : Lives) (cubs : AreCubs p lives) (disk_at : ℕ → DiskState) (beyond : Beyond)
    (fits : Fits p lives beyond) where
  abbrev r : Facts
  r = facts_by p lives beyond

  abbrev q : PieceFacts
  q = pieces_by p lives

  abbrev w : ServiceFacts
  w = blocks_by p lives disk_at

  -- what is asked for is there
  pub asks : {c : ℕ} {t : Tenancy} {n b : ℕ} → AsksAt p lives c t n 0 b → IsThere p r q c t n 0 b p.read_lead
  asks {c} {t} {n} {b} a = ⊎_elim
      (λ k.
      let i : ℕ = a.tick.at in
      let x : Line = k.1 in
      let same : x.rec ≡ own_of t n = k.2.1 in
      let e = read_parts p (facts.stamp_of b a.reading) x k.3 in
      let due_is : due p x.rec.tenancy.slot.0 x.rec.visit ≡ due p t.slot.0 n =
      ap (λ (z : Rec). due p z.tenancy.slot.0 z.visit) same in
      let soon = e.2 in
      let c4 = cubs.plan.c4 in
      there_at p lives cubs c a.tick.small beyond fits p.read_lead (omega arith) a.tick x k.2.0 same
      (λ d j stamp is from low.
      let early = trail_unread p c (lives.input c) (suc i) i x d e.0 e.1 j stamp is from low in
      omega arith)
      (omega arith))
      (λ k. let some = k.0 in absurd (omega arith))
      a.asks

  -- a line that is there after a tick, due within the read lead, was asked for
  asked_by_tick : (c b l : ℕ) (t : Tenancy) (n : ℕ) (tick : TickedAt p lives c b l)
      → Stays (own_of t n) (store_of p lives c (suc tick.at)).view.lines
      → due p t.slot.0 n ≤ l + p.read_lead → MayServe p r c t n 0 b → AsksInLife r q c t n 0 b
  asked_by_tick c b l t n tick s soon may =
      let i : ℕ = tick.at in
      let low = tick.done in
      let stamp : Stamp = facts.stamp_of b l in
      let y : Line = s.line in
      let own : is_own y.rec.kind ≡ true = subst (λ (r : Rec). is_own r.kind ≡ true) (sym s.same) refl in
      let d = ap (λ (r : Rec). due p r.tenancy.slot.0 r.visit) s.same in
      ⊎_elim
      (λ (mark : y.asked ≡ true).
      let m = marked p c (lives.input c) (suc i) y s.there mark in
      let before = m.before in
      let eb = beat_is p lives cubs c tick.small m.at (Tick m.stamp) m.is in
      let ei = beat_is p lives cubs c tick.small i (Tick stamp) tick.is in
      let rise = beats_rise p (lives.count c) (lives.input c) (cubs.lived c tick.small) m.at i (omega arith) low in
      record {
        beat = m.stamp.beat;
        asks = record {
          reading = m.stamp.reading;
          tick = record { small = tick.small; at = m.at; done = omega arith; is = m.is };
          asks = inl (
            refl,
            m.line,
            (m.there, sym m.same ∙ s.same),
            m.must,
            may_ask p lives cubs beyond fits c b l m.at m.stamp t n m.line tick (sym m.same ∙ s.same) may,
          );
        };
        by = omega arith;
        life = λ v back le.
            let one = same_life p lives beyond cubs.lived fits c m.at i tick.small (omega arith) low v back (omega arith) in
            omega arith;
      })
      (λ (mark : y.asked ≡ false).
      let t = trail p c (lives.input c) (suc i) y s.there in
      let from = t.before in
      let early = trail_unread p c (lives.input c) (suc i) (suc i) y t own mark i stamp tick.is (omega arith)
      (omega arith) in
      absurd (omega arith))
      (cases_Bool y.asked)

  -- a record of a visit of the cub that is there is the visit's own record
  own_stays : (c i : ℕ) (t : Tenancy) (n : ℕ) (kind : Kind) → c < p.cubs → i ≤ lives.count c → c ≡ cub_of p (n + 0)
      → Stays (record { tenancy = t; visit = n; kind = kind }) (store_of p lives c i).view.lines
      → Stays (own_of t n) (store_of p lives c i).view.lines
  own_stays c i t n kind small low here s =
      let r : Rec = record { tenancy = t; visit = n; kind = kind } in
      let of : IsRecordOf p c r = subst (λ (z : Rec). IsRecordOf p c z) s.same
      (all_in (IsLineOf p c) s.line (store_of p lives c i).view.lines
      (kept_here p lives cubs c small i low).lines s.there) in
      let visit : c ≡ cub_of p n = subst (λ (m : ℕ). c ≡ cub_of p m) (let z : n + 0 ≡ n = omega arith in z) here in
      let own : r ≡ own_of t n = own_record t n kind (own_kind p c r cubs.plan of visit) in
      record { line = s.line; there = s.there; same = subst (λ (z : Rec). s.line.rec ≡ z) own s.same }

  -- what is due within the read lead is asked for
  entered_asked : (c b l : ℕ) (t : Tenancy) (n e : ℕ) → Entered r c t n e → e ≤ b → c ≡ cub_of p (n + 0)
      → TickedAt p lives c b l → l < due p t.slot.0 n → due p t.slot.0 n ≤ l + p.read_lead → MayServe p r c t n 0 b
      → AsksInLife r q c t n 0 b ⊎ IsCutOff r w c t.instance.0 n b
  entered_asked c b l t n e entered by here tick undue soon may =
      let small = tick.small in
      let k = entered_did p lives entered in
      let z : Rec = record { tenancy = t; visit = n; kind = k.0 } in
      let j : ℕ = k.1.at in
      let i : ℕ = tick.at in
      let low = tick.done in
      let life = cubs.lived c small in
      let ei = beat_is p lives cubs c small i (Tick (facts.stamp_of b l)) tick.is in
      let el = reading_is p lives cubs c small i (Tick (facts.stamp_of b l)) tick.is in
      let ej = k.1.in_beat in
      let first : j ≤ i =
      not_behind p (lives.count c) (lives.input c) life j i low k.1.done (ap is_tick_input tick.is) (omega arith) in
      ⊎_elim
      (λ s. inl (asked_by_tick c b l t n tick (own_stays c (suc i) t n k.0 small (omega arith) here s) soon may))
      (λ m. let by = m.2 in inr (inl (record { beat = m.0; reached = m.1; by = omega arith })))
      (stays_or_stopped p cubs.plan lives cubs.lived c j (suc i) i z small (omega arith) (omega arith) low (omega arith)
      (was_put_out p lives c j (taken_out z) k.1.did))

  pub asks_due : {c : ℕ} {t : Tenancy} {n b l : ℕ} → ArisesBy r q c t n 0 b → c ≡ cub_of p (n + 0)
      → TickedAt p lives c b l → l < due p t.slot.0 n → due p t.slot.0 n ≤ l + p.read_lead → MayServe p r c t n 0 b
      → AsksInLife r q c t n 0 b ⊎ IsCutOff r w c t.instance.0 n b
  asks_due {c} {t} {n} {b} {l} a here tick undue soon may = ⊎_elim
      (λ k. entered_asked c b l t n a.beat k.1 a.by here tick undue soon may)
      (λ k. ⊎_elim
      (λ s. let e = s.0 in absurd (omega arith))
      (λ s. let some = (piece_parts p (piece t n 0) s.formed).low in absurd (omega arith))
      k)
      a.arises
