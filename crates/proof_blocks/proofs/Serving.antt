-- The laws of serving whole blocks by a cub's own rules: what is sent is due, and what is stored is sent when due.
use Rattle.std.proofs.Common.{◌≡◌, ℕ, suc, ◌+◌, ◌<◌, ◌≤◌, true, Option, Some, refl, sym, ap, subst, ◌∙◌, ⊎_elim, inl, inr, arith}
use Rattle.std.specs.Prelude.{◌⊎◌}
use Rattle.std.proofs.lemmas.Bool.{and_from, le-leb, leb-true, or_left}
use Rattle.tiger_base.specs.Span.{LibraryPart}
use Rattle.tiger_base.specs.Kinds.{is_own}
use Rattle.tiger_base.specs.Records.{own_of, want_of, same_want}
use Rattle.tiger_base.specs.declared.number.Stamp.{Stamp}
use Rattle.tiger_base.specs.declared.tenancy.Rec.{Rec}
use Rattle.tiger_base.specs.declared.tenancy.Tenancy.{Tenancy}
use Rattle.tiger_base.specs.declared.tenancy.Want.{Want}
use Rattle.tiger_base.specs.declared.message.Msg.{Msg}
use Rattle.tiger_base.specs.declared.message.Msg.TheVariants as msg
use Rattle.slot_plan.specs.Conditions.{IsPlan}
use Rattle.slot_plan.specs.Keys.{Key}
use Rattle.slot_plan.specs.declared.params.Params.{Params}
use Rattle.slot_plan.specs.Times.{due}
use Rattle.node_kit.specs.Steps.{Deed, Input}
use Rattle.node_kit.specs.Steps.Input.{Take, Tick}
use Rattle.partial_view.specs.declared.line.Line.{Line}
use Rattle.partial_view.specs.Lines.{visit_of}
use Rattle.partial_view.specs.Views.{line_at}
use Rattle.cub_rules.specs.declared.store.Store.{Store}
use Rattle.cub_rules.specs.declared.store.StoredPart.{StoredPart}
use Rattle.cub_rules.specs.Messages.{is_block_of, is_wanted}
use Rattle.cub_rules.specs.Ticks.{forwarding, is_served, is_stale, reading}
use Rattle.disk_core.specs.State.{DiskState}
use Rattle.proof_lives.specs.Lives.{Lives, outs_at, beat_at}
use Rattle.run_facts.specs.Events.{is_tick_input}
use Rattle.lists.specs.Elements.{In}
use Rattle.proof_lives.specs.Facts.{TickedAt, ReachedAt}
use Rattle.proof_lives.proofs.Fitting.{Fits, as_tick}
use Rattle.proof_lives.proofs.Inserting.{Never}
use Rattle.proof_lives.proofs.Moves.{Moves, Stays, taken_out}
use Rattle.proof_lives.proofs.Order.{beats_rise, behind, not_behind}
use Rattle.proof_lives.proofs.Steps.{forwarding_moves, reading_moves, served_due}
use Rattle.proof_lives.proofs.Ticking.{before_forwarding, early, early_moves}
use Rattle.proof_pieces.specs.PieceLaws.{IsThere, WasUndue}
use Rattle.proof_service.specs.ServiceFacts.{IsCutOff, MayServe}
use Rattle.proof_parts.proofs.Answering.{kept}
use Rattle.proof_parts.proofs.Found.{found, same_self}
use Rattle.proof_parts.proofs.PartLives.{stays_until}
use Rattle.proof_lives.proofs.Inputs.{message_before}
use Rattle.proof_lives.proofs.HoldLaws.{reached_at}
use Rattle.proof_parts.specs.Parts.{MayCost}
use Rattle.proof_facts.specs.Blocks.{AnsweredAt, HasRecord, StoredAt, blocks_by}
use Rattle.proof_lives.specs.FactsBy.{Beyond, facts_by}
use Rattle.proof_facts.specs.Pieces.{ServesAt, want, pieces_by, before_reading, before_serving}
use Rattle.proof_facts.specs.Pieces as facts
use Rattle.proof_parts.proofs.Storing.{part_to_serving}
use Rattle.proof_blocks.proofs.Living.{AreCubs, store_of, beat_is, reading_is, there_at}
use Rattle.proof_blocks.proofs.Marks.{asked_line, served_from}
use Rattle.proof_blocks.proofs.Single.{AreSingle, always_single, line_found}
use Rattle.proof_blocks.proofs.Tracing.{trail, trail_undue}
use Rattle.proof_lives.proofs.Leaving.{stays_or_gone}
use Rattle.proof_blocks.proofs.Comebacks.{may_send}

-- ---- one store

-- a record that stands before a deed by which none may leave stands after it
stays_on : (p : Params) (c : ℕ) (h : Store) (d : Deed Msg Store) (r : Rec) → Moves p c Never h.view.lines d
    → Stays r h.view.lines
    → Stays r d.state.view.lines
stays_on p c h d r m s = ⊎_elim
    (λ v. record { line = v.line; there = v.there; same = v.same ∙ s.same })
    (λ v. absurd v)
    (m.forth s.line s.there)

-- whoever stands when a tick begins stands when the cub serves
serving_stays : (p : Params) (c : ℕ) (stamp : Stamp) → IsPlan p → c < p.cubs → (h : Store) (r : Rec)
    → Stays r h.view.lines
    → Stays r (before_serving p c stamp h).view.lines
serving_stays p c stamp plan small h r s =
    let h4 : Store = before_forwarding p c stamp h in
    let h5 : Store = before_reading p c stamp h in
    stays_on p c h5 (reading p stamp h5) r (reading_moves p c Never stamp h5)
    (stays_on p c h4 (forwarding p c stamp h4) r (forwarding_moves p c Never stamp h4)
    (stays_on p c h (early p c stamp h) r (early_moves p c stamp h) s))

-- an own record that is due is served
due_served : (p : Params) (stamp : Stamp) (x : Line) (t : Tenancy) (n : ℕ) → x.rec ≡ own_of t n
    → due p t.slot.0 n ≤ stamp.reading
    → is_served p stamp x ≡ true
unfolding is_served
due_served p stamp x t n same past =
    let own : is_own x.rec.kind ≡ true = subst (λ (r : Rec). is_own r.kind ≡ true) (sym same) refl in
    let late = subst (λ (r : Rec). due p r.tenancy.slot.0 r.visit ≤ stamp.reading) (sym same) past in
    and_from _ _ own (le-leb _ _ late)

-- the block of an own record that is there is wanted
block_wanted : (h : Store) (x : Line) (t : Tenancy) (n : ℕ) → AreSingle h.view.lines → In x h.view.lines
    → x.rec ≡ own_of t n
    → is_wanted (want t n 0) h ≡ true
unfolding is_wanted
block_wanted h x t n single there same =
    let w : Want = want t n 0 in
    let at : line_at (w.slot, w.visit) h.view.lines ≡ Some x =
    subst (λ (k : Key). line_at k h.view.lines ≡ Some x) (ap (λ (r : Rec). visit_of r) same)
    (line_found x h.view.lines single there) in
    let own : is_own x.rec.kind ≡ true = subst (λ (r : Rec). is_own r.kind ≡ true) (sym same) refl in
    let wanted : same_want w (want_of x.rec) ≡ true =
    subst (λ (r : Rec). same_want w (want_of r) ≡ true) (sym same) (same_self w) in
    or_left _ _ (subst (λ (o : Option Line). is_block_of w o ≡ true) (sym at) (and_from _ _ own wanted))

-- the line of an own record, for which an answer came
pub own_line : (h : Store) (t : Tenancy) (n : ℕ) → HasRecord h t n 0
    → (x : Line) × In x h.view.lines × (x.rec ≡ own_of t n)
own_line h t n has = ⊎_elim (λ k. (k.1, k.2.0, k.2.1)) (λ k. let some = k.0 in absurd (omega arith)) has

-- ---- along a life

module _ (p : Params) (lives : Lives) (cubs : AreCubs p lives) (beyond : Beyond) (disk_at : ℕ → DiskState) where
  -- what is sent is there, and is due
  pub serves : {c : ℕ} {t : Tenancy} {n b : ℕ} → Fits p lives beyond
      → ServesAt p lives c t n 0 b → IsThere p (facts_by p lives beyond) (pieces_by p lives) c t n 0 b 0
  serves {c} {t} {n} {b} fits s = ⊎_elim
      (λ k.
      let tick = s.sends.tick in
      let l : ℕ = s.sends.reading in
      let stamp : Stamp = facts.stamp_of b l in
      let y : Line = k.1 in
      let f = served_from p c stamp (store_of p lives c tick.at) y k.2.0 in
      let x : Line = f.0 in
      let same : y.rec ≡ x.rec = ap (λ (z : Line). z.rec) f.2 ∙ (asked_line p stamp x).0 in
      let own_is : x.rec ≡ own_of t n = sym same ∙ k.2.1 in
      let own : is_own x.rec.kind ≡ true = subst (λ (r : Rec). is_own r.kind ≡ true) (sym own_is) refl in
      let past : due p t.slot.0 n ≤ l =
      subst (λ (r : Rec). due p r.tenancy.slot.0 r.visit ≤ l) k.2.1 (served_due p stamp y k.3) in
      let due_is : due p x.rec.tenancy.slot.0 x.rec.visit ≡ due p t.slot.0 n =
      ap (λ (r : Rec). due p r.tenancy.slot.0 r.visit) own_is in
      there_at p lives cubs c tick.small beyond fits 0 (omega arith) tick x f.1 own_is
      (λ d i at is from low.
      let early = trail_undue p c (lives.input c) (suc tick.at) tick.at x d own i at is from low in
      omega arith)
      (omega arith))
      (λ k. let some = k.0 in absurd (omega arith))
      s.sends.serves

  -- ---- what is stored

  -- at no tick before that of beat b was a time reached, if it was not at the tick of the beat before b
  undue_then : (c i k b time : ℕ) (stamp at : Stamp) → c < p.cubs → i < lives.count c → lives.input c i ≡ Tick stamp
      → stamp.beat ≡ b → WasUndue p (facts_by p lives beyond) c b time 0 → k < i → lives.input c k ≡ Tick at
      → at.reading < time
  undue_then c i k b time stamp at small low is eb u less was =
      let life = cubs.lived c small in
      let j : ℕ = u.ticked.at in
      let done = u.ticked.done in
      let next = u.next in
      let undue = u.undue in
      let ei = beat_is p lives cubs c small i (Tick stamp) is in
      let ek = beat_is p lives cubs c small k (Tick at) was in
      let ej = beat_is p lives cubs c small j (Tick (facts.stamp_of u.beat u.reading)) u.ticked.is in
      let lower = behind p (lives.count c) (lives.input c) life k i less low (ap is_tick_input was) in
      let first : k ≤ j =
      not_behind p (lives.count c) (lives.input c) life k j done (omega arith) (ap is_tick_input u.ticked.is)
      (omega arith) in
      let rise = life.rising k j first done in
      let rk = reading_is p lives cubs c small k (Tick at) was in
      let rj = reading_is p lives cubs c small j (Tick (facts.stamp_of u.beat u.reading)) u.ticked.is in
      omega arith

  -- a block that comes for an own record is stored
  stored_after : (c y : ℕ) (t : Tenancy) (n : ℕ) (part : LibraryPart) (a : AnsweredAt p lives c t n 0 y (Some part))
      → In (record { want = want t n 0; part = part }) (store_of p lives c (suc a.at)).parts
  stored_after c y t n part a =
      let h : Store = store_of p lives c a.at in
      let x = own_line h t n a.there in
      kept p lives cubs.formed c y (want t n 0) (Some part)
      (record { small = a.small; at = a.at; done = a.done; reading = a.reading; link = a.link; is = a.is })
      (block_wanted h x.0 t n (always_single p c (lives.input c) a.at) x.1 x.2)

  -- A tick at which a part is stale.
  record IsStaleTick (c i : ℕ) (x : StoredPart) : Type 0 where
    stamp : Stamp
    is : lives.input c i ≡ Tick stamp
    stale : is_stale p stamp.reading x ≡ true

  -- the part of a whole block is lost only if its instance is descheduled, or if it is stale at a tick
  why_lost : (c i : ℕ) (x : StoredPart) (q : Input Msg) → c < p.cubs → i < lives.count c → lives.input c i ≡ q
      → x.want.piece ≡ 0 → MayCost p q x
      → ReachedAt p lives c x.want.instance.0 (beat_at (lives.input c) i) ⊎ IsStaleTick c i x
  why_lost c i x (Take stamp link (msg.Deschedule v tag)) small low is whole costs =
      inl (reached_at p lives c i x.want.instance.0 small low
      (record { stamp = stamp; link = link; instance = v; tag = tag; is = is; same = sym costs }))
  why_lost c i x (Take stamp link (msg.Kill v slot n)) small low is whole costs =
      let some = costs.2 in absurd (omega arith)
  why_lost c i x (Take stamp link other) small low is whole costs = absurd costs
  why_lost c i x (Tick stamp) small low is whole costs = inr (record { stamp = stamp; is = is; stale = costs })

  -- an own record that is due is served if its block is stored and not stale
  sent_now : Fits p lives beyond → (c b l : ℕ) (t : Tenancy) (n : ℕ) (part : LibraryPart) (tick : TickedAt p lives c b l)
      → Stays (own_of t n) (store_of p lives c tick.at).view.lines
      → In (record { want = want t n 0; part = part }) (store_of p lives c tick.at).parts
      → due p t.slot.0 n ≤ l → l < due p t.slot.0 n + p.play → MayServe p (facts_by p lives beyond) c t n 0 b
      → ServesAt p lives c t n 0 b
  sent_now fits c b l t n part tick s stored past late may =
      let stamp : Stamp = facts.stamp_of b l in
      let h : Store = store_of p lives c tick.at in
      let g : Store = before_serving p c stamp h in
      let x : StoredPart = record { want = want t n 0; part = part } in
      let line = serving_stays p c stamp cubs.plan tick.small h (own_of t n) s in
      let there : In x g.parts = ⊎_elim
      (λ k. k)
      (λ e. let old : due p t.slot.0 n + p.play ≤ l = leb-true _ _ e in absurd (omega arith))
      (part_to_serving p c stamp h x stored) in
      let f = found (want t n 0) x g.parts there refl in
      record {
        part = f.part;
        sends = record {
          reading = l;
          tick = as_tick tick;
          serves = inl (
            refl,
            line.line,
            (line.there, line.same),
            due_served p stamp line.line t n line.same past,
            may_send p lives cubs beyond fits c b l tick.at stamp t n line.line tick line.same may,
          );
          stored = f.found;
          goes = inl tick.whole;
        };
      }

  -- a deschedule that came before a tick cuts off
  cut_before : (c b l : ℕ) (t : Tenancy) (n k : ℕ) (tick : TickedAt p lives c b l) → k < tick.at
      → ReachedAt p lives c t.instance.0 (beat_at (lives.input c) k)
      → IsCutOff (facts_by p lives beyond) (blocks_by p lives disk_at) c t.instance.0 n b
  cut_before c b l t n k tick less g =
      let low = tick.done in
      let rise = beats_rise p (lives.count c) (lives.input c) (cubs.lived c tick.small) k tick.at (omega arith) low in
      let ei = beat_is p lives cubs c tick.small tick.at (Tick (facts.stamp_of b l)) tick.is in
      inl (record { beat = beat_at (lives.input c) k; reached = g; by = omega arith })

  -- what is stored is sent when it is due
  pub serves_due : {c : ℕ} {t : Tenancy} {n y b l : ℕ} → Fits p lives beyond → StoredAt p lives c t n 0 y → y ≤ b
      → TickedAt p lives c b l → MayServe p (facts_by p lives beyond) c t n 0 b
      → due p t.slot.0 n ≤ l → l < due p t.slot.0 n + p.play
      → WasUndue p (facts_by p lives beyond) c b (due p t.slot.0 n) 0
      → ServesAt p lives c t n 0 b ⊎ IsCutOff (facts_by p lives beyond) (blocks_by p lives disk_at) c t.instance.0 n b
  serves_due {c} {t} {n} {y} {b} {l} fits s le tick may past late u =
      let a = s.answered in
      let small = a.small in
      let j : ℕ = a.at in
      let i : ℕ = tick.at in
      let low = tick.done in
      let stamp : Stamp = facts.stamp_of b l in
      let part : StoredPart = record { want = want t n 0; part = s.part } in
      let ei = beat_is p lives cubs c small i (Tick stamp) tick.is in
      let m : Msg = msg.ReadDone (want t n 0) (Some s.part) in
      let ej = beat_is p lives cubs c small j (Take (facts.stamp_of y a.reading) a.link m) a.is in
      let less = message_before p lives cubs.lived c i j small low a.done (ap is_tick_input tick.is) (ap is_tick_input a.is)
      (omega arith) in
      let x = own_line (store_of p lives c j) t n a.there in
      let d = trail p c (lives.input c) j x.0 x.1 in
      let since = d.before in
      let taken = subst (λ (r : Rec). In (taken_out r) (outs_at p c (lives.input c) d.at)) x.2 d.taken in
      ⊎_elim
      (λ line. ⊎_elim
      (λ stored. inl (sent_now fits c b l t n s.part tick line stored past late may))
      (λ m.
      let before = m.before in
      ⊎_elim
      (λ g. inr (cut_before c b l t n m.at tick before g))
      (λ k.
      let old = leb-true _ _ k.stale in
      let rise = (cubs.lived c small).rising m.at i (omega arith) low in
      let rk = reading_is p lives cubs c small m.at (Tick k.stamp) k.is in
      let ri = reading_is p lives cubs c small i (Tick stamp) tick.is in
      absurd (omega arith))
      (why_lost c m.at part (lives.input c m.at) small (omega arith) refl refl m.costs))
      (stays_until p c (lives.input c) (suc j) i part (omega arith) (stored_after c y t n s.part a)))
      (λ m.
      let before = m.before in
      ⊎_elim
      (λ g. inr (cut_before c b l t n m.at tick before g))
      (λ k.
      let early = undue_then c i m.at b (due p t.slot.0 n) stamp k.stamp small low tick.is refl u before k.is in
      let over = k.past in
      absurd (omega arith))
      m.why)
      (stays_or_gone p cubs.plan lives c d.at i (own_of t n) small (omega arith) (omega arith) taken)
