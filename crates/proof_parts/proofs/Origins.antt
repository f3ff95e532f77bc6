-- By which record a cub uses a piece: how it entered, when its instance was not held, and that it was not due before.
use Rattle.std.proofs.Common.{◌≡◌, ℕ, ◌+◌, ◌-◌, ◌<◌, ◌≤◌, false, None, refl, sym, ap, subst, ◌∙◌, arith, ⊎_elim, inl, inr, eq-or-lt_of_le}
use Rattle.std.specs.Prelude.{◌⊎◌}
use Rattle.std.proofs.lemmas.Bool.{cases_lt}
use Rattle.tiger_base.specs.declared.number.Stamp.{Stamp}
use Rattle.tiger_base.specs.declared.tenancy.PieceState.{PieceState}
use Rattle.tiger_base.specs.declared.message.Msg.{Msg}
use Rattle.tiger_base.specs.declared.message.Msg.TheVariants as msg
use Rattle.slot_plan.specs.declared.params.Params.{Params}
use Rattle.slot_plan.specs.Conditions.{IsPlan}
use Rattle.slot_plan.proofs.Times.{time_mono}
use Rattle.mirror_schedule.specs.Pieces.{is_in, leaving_of}
use Rattle.node_kit.specs.Steps.{Input, stamp_of}
use Rattle.node_kit.specs.Steps.Input.{Take, Tick}
use Rattle.cub_rules.specs.Ticks.{leaves_by}
use Rattle.proof_lives.specs.Lives.{Lives, AreLives, cut_in, store_at, beat_at}
use Rattle.run_facts.specs.Events.{is_tick_input}
use Rattle.proof_lives.specs.Facts.{ReachedAt}
use Rattle.proof_lives.proofs.Cuts.{whole_before}
use Rattle.proof_lives.proofs.Fitting.{Fits}
use Rattle.proof_lives.proofs.Order.{beats_rise, behind, tick_before, tick_of}
use Rattle.proof_lives.proofs.Inputs.{message_before}
use Rattle.proof_lives.specs.HoldsHere.{AreAllFormed}
use Rattle.proof_lives.proofs.HoldLaws.{stop_in, released_by}
use Rattle.proof_lives.proofs.Persist.{unheld_released}
use Rattle.proof_schedule.specs.Facts.{IsReleasedBy, IsSameLife, IsUnheld}
use Rattle.proof_pieces.specs.PieceFacts.{Arises}
use Rattle.proof_pieces.specs.PieceLaws.{WasUndue}
use Rattle.proof_lives.specs.FactsBy.{Beyond, facts_by}
use Rattle.proof_facts.specs.Pieces.{SplitAt, pieces_by}
use Rattle.proof_lives.proofs.SameLife.{same_life}
use Rattle.proof_splits.specs.PieceRecords.{IsSplitOff, Enters, CutsOff, StandsSince}
use Rattle.proof_splits.proofs.Backups.{splits}
use Rattle.proof_parts.proofs.CutOff.{leaves_later}

module _ (p : Params) (plan : IsPlan p) (lives : Lives) (are : AreLives p lives) (formed : AreAllFormed p lives)
    (beyond : Beyond) (fits : Fits p lives beyond) where
  -- how the record of a piece entered by a tick of beat b, and that it is the first tick at which it may be used
  pub record IsFrom (c : ℕ) (x : PieceState) (b lead : ℕ) : Type 0 where
    pub beat : ℕ
    pub arises : Arises (facts_by p lives beyond) (pieces_by p lives) c x.tenancy x.visit x.piece beat
    pub by : beat ≤ b
    pub life : IsSameLife (facts_by p lives beyond) c beat b
    pub since : IsUnheld p (facts_by p lives beyond) c x.tenancy.instance.0 b beat
    pub fresh : (beat ≡ b) ⊎ WasUndue p (facts_by p lives beyond) c b (leaving_of p x) lead

  -- what is split off at a whole tick is a split
  split_at : (c a : ℕ) (stamp : Stamp) (x : PieceState) → c < p.cubs → a < lives.count c → cut_in lives c a ≡ None
      → lives.input c a ≡ Tick stamp → IsSplitOff p c stamp (store_at p c (lives.input c) a) x
      → SplitAt p lives c x.tenancy x.visit (beat_at (lives.input c) a)
  split_at c a stamp x small low whole is w =
      let e : stamp.beat ≡ beat_at (lives.input c) a = ap (λ (k : Input Msg). (stamp_of k).beat) (sym is) in
      subst (λ n. SplitAt p lives c x.tenancy x.visit n) e
      (record {
        reading = stamp.reading;
        tick = record { small = small; at = a; done = low; is = is };
        believes = w.believes;
        line = w.line;
        there = w.there;
        must = w.must;
        left = w.left;
        number = 0;
        goes = inl whole;
      })

  -- who enters at an input that no death cuts off arises
  pub arises_at : (c a : ℕ) (x : PieceState) (k : Input Msg) → c < p.cubs → a < lives.count c
      → cut_in lives c a ≡ None → lives.input c a ≡ k
      → Enters p c k (store_at p c (lives.input c) a) x
      → is_in x (store_at p c (lives.input c) a).pieces.items ≡ false
      → Arises (facts_by p lives beyond) (pieces_by p lives) c x.tenancy x.visit x.piece (beat_at (lives.input c) a)
  arises_at c a x (Tick stamp) small low whole is w new =
      inr (inl (w.first, split_at c a stamp x small low whole is w))
  arises_at c a x (Take stamp link m) small low whole is w new =
      let told : lives.input c a ≡ Take stamp link (msg.MirrorState x) =
      is ∙ ap (λ (o : Msg). Take stamp link o) w.is in
      let e : stamp.beat ≡ beat_at (lives.input c) a = ap (λ (k : Input Msg). (stamp_of k).beat) (sym is) in
      subst (λ n. Arises (facts_by p lives beyond) (pieces_by p lives) c x.tenancy x.visit x.piece n) e
      (inr (inr (record {
        small = small;
        at = a;
        done = low;
        reading = stamp.reading;
        link = link;
        is = told;
        formed = formed c small a stamp link (msg.MirrorState x) low told;
        free = w.free;
        here = w.here;
        lets = w.lets;
        new = new;
      })))

  -- what was over by a beat is over by a later one
  later : (c v b d : ℕ) → b ≤ d → IsReleasedBy p (facts_by p lives beyond) c v b
      → IsReleasedBy p (facts_by p lives beyond) c v d
  later c v b d le k =
      let over = k.over in
      let t = time_mono p b d le in
      record { beat = k.beat; reached = k.reached; over = omega arith }

  -- who enters behind a deschedule of its instance was let go by then
  let_go : (c a : ℕ) (x : PieceState) (k : Input Msg) → c < p.cubs → a < lives.count c
      → cut_in lives c a ≡ None → lives.input c a ≡ k
      → Enters p c k (store_at p c (lives.input c) a) x
      → (y : ℕ) (g : ReachedAt p lives c x.tenancy.instance.0 y) → g.took.at < a
      → IsReleasedBy p (facts_by p lives beyond) c x.tenancy.instance.0 (beat_at (lives.input c) a)
  let_go c a x (Take stamp link m) small low whole is w y g less =
      let v : ℕ = x.tenancy.instance.0 in
      let t = g.took in
      released_by p plan lives are formed beyond c a t.at v (beat_at (lives.input c) a) small low (omega arith)
      (unheld_released p c (lives.input c) (lives.count c) (formed c small) a t.at v less (omega arith) (stop_in p lives g)
      x.tenancy.instance refl w.free)
  let_go c a x (Tick stamp) small low whole is w y g less =
      let t = g.took in
      let s = splits p plan lives are formed beyond fits.came (split_at c a stamp x small low whole is w) in
      let rise = beats_rise p (lives.count c) (lives.input c) (are c small) t.at a (omega arith) low in
      let e : beat_at (lives.input c) t.at ≡ y = ap (λ (k : Input Msg). (stamp_of k).beat) t.is in
      let b : ℕ = beat_at (lives.input c) a in
      later c x.tenancy.instance.0 s.beat b s.by
      (s.since y g (omega arith) (λ u back by.
      let one = same_life p lives beyond are fits c t.at a small (omega arith) low u back by in
      omega arith))

  -- so of one that is there at a tick
  unheld : (c i b a : ℕ) (stamp : Stamp) (x : PieceState) → c < p.cubs → i < lives.count c
      → lives.input c i ≡ Tick stamp → beat_at (lives.input c) i ≡ b → a < i
      → Enters p c (lives.input c a) (store_at p c (lives.input c) a) x
      → ((j : ℕ) → j < i → CutsOff (lives.input c j) x → j < a)
      → IsUnheld p (facts_by p lives beyond) c x.tenancy.instance.0 b (beat_at (lives.input c) a)
  unheld c i b a stamp x small low is beat before_it w since y g by life =
      let t = g.took in
      let e : beat_at (lives.input c) t.at ≡ y = ap (λ (k : Input Msg). (stamp_of k).beat) t.is in
      let before = message_before p lives are c i t.at small low t.done (ap is_tick_input is) (ap is_tick_input t.is) (omega arith) in
      let less = since t.at before (subst (λ (k : Input Msg). CutsOff k x) (sym t.is) g.same) in
      let_go c a x (lives.input c a) small (omega arith) (whole_before lives c a i before_it low) refl w y g less

  -- a record that stands at a tick, if at no tick before it was to be used
  pub from_standing : (c i b lead : ℕ) (stamp : Stamp) (x : PieceState) → c < p.cubs → i < lives.count c
      → lives.input c i ≡ Tick stamp → beat_at (lives.input c) i ≡ b
      → (s : StandsSince p c (lives.input c) x i)
      → ((k : ℕ) (st : Stamp) → s.at ≤ k → k < i → lives.input c k ≡ Tick st
      → leaves_by p (st.reading + lead) x ≡ false)
      → IsFrom c x b lead
  from_standing c i b lead stamp x small low is beat s late =
      let inputs : ℕ → Input Msg = lives.input c in
      let before = s.before in
      let low_at : s.at < lives.count c = omega arith in
      let rise = beats_rise p (lives.count c) inputs (are c small) s.at i (omega arith) low in
      record {
        beat = beat_at inputs s.at;
        arises = arises_at c s.at x (inputs s.at) small low_at (whole_before lives c s.at i before low) refl s.enters
            s.new;
        by = omega arith;
        life = λ u back by. same_life p lives beyond are fits c s.at i small low_at low u back (omega arith);
        since = unheld c i b s.at stamp x small low is beat before s.enters s.behind;
        fresh = ⊎_elim
            (λ (e : beat_at inputs s.at ≡ b). inl e)
            (λ (l : beat_at inputs s.at < b). inr (undue l))
            (eq-or-lt_of_le (let z : beat_at inputs s.at ≤ b = omega arith in z));
      }
    where
      undue : beat_at (lives.input c) s.at < b → WasUndue p (facts_by p lives beyond) c b (leaving_of p x) lead
      undue l =
          let inputs : ℕ → Input Msg = lives.input c in
          let life = are c small in
          let before = s.before in
          let before = s.before in
          let began = beats_rise p (lives.count c) inputs life 0 s.at (omega arith) (omega arith) in
          let k = tick_before p (lives.count c) inputs life i (b - 1) low (omega arith) (omega arith) in
          let kb = k.before in
          let in_beat = k.beat in
          let low_k : k.at < lives.count c = omega arith in
          let t = tick_of (inputs k.at) k.tick in
          let e : beat_at inputs k.at ≡ t.0.beat = ap (λ (i : Input Msg). (stamp_of i).beat) t.1 in
          let from : s.at ≤ k.at = ⊎_elim
          (λ (less : k.at < s.at).
          let q = behind p (lives.count c) inputs life k.at s.at less (omega arith) k.tick in
          absurd (omega arith))
          (λ (g : s.at ≤ k.at). g)
          (cases_lt k.at s.at) in
          record {
            beat = t.0.beat;
            reading = t.0.reading;
            ticked = record {
              small = small;
              at = k.at;
              done = low_k;
              is = t.1;
              whole = whole_before lives c k.at i kb low;
            };
            next = omega arith;
            undue = leaves_later p (t.0.reading + lead) x (late k.at t.0 from kb t.1);
          }
