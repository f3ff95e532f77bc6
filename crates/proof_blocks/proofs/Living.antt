-- The own records of cubs, along their lives: each entered behind the holds of its instance, on the visit's cub.
use Rattle.std.proofs.Common.{◌≡◌, ℕ, suc, ◌+◌, ◌-◌, ◌<◌, ◌≤◌, refl, ap, subst, ◌∙◌, ⊎_elim, inl, inr, arith, eq-or-lt_of_le}
use Rattle.std.proofs.lemmas.Bool.{cases_lt}
use Rattle.tiger_base.specs.Limits.{most_reading}
use Rattle.tiger_base.specs.Records.{own_of}
use Rattle.tiger_base.specs.declared.number.Stamp.{Stamp}
use Rattle.tiger_base.specs.declared.tenancy.Rec.{Rec}
use Rattle.tiger_base.specs.declared.tenancy.Tenancy.{Tenancy}
use Rattle.tiger_base.specs.declared.message.Msg.{Msg}
use Rattle.slot_plan.specs.declared.params.Params.{Params}
use Rattle.slot_plan.specs.Conditions.{IsPlan}
use Rattle.slot_plan.specs.Times.{time_of, due, cub_of}
use Rattle.node_kit.specs.Steps.{Input, stamp_of}
use Rattle.node_kit.specs.Steps.Input.{Tick}
use Rattle.partial_view.specs.declared.line.Line.{Line}
use Rattle.cub_rules.specs.declared.store.Store.{Store}
use Rattle.cub_rules.specs.State.{IsStoreOf, IsLineOf, IsRecordOf}
use Rattle.cub_changes.proofs.Rules.{forwarding_right}
use Rattle.proof_lives.specs.Lives.{Lives, IsLife, AreLives, store_at, outs_at, beat_at, reading_at}
use Rattle.run_facts.specs.Events.{is_tick_input}
use Rattle.lists.specs.Elements.{In}
use Rattle.proof_lives.specs.Facts.{TickAt, TickedAt}
use Rattle.proof_lives.proofs.Cuts.{goes_whole, whole_before}
use Rattle.proof_lives.proofs.Fitting.{Fits, whole_or_died}
use Rattle.proof_lives.proofs.Inputs.{ticked_there, entered_at}
use Rattle.proof_lives.proofs.Lines.{kept_at}
use Rattle.lists.proofs.Each.{all_in}
use Rattle.proof_lives.proofs.Moves.{taken_out}
use Rattle.proof_lives.proofs.Order.{beats_rise, not_behind, tick_before, tick_of}
use Rattle.proof_lives.proofs.States.{own_visit}
use Rattle.proof_lives.proofs.Ticking.{before_forwarding, kept_before}
use Rattle.proof_lives.specs.HoldsHere.{AreAllFormed}
use Rattle.proof_lives.proofs.Begun.{IsStop}
use Rattle.proof_lives.proofs.Reaching.{stop_by_tick, let_go}
use Rattle.proof_lives.proofs.Standing.{gone}
use Rattle.proof_schedule.specs.Facts.{IsUnheld}
use Rattle.proof_pieces.specs.PieceLaws.{IsThere, WasUndue}
use Rattle.proof_lives.specs.FactsBy.{Beyond, facts_by}
use Rattle.proof_facts.specs.Pieces.{before_reading, pieces_by}
use Rattle.proof_facts.specs.Pieces as facts
use Rattle.proof_lives.proofs.SameLife.{same_life}
use Rattle.proof_blocks.proofs.Tracing.{Trail, asking_trail}
use Rattle.proof_blocks.proofs.Window.{taken_above}

-- What is given of the cubs: a plan, and lives in which all messages are in form.
pub record AreCubs (p : Params) (lives : Lives) : Type 0 where
  pub plan : IsPlan p
  pub lived : AreLives p lives
  pub formed : AreAllFormed p lives

-- what cub c keeps before its input of number i
abbrev pub store_of : Params → Lives → ℕ → ℕ → Store
store_of p lives c i = store_at p c (lives.input c) i

-- ---- one cub

module _ (p : Params) (lives : Lives) (cubs : AreCubs p lives) (c : ℕ) (small : c < p.cubs) where
  abbrev life : IsLife p (lives.count c) (lives.input c)
  life = cubs.lived c small

  -- the beat of an input that has this stamp
  pub beat_is : (i : ℕ) (q : Input Msg) → lives.input c i ≡ q → beat_at (lives.input c) i ≡ (stamp_of q).beat
  beat_is i q is = ap (λ (k : Input Msg). (stamp_of k).beat) is

  -- and its reading
  pub reading_is : (i : ℕ) (q : Input Msg) → lives.input c i ≡ q → reading_at (lives.input c) i ≡ (stamp_of q).reading
  reading_is i q is = ap (λ (k : Input Msg). (stamp_of k).reading) is

  -- what a cub keeps before an input, and when a tick asks, is what it may keep
  pub kept_here : (i : ℕ) → i ≤ lives.count c → IsStoreOf p c (store_of p lives c i)
  kept_here i low = kept_at p c cubs.plan small (lives.input c) i (λ k l. life.short k (omega arith))

  pub asking_kept : (i : ℕ) (stamp : Stamp) → i < lives.count c → lives.input c i ≡ Tick stamp
      → IsStoreOf p c (before_reading p c stamp (store_of p lives c i))
  asking_kept i stamp low is =
      let h : Store = store_of p lives c i in
      let short : stamp.reading ≤ most_reading =
      subst (λ (q : Input Msg). (stamp_of q).reading ≤ most_reading) is (life.short i low) in
      (forwarding_right p c stamp cubs.plan small (before_forwarding p c stamp h)
      (kept_before p c stamp cubs.plan small h (kept_here i (omega arith)) short)).keeps

  -- an own record is of a visit of the cub
  pub own_here : (t : Tenancy) (n : ℕ) (x : Line) (h : Store) → IsStoreOf p c h → In x h.view.lines → x.rec ≡ own_of t n
      → c ≡ cub_of p (n + 0)
  own_here t n x h kept i same =
      let of : IsRecordOf p c (own_of t n) = subst (λ (r : Rec). IsRecordOf p c r) same
      (all_in (IsLineOf p c) x h.view.lines kept.lines i) in
      own_visit p c (own_of t n) of refl ∙ ap (cub_of p) (let e : n ≡ n + 0 = omega arith in e)

  -- who stands before a tick asks was taken when its instance was held no longer
  unheld : (beyond : Beyond) (i : ℕ) (stamp : Stamp) (x : Line) (d : Trail p c (lives.input c) (suc i) i x)
      → i < lives.count c
      → lives.input c i ≡ Tick stamp
      → IsUnheld p (facts_by p lives beyond) c x.rec.tenancy.instance.0 stamp.beat (beat_at (lives.input c) d.at)
  unheld beyond i stamp x d low is = λ y g le one_life.
      let v : ℕ = x.rec.tenancy.instance.0 in
      let at : ℕ = d.at in
      let by = d.before in
      let ei = beat_is i (Tick stamp) is in
      let s = stop_by_tick p lives cubs.lived c i v y low (ap is_tick_input is) g (omega arith) in
      let j : ℕ = s.at in
      let below = s.before in
      let first : j < at = ⊎_elim
      (λ (l : j < at). l)
      (λ (l : at ≤ j).
      let w = d.there (suc j) (omega arith) (omega arith) in
      absurd (gone p c cubs.plan small (lives.count c) (lives.input c) (cubs.formed c small) j j w.line
      (omega arith) refl w.there
      (subst (λ (r : Rec). IsStop p c (lives.input c) j r.tenancy.instance.0) w.same s.stop)))
      (cases_lt j at) in
      let_go p cubs.plan lives cubs.lived cubs.formed beyond c at j x.rec small (omega arith) first d.taken s.stop

  -- at the tick of the beat before it was not yet due within a lead, if it was there at that
  undue_before : (beyond : Beyond) (i b time lead : ℕ) (stamp : Stamp) (x : Line)
      (d : Trail p c (lives.input c) (suc i) i x)
      → i < lives.count c → lives.input c i ≡ Tick stamp → stamp.beat ≡ b → beat_at (lives.input c) d.at < b
      → ((k : ℕ) (at : Stamp) → lives.input c k ≡ Tick at → d.at ≤ k → k < i → at.reading + lead < time)
      → WasUndue p (facts_by p lives beyond) c b time lead
  undue_before beyond i b time lead stamp x d low is eb less early =
      let ei = beat_is i (Tick stamp) is in
      let first : ℕ = d.at in
      let by = d.before in
      let began = beats_rise p (lives.count c) (lives.input c) life 0 first (omega arith) (omega arith) in
      let u = tick_before p (lives.count c) (lives.input c) life i (b - 1) low (omega arith) (omega arith) in
      let k : ℕ = u.at in
      let before = u.before in
      let s = tick_of (lives.input c k) u.tick in
      let beat : beat_at (lives.input c) k ≡ b - 1 = u.beat in
      let from : first ≤ k = not_behind p (lives.count c) (lives.input c) life first k (omega arith)
      (omega arith) u.tick (omega arith) in
      record {
        beat = b - 1;
        reading = s.0.reading;
        ticked = subst (λ m. TickedAt p lives c m s.0.reading) beat
            (ticked_there p lives c k s.0 small (omega arith) s.1 (whole_before lives c k i before low));
        next = omega arith;
        undue = early k s.0 s.1 from before;
      }

  -- Cub c uses the block of a visit, whose own record is there when a tick asks and is due within a lead. That is below
  -- the window, so the record was taken before the tick.
  pub there_at : (beyond : Beyond) → Fits p lives beyond
      → {t : Tenancy} {n b l : ℕ} (lead : ℕ) → lead ≤ p.window_b
      → (tick : TickAt p lives c b l) (x : Line)
      → In x (before_reading p c (facts.stamp_of b l) (store_of p lives c tick.at)).view.lines
      → x.rec ≡ own_of t n
      → ((d : Trail p c (lives.input c) (suc tick.at) tick.at x) (k : ℕ) (at : Stamp) → lives.input c k ≡ Tick at
      → d.at ≤ k → k < tick.at → at.reading + lead < due p t.slot.0 n)
      → due p t.slot.0 n ≤ l + lead
      → IsThere p (facts_by p lives beyond) (pieces_by p lives) c t n 0 b lead
  there_at beyond fits {t} {n} {b} {l} lead inside tick x i same early soon =
      let at : ℕ = tick.at in
      let stamp : Stamp = facts.stamp_of b l in
      let d = asking_trail p c (lives.input c) at stamp x tick.is i in
      let by = d.before in
      let low = tick.done in
      let eb = beat_is at (Tick stamp) tick.is in
      let reads = life.reads at low in
      let el : reading_at (lives.input c) at ≡ l = ap (λ (k : Input Msg). (stamp_of k).reading) tick.is in
      let tb : time_of p (beat_at (lives.input c) at) ≡ time_of p b = ap (time_of p) eb in
      let low_read = reads.0 in
      let high_read = reads.1 in
      let rise = beats_rise p (lives.count c) (lives.input c) life d.at at (omega arith) low in
      let due_is : due p x.rec.tenancy.slot.0 x.rec.visit ≡ due p t.slot.0 n =
      ap (λ (r : Rec). due p r.tenancy.slot.0 r.visit) same in
      let first : d.at < at = ⊎_elim
      (λ (e : d.at ≡ at).
      let above = taken_above p cubs.plan c small (lives.input c) d.at stamp x.rec (ap (lives.input c) e ∙ tick.is)
      d.taken in
      absurd (omega arith))
      (λ (l : d.at < at). l)
      (eq-or-lt_of_le (let z : d.at ≤ at = omega arith in z)) in
      record {
        reading = l;
        tick = record { came = fits.came c b l tick; low = omega arith; high = omega arith };
        whole = ⊎_elim (λ w. inl w) (λ e. inr (fits.died c b e)) (whole_or_died tick);
        here = own_here t n x (before_reading p c stamp (store_of p lives c at))
            (asking_kept at stamp low tick.is) i same;
        few = omega arith;
        beat = beat_at (lives.input c) d.at;
        arises = inl (
          refl,
          entered_at p lives c d.at (own_of t n) small (omega arith)
              (goes_whole p lives c d.at (taken_out (own_of t n)) (whole_before lives c d.at at first low)
              (subst (λ (r : Rec). In (taken_out r) (outs_at p c (lives.input c) d.at)) same d.taken)),
        );
        by = omega arith;
        life = λ u back le. same_life p lives beyond cubs.lived fits c d.at at small (omega arith) low u back (omega arith);
        since = subst (λ (r : Rec). IsUnheld p (facts_by p lives beyond) c r.tenancy.instance.0 b
            (beat_at (lives.input c) d.at)) same
            (unheld beyond at stamp x d low tick.is);
        soon = soon;
        fresh = ⊎_elim
            (λ (e : beat_at (lives.input c) d.at ≡ b). inl e)
            (λ (e : beat_at (lives.input c) d.at < b).
            inr (undue_before beyond at b (due p t.slot.0 n) lead stamp x d low tick.is refl e (early d)))
            (eq-or-lt_of_le (let z : beat_at (lives.input c) d.at ≤ b = omega arith in z));
      }
