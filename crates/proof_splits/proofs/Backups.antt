-- The records that a cub splits: each is of this cub, and entered when its instance was held no longer.
use Rattle.std.proofs.Common.{◌≡◌, ℕ, ◌+◌, ◌*◌, ◌<◌, ◌≤◌, nat_le, List, Bool, true, not, refl, sym, ap, subst, arith, ⊎_elim}
use Rattle.std.specs.Prelude.{◌&&◌}
use Rattle.std.proofs.lemmas.Bool.{and_parts, leb-true}
use Rattle.tiger_base.specs.declared.number.Stamp.{Stamp}
use Rattle.tiger_base.specs.declared.tenancy.Rec.{Rec}
use Rattle.tiger_base.specs.declared.tenancy.Tenancy.{Tenancy}
use Rattle.tiger_base.specs.declared.message.Msg.{Msg}
use Rattle.tiger_base.specs.Kinds.{is_own}
use Rattle.tiger_base.specs.Limits.{most_reading}
use Rattle.tiger_base.specs.Records.{backup_of}
use Rattle.slot_plan.specs.declared.params.Params.{Params}
use Rattle.slot_plan.specs.Conditions.{IsPlan}
use Rattle.slot_plan.specs.Times.{time_of, due}
use Rattle.partial_view.specs.declared.line.Line.{Line}
use Rattle.node_kit.specs.declared.outbox.Out.{Out}
use Rattle.node_kit.specs.Steps.{Input, stamp_of}
use Rattle.node_kit.specs.Steps.Input.{Tick}
use Rattle.cub_rules.specs.declared.store.Store.{Store}
use Rattle.cub_rules.specs.State.{IsLineOf, IsRecordOf, IsStoreOf}
use Rattle.cub_rules.specs.Ticks.{releasing, believing, must_split}
use Rattle.cub_changes.proofs.Rules.{inserting_right, releasing_right, believing_right}
use Rattle.proof_lives.specs.Lives.{Lives, AreLives, store_at, outs_at, outs_in, beat_at}
use Rattle.run_facts.specs.Events.{is_tick_input}
use Rattle.lists.specs.Elements.{In}
use Rattle.proof_lives.specs.Facts.{TickAt}
use Rattle.proof_lives.proofs.Lines.{kept_at}
use Rattle.lists.proofs.Each.{all_in}
use Rattle.proof_lives.proofs.Moves.{taken_out}
use Rattle.proof_lives.proofs.Order.{beats_rise}
use Rattle.proof_lives.proofs.Beside.{outs_of_insertion}
use Rattle.proof_lives.proofs.Cuts.{was_put_out, whole_before, goes_whole}
use Rattle.proof_lives.proofs.Inputs.{entered_at}
use Rattle.proof_lives.proofs.TakingOver.{inserting_puts}
use Rattle.proof_lives.proofs.Ticking.{before_inserting, same_before}
use Rattle.proof_lives.specs.HoldsHere.{AreAllFormed}
use Rattle.proof_lives.proofs.Begun.{IsStop}
use Rattle.proof_lives.proofs.Reaching.{stop_by_tick, let_go}
use Rattle.proof_lives.proofs.Standing.{standing}
use Rattle.proof_schedule.specs.Facts.{BelievedBy}
use Rattle.proof_schedule.specs.RunLaws.{IsTick}
use Rattle.proof_pieces.specs.PieceLaws.{IsSplit}
use Rattle.proof_lives.specs.FactsBy.{Beyond, facts_by}
use Rattle.proof_facts.specs.Pieces.{before_splitting, stamp_of as made_stamp, SplitAt}
use Rattle.proof_splits.proofs.Beliefs.{believed_by}
use Rattle.proof_splits.proofs.MirrorStates.{goes_with_split}

-- ---- what stands when a cub splits

-- a line that is split is one of a record that entered by then, behind each deschedule of its instance
record HasEntered (p : Params) (lives : Lives) (c i : ℕ) (z : Rec) : Type 0 where
  at : ℕ
  by : at ≤ i
  taken : In (taken_out z) (outs_in p lives c at)
  behind : (j : ℕ) → j < i → IsStop p c (lives.input c) j z.tenancy.instance.0 → j < at

module _ (p : Params) (plan : IsPlan p) (lives : Lives) (are : AreLives p lives) (formed : AreAllFormed p lives) where
  -- what a cub keeps when it splits is what this cub may keep
  splits_kept : (c i : ℕ) (stamp : Stamp) → c < p.cubs → i < lives.count c → lives.input c i ≡ Tick stamp
      → IsStoreOf p c (before_splitting p c stamp (store_at p c (lives.input c) i))
  splits_kept c i stamp small low tick =
      let h : Store = store_at p c (lives.input c) i in
      let life = are c small in
      let short : stamp.reading ≤ most_reading = subst (λ (k : Input Msg). (stamp_of k).reading ≤ most_reading) tick
      (life.short i low) in
      let kept = kept_at p c plan small (lives.input c) i (λ k l. life.short k (omega arith)) in
      let one = (releasing_right p c stamp h kept).keeps in
      let two = (believing_right p c stamp (releasing p stamp h).state one).keeps in
      (inserting_right p c stamp plan small short (believing p c stamp (releasing p stamp h).state).state two).keeps

  -- a line that stands when a cub splits is of a record that this cub may keep
  pub line_here : (c i : ℕ) (stamp : Stamp) (x : Line) → c < p.cubs → i < lives.count c → lives.input c i ≡ Tick stamp
      → In x (before_splitting p c stamp (store_at p c (lives.input c) i)).view.lines → IsLineOf p c x
  line_here c i stamp x small low tick there =
      all_in (IsLineOf p c) x (before_splitting p c stamp (store_at p c (lives.input c) i)).view.lines
      (splits_kept c i stamp small low tick).lines there

  line_entered : (c i : ℕ) (stamp : Stamp) (x : Line) → (small : c < p.cubs) → i < lives.count c
      → lives.input c i ≡ Tick stamp
      → ((q : Out Msg) → In q (outs_of_insertion p c stamp (store_at p c (lives.input c) i)) → In q (outs_in p lives c i))
      → In x (before_splitting p c stamp (store_at p c (lives.input c) i)).view.lines → HasEntered p lives c i x.rec
  line_entered c i stamp x small low tick goes there =
      let inputs : ℕ → Input Msg = lives.input c in
      let h : Store = store_at p c inputs i in
      ⊎_elim
      (λ w.
      let before = subst (λ (ls : List Line). In w.line ls) (same_before p c stamp h) w.there in
      let d = standing p c plan small (lives.count c) inputs (formed c small) i (omega arith) w.line before in
      let b = d.before in
      record {
        at = d.at;
        by = omega arith;
        taken = goes_whole p lives c d.at (taken_out x.rec) (whole_before lives c d.at i b low)
            (subst (λ (q : Rec). In (taken_out q) (outs_at p c inputs d.at)) (sym w.same) d.taken);
        behind = λ j l s. d.since j l (subst (λ (q : Rec). IsStop p c inputs j q.tenancy.instance.0) w.same s);
      })
      (λ w. record {
        at = i;
        by = omega arith;
        taken = goes (taken_out x.rec) w.taken;
        behind = λ j l s. l;
      })
      ((inserting_puts p c stamp plan small (before_inserting p c stamp h)).moves.back x there)

  module _ (beyond : Beyond) where
    in_time : (stamp : Stamp) (x : Line) → must_split p stamp x ≡ true
        → stamp.reading + p.read_lead + p.skew + p.delay * p.beat + p.beat ≤ due p x.rec.tenancy.slot.0 x.rec.visit
    unfolding must_split
    in_time stamp x e =
        let late : Bool = nat_le (stamp.reading + p.read_lead + p.skew + p.delay * p.beat + p.beat)
        (due p x.rec.tenancy.slot.0 x.rec.visit) in
        leb-true _ _ (and_parts (not (is_own x.rec.kind) && not x.split) late e).1

    way_long : time_of p p.delay ≡ p.delay * p.beat
    unfolding time_of
    way_long = refl

    module _ (came : (c b l : ℕ) → TickAt p lives c b l → beyond.Came c b) where
      -- a tick of a life
      pub is_tick : (c b l : ℕ) → TickAt p lives c b l → IsTick p (facts_by p lives beyond) c b l
      is_tick c b l w =
          let eb : beat_at (lives.input c) w.at ≡ b = ap (λ (k : Input Msg). (stamp_of k).beat) w.is in
          let er : (stamp_of (lives.input c w.at)).reading ≡ l = ap (λ (k : Input Msg). (stamp_of k).reading) w.is in
          let reads = (are c w.small).reads w.at w.done in
          let low : time_of p b ≤ l = subst (λ (n : ℕ). time_of p n ≤ l) eb
          (subst (λ (n : ℕ). time_of p (beat_at (lives.input c) w.at) ≤ n) er reads.0) in
          let high : l ≤ time_of p b + p.skew = subst (λ (n : ℕ). l ≤ time_of p n + p.skew) eb
          (subst (λ (n : ℕ). n ≤ time_of p (beat_at (lives.input c) w.at) + p.skew) er reads.1) in
          record { came = came c b l w; low = low; high = high }

      -- who splits a visit, and when
      pub splits : {c n b : ℕ} {t : Tenancy} → SplitAt p lives c t n b → IsSplit p (facts_by p lives beyond) c t n b
      splits {c} {n} {b} {t} w =
          let small : c < p.cubs = w.tick.small in
          let i : ℕ = w.tick.at in
          let inputs : ℕ → Input Msg = lives.input c in
          let stamp : Stamp = made_stamp b w.reading in
          let eb : beat_at inputs i ≡ b = ap (λ (k : Input Msg). (stamp_of k).beat) w.tick.is in
          let d = line_entered c i stamp w.line small w.tick.done w.tick.is (goes_with_split p lives c w) w.there.0 in
          let by = d.by in
          let low : d.at < lives.count c = (let e = w.tick.done in omega arith) in
          let rise = beats_rise p (lives.count c) inputs (are c small) d.at i by w.tick.done in
          let taken = subst (λ (q : Rec). In (taken_out q) (outs_in p lives c d.at)) w.there.1 d.taken in
          let here = subst (λ (q : Rec). IsRecordOf p c q) w.there.1
          (line_here c i stamp w.line small w.tick.done w.tick.is w.there.0) in
          let soon = subst (λ (q : Rec). w.reading + p.read_lead + p.skew + p.delay * p.beat + p.beat ≤ due p
          q.tenancy.slot.0 q.visit) w.there.1 (in_time stamp w.line w.must) in
          let long = way_long in
          record {
            reading = w.reading;
            tick = is_tick c b w.reading w.tick;
            next = sym here.here;
            believed = subst (λ (x : ℕ). BelievedBy (facts_by p lives beyond) c x) eb
                (believed_by p lives are beyond c i stamp small w.tick.done w.tick.is w.believes);
            beat = beat_at inputs d.at;
            entered = entered_at p lives c d.at (backup_of t n) small low taken;
            by = omega arith;
            since = λ y g le life.
                let s = stop_by_tick p lives are c i t.instance.0 y w.tick.done (ap is_tick_input w.tick.is) g (omega arith) in
                let stop = subst (λ (q : Rec). IsStop p c inputs s.at q.tenancy.instance.0) (sym w.there.1) s.stop in
                let behind = d.behind s.at s.before stop in
                let_go p plan lives are formed beyond c d.at s.at (backup_of t n) small low behind
                (was_put_out p lives c d.at (taken_out (backup_of t n)) taken) s.stop;
            soon = omega arith;
          }
