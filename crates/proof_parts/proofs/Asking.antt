-- The laws of what a cub asks for, sends, and writes down as failed, of mirror pieces: by which record, and when.
use Rattle.std.proofs.Common.{◌≡◌, ℕ, suc, ◌+◌, ◌<◌, ◌≤◌, true, false, None, refl, sym, ap, subst, arith, ⊎_elim, inl, inr}
use Rattle.tiger_base.specs.declared.number.Stamp.{Stamp}
use Rattle.tiger_base.specs.declared.tenancy.PieceState.{PieceState}
use Rattle.tiger_base.specs.declared.tenancy.Tenancy.{Tenancy}
use Rattle.tiger_base.specs.declared.message.Msg.{Msg}
use Rattle.slot_plan.specs.declared.params.Params.{Params}
use Rattle.slot_plan.specs.Conditions.{IsPlan}
use Rattle.mirror_schedule.specs.Pieces.{leaving_of}
use Rattle.node_kit.specs.Steps.{Input, stamp_of}
use Rattle.cub_rules.specs.State.{IsPieceAt}
use Rattle.cub_rules.specs.Ticks.{leaves_by}
use Rattle.proof_lives.specs.Lives.{Lives, AreLives, store_at, beat_at}
use Rattle.proof_lives.specs.Facts.{TickAt}
use Rattle.proof_lives.proofs.Fitting.{Fits, whole_or_died}
use Rattle.proof_lives.proofs.Order.{beats_rise}
use Rattle.proof_lives.specs.HoldsHere.{AreAllFormed}
use Rattle.proof_pieces.specs.PieceFacts.{leave}
use Rattle.proof_pieces.specs.PieceLaws.{IsThere, WasUndue}
use Rattle.proof_service.specs.Disks.{FailedThere}
use Rattle.proof_facts.specs.Blocks.{AnsweredAt}
use Rattle.proof_lives.specs.FactsBy.{Beyond, facts_by}
use Rattle.proof_facts.specs.Pieces.{piece, AsksAt, ServesAt, pieces_by}
use Rattle.proof_facts.specs.Pieces.{stamp_of as made_of}
use Rattle.proof_lives.proofs.SameLife.{same_life}
use Rattle.proof_splits.specs.PieceRecords.{KeepsPieces}
use Rattle.proof_splits.proofs.Standing.{keeps_pieces}
use Rattle.proof_splits.proofs.Backups.{is_tick}
use Rattle.proof_lives.proofs.Cuts.{whole_before}
use Rattle.proof_parts.proofs.CutOff.{leave_is, leaves_to, split_early}
use Rattle.proof_parts.proofs.Origins.{IsFrom, arises_at, from_standing}
use Rattle.proof_parts.proofs.PieceForms.{numbered, piece_at, unasked_within}

module _ (p : Params) (plan : IsPlan p) (lives : Lives) (are : AreLives p lives) (formed : AreAllFormed p lives)
    (beyond : Beyond) (fits : Fits p lives beyond) where
  pub keeps : (c : ℕ) → c < p.cubs → KeepsPieces p c (lives.count c) (lives.input c)
  keeps c small = keeps_pieces p c plan.ranges.pieces.0 (lives.count c) (lives.input c) (formed c small)

  -- a piece that is used at a tick, by a record that entered so, in form, and leaves within the lead
  there : (c n j b l lead : ℕ) (t : Tenancy) → 1 ≤ j → TickAt p lives c b l → IsPieceAt p c (piece t n j)
      → leaves_by p (l + lead) (piece t n j) ≡ true
      → IsFrom p plan lives are formed beyond fits c (piece t n j) b lead
      → IsThere p (facts_by p lives beyond) (pieces_by p lives) c t n j b lead
  there c n j b l lead t some tick form leaves f =
      let e : leave p t n j ≡ leaving_of p (piece t n j) = leave_is p t n j some in
      record {
        reading = l;
        tick = is_tick p plan lives are formed beyond fits.came c b l tick;
        whole = ⊎_elim (λ w. inl w) (λ d. inr (fits.died c b d)) (whole_or_died tick);
        here = sym form.here;
        few = (numbered p c (piece t n j) form).1;
        beat = f.beat;
        arises = f.arises;
        by = f.by;
        life = f.life;
        since = f.since;
        soon = subst (λ m. m ≤ l + lead) (sym e) (leaves_to p (l + lead) (piece t n j) leaves);
        fresh = ⊎_elim (λ q. inl q) (λ q. inr
            (subst (λ m. WasUndue p (facts_by p lives beyond) c b m lead) (sym e) q)) f.fresh;
      }

  -- a disk is asked for a piece when that leaves within the read lead
  pub asks_there : {c : ℕ} {t : Tenancy} {n j b : ℕ} → 1 ≤ j → AsksAt p lives c t n j b
      → IsThere p (facts_by p lives beyond) (pieces_by p lives) c t n j b p.read_lead
  asks_there {c} {t} {n} {j} {b} some a =
      let x : PieceState = piece t n j in
      let i : ℕ = a.tick.at in
      let small = a.tick.small in
      let low = a.tick.done in
      let stamp : Stamp = made_of b a.reading in
      let kp : KeepsPieces p c (lives.count c) (lives.input c) = keeps c small in
      let beat : beat_at (lives.input c) i ≡ b = ap (λ (k : Input Msg). (stamp_of k).beat) a.tick.is in
      ⊎_elim
      (λ z. let none = z.0 in absurd (omega arith))
      (λ z.
      there c n j b a.reading p.read_lead t some a.tick
      (unasked_within p plan lives are c i stamp x small low a.tick.is z.1) z.2
      (⊎_elim
      (λ u.
      let s = kp.entered i x (omega arith) (kp.within i x u) in
      from_standing p plan lives are formed beyond fits c i b p.read_lead stamp x small low a.tick.is beat s
      (λ k st from before is. kp.asked k st x is
      (kp.unasked_since i x (omega arith) u s (suc k) (omega arith) (omega arith))))
      (λ w. absurd (split_early p c stamp (store_at p c (lives.input c) i) x p.read_lead plan w (omega arith) z.2))
      ((kp.in_tick i stamp x).unasked z.1)))
      a.asks

  -- a piece is sent when it leaves
  pub serves_there : {c : ℕ} {t : Tenancy} {n j b : ℕ} → 1 ≤ j → ServesAt p lives c t n j b
      → IsThere p (facts_by p lives beyond) (pieces_by p lives) c t n j b 0
  serves_there {c} {t} {n} {j} {b} some v =
      let s = v.sends in
      let x : PieceState = piece t n j in
      let i : ℕ = s.tick.at in
      let small = s.tick.small in
      let low = s.tick.done in
      let stamp : Stamp = made_of b s.reading in
      let kp : KeepsPieces p c (lives.count c) (lives.input c) = keeps c small in
      let beat : beat_at (lives.input c) i ≡ b = ap (λ (k : Input Msg). (stamp_of k).beat) s.tick.is in
      let zero_more : (l : ℕ) → l + 0 ≡ l = λ l. omega arith in
      ⊎_elim
      (λ z. let none = z.0 in absurd (omega arith))
      (λ z.
      let leaves : leaves_by p (s.reading + 0) x ≡ true = subst (λ m. leaves_by p m x ≡ true)
      (sym (zero_more s.reading)) z.2 in
      ⊎_elim
      (λ u.
      let d = kp.entered i x (omega arith) u in
      there c n j b s.reading 0 t some s.tick (piece_at p plan lives are c i x small (omega arith) u) leaves
      (from_standing p plan lives are formed beyond fits c i b 0 stamp x small low s.tick.is beat d
      (λ k st from before is.
      subst (λ m. leaves_by p m x ≡ false) (sym (zero_more st.reading))
      (kp.left k st x is (d.stands (suc k) (omega arith) (omega arith))))))
      (λ w. absurd (split_early p c stamp (store_at p c (lives.input c) i) x 0 plan w (omega arith) leaves))
      ((kp.in_tick i stamp x).at_serving z.1))
      s.serves

  -- a read that failed is written down for a record that is there
  pub failed_there : {c : ℕ} {t : Tenancy} {n j y : ℕ} → 1 ≤ j → AnsweredAt p lives c t n j y None
      → FailedThere p (facts_by p lives beyond) (pieces_by p lives) c t n j y
  failed_there {c} {t} {n} {j} {y} some a =
      let x : PieceState = piece t n j in
      let low = a.done in
      let beat : beat_at (lives.input c) a.at ≡ y = ap (λ (k : Input Msg). (stamp_of k).beat) a.is in
      ⊎_elim
      (λ z. let none = z.0 in absurd (omega arith))
      (λ z.
      let s = (keeps c a.small).entered a.at x (omega arith) z.1 in
      let before = s.before in
      let rise = beats_rise p (lives.count c) (lives.input c) (are c a.small) s.at a.at (omega arith) low in
      let form = piece_at p plan lives are c a.at x a.small (omega arith) z.1 in
      record {
        arises = record {
          beat = beat_at (lives.input c) s.at;
          arises = arises_at p plan lives are formed beyond fits c s.at x (lives.input c s.at) a.small
              (omega arith) (whole_before lives c s.at a.at before low) refl s.enters s.new;
          by = omega arith;
          life = λ u back by. same_life p lives beyond are fits c s.at a.at a.small (omega arith) low u back (omega arith);
        };
        here = sym form.here;
        few = (numbered p c x form).1;
      })
      a.there
