-- Why what a cub keeps of a piece went: a deschedule or a kill came, or the time was over at a tick.
use Rattle.std.proofs.Common.{◌≡◌, ℕ, ◌+◌, ◌*◌, ◌<◌, ◌≤◌, Bool, true, false, Option, refl, sym, subst, ◌∙◌, arith, ⊎_elim, inl, inr}
use Rattle.std.specs.Prelude.{◌⊎◌, ◌&&◌, not, nat_le}
use Rattle.std.proofs.lemmas.Bool.{cases_lt, and_parts, leb-true, le-leb}
use Rattle.tiger_base.specs.declared.number.Instance.{Instance}
use Rattle.tiger_base.specs.declared.number.LinkNo.{LinkNo}
use Rattle.tiger_base.specs.declared.number.SlotNo.{SlotNo}
use Rattle.tiger_base.specs.declared.number.Stamp.{Stamp}
use Rattle.tiger_base.specs.declared.tenancy.PieceState.{PieceState}
use Rattle.tiger_base.specs.declared.tenancy.Rec.{Rec}
use Rattle.tiger_base.specs.declared.tenancy.Tag.{Tag}
use Rattle.tiger_base.specs.declared.message.Msg.{Msg}
use Rattle.tiger_base.specs.declared.message.Msg.TheVariants as msg
use Rattle.tiger_base.specs.Kinds.{is_own}
use Rattle.slot_plan.specs.declared.params.Params.{Params}
use Rattle.slot_plan.specs.Conditions.{IsPlan}
use Rattle.slot_plan.specs.Keys.{due_of}
use Rattle.slot_plan.specs.Times.{due}
use Rattle.partial_view.specs.declared.line.Line.{Line}
use Rattle.partial_view.specs.Lines.{key_of}
use Rattle.mirror_schedule.specs.Pieces.{leaving_of}
use Rattle.node_kit.specs.Steps.{Input, stamp_of}
use Rattle.node_kit.specs.Steps.Input.{Take, Tick}
use Rattle.cub_rules.specs.declared.store.Store.{Store}
use Rattle.cub_rules.specs.declared.store.StoredPart.{StoredPart}
use Rattle.cub_rules.specs.Ticks.{is_stale, leaves_by, must_split}
use Rattle.disk_core.specs.State.{DiskState}
use Rattle.proof_lives.specs.Lives.{Lives, AreLives, beat_at}
use Rattle.proof_lives.proofs.Order.{beats_rise}
use Rattle.proof_schedule.specs.Facts.{ReachedBy}
use Rattle.proof_pieces.proofs.Leaving.{leave_after}
use Rattle.proof_service.specs.ServiceFacts.{KilledBy, IsCutOff}
use Rattle.proof_facts.specs.Blocks.{blocks_by}
use Rattle.proof_lives.specs.FactsBy.{Beyond, facts_by}
use Rattle.proof_splits.specs.PieceRecords.{IsSplitOff, MayGo, MightGo}
pub use Rattle.proof_splits.proofs.Returning.{leave_is}
use Rattle.proof_parts.specs.Parts.{MayCost, MayBeLost}

-- ---- when a piece leaves, and when a part is stale

-- the test of leaving is that the time has come
pub leaves_from : (p : Params) (time : ℕ) (x : PieceState) → leaving_of p x ≤ time → leaves_by p time x ≡ true
unfolding leaves_by
leaves_from p time x h = le-leb _ _ h

pub leaves_to : (p : Params) (time : ℕ) (x : PieceState) → leaves_by p time x ≡ true → leaving_of p x ≤ time
unfolding leaves_by
leaves_to p time x e = leb-true _ _ e

pub leaves_later : (p : Params) (time : ℕ) (x : PieceState) → leaves_by p time x ≡ false → time < leaving_of p x
leaves_later p time x e = ⊎_elim
    (λ (l : time < leaving_of p x). l)
    (λ (g : leaving_of p x ≤ time). let z : true ≡ false = sym (leaves_from p time x g) ∙ e in absurd (cc))
    (cases_lt time (leaving_of p x))

-- a part is stale when the visit's play time is over
pub stale_to : (p : Params) (l : ℕ) (x : StoredPart) → is_stale p l x ≡ true
    → due p x.want.slot.0 x.want.visit + p.play ≤ l
stale_to p l x e = leb-true _ _ e

-- what is split off at a tick is due late enough to be asked for and mirrored
pub split_soon : (p : Params) (c : ℕ) (stamp : Stamp) (h : Store) (x : PieceState) → IsSplitOff p c stamp h x
    → stamp.reading + p.read_lead + p.skew + p.delay * p.beat + p.beat ≤ due p x.tenancy.slot.0 x.visit
unfolding must_split
split_soon p c stamp h x w =
    let y : Line = w.line in
    let late : Bool = nat_le (stamp.reading + p.read_lead + p.skew + p.delay * p.beat + p.beat) (due_of p (key_of y)) in
    subst (λ (r : Rec). stamp.reading + p.read_lead + p.skew + p.delay * p.beat + p.beat ≤ due p r.tenancy.slot.0 r.visit)
    w.there.1
    (leb-true _ _ (and_parts (not (is_own y.rec.kind) && not y.split) late w.must).1)

-- a piece that is split off at a tick is neither asked for nor sent at that tick: it leaves later than the read lead
pub split_early : (p : Params) (c : ℕ) (stamp : Stamp) (h : Store) (x : PieceState) (lead : ℕ) → IsPlan p
    → IsSplitOff p c stamp h x → lead ≤ p.read_lead → leaves_by p (stamp.reading + lead) x ≡ true → ⊥
split_early p c stamp h x lead plan w inside leaves =
    let soon = split_soon p c stamp h x w in
    let first = w.first in
    let behind = leave_after p x.tenancy x.visit x.piece in
    let is = leave_is p x.tenancy x.visit x.piece (omega arith) in
    let to = leaves_to p (stamp.reading + lead) x leaves in
    let some = plan.ranges.beat.0 in
    omega arith

-- ---- ticks at which the time was over

-- a piece left at a tick before an input
pub record LeftAtTick (p : Params) (inputs : ℕ → Input Msg) (x : PieceState) (i : ℕ) : Type 0 where
  pub at : ℕ
  pub before : at < i
  pub stamp : Stamp
  pub is : inputs at ≡ Tick stamp
  pub leaves : leaves_by p stamp.reading x ≡ true

-- a part was stale at a tick before an input
pub record StaleAtTick (p : Params) (inputs : ℕ → Input Msg) (x : StoredPart) (i : ℕ) : Type 0 where
  pub at : ℕ
  pub before : at < i
  pub stamp : Stamp
  pub is : inputs at ≡ Tick stamp
  pub stale : is_stale p stamp.reading x ≡ true

module _ (p : Params) (lives : Lives) (beyond : Beyond) (disk_at : ℕ → DiskState) where
  -- by a beat the cub was reached, or was told to drop the pieces of a visit, or either
  abbrev pub Reached : ℕ → ℕ → ℕ → Type 0
  Reached c v b = ReachedBy (facts_by p lives beyond) c v b

  abbrev pub Killed : ℕ → ℕ → ℕ → ℕ → Type 0
  Killed c v n b = KilledBy (blocks_by p lives disk_at) c v n b

  abbrev pub CutOff : ℕ → ℕ → ℕ → ℕ → Type 0
  CutOff c v n b = IsCutOff (facts_by p lives beyond) (blocks_by p lives disk_at) c v n b

  -- an input that is a deschedule, or a kill
  reached : (c i b u : ℕ) (stamp : Stamp) (link : LinkNo) (v : Instance) (tag : Option Tag) → c < p.cubs
      → i < lives.count c
      → lives.input c i ≡ Take stamp link (msg.Deschedule v tag) → stamp.beat ≤ b → v.0 ≡ u → Reached c u b
  reached c i b u stamp link v tag small low is le same = record {
    beat = stamp.beat;
    reached = record {
      instance = v;
      tag = tag;
      same = same;
      took = record { small = small; at = i; done = low; reading = stamp.reading; link = link; is = is };
    };
    by = le;
  }

  killed : (c i b u : ℕ) (stamp : Stamp) (link : LinkNo) (v : Instance) (slot : SlotNo) (n : ℕ) → c < p.cubs
      → i < lives.count c
      → lives.input c i ≡ Take stamp link (msg.Kill v slot n) → stamp.beat ≤ b → v.0 ≡ u → Killed c u n b
  killed c i b u stamp link v slot n small low is le same = record {
    beat = stamp.beat;
    killed = record {
      instance = v;
      same = same;
      slot = slot;
      took = record { small = small; at = i; done = low; reading = stamp.reading; link = link; is = is };
    };
    by = le;
  }

  -- an input that may cost a piece record, or a part
  piece_may : (c i b m : ℕ) (x : PieceState) (k : Input Msg) → c < p.cubs → i < lives.count c → i < m
      → lives.input c i ≡ k → (stamp_of k).beat ≤ b → MayGo p k x
      → CutOff c x.tenancy.instance.0 x.visit b ⊎ LeftAtTick p (lives.input c) x m
  piece_may c i b m x (Tick stamp) small low before is le may =
      inr (record { at = i; before = before; stamp = stamp; is = is; leaves = may })
  piece_may c i b m x (Take stamp link (msg.Deschedule v tag)) small low before is le may =
      inl (inl (reached c i b x.tenancy.instance.0 stamp link v tag small low is le may))
  piece_may c i b m x (Take stamp link (msg.Kill v slot n)) small low before is le may =
      inl (inr (subst (λ q. Killed c x.tenancy.instance.0 q b) may.1
      (killed c i b x.tenancy.instance.0 stamp link v slot n small low is le may.0)))
  piece_may c i b m x (Take stamp link other) small low before is le may = absurd may

  part_may : (c i b m : ℕ) (x : StoredPart) (k : Input Msg) → c < p.cubs → i < lives.count c → i < m
      → lives.input c i ≡ k → (stamp_of k).beat ≤ b → MayCost p k x
      → (Reached c x.want.instance.0 b ⊎ ((1 ≤ x.want.piece) × Killed c x.want.instance.0 x.want.visit b))
      ⊎ StaleAtTick p (lives.input c) x m
  part_may c i b m x (Tick stamp) small low before is le may =
      inr (record { at = i; before = before; stamp = stamp; is = is; stale = may })
  part_may c i b m x (Take stamp link (msg.Deschedule v tag)) small low before is le may =
      inl (inl (reached c i b x.want.instance.0 stamp link v tag small low is le (sym may)))
  part_may c i b m x (Take stamp link (msg.Kill v slot n)) small low before is le may =
      inl (inr (
        may.2,
        subst (λ q. Killed c x.want.instance.0 q b) (sym may.1)
            (killed c i b x.want.instance.0 stamp link v slot n small low is le (sym may.0)),
      ))
  part_may c i b m x (Take stamp link other) small low before is le may = absurd may

  module _ (are : AreLives p lives) where
    -- what went before an input of beat b
    pub piece_gone : (c j i b : ℕ) (x : PieceState) → c < p.cubs → i < lives.count c → beat_at (lives.input c) i ≤ b
        → MightGo p (lives.input c) x j i
        → CutOff c x.tenancy.instance.0 x.visit b ⊎ LeftAtTick p (lives.input c) x i
    piece_gone c j i b x small low le w =
        let before = w.before in
        let rise = beats_rise p (lives.count c) (lives.input c) (are c small) w.at i (omega arith) low in
        piece_may c w.at b i x (lives.input c w.at) small (omega arith) before refl (omega arith) w.may

    pub part_gone : (c j i b : ℕ) (x : StoredPart) → c < p.cubs → i < lives.count c → beat_at (lives.input c) i ≤ b
        → MayBeLost p (lives.input c) x j i
        → (Reached c x.want.instance.0 b ⊎ ((1 ≤ x.want.piece) × Killed c x.want.instance.0 x.want.visit b))
        ⊎ StaleAtTick p (lives.input c) x i
    part_gone c j i b x small low le w =
        let before = w.before in
        let rise = beats_rise p (lives.count c) (lives.input c) (are c small) w.at i (omega arith) low in
        part_may c w.at b i x (lives.input c w.at) small (omega arith) before refl (omega arith) w.costs
