-- What was asked for before a life that began with a return, and what that life keeps: no record of it is for such an ask.
use Rattle.std.proofs.Common.{◌≡◌, ℕ, ◌+◌, ◌*◌, ◌<◌, ◌≤◌, List, [], ◌∷◌, Bool, true, false, Option, Some, None, refl, sym, ap, subst, ◌∙◌, arith, ⊎_elim, inl, inr}
use Rattle.std.specs.Prelude.{◌⊎◌, ◌||◌}
use Rattle.std.specs.List.{list_any}
use Rattle.std.proofs.lemmas.Bool.{cases_Bool, and_parts, leb-true}
use Rattle.tiger_base.specs.declared.tenancy.PieceState.{PieceState}
use Rattle.tiger_base.specs.declared.tenancy.Rec.{Rec}
use Rattle.tiger_base.specs.declared.tenancy.Tenancy.{Tenancy}
use Rattle.tiger_base.specs.declared.tenancy.Want.{Want}
use Rattle.tiger_base.specs.declared.message.Msg.{Msg}
use Rattle.tiger_base.specs.Kinds.{is_own}
use Rattle.tiger_base.specs.Records.{same_want, want_of, want_of_piece}
use Rattle.slot_plan.specs.declared.params.Params.{Params}
use Rattle.slot_plan.specs.Conditions.{IsPlan}
use Rattle.slot_plan.specs.Keys.{Key}
use Rattle.slot_plan.specs.Times.{due}
use Rattle.slot_plan.proofs.Times.{time_mono}
use Rattle.mirror_schedule.specs.Pieces.{leaving_of}
use Rattle.partial_view.specs.declared.line.Line.{Line}
use Rattle.partial_view.specs.Lines.{is_at}
use Rattle.partial_view.specs.Views.{line_at}
use Rattle.node_kit.specs.Steps.{Input, stamp_of}
use Rattle.node_kit.specs.Steps.Input.{Take, Tick}
use Rattle.cub_rules.specs.declared.comeback.Comeback.{Comeback}
use Rattle.cub_rules.specs.declared.store.Store.{Store}
use Rattle.cub_rules.specs.Comebacks.{comeback_at, lets_in}
use Rattle.cub_rules.specs.Messages.{is_block_of, is_wanted}
use Rattle.cub_changes.proofs.Coming.{keep_comeback}
use Rattle.lists.specs.Elements.{In}
use Rattle.proof_lives.specs.Lives.{Lives, AreLives, beat_at, deed_of, reading_at, store_at}
use Rattle.proof_lives.specs.HoldsHere.{AreAllFormed}
use Rattle.proof_lives.proofs.FirstLife.{later_life}
use Rattle.proof_lives.proofs.Holds.{any_in}
use Rattle.proof_lives.proofs.Inserting.{put_out}
use Rattle.proof_lives.proofs.Moves.{taken_out}
use Rattle.proof_lives.proofs.Standing.{standing}
use Rattle.proof_lives.proofs.States.{took_inserted}
use Rattle.proof_lives.proofs.TakingOver.{inserting_puts}
use Rattle.proof_lives.proofs.Ticking.{before_inserting, inserted_out}
use Rattle.proof_pieces.specs.PieceFacts.{leave}
use Rattle.proof_pieces.proofs.Leaving.{leave_after}
use Rattle.proof_facts.specs.Blocks.{HasRecord}
use Rattle.proof_facts.specs.Pieces.{piece, want}
use Rattle.proof_splits.specs.PieceRecords.{Enters}
use Rattle.proof_splits.proofs.Returning.{took_let_in}
pub use Rattle.proof_splits.proofs.Returning.{may_serve_then, serves_now}
use Rattle.proof_splits.proofs.Standing.{keeps_pieces}
use Rattle.proof_parts.proofs.CutOff.{leave_is, split_soon}
use Rattle.proof_parts.proofs.Found.{one_want}
use Rattle.proof_parts.proofs.KnownAsks.{WasAskedFormerly, leave_same}
use Rattle.proof_parts.proofs.PieceForms.{numbered, piece_at}

-- ---- lists

line_in : (k : Key) (lines : List Line) (x : Line) → line_at k lines ≡ Some x → In x lines
unfolding line_at
line_in k [] x e = absurd (cc)
line_in k (z ∷ zs) x e = ⊎_elim
    (λ (t : is_at k z ≡ true).
    let first : line_at k (z ∷ zs) ≡ Some z = rw t refl in
    let is : Some z ≡ Some x = sym first ∙ e in
    let same : z ≡ x = cc in
    inl (sym same))
    (λ (f : is_at k z ≡ false).
    let later : line_at k (z ∷ zs) ≡ line_at k zs = rw f refl in
    inr (line_in k zs x (sym later ∙ e)))
    (cases_Bool (is_at k z))

either : (a b : Bool) → (a || b) ≡ true → (a ≡ true) ⊎ (b ≡ true)
either true b e = inl refl
either false b e = inr e

-- ---- what a life that began late keeps

module _ (p : Params) (plan : IsPlan p) (lives : Lives) (are : AreLives p lives) (formed : AreAllFormed p lives)
    (c : ℕ) (small : c < p.cubs) (late : 0 < beat_at (lives.input c) 0) where
  abbrev inputs : ℕ → Input Msg
  inputs = lives.input c

  -- A time is later than the read lead after the return, whatever the skew.
  abbrev IsLate : ℕ → Type 0
  IsLate time = reading_at inputs 0 + p.read_lead + p.skew < time

  -- what the cub lets in is late
  let_in : (i time : ℕ) → lets_in (store_at p c inputs i).comeback time ≡ true → IsLate time
  let_in i time lets =
      let enters : (reading_at inputs 0 + p.max_lead + 3 * p.play + p.skew) ≤ time =
      leb-true _ _ (ap (λ (o : Option Comeback). lets_in o time) (sym (later_life p c inputs i late)) ∙ lets) in
      let window = plan.c1 in
      let inside = plan.c2 in
      let lead = plan.c4 in
      omega arith

  -- a record is taken of a state alone, and so late
  taken_late : (a : ℕ) (r : Rec) (k : Input Msg) → In (taken_out r) (deed_of p c k (store_at p c inputs a)).outs
      → IsLate (due p r.tenancy.slot.0 r.visit)
  taken_late a r (Take stamp link m) taken =
      let_in a (due p r.tenancy.slot.0 r.visit) (took_let_in p c stamp link m (store_at p c inputs a) r taken)
  taken_late a r (Tick stamp) taken =
      let h : Store = store_at p c inputs a in
      let inserted = took_inserted p c plan small stamp h r taken in
      let put = ((inserting_puts p c stamp plan small (before_inserting p c stamp h)).told r inserted).0 in
      let none = (keep_comeback p c (Tick stamp) h).first_life r.tenancy (inserted_out p c stamp h (put_out r.tenancy) put) in
      let both : Some (comeback_at p (reading_at inputs 0)) ≡ None = sym (later_life p c inputs a late) ∙ none in
      absurd (cc)

  -- so each record of the view is due late
  own_late : (i : ℕ) (x : Line) → i ≤ lives.count c → In x (store_at p c inputs i).view.lines
      → IsLate (due p x.rec.tenancy.slot.0 x.rec.visit)
  own_late i x low there =
      let d = standing p c plan small (lives.count c) inputs (formed c small) i low x there in
      taken_late d.at x.rec (inputs d.at) d.taken

  -- a piece record enters late
  entered_late : (a : ℕ) (x : PieceState) (k : Input Msg) → a < lives.count c → inputs a ≡ k → 1 ≤ x.piece
      → Enters p c k (store_at p c inputs a) x → IsLate (leave p x.tenancy x.visit x.piece)
  entered_late a x (Take stamp link m) low is some enters =
      let e = leave_is p x.tenancy x.visit x.piece some in
      let lets = let_in a (leaving_of p x) enters.lets in
      omega arith
  entered_late a x (Tick stamp) low is some enters =
      let soon = split_soon p c stamp (store_at p c inputs a) x enters in
      let behind = leave_after p x.tenancy x.visit x.piece in
      let rise = (are c small).rising 0 a (omega arith) low in
      let er : reading_at inputs a ≡ stamp.reading = ap (λ (q : Input Msg). (stamp_of q).reading) is in
      let beat = plan.ranges.beat.0 in
      omega arith

  -- so each piece record is of a piece that leaves late
  piece_late : (i : ℕ) (x : PieceState) → i ≤ lives.count c → In x (store_at p c inputs i).pieces.items
      → IsLate (leave p x.tenancy x.visit x.piece)
  piece_late i x low there =
      let s = (keeps_pieces p c plan.ranges.pieces.0 (lives.count c) inputs (formed c small)).entered i x low there in
      let before = s.before in
      let form = piece_at p plan lives are c i x small low there in
      entered_late s.at x (inputs s.at) (omega arith) refl (numbered p c x form).0 s.enters

  -- what the cub has a record for leaves late
  pub record_late : (i : ℕ) (t : Tenancy) (n j : ℕ) → i ≤ lives.count c → HasRecord (store_at p c inputs i) t n j
      → IsLate (leave p t n j)
  record_late i t n j low has = ⊎_elim
      (λ k.
      let own = subst (λ (r : Rec). IsLate (due p r.tenancy.slot.0 r.visit)) k.2.1 (own_late i k.1 low k.2.0) in
      subst (λ (m : ℕ). IsLate (leave p t n m)) (sym k.0) own)
      (λ k. piece_late i (piece t n j) low k.1)
      has

  -- and so does what it wants
  block_late : (i : ℕ) (t : Tenancy) (n j : ℕ) (o : Option Line) → i ≤ lives.count c
      → line_at ((want t n j).slot, n) (store_at p c inputs i).view.lines ≡ o → is_block_of (want t n j) o ≡ true
      → IsLate (leave p t n j)
  block_late i t n j None low at is = absurd (cc)
  block_late i t n j (Some x) low at is =
      let there = line_in ((want t n j).slot, n) (store_at p c inputs i).view.lines x at in
      let both = and_parts (is_own x.rec.kind) (same_want (want t n j) (want_of x.rec)) is in
      let same = one_want (want t n j) (want_of x.rec) both.1 in
      let slot : x.rec.tenancy.slot.0 ≡ t.slot.0 = sym (ap (λ (w : Want). w.slot.0) same) in
      let visit : x.rec.visit ≡ n = sym (ap (λ (w : Want). w.visit) same) in
      let number : 0 ≡ j = sym (ap (λ (w : Want). w.piece) same) in
      subst (λ (time : ℕ). IsLate time) (leave_same p x.rec.tenancy t x.rec.visit n 0 j slot visit number)
      (own_late i x low there)

  pub wanted_late : (i : ℕ) (t : Tenancy) (n j : ℕ) → i ≤ lives.count c → is_wanted (want t n j) (store_at p c inputs i) ≡ true
      → IsLate (leave p t n j)
  unfolding is_wanted
  wanted_late i t n j low wanted =
      let h : Store = store_at p c inputs i in
      let test : PieceState → Bool = λ x. same_want (want t n j) (want_of_piece x) in
      ⊎_elim
      (λ b. block_late i t n j (line_at ((want t n j).slot, n) h.view.lines) low refl b)
      (λ b.
      let f = any_in test h.pieces.items b in
      let x : PieceState = f.0 in
      let same = one_want (want t n j) (want_of_piece x) f.2 in
      let slot : x.tenancy.slot.0 ≡ t.slot.0 = sym (ap (λ (w : Want). w.slot.0) same) in
      let visit : x.visit ≡ n = sym (ap (λ (w : Want). w.visit) same) in
      let number : x.piece ≡ j = sym (ap (λ (w : Want). w.piece) same) in
      subst (λ (time : ℕ). IsLate time) (leave_same p x.tenancy t x.visit n x.piece j slot visit number)
      (piece_late i x low f.1))
      (either (is_block_of (want t n j) (line_at ((want t n j).slot, n) h.view.lines)) (list_any test h.pieces.items) wanted)

-- ---- no record of such a life is for an ask of a former one

pub not_formerly : (p : Params) (lives : Lives) → AreLives p lives → (c b : ℕ) (t : Tenancy) (n j : ℕ) → c < p.cubs
    → 0 < lives.count c
    → (0 < beat_at (lives.input c) 0 → reading_at (lives.input c) 0 + p.read_lead + p.skew < leave p t n j)
    → WasAskedFormerly p lives c (want t n j) b → ⊥
not_formerly p lives are c b t n j small some late w =
    let inputs : ℕ → Input Msg = lives.input c in
    let before = w.before in
    let near = w.near in
    let soon = w.soon in
    let slot : w.tenancy.slot.0 ≡ t.slot.0 = ap (λ (x : Want). x.slot.0) w.same in
    let is = leave_same p w.tenancy t n n j j slot refl refl in
    let reads = ((are c small).reads 0 some).0 in
    let rise = time_mono p b (beat_at inputs 0) (omega arith) in
    let more = late (omega arith) in
    omega arith
