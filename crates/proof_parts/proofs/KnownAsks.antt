-- What is known of a cub's asks by a life of its: each was made in that life, or in a former one, of what was to leave then.
use Rattle.std.proofs.Common.{◌≡◌, ℕ, zero, suc, ◌+◌, ◌<◌, ◌≤◌, List, sym, ap, subst, ◌∙◌, arith, ⊎_elim, inl, inr}
use Rattle.std.specs.Prelude.{◌⊎◌}
use Rattle.tiger_base.specs.declared.number.LinkNo.{LinkNo}
use Rattle.tiger_base.specs.declared.number.Stamp.{Stamp}
use Rattle.tiger_base.specs.declared.tenancy.Rec.{Rec}
use Rattle.tiger_base.specs.declared.tenancy.Tenancy.{Tenancy}
use Rattle.tiger_base.specs.declared.tenancy.Want.{Want}
use Rattle.tiger_base.specs.declared.message.Msg.{Msg}
use Rattle.tiger_base.specs.declared.message.Msg.TheVariants as msg
use Rattle.slot_plan.specs.declared.params.Params.{Params}
use Rattle.slot_plan.specs.Conditions.{IsPlan}
use Rattle.slot_plan.specs.Times.{time_of, due}
use Rattle.mirror_pieces.specs.Pieces.{leaving}
use Rattle.node_kit.specs.declared.course.Order.{Order}
use Rattle.node_kit.specs.declared.outbox.Out.TheVariants as out
use Rattle.node_kit.specs.Steps.{Input, stamp_of}
use Rattle.cub_rules.specs.declared.store.Store.{Store}
use Rattle.run_facts.specs.Histories.{History}
use Rattle.proof_lives.specs.Lives.{Lives, AreLives, beat_at, reading_at}
use Rattle.proof_lives.specs.Facts.{DidAt}
use Rattle.proof_lives.specs.FactsBy.{Beyond, cubs_alone}
use Rattle.proof_pieces.specs.PieceFacts.{leave}
use Rattle.proof_facts.specs.Beside.{AddedAt, Additions}
use Rattle.proof_facts.specs.Facts.{beyond_with}
use Rattle.proof_facts.specs.Lives.{lives_of, later_lives_of}
use Rattle.proof_facts.specs.Pieces.{piece, want, before_reading, kept_at, AsksFor, stamp_of as made_of}
use Rattle.proof_parts.proofs.AskLives.{read_for}
use Rattle.proof_parts.proofs.AskOutputs.{read_parts}
use Rattle.proof_parts.proofs.CutOff.{leave_is, leaves_to}

-- What cub c asked of a disk in beat b, before the life that is looked at began. It was for a piece of some tenancy, which
-- was to leave within the read lead of the cub's reading in that beat.
pub record WasAskedFormerly (p : Params) (lives : Lives) (c : ℕ) (w : Want) (b : ℕ) : Type 0 where
  pub before : b < beat_at (lives.input c) 0
  pub tenancy : Tenancy
  pub same : want tenancy w.visit w.piece ≡ w
  pub reading : ℕ
  pub near : reading ≤ time_of p b + p.skew
  pub soon : leave p tenancy w.visit w.piece ≤ reading + p.read_lead

-- What a cub asked of a disk by an input of its life it asked in that life, or so before it.
pub record AsksAreKnown (p : Params) (lives : Lives) (beyond : Beyond) : Type 0 where
  pub asks : (c i b : ℕ) (link : LinkNo) (w : Want)
      → c < p.cubs → i < lives.count c → b ≤ beat_at (lives.input c) i → beyond.Sends c link (msg.ReadAsk w) b
      → DidAt p lives c (out.Send link (msg.ReadAsk w)) b ⊎ WasAskedFormerly p lives c w b

-- ---- when what was asked for leaves

-- a piece leaves by slot, visit and number
pub leave_same : (p : Params) (t u : Tenancy) (n m i j : ℕ) → t.slot.0 ≡ u.slot.0 → n ≡ m → i ≡ j
    → leave p t n i ≡ leave p u m j
leave_same p t u n m i j slot visit number =
    of_slot i ∙ (ap (λ (k : ℕ). leave p u k i) visit ∙ ap (λ (k : ℕ). leave p u m k) number)
  where
    of_slot : (i : ℕ) → leave p t n i ≡ leave p u n i
    of_slot zero = ap (λ (s : ℕ). due p s n) slot
    of_slot (suc k) = ap (λ (s : ℕ). leaving (due p s n) (suc k) p.play p.pieces) slot

-- what is to be asked for at a tick leaves within the read lead of its reading
asked_soon : (p : Params) (stamp : Stamp) (h : Store) (t : Tenancy) (n j : ℕ) → AsksFor p stamp h t n j
    → leave p t n j ≤ stamp.reading + p.read_lead
asked_soon p stamp h t n j asks = ⊎_elim
    (λ k.
    let soon = subst (λ (r : Rec). due p r.tenancy.slot.0 r.visit ≤ stamp.reading + p.read_lead) k.2.1
    (read_parts p stamp k.1 k.3).2 in
    subst (λ (i : ℕ). leave p t n i ≤ stamp.reading + p.read_lead) (sym k.0) soon)
    (λ k.
    let is = leave_is p t n j k.0 in
    let to = leaves_to p (stamp.reading + p.read_lead) (piece t n j) k.2 in
    omega arith)
    asks

-- ---- one life, and two

-- Of cubs of which one life each is known, no other asks are.
pub alone_asks : (p : Params) (lives : Lives) → AsksAreKnown p lives (cubs_alone p lives)
alone_asks p lives = record { asks = λ c i b link w small low le d. inl d }

module _ (p : Params) (plan : IsPlan p) (first later : Lives) (are : AreLives p first) (beyond : Beyond)
    (sent : (c : ℕ) (link : LinkNo) (w : Want) (b : ℕ) → beyond.Sends c link (msg.ReadAsk w) b
    → DidAt p first c (out.Send link (msg.ReadAsk w)) b ⊎ DidAt p later c (out.Send link (msg.ReadAsk w)) b)
    (apart : (c i j : ℕ) → c < p.cubs → i < first.count c → j < later.count c
    → beat_at (first.input c) i < beat_at (later.input c) j) where
  -- an ask of the first life was made before the later one began
  formerly : (c b : ℕ) (link : LinkNo) (w : Want) → c < p.cubs → 0 < later.count c
      → DidAt p first c (out.Send link (msg.ReadAsk w)) b → WasAskedFormerly p later c w b
  formerly c b link w small some d =
      let a = read_for p plan first are c b link w d in
      let tick = a.asks.tick in
      let inputs : ℕ → Input Msg = first.input c in
      let stamp : Stamp = made_of b a.asks.reading in
      let eb : beat_at inputs tick.at ≡ b = ap (λ (k : Input Msg). (stamp_of k).beat) tick.is in
      let er : reading_at inputs tick.at ≡ a.asks.reading = ap (λ (k : Input Msg). (stamp_of k).reading) tick.is in
      let et : time_of p (beat_at inputs tick.at) ≡ time_of p b = ap (λ (n : ℕ). time_of p n) eb in
      let reads = ((are c small).reads tick.at tick.done).1 in
      let below = apart c tick.at 0 small tick.done some in
      record {
        before = omega arith;
        tenancy = a.tenancy;
        same = a.same;
        reading = a.asks.reading;
        near = omega arith;
        soon = asked_soon p stamp (before_reading p c stamp (kept_at tick)) a.tenancy w.visit w.piece a.asks.asks;
      }

  -- By the first life of a cub that has two all its asks are of that.
  pub first_asks : AsksAreKnown p first beyond
  first_asks = record {
    asks = λ c i b link w small low le s. ⊎_elim
        (λ d. inl d)
        (λ d. let less = apart c i d.at small low d.done in let in_beat = d.in_beat in absurd (omega arith))
        (sent c link w b s);
  }

  -- By its later life they are of either.
  pub later_asks : AsksAreKnown p later beyond
  later_asks = record {
    asks = λ c i b link w small low le s. ⊎_elim
        (λ d. inr (formerly c b link w small (omega arith) d))
        (λ d. inl d)
        (sent c link w b s);
  }

-- ---- of a history

module _ {S : Type 0} (p : Params) (plan : IsPlan p) (orders : List Order) (added : Additions) (h : History Msg S)
    (none : (c : ℕ) (link : LinkNo) (w : Want) (b : ℕ) → AddedAt p (lives_of h) added c (out.Send link (msg.ReadAsk w)) b → ⊥)
    (are : AreLives p (lives_of h))
    (apart : (c i j : ℕ) → c < p.cubs → i < (lives_of h).count c → j < (later_lives_of h).count c
    → beat_at ((lives_of h).input c) i < beat_at ((later_lives_of h).input c) j) where
  -- a cub asks in its first life, or in the one from its return on, if nothing that is added asks
  asked_in : (c : ℕ) (link : LinkNo) (w : Want) (b : ℕ) → (beyond_with p orders added h).Sends c link (msg.ReadAsk w) b
      → DidAt p (lives_of h) c (out.Send link (msg.ReadAsk w)) b ⊎ DidAt p (later_lives_of h) c (out.Send link (msg.ReadAsk w)) b
  asked_in c link w b s = ⊎_elim
      (λ d. inl d)
      (λ q. ⊎_elim
      (λ d. inr d)
      (λ v. ⊎_elim (λ k. let is = k.is in absurd (cc)) (λ k. absurd (none c link w b k)) v)
      q)
      s

  -- So in a history what cubs asked for is known by both lives of each.
  pub history_first_asks : AsksAreKnown p (lives_of h) (beyond_with p orders added h)
  history_first_asks = first_asks p plan (lives_of h) (later_lives_of h) are (beyond_with p orders added h) asked_in apart

  pub history_later_asks : AsksAreKnown p (later_lives_of h) (beyond_with p orders added h)
  history_later_asks = later_asks p plan (lives_of h) (later_lives_of h) are (beyond_with p orders added h) asked_in apart
