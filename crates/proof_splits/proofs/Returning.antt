-- A life that began with a return: the tick by which the cub came back, what the life lets in, and what it serves.
use Rattle.std.proofs.Common.{◌≡◌, ℕ, zero, suc, ◌+◌, ◌*◌, ◌<◌, ◌≤◌, true, false, Option, None, refl, sym, ap, subst, ◌∙◌, arith, ⊎_elim, eq-or-lt_of_le}
use Rattle.std.proofs.lemmas.Bool.{leb-true, le-leb}
use Rattle.tiger_base.specs.declared.number.LinkNo.{LinkNo}
use Rattle.tiger_base.specs.declared.number.Stamp.{Stamp}
use Rattle.tiger_base.specs.declared.tenancy.Rec.{Rec}
use Rattle.tiger_base.specs.declared.tenancy.Tenancy.{Tenancy}
use Rattle.tiger_base.specs.declared.message.Msg.{Msg}
use Rattle.tiger_base.specs.declared.message.Msg.TheVariants as msg
use Rattle.slot_plan.specs.declared.params.Params.{Params}
use Rattle.slot_plan.specs.Times.{due}
use Rattle.mirror_schedule.specs.Pieces.{leaving_of}
use Rattle.node_kit.specs.Steps.{Input, stamp_of}
use Rattle.node_kit.specs.Steps.Input.{Take}
use Rattle.cub_rules.specs.declared.comeback.Comeback.{Comeback}
use Rattle.cub_rules.specs.declared.store.Store.{Store}
use Rattle.cub_rules.specs.Comebacks.{due_of_record, lets_in, serves_at}
use Rattle.cub_rules.specs.Messages.{taking}
use Rattle.cub_changes.specs.Changes.{Change}
use Rattle.cub_changes.specs.Changes.Change.{TakeRecord}
use Rattle.cub_changes.specs.Causes.{Stage, MayTake, Cause}
use Rattle.cub_changes.specs.Causes.Stage.{OnMessage}
use Rattle.cub_changes.specs.Laws.{HasCause}
use Rattle.cub_changes.specs.Outputs.{Output, output, ComesOf}
use Rattle.cub_changes.specs.Outputs.Output.{Took}
use Rattle.cub_changes.proofs.Causing.{have_causes}
use Rattle.lists.specs.Elements.{In}
use Rattle.lists.proofs.Each.{all_in}
use Rattle.run_facts.specs.Events.{is_tick_input}
use Rattle.proof_lives.specs.Lives.{Lives, AreLives, BeganLate, beat_at, cut_in, reading_at, store_at}
use Rattle.proof_lives.specs.Facts.{TickedAt}
use Rattle.proof_lives.specs.FactsBy.{Beyond, facts_by}
use Rattle.proof_lives.proofs.Cuts.{whole_before}
use Rattle.proof_lives.proofs.FirstLife.{first_life, first_or_later, later_life}
use Rattle.proof_lives.proofs.Fitting.{Fits}
use Rattle.proof_lives.proofs.Inputs.{ticked_there}
use Rattle.proof_lives.proofs.Moves.{taken_out}
use Rattle.proof_lives.proofs.Order.{beats_rise, not_behind, tick_of}
use Rattle.proof_lives.proofs.SameLife.{back_in_life, returned}
use Rattle.proof_pieces.specs.PieceFacts.{leave}
use Rattle.proof_service.specs.ServiceFacts.{LetsIn, MayServe}
use Rattle.proof_facts.specs.Pieces.{piece}

-- A piece leaves when its record does.
pub leave_is : (p : Params) (t : Tenancy) (n j : ℕ) → 1 ≤ j → leave p t n j ≡ leaving_of p (piece t n j)
unfolding leaving_of
leave_is p t n zero some = absurd (omega arith)
leave_is p t n (suc k) some = refl

-- ---- the tick by which a cub came back

module _ (p : Params) (lives : Lives) (are : AreLives p lives) where
  -- Its first input is whole if a message of it is known.
  pub whole_first : (c i : ℕ) → c < p.cubs → i < lives.count c → is_tick_input (lives.input c i) ≡ false
      → 0 < beat_at (lives.input c) 0 → cut_in lives c 0 ≡ None
  whole_first c i small low message late =
      let inputs : ℕ → Input Msg = lives.input c in
      ⊎_elim
      (λ (e : beat_at inputs 0 ≡ 0). absurd (omega arith))
      (λ (tick : is_tick_input (inputs 0) ≡ true). ⊎_elim
      (λ (e : 0 ≡ i).
      let z : true ≡ false = sym tick ∙ (ap (λ (n : ℕ). is_tick_input (inputs n)) e ∙ message) in absurd (cc))
      (λ (l : 0 < i). whole_before lives c 0 i l low)
      (eq-or-lt_of_le (let z : 0 ≤ i = omega arith in z)))
      ((are c small).begins (omega arith))

  -- A life that began late began with a tick, which ended its beat if no death cut it off.
  pub began_ticked : (c : ℕ) → c < p.cubs → 0 < lives.count c → cut_in lives c 0 ≡ None → 0 < beat_at (lives.input c) 0
      → TickedAt p lives c (beat_at (lives.input c) 0) (reading_at (lives.input c) 0)
  began_ticked c small some whole late =
      let inputs : ℕ → Input Msg = lives.input c in
      ⊎_elim
      (λ (e : beat_at inputs 0 ≡ 0). absurd (omega arith))
      (λ (t : is_tick_input (inputs 0) ≡ true).
      let s = tick_of (inputs 0) t in
      let read : s.0.reading ≡ reading_at inputs 0 = ap (λ (k : Input Msg). (stamp_of k).reading) (sym s.1) in
      subst (λ (l : ℕ). TickedAt p lives c (beat_at inputs 0) l) read (ticked_there p lives c 0 s.0 small some s.1 whole))
      ((are c small).begins some)

  -- It is the only tick of its beat.
  pub began_reading : (c w l : ℕ) → BeganLate p lives c w → TickedAt p lives c w l → l ≡ reading_at (lives.input c) 0
  began_reading c w l b t =
      let inputs : ℕ → Input Msg = lives.input c in
      let late = b.later in
      let eb = b.in_beat in
      let et : beat_at inputs t.at ≡ w = ap (λ (k : Input Msg). (stamp_of k).beat) t.is in
      let er : reading_at inputs t.at ≡ l = ap (λ (k : Input Msg). (stamp_of k).reading) t.is in
      let first : t.at ≡ 0 = ⊎_elim
      (λ (e : beat_at inputs 0 ≡ 0). absurd (omega arith))
      (λ (tick : is_tick_input (inputs 0) ≡ true).
      let le = not_behind p (lives.count c) inputs (are c b.small) t.at 0 b.done t.done tick (omega arith) in
      omega arith)
      ((are c b.small).begins b.done) in
      sym er ∙ ap (λ (i : ℕ). reading_at inputs i) first

-- ---- what the facts say of returns, and what the cub keeps

module _ (p : Params) (lives : Lives) (beyond : Beyond) (are : AreLives p lives) (fits : Fits p lives beyond) where
  -- What the facts say a cub lets in by a beat it lets in all along its life.
  pub lets_in_now : (c i k at b : ℕ) → c < p.cubs → i < lives.count c
      → (0 < beat_at (lives.input c) 0 → cut_in lives c 0 ≡ None)
      → beat_at (lives.input c) i ≤ b → LetsIn p (facts_by p lives beyond) c at b
      → lets_in (store_at p c (lives.input c) k).comeback at ≡ true
  lets_in_now c i k at b small low whole le lets =
      let inputs : ℕ → Input Msg = lives.input c in
      let rise = beats_rise p (lives.count c) inputs (are c small) 0 i (omega arith) low in
      ⊎_elim
      (λ (e : beat_at inputs 0 ≡ 0). ap (λ (o : Option Comeback). lets_in o at) (first_life p c inputs k e))
      (λ (late : 0 < beat_at inputs 0).
      let from = lets (beat_at inputs 0) (reading_at inputs 0) (returned p lives beyond are fits c small (omega arith) late)
      (began_ticked p lives are c small (omega arith) (whole late) late) (omega arith) in
      ap (λ (o : Option Comeback). lets_in o at) (later_life p c inputs k late)
      ∙ le-leb (reading_at inputs 0 + p.max_lead + 3 * p.play + p.skew) at from)
      (first_or_later inputs)

  -- What it may serve by a beat it serves.
  pub serves_now : (c i k b : ℕ) (t : Tenancy) (n : ℕ) → c < p.cubs → i < lives.count c
      → (0 < beat_at (lives.input c) 0 → cut_in lives c 0 ≡ None)
      → beat_at (lives.input c) i ≤ b → MayServe p (facts_by p lives beyond) c t n 0 b
      → serves_at (store_at p c (lives.input c) k).comeback (due p t.slot.0 n) ≡ true
  serves_now c i k b t n small low whole le may =
      let inputs : ℕ → Input Msg = lives.input c in
      let rise = beats_rise p (lives.count c) inputs (are c small) 0 i (omega arith) low in
      ⊎_elim
      (λ (e : beat_at inputs 0 ≡ 0). ap (λ (o : Option Comeback). serves_at o (due p t.slot.0 n)) (first_life p c inputs k e))
      (λ (late : 0 < beat_at inputs 0).
      let from = may (beat_at inputs 0) (reading_at inputs 0) (returned p lives beyond are fits c small (omega arith) late)
      (began_ticked p lives are c small (omega arith) (whole late) late) (omega arith) refl in
      ap (λ (o : Option Comeback). serves_at o (due p t.slot.0 n)) (later_life p c inputs k late)
      ∙ le-leb (reading_at inputs 0 + p.max_lead + 6 * p.play) (due p t.slot.0 n) from)
      (first_or_later inputs)

  -- And what it serves at an input it may serve.
  pub may_serve_then : (c i k : ℕ) (t : Tenancy) (n j : ℕ) → c < p.cubs → i < lives.count c
      → serves_at (store_at p c (lives.input c) k).comeback (due p t.slot.0 n) ≡ true
      → MayServe p (facts_by p lives beyond) c t n j (beat_at (lives.input c) i)
  may_serve_then c i k t n j small low serves x l back tick le none =
      let inputs : ℕ → Input Msg = lives.input c in
      let b = back_in_life p lives beyond are fits c i x small low back le in
      let e = began_reading p lives are c x l b tick in
      let late = b.later in
      let eb = b.in_beat in
      let from : (reading_at inputs 0 + p.max_lead + 6 * p.play) ≤ due p t.slot.0 n =
      leb-true _ _ (ap (λ (o : Option Comeback). serves_at o (due p t.slot.0 n)) (sym (later_life p c inputs k (omega arith)))
      ∙ serves) in
      omega arith

-- ---- a record that is taken at a message may enter

took_form : (p : Params) (c : ℕ) (stamp : Stamp) (x : Change) (h : Store) (r : Rec) (o : Output) → ComesOf p c stamp x h o
    → taken_out r ≡ output p c stamp o → x ≡ TakeRecord r
took_form p c stamp x h r (Took q) comes e = let same : r ≡ q = cc in comes ∙ ap (λ (z : Rec). TakeRecord z) (sym same)
took_form p c stamp x h r other comes e = absurd (cc)

may_take : (p : Params) (c : ℕ) (stamp : Stamp) (link : LinkNo) (m : Msg) (from : Store) (r : Rec)
    → MayTake p c stamp (OnMessage link m) from r → lets_in from.comeback (due_of_record p r) ≡ true
may_take p c stamp link (msg.ViewerState s) from r k = k.4
may_take p c stamp link other from r k = absurd k

pub took_let_in : (p : Params) (c : ℕ) (stamp : Stamp) (link : LinkNo) (m : Msg) (h : Store) (r : Rec)
    → In (taken_out r) (taking p c stamp link m h).outs → lets_in h.comeback (due_of_record p r) ≡ true
took_let_in p c stamp link m h r i =
    let w : HasCause p c (Take stamp link m) h (taken_out r) =
    all_in (HasCause p c (Take stamp link m) h) (taken_out r) (taking p c stamp link m h).outs
    (have_causes p c (Take stamp link m) h) i in
    let is = took_form p c stamp w.change w.before r w.form w.comes w.is in
    let cause = subst (λ (y : Change). Cause p c stamp w.stage w.from y w.before) is w.cause in
    let take = subst (λ (g : Stage). MayTake p c stamp g w.from r) w.of_event.0 cause.0 in
    subst (λ (q : Store). lets_in q.comeback (due_of_record p r) ≡ true) w.of_event.1 (may_take p c stamp link m w.from r take)
