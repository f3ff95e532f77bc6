-- What befell a cub at an input, as facts of its beat: a message that was taken, a tick, a record that entered.
use Rattle.std.proofs.Common.{◌≡◌, ℕ, ◌<◌, ◌≤◌, true, false, Option, None, refl, sym, ap, ◌∙◌, arith, ⊎_elim, inl, inr, eq-or-lt_of_le}
use Rattle.std.specs.Prelude.{◌⊎◌}
use Rattle.std.proofs.lemmas.Bool.{cases_Bool}
use Rattle.tiger_base.specs.declared.number.Instance.{Instance}
use Rattle.tiger_base.specs.declared.number.LinkNo.{LinkNo}
use Rattle.tiger_base.specs.declared.number.Stamp.{Stamp}
use Rattle.tiger_base.specs.declared.tenancy.Kind.{Kind}
use Rattle.tiger_base.specs.declared.tenancy.Rec.{Rec}
use Rattle.tiger_base.specs.declared.tenancy.Tag.{Tag}
use Rattle.tiger_base.specs.declared.tenancy.Tenancy.{Tenancy}
use Rattle.tiger_base.specs.declared.message.Msg.{Msg}
use Rattle.tiger_base.specs.declared.message.Msg.TheVariants as msg
use Rattle.slot_plan.specs.declared.params.Params.{Params}
use Rattle.node_kit.specs.Steps.{Input, stamp_of}
use Rattle.node_kit.specs.Steps.Input.{Take, Tick}
use Rattle.proof_lives.specs.Lives.{Lives, AreLives, cut_in, outs_in, beat_at}
use Rattle.run_facts.specs.Events.{is_tick_input}
use Rattle.lists.specs.Elements.{In}
use Rattle.proof_lives.specs.Facts.{TickAt, TickedAt, DidAt, TookAt, InsertedAt, EnteredAt, TookMessage}
use Rattle.proof_lives.proofs.Moves.{taken_out}
use Rattle.proof_lives.proofs.Order.{beats_rise, not_behind, behind}
use Rattle.proof_lives.proofs.States.{stamp_made}
use Rattle.proof_lives.proofs.Taking.{MayLeave}

-- a message by its parts
pub take_of : (i : Input Msg) → is_tick_input i ≡ false → (stamp : Stamp) × (link : LinkNo) × (m : Msg) × (i ≡ Take stamp link m)
take_of (Take stamp link m) e = (stamp, link, m, refl)
take_of (Tick stamp) e = absurd (cc)

-- what lets a record leave is its deschedule
pub stop_of : (m : Msg) (q : Rec) → MayLeave m q → (v : Instance) × (tag : Option Tag) × (m ≡ msg.Deschedule v tag) × (q.tenancy.instance.0 ≡ v.0)
stop_of (msg.Deschedule v tag) q k = (v, tag, refl, k)
stop_of other q k = absurd k

module _ (p : Params) (lives : Lives) where
  -- An input is a fact of its beat: a message that was taken, or a tick.
  abbrev pub got_message : (c i : ℕ) (stamp : Stamp) (link : LinkNo) (m : Msg) → c < p.cubs → i < lives.count c
      → lives.input c i ≡ Take stamp link m → TookMessage p lives c m (beat_at (lives.input c) i)
  got_message c i stamp link m small low is =
      let beats : beat_at (lives.input c) i ≡ stamp.beat = ap (λ (k : Input Msg). (stamp_of k).beat) is in
      let made = stamp_made stamp (beat_at (lives.input c) i) (sym beats) in
      record {
        small = small;
        at = i;
        done = low;
        reading = stamp.reading;
        link = link;
        is = is ∙ ap (λ (x : Stamp). Take x link m) made;
      }

  abbrev pub tick_there : (c i : ℕ) (stamp : Stamp) → c < p.cubs → i < lives.count c → lives.input c i ≡ Tick stamp
      → TickAt p lives c (beat_at (lives.input c) i) stamp.reading
  tick_there c i stamp small low is =
      let beats : beat_at (lives.input c) i ≡ stamp.beat = ap (λ (k : Input Msg). (stamp_of k).beat) is in
      let made = stamp_made stamp (beat_at (lives.input c) i) (sym beats) in
      record { small = small; at = i; done = low; is = is ∙ ap (λ (x : Stamp). Tick x) made }

  -- A whole tick ended its beat.
  abbrev pub ticked_there : (c i : ℕ) (stamp : Stamp) → c < p.cubs → i < lives.count c → lives.input c i ≡ Tick stamp
      → cut_in lives c i ≡ None → TickedAt p lives c (beat_at (lives.input c) i) stamp.reading
  ticked_there c i stamp small low is whole =
      let beats : beat_at (lives.input c) i ≡ stamp.beat = ap (λ (k : Input Msg). (stamp_of k).beat) is in
      let made = stamp_made stamp (beat_at (lives.input c) i) (sym beats) in
      record { small = small; at = i; done = low; is = is ∙ ap (λ (x : Stamp). Tick x) made; whole = whole }

  -- A record that was taken at an input entered in its beat, if that goes out.
  abbrev taken_at : (c i : ℕ) (r : Rec) → c < p.cubs → i < lives.count c → In (taken_out r) (outs_in p lives c i)
      → DidAt p lives c (taken_out (record { tenancy = r.tenancy; visit = r.visit; kind = r.kind })) (beat_at (lives.input c) i)
  taken_at c i r small low k = record { small = small; at = i; done = low; in_beat = refl; did = k }

  pub entered_at : (c i : ℕ) (r : Rec) → c < p.cubs → i < lives.count c → In (taken_out r) (outs_in p lives c i)
      → EnteredAt p lives c r.tenancy r.visit (beat_at (lives.input c) i)
  entered_at c i r small low k = ⊎_elim
      (λ (e : is_tick_input (lives.input c i) ≡ true). inr (record { kind = r.kind; done = taken_at c i r small low k; tick = e }))
      (λ (e : is_tick_input (lives.input c i) ≡ false). inl (record { kind = r.kind; done = taken_at c i r small low k; message = e }))
      (cases_Bool (is_tick_input (lives.input c i)))

  pub entered_did : {c n b : ℕ} {t : Tenancy} → EnteredAt p lives c t n b
      → (kind : Kind) × DidAt p lives c (taken_out (record { tenancy = t; visit = n; kind = kind })) b
  entered_did e = ⊎_elim (λ w. (w.kind, w.done)) (λ w. (w.kind, w.done)) e

module _ (p : Params) (lives : Lives) (are : AreLives p lives) where
  -- A message of a tick's beat, or of a lower one, was taken before the tick.
  pub message_before : (c i j : ℕ) → c < p.cubs → i < lives.count c → j < lives.count c
      → is_tick_input (lives.input c i) ≡ true → is_tick_input (lives.input c j) ≡ false
      → beat_at (lives.input c) j ≤ beat_at (lives.input c) i → j < i
  message_before c i j small low high tick message le = ⊎_elim
      (λ (e : j ≡ i). let z : true ≡ false = sym tick ∙ (ap (λ n. is_tick_input (lives.input c n)) (sym e) ∙ message) in absurd (cc))
      (λ l. l)
      (eq-or-lt_of_le (not_behind p (lives.count c) (lives.input c) (are c small) j i low high tick le))

  -- A record that was taken at a message or before it entered by a state up to its beat, or by a Put in a lower one.
  pub entered_among : (c at i : ℕ) (r : Rec) → c < p.cubs → i < lives.count c → is_tick_input (lives.input c i) ≡ false → at ≤ i
      → In (taken_out r) (outs_in p lives c at)
      → (TookAt p lives c r.tenancy r.visit (beat_at (lives.input c) at) × (beat_at (lives.input c) at ≤ beat_at (lives.input c) i))
      ⊎ (InsertedAt p lives c r.tenancy r.visit (beat_at (lives.input c) at) × (beat_at (lives.input c) at < beat_at (lives.input c) i))
  entered_among c at i r small low message by taken =
      let inputs : ℕ → Input Msg = lives.input c in
      let did = taken_at p lives c at r small (omega arith) taken in
      ⊎_elim
      (λ (e : is_tick_input (inputs at) ≡ true).
      let before : at < i = ⊎_elim
      (λ (q : at ≡ i). let z : true ≡ false = sym e ∙ (ap (λ n. is_tick_input (inputs n)) q ∙ message) in absurd (cc))
      (λ l. l)
      (eq-or-lt_of_le by) in
      inr (record { kind = r.kind; done = did; tick = e }, behind p (lives.count c) inputs (are c small) at i before low e))
      (λ (e : is_tick_input (inputs at) ≡ false).
      inl (record { kind = r.kind; done = did; message = e }, beats_rise p (lives.count c) inputs (are c small) at i by low))
      (cases_Bool (is_tick_input (inputs at)))
