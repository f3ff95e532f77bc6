-- At which input of a cub a read or a part goes out, and for which record.
use Rattle.std.proofs.Common.{◌≡◌, ℕ, ◌+◌, ◌<◌, ◌≤◌, List, Bool, true, false, refl, sym, ap, subst, arith, ⊎_elim, inr}
use Rattle.std.specs.Prelude.{◌&&◌, ◌==◌, nat_le, Some}
use Rattle.std.proofs.lemmas.Bool.{eq-eqb, ne_eqb}
use Rattle.tiger_base.specs.Limits.{most_reading}
use Rattle.tiger_base.specs.declared.number.LinkNo.{LinkNo}
use Rattle.tiger_base.specs.declared.number.Stamp.{Stamp}
use Rattle.tiger_base.specs.declared.tenancy.PieceState.{PieceState}
use Rattle.tiger_base.specs.declared.tenancy.Tenancy.{Tenancy}
use Rattle.tiger_base.specs.declared.tenancy.Want.{Want}
use Rattle.tiger_base.specs.Span.{LibraryPart}
use Rattle.tiger_base.specs.declared.message.Msg.{Msg}
use Rattle.tiger_base.specs.declared.message.Msg.TheVariants as msg
use Rattle.slot_plan.specs.declared.params.Params.{Params}
use Rattle.slot_plan.specs.Conditions.{IsPlan}
use Rattle.node_kit.specs.declared.outbox.Out.{Out}
use Rattle.node_kit.specs.declared.outbox.Out.TheVariants as out
use Rattle.node_kit.specs.Form.{is_tenancy}
use Rattle.node_kit.specs.Steps as steps
use Rattle.node_kit.specs.Steps.{Deed, Input}
use Rattle.node_kit.specs.Steps.Input.{Take, Tick}
use Rattle.node_kit.specs.Ways.{way_to_viewers}
use Rattle.cub_rules.specs.declared.store.Store.{Store}
use Rattle.cub_rules.specs.State.{IsStoreOf, IsPieceAt}
use Rattle.cub_rules.specs.Records.{stored_for}
use Rattle.cub_rules.specs.Ticks.{reading, ticking}
use Rattle.cub_changes.proofs.Chains.{read_is}
use Rattle.cub_changes.proofs.Rules.{forwarding_right, reading_right}
use Rattle.run_model.proofs.Reflects.{and_left, and_right, at_most}
use Rattle.cub_changes.proofs.Order.{is_ask, is_parcel, asks_in_reading, parcels_in_serving, no_ask_taken, no_parcel_taken}
use Rattle.proof_lives.specs.Lives.{Lives, AreLives, cut_in, deed_of, store_at, outs_at, outs_in}
use Rattle.lists.specs.Elements.{In}
use Rattle.proof_lives.specs.Facts.{TickAt}
use Rattle.proof_lives.specs.HoldsHere.{AreAllFormed}
use Rattle.proof_lives.proofs.Cuts.{was_put_out, goes_out}
use Rattle.proof_lives.proofs.Going.{front_of_outs}
use Rattle.proof_lives.proofs.Lines.{kept_at}
use Rattle.lists.proofs.Each.{all_in}
use Rattle.proof_lives.proofs.Ticking.{kept_before}
use Rattle.proof_journals.proofs.Ones.{IsOne, none_one, none_by, in_part, of_part, one_front, one_of_part}
use Rattle.proof_facts.specs.Pieces.{piece, want, part_sent, before_reading, before_serving, stamp_of, AsksFor, AsksAt, SendsPart}
use Rattle.proof_splits.specs.PieceRecords.{WasAskedFor}
use Rattle.proof_splits.proofs.Standing.{keeps_pieces}
use Rattle.proof_parts.proofs.CutOff.{leaves_from, leaves_to}
use Rattle.proof_parcels.proofs.Apart.{always_once, once_reading, once_serving}
use Rattle.proof_parcels.proofs.AskOuts.{asks, ask_once}
use Rattle.proof_parcels.proofs.ServeOuts.{IsServeOf, IsOfRecord, Leaves, sends, serving_of_records, serves_out, serve_once}

-- a piece record in form has a number from 1 to the plan's
pub numbered : (p : Params) (c : ℕ) (x : PieceState) → IsPieceAt p c x → (1 ≤ x.piece) × (x.piece ≤ p.pieces)
numbered p c x h =
    let last = and_right (is_tenancy p x.tenancy && (nat_le x.tenancy.first x.visit && nat_le x.visit
    x.tenancy.last)) (nat_le 1 x.piece && nat_le x.piece p.pieces) h.in_form in (
      (at_most 1 x.piece).0 (and_left (nat_le 1 x.piece) (nat_le x.piece p.pieces) last),
      (at_most x.piece p.pieces).0 (and_right (nat_le 1 x.piece) (nat_le x.piece p.pieces) last),
    )

-- asking takes no piece record away
reading_pieces_stay : (p : Params) (stamp : Stamp) (h : Store) → (reading p stamp h).state.pieces.items ≡ h.pieces.items
reading_pieces_stay p stamp h = ap (λ (d : Deed Msg Store). d.state.pieces.items) (read_is p 0 stamp h)

ask_is_ask : (w : Want) (o : Out Msg) → asks w o ≡ true → is_ask o ≡ true
ask_is_ask w (out.Send link (msg.ReadAsk v)) t = refl
ask_is_ask w (out.Send link other) t = absurd (cc)
ask_is_ask w (out.Act v) t = absurd (cc)

send_is_parcel : (w : Want) (o : Out Msg) → sends w o ≡ true → is_parcel o ≡ true
send_is_parcel w (out.Send link (msg.Whole v s part)) t = refl
send_is_parcel w (out.Send link (msg.Piece v s part)) t = refl
send_is_parcel w (out.Send link other) t = absurd (cc)
send_is_parcel w (out.Act v) t = absurd (cc)

module _ {p : Params} (lives : Lives) (plan : IsPlan p) (lived : AreLives p lives) (c : ℕ) (small : c < p.cubs) where
  abbrev inputs : ℕ → Input Msg
  inputs = lives.input c

  -- ---- what the cub keeps

  pub kept : (i : ℕ) → i < lives.count c → IsStoreOf p c (store_at p c (lives.input c) i)
  kept i low = kept_at p c plan small (lives.input c) i (λ k less. (lived c small).short k (omega arith))

  -- at a tick, before the reading and before the serving
  module _ (i : ℕ) (low : i < lives.count c) (stamp : Stamp) (tick : lives.input c i ≡ Tick stamp) where
    abbrev old : Store
    old = store_at p c (lives.input c) i

    short : stamp.reading ≤ most_reading
    short = subst (λ (k : Input Msg). (steps.stamp_of k).reading ≤ most_reading) tick ((lived c small).short i low)

    pub at_reading : IsStoreOf p c (before_reading p c stamp old)
    at_reading = (forwarding_right p c stamp plan small _ (kept_before p c stamp plan small old (kept i low)
        short)).keeps

    pub at_serving : IsStoreOf p c (before_serving p c stamp old)
    at_serving = (reading_right p c stamp plan small _ at_reading).keeps

    pub low_unasked : (x : PieceState) → In x (before_reading p c stamp old).unasked.items → 1 ≤ x.piece
    low_unasked x k = (numbered p c x (all_in (IsPieceAt p c) x (before_reading p c stamp old).unasked.items
        at_reading.unasked k)).0

    pub low_pieces : (x : PieceState) → In x (before_serving p c stamp old).pieces.items → 1 ≤ x.piece
    low_pieces x k = (numbered p c x (all_in (IsPieceAt p c) x (before_serving p c stamp old).pieces.items
        at_serving.pieces k)).0

    -- the tick, as a fact
    abbrev pub ticks : TickAt p lives c stamp.beat stamp.reading
    ticks = record { small = small; at = i; done = low; is = tick }

  -- what goes out at an input was put out at it, by what that is
  out_at : (i : ℕ) (k : Input Msg) (o : Out Msg) → lives.input c i ≡ k → In o (outs_in p lives c i)
      → In o (deed_of p c k (store_at p c (lives.input c) i)).outs
  out_at i k o e h = subst (λ (q : Input Msg). In o (deed_of p c q (store_at p c (lives.input c) i)).outs) e
      (was_put_out p lives c i o h)

  -- what is put out once goes out once
  once_out : (i : ℕ) (test : Out Msg → Bool) → IsOne test (outs_at p c (lives.input c) i)
      → IsOne test (outs_in p lives c i)
  once_out i test one =
      let f = front_of_outs (cut_in lives c i) (outs_at p c (lives.input c) i) in
      one_front test (outs_in p lives c i) f.0 (subst (λ (os : List (Out Msg)). IsOne test os) (sym f.1) one)

  -- ---- reads

  -- a read goes out at a tick
  pub record IsAtTick (i : ℕ) : Type 0 where
    pub stamp : Stamp
    pub tick : lives.input c i ≡ Tick stamp

  pub ask_tick : (i : ℕ) (link : LinkNo) (w : Want) → In (out.Send link (msg.ReadAsk w))
      (outs_in p lives c i) → IsAtTick i
  ask_tick i link w h = by_input (lives.input c i) refl
    where
      by_input : (k : Input Msg) → lives.input c i ≡ k → IsAtTick i
      by_input (Take stamp way m) e =
          let none = no_ask_taken p c stamp way m (store_at p c (lives.input c) i) in
          absurd (none_by is_ask _ none (out.Send link (msg.ReadAsk w))
          (out_at i (Take stamp way m) (out.Send link (msg.ReadAsk w)) e h) refl)
      by_input (Tick stamp) e = record { stamp = stamp; tick = e }

  -- ---- parts

  pub record IsServeAt (i : ℕ) (link : LinkNo) (w : Want) (sent : ℕ) (part : LibraryPart) : Type 0 where
    pub stamp : Stamp
    pub tick : lives.input c i ≡ Tick stamp
    pub serve : IsServeOf p c stamp (before_serving p c stamp (store_at p c (lives.input c) i)) link w sent part
    pub goes : In (out.Send link (part_sent w sent part)) (outs_in p lives c i)

  -- it goes out at a tick, when the cub serves
  record IsOfServing (i : ℕ) (o : Out Msg) : Type 0 where
    stamp : Stamp
    tick : lives.input c i ≡ Tick stamp
    of : IsOfRecord p c stamp (before_serving p c stamp (store_at p c (lives.input c) i)) o

  of_serving : (i : ℕ) (o : Out Msg) → is_parcel o ≡ true → i < lives.count c → In o (outs_in p lives c i)
      → IsOfServing i o
  of_serving i o is low h = by_input (lives.input c i) refl
    where
      by_input : (k : Input Msg) → lives.input c i ≡ k → IsOfServing i o
      by_input (Take stamp way m) e =
          let none = no_parcel_taken p c stamp way m (store_at p c (lives.input c) i) in
          absurd (none_by is_parcel _ none o (out_at i (Take stamp way m) o e h) is)
      by_input (Tick stamp) e =
          let g : Store = store_at p c (lives.input c) i in
          let there = in_part is_parcel _ _ (parcels_in_serving p c stamp g) o (out_at i (Tick stamp) o e h) is in
          let all = serving_of_records p c stamp (before_serving p c stamp g) (low_pieces i low stamp e) in
          record { stamp = stamp; tick = e; of = all_in (IsOfRecord p c stamp (before_serving p c stamp g)) o _ all there }

  pub whole_at : (i : ℕ) (link : LinkNo) (w : Want) (sent : ℕ) (part : LibraryPart) → i < lives.count c
      → In (out.Send link (msg.Whole w sent part)) (outs_in p lives c i)
      → (w.piece ≡ 0) × IsServeAt i link w sent part
  whole_at i link w sent part low h =
      let s = of_serving i (out.Send link (msg.Whole w sent part)) refl low h in
      let none : (w.piece == 0) ≡ true = eq-eqb _ _ s.of.0 in
      (s.of.0, record { stamp = s.stamp; tick = s.tick; serve = s.of.1; goes = rw none h })

  pub piece_at : (i : ℕ) (link : LinkNo) (w : Want) (sent : ℕ) (part : LibraryPart) → i < lives.count c
      → In (out.Send link (msg.Piece w sent part)) (outs_in p lives c i)
      → (1 ≤ w.piece) × IsServeAt i link w sent part
  piece_at i link w sent part low h =
      let s = of_serving i (out.Send link (msg.Piece w sent part)) refl low h in
      let some : 1 ≤ w.piece = s.of.0 in
      let other : (w.piece == 0) ≡ false = ne_eqb _ _ (λ e. omega arith) in
      (some, record { stamp = s.stamp; tick = s.tick; serve = s.of.1; goes = rw other h })

  pub serves_fact : (i : ℕ) (link : LinkNo) (w : Want) (sent : ℕ) (part : LibraryPart) → i < lives.count c
      → (a : IsServeAt i link w sent part)
      → SendsPart p lives c a.serve.tenancy w.visit w.piece a.stamp.beat part
  serves_fact i link w sent part low a = record {
    reading = a.stamp.reading;
    tick = ticks i low a.stamp a.tick;
    serves = a.serve.serves;
    stored = subst (λ (z : Want). stored_for z (before_serving p c a.stamp (store_at p c (lives.input c) i)).parts ≡
        Some part) a.serve.same a.serve.stored;
    goes = inr (subst (λ (l : LinkNo). In (out.Send l (part_sent (want a.serve.tenancy w.visit w.piece) a.stamp.beat
        part)) (outs_in p lives c i)) a.serve.way
        (subst (λ (b : ℕ). In (out.Send link (part_sent (want a.serve.tenancy w.visit w.piece) b part))
        (outs_in p lives c i)) a.serve.named
        (subst (λ (z : Want). In (out.Send link (part_sent z sent part)) (outs_in p lives c i)) a.serve.same a.goes)));
  }

  -- and what was sent as a fact goes out
  pub serves_go : {t : Tenancy} {n j b : ℕ} {part : LibraryPart} (s : SendsPart p lives c t n j b part)
      → In (out.Send (way_to_viewers p c) (part_sent (want t n j) b part)) (outs_in p lives c s.tick.at)
  serves_go {t} {n} {j} {b} {part} s =
      let stamp : Stamp = stamp_of b s.reading in
      let g : Store = store_at p c (lives.input c) s.tick.at in
      let goes = serves_out p c stamp (before_serving p c stamp g) t n j part s.serves s.stored in
      let o : Out Msg = out.Send (way_to_viewers p c) (part_sent (want t n j) b part) in
      let there : In o (ticking p c stamp g).outs = of_part is_parcel _ _ (parcels_in_serving p c stamp g) _ goes in
      goes_out p lives c s.tick.at o s.goes
      (subst (λ (k : Input Msg). In o (deed_of p c k g).outs) (sym s.tick.is) there)

  -- a piece that is to leave was asked for, in this tick or before
  module _ (formed : AreAllFormed p lives) where
    was_asked : (i : ℕ) (stamp : Stamp) (t : Tenancy) (n j : ℕ) → i < lives.count c → lives.input c i ≡ Tick stamp
        → Leaves p c stamp (before_serving p c stamp (store_at p c (lives.input c) i)) (piece t n j)
        → (b : ℕ) × AsksAt p lives c t n j b
    was_asked i stamp t n j low tick k =
        let x : PieceState = piece t n j in
        let g : Store = store_at p c (lives.input c) i in
        let kp = keeps_pieces p c plan.ranges.pieces.0 (lives.count c) (lives.input c) (formed c small) in
        let there : In x (before_reading p c stamp g).pieces.items =
        subst (λ (ps : List PieceState). In x ps) (reading_pieces_stay p stamp (before_reading p c stamp g)) k.0 in
        let some = low_pieces i low stamp tick x k.0 in
        let soon = leaves_from p (stamp.reading + p.read_lead) x
        (let l = leaves_to p stamp.reading x k.1 in omega arith) in
        ⊎_elim
        (λ u. (
          stamp.beat,
          record { reading = stamp.reading; tick = ticks i low stamp tick; asks = inr (some, u, soon) },
        ))
        (λ (w : WasAskedFor p c (lives.input c) x i).
        let before = w.before in (
          w.stamp.beat,
          record {
            reading = w.stamp.reading;
            tick = record { small = small; at = w.at; done = omega arith; is = w.is };
            asks = inr (some, w.asked.unasked, w.asked.soon);
          },
        ))
        (kp.at_reading i stamp x there)

  -- ---- once

  -- if what is asked for one piece of a visit of a slot is of one tenancy
  module _ (one_tenancy : (t u : Tenancy) (n j a b : ℕ) → AsksAt p lives c t n j a → AsksAt p lives c u n j b
      → u.slot.0 ≡ t.slot.0 → u ≡ t) where
    pub asks_one : (i : ℕ) (w : Want) → i < lives.count c → IsOne (asks w) (outs_in p lives c i)
    asks_one i w low = once_out i (asks w) (by_input (lives.input c i) refl)
      where
        by_input : (k : Input Msg) → lives.input c i ≡ k → IsOne (asks w) (outs_at p c (lives.input c) i)
        by_input (Take stamp way m) e =
            let g : Store = store_at p c (lives.input c) i in
            subst (λ (k : Input Msg). IsOne (asks w) (deed_of p c k g).outs) (sym e)
            (none_one (asks w) _ (λ o h t. none_by is_ask _ (no_ask_taken p c stamp way m g) o h (ask_is_ask w o t)))
        by_input (Tick stamp) e =
            let g : Store = store_at p c (lives.input c) i in
            let h : Store = before_reading p c stamp g in
            let fact : (t : Tenancy) (n j : ℕ) → AsksFor p stamp h t n j → AsksAt p lives c t n j stamp.beat =
            λ t n j a. record { reading = stamp.reading; tick = ticks i low stamp e; asks = a } in
            subst (λ (k : Input Msg). IsOne (asks w) (deed_of p c k g).outs) (sym e)
            (one_of_part is_ask (asks w) (ask_is_ask w) _ _ (asks_in_reading p c stamp g)
            (ask_once p stamp h w (once_reading p c stamp g (always_once p c (lives.input c) i))
            (low_unasked i low stamp e)
            (λ t u n j a b slots. one_tenancy t u n j stamp.beat stamp.beat (fact t n j a) (fact u n j b) slots)))

    pub sends_one : AreAllFormed p lives → (i : ℕ) (w : Want) → i < lives.count c
        → IsOne (sends w) (outs_in p lives c i)
    sends_one formed i w low = once_out i (sends w) (by_input (lives.input c i) refl)
      where
        by_input : (k : Input Msg) → lives.input c i ≡ k → IsOne (sends w) (outs_at p c (lives.input c) i)
        by_input (Take stamp way m) e =
            let g : Store = store_at p c (lives.input c) i in
            subst (λ (k : Input Msg). IsOne (sends w) (deed_of p c k g).outs) (sym e)
            (none_one (sends w) _ (λ o h t. none_by is_parcel _ (no_parcel_taken p c stamp way m g) o h (send_is_parcel w o t)))
        by_input (Tick stamp) e =
            let g : Store = store_at p c (lives.input c) i in
            let h : Store = before_serving p c stamp g in
            subst (λ (k : Input Msg). IsOne (sends w) (deed_of p c k g).outs) (sym e)
            (one_of_part is_parcel (sends w) (send_is_parcel w) _ _ (parcels_in_serving p c stamp g)
            (serve_once p c stamp h w (once_serving p c stamp g (always_once p c (lives.input c) i))
            (low_pieces i low stamp e)
            (λ t u n j one two slots.
            let a = was_asked formed i stamp t n j low e one in
            let b = was_asked formed i stamp u n j low e two in
            one_tenancy t u n j a.0 b.0 a.1 b.1 slots)))
