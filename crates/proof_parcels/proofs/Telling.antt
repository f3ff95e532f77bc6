-- Each entry about blocks and pieces tells a fact, and each such fact has its entry.
use Rattle.std.proofs.Common.{◌≡◌, ℕ, ◌+◌, ◌-◌, ◌<◌, ◌≤◌, List, true, false, None, Some, refl, sym, ap, subst, ◌∙◌, arith, ⊎_elim, lt-ltb, le-ltb}
use Rattle.std.specs.Prelude.{◌*◌, ◌==◌, nat_lt}
use Rattle.std.proofs.lemmas.Bool.{cases_Bool}
use Rattle.tiger_base.specs.declared.number.LinkNo.{LinkNo}
use Rattle.tiger_base.specs.declared.number.Stamp.{Stamp}
use Rattle.tiger_base.specs.declared.part.Span.{Span}
use Rattle.tiger_base.specs.declared.tenancy.Tenancy.{Tenancy}
use Rattle.tiger_base.specs.declared.tenancy.Want.{Want}
use Rattle.tiger_base.specs.Span.{LibraryPart}
use Rattle.tiger_base.specs.declared.message.Msg.{Msg}
use Rattle.tiger_base.specs.declared.message.Msg.TheVariants as msg
use Rattle.tiger_base.specs.declared.message.Note.{Note}
use Rattle.tiger_base.specs.declared.message.Note.TheVariants as note
use Rattle.tiger_base.specs.Notes.{noted}
use Rattle.slot_plan.specs.declared.params.Params.{Params}
use Rattle.node_kit.specs.declared.course.Order.{Order}
use Rattle.node_kit.specs.declared.journal.Entry.{Entry}
use Rattle.node_kit.specs.declared.journal.What.TheVariants as what
use Rattle.node_kit.specs.declared.outbox.Out.{Out}
use Rattle.node_kit.specs.declared.outbox.Out.TheVariants as out
use Rattle.node_kit.specs.Form.{is_in_form}
use Rattle.node_kit.specs.Links.{links_of, ends_of}
use Rattle.node_kit.specs.Steps.{Deed, Input, stamp_of}
use Rattle.node_kit.specs.Steps.Input.{Take, Tick}
use Rattle.node_kit.specs.Ways.{way_to_viewers}
use Rattle.run_facts.specs.Histories.{History, beat, outs}
use Rattle.run_model.specs.Served.{want_of_visit}
use Rattle.cub_rules.specs.State.{IsPieceAt}
use Rattle.disk_core.specs.State.{DiskState}
use Rattle.proof_lives.specs.Lives.{Lives, beat_at, store_at, outs_in}
use Rattle.proof_lives.specs.Histories.{input_of}
use Rattle.proof_lives.specs.TwoLifeRun.{WhichLife, IsOfLife, life_in}
use Rattle.proof_lives.proofs.TwoLives.{beat_in, input_in}
use Rattle.proof_lives.proofs.Cuts.{was_put_out}
use Rattle.lists.specs.Elements.{In}
use Rattle.proof_lives.proofs.Carrying.{stamp_same}
use Rattle.lists.proofs.Each.{all_in}
use Rattle.proof_journals.proofs.Journals.{inputs_of, wrote, stamped, beat_is}
use Rattle.proof_moments.specs.Ties.{StandsIn, IsLogged}
use Rattle.proof_facts.specs.Beside.{Additions}
use Rattle.proof_facts.specs.Blocks.{AnsweredAt, SendsAt}
use Rattle.proof_facts.specs.Facts.{blocks_of, pieces_beside}
use Rattle.proof_facts.specs.Pieces.{want, part_sent, AsksAt, SendsPart, ServesAt}
use Rattle.proof_facts.specs.Rings.{node_count}
use Rattle.proof_links.proofs.Nodes.{lived, sender}
use Rattle.proof_links.proofs.Sending.{IsOfDisk, IsOfController, of_answer}
use Rattle.proof_parts.proofs.Answering.{kept as answer_kept}
use Rattle.proof_parts.proofs.AskLives.{read_for}
use Rattle.proof_journals.proofs.BothLives.{IsByRules, by_life, in_life}
use Rattle.proof_journals.proofs.Events.{AreKept, acts_if_out, cub_entry, input_of_life, rules_did}
use Rattle.proof_journals.proofs.Logging.{did_logged}
use Rattle.proof_moments.specs.ParcelTies.{viewers, parcel, SendsParcel, AsksDisk, IsServing, IsAsking, IsFailure, TellsParcels, LogsParcels}
use Rattle.proof_parcels.proofs.Apart.{always_once}
use Rattle.proof_parcels.proofs.Failing.{failed_read, of_record, record_wanted}
use Rattle.proof_parcels.proofs.Cubs as cubs
use Rattle.proof_links.proofs.InOrder.{formed}
use Rattle.proof_parcels.proofs.Entries.{sent_in, ask_back, whole_back, piece_back}

-- where a cub sends the viewers
pub to_viewers : (p : Params) (c : ℕ) → c < p.cubs → ends_of (links_of p) (way_to_viewers p c).0 ≡ Some (c, viewers p)
unfolding way_to_viewers
to_viewers p c here =
    let past : nat_lt (2 * p.cubs + c) p.cubs ≡ false = le-ltb _ _ (omega arith) in
    let past_controller : nat_lt (2 * p.cubs + c) (2 * p.cubs) ≡ false = le-ltb _ _ (omega arith) in
    let inside : nat_lt (2 * p.cubs + c) (3 * p.cubs) ≡ true = lt-ltb _ _ (omega arith) in
    let from : 2 * p.cubs + c - 2 * p.cubs ≡ c = omega arith in
    rw (past, past_controller, inside, from) refl

-- a part that goes out is noted as a parcel
pub noted_parcel : (w : Want) (sent : ℕ) (part : LibraryPart) → noted (part_sent w sent part) ≡ parcel w sent part.span
noted_parcel w sent part = ⊎_elim
    (λ (t : (w.piece == 0) ≡ true). rw t refl)
    (λ (f : (w.piece == 0) ≡ false). rw f refl)
    (cases_Bool (w.piece == 0))

module _ {S : Type 0} {step : S → Input Msg → Deed Msg S} {p : Params} {orders : List Order} {disk_at : ℕ
    → DiskState} {added : Additions} {h : History Msg S} {journals : List (List Entry)}
    (kept : AreKept step p orders disk_at added h journals) where
  -- a message that neither disks nor the controller send, and that tells of no return and is not added, is by a cub's rules
  pub record OfCub (n i : ℕ) (o : Out Msg) : Type 0 where
    pub small : n < p.cubs
    pub place : IsOfLife h n i
    pub did : In o (outs_in p (life_in h place.which) n place.at)

  pub of_cub : (n i : ℕ) (link : LinkNo) (m : Msg) → (IsOfDisk m → ⊥) → (IsOfController m → ⊥)
      → IsByRules (out.Send link m) → n < node_count p
      → i < h.count n → In (out.Send link m) (outs noted step h n i) → OfCub n i (out.Send link m)
  of_cub n i link m no_disk no_controller other known low k =
      let l = input_of_life kept n i known low (acts_if_out kept n i (out.Send link m) k) in
      ⊎_elim
      (λ c. record { small = c.0; place = l; did = rules_did kept n i (out.Send link m) l c.0 other k })
      (λ o. ⊎_elim
      (λ d. absurd (no_disk (of_answer (disk_at d.disk) (inputs_of h n i) link m d.answer)))
      (λ q. absurd (no_controller q.1))
      o)
      (sender kept.plan kept.ring n i link m known low k)

  -- what befell a cub in an event of one of its lives
  pub input_there : (n i : ℕ) (l : IsOfLife h n i) → (life_in h l.which).input n l.at ≡ input_of (h.event n i)
  input_there n i l = input_in h l.which n l.at ∙ ap (λ (j : ℕ). input_of (h.event n j)) (sym l.is)

  -- the stamp of an entry that was written at a tick
  pub tick_stamp : (n i : ℕ) (e : Entry) (stamp : Stamp) (l : IsOfLife h n i) → In e (wrote step h n i)
      → (life_in h l.which).input n l.at ≡ Tick stamp → e.stamp ≡ stamp
  tick_stamp n i e stamp l k tick = stamped step h n i e k ∙ stamp_same (h.event n i)
      ∙ ap (λ (x : Input Msg). stamp_of x) (sym (input_there n i l) ∙ tick)

  -- ---- what entries tell

  asks_told : (n : ℕ) (e : Entry) (w : Want) → StandsIn journals n e → AsksDisk w e
      → IsAsking (pieces_beside p added h) n w e.stamp.beat
  asks_told n e w s a =
      let x = sent_in kept n e a.link (note.ReadAsk w) s a.is in
      let m : x.send.message ≡ msg.ReadAsk w = ask_back x.send.message w x.send.same in
      let sent = subst (λ (y : Msg). In (out.Send a.link y) (outs noted step h n x.at)) m x.send.sent in
      let c = of_cub n x.at a.link (msg.ReadAsk w) (λ q. q) (λ q. q) tt x.known x.done sent in
      let l = c.place in
      let when : beat_at ((life_in h l.which).input n) l.at ≡ e.stamp.beat =
      sym (beat_in h l.which n l.at) ∙ ap (λ (j : ℕ). beat h n j) (sym l.is) ∙ sym (beat_is step h n x.at e x.there) in
      let asked = read_for p kept.plan (life_in h l.which) (lived kept.plan kept.ring l.which) n e.stamp.beat a.link w
      (record { small = c.small; at = l.at; done = l.done; in_beat = when; did = c.did }) in
      record {
        tenancy = asked.tenancy;
        wanted = sym asked.same;
        asks = in_life h (λ y. AsksAt p y n asked.tenancy w.visit w.piece e.stamp.beat) l.which asked.asks;
      }

  serving_told : (n i : ℕ) (e : Entry) (link : LinkNo) (w : Want) (sent : ℕ) (part : LibraryPart) (span : Span)
      → (small : n < p.cubs) → (l : IsOfLife h n i) → In e (wrote step h n i)
      → cubs.IsServeAt (life_in h l.which) kept.plan (lived kept.plan kept.ring l.which) n small l.at link w sent part
      → part.span ≡ span → IsServing p (pieces_beside p added h) (blocks_of p h disk_at) n link w sent span e.stamp.beat
  serving_told n i e link w sent part span small l there at is =
      let lives : Lives = life_in h l.which in
      let same = tick_stamp n i e at.stamp l there at.tick in
      let when : at.stamp.beat ≡ e.stamp.beat = ap (λ (y : Stamp). y.beat) (sym same) in
      let fact = subst (λ (b : ℕ). SendsPart p lives n at.serve.tenancy w.visit w.piece b part) when
      (cubs.serves_fact lives kept.plan (lived kept.plan kept.ring l.which) n small l.at link w sent part l.done at) in
      record {
        tenancy = at.serve.tenancy;
        wanted = at.serve.same;
        serves = in_life h (λ y. ServesAt p y n at.serve.tenancy w.visit w.piece e.stamp.beat) l.which
            (record { part = part; sends = fact });
        sends = in_life h (λ y. SendsAt p y n at.serve.tenancy w.visit w.piece e.stamp.beat span) l.which
            (record { part = part; sends = fact; of_part = is });
        named = at.serve.named ∙ when;
        way = ap (λ (k : LinkNo). ends_of (links_of p) k.0) at.serve.way ∙ to_viewers p n small;
      }

  whole_told : (n : ℕ) (e : Entry) (link : LinkNo) (w : Want) (sent : ℕ) (span : Span) → StandsIn journals n e
      → e.what ≡ what.Sent link (note.Whole w sent span)
      → (w.piece ≡ 0) × IsServing p (pieces_beside p added h) (blocks_of p h disk_at) n link w sent span e.stamp.beat
  whole_told n e link w sent span s is =
      let x = sent_in kept n e link (note.Whole w sent span) s is in
      let m = whole_back x.send.message w sent span x.send.same in
      let there = subst (λ (y : Msg). In (out.Send link y) (outs noted step h n x.at)) m.1 x.send.sent in
      let c = of_cub n x.at link (msg.Whole w sent m.0) (λ q. q) (λ q. q) tt x.known x.done there in
      let l = c.place in
      let at = cubs.whole_at (life_in h l.which) kept.plan (lived kept.plan kept.ring l.which) n c.small l.at link w sent m.0
      l.done c.did in
      (at.0, serving_told n x.at e link w sent m.0 span c.small l x.there at.1 m.2)

  piece_told : (n : ℕ) (e : Entry) (link : LinkNo) (w : Want) (sent : ℕ) (span : Span) → StandsIn journals n e
      → e.what ≡ what.Sent link (note.Piece w sent span)
      → (1 ≤ w.piece) × IsServing p (pieces_beside p added h) (blocks_of p h disk_at) n link w sent span e.stamp.beat
  piece_told n e link w sent span s is =
      let x = sent_in kept n e link (note.Piece w sent span) s is in
      let m = piece_back x.send.message w sent span x.send.same in
      let there = subst (λ (y : Msg). In (out.Send link y) (outs noted step h n x.at)) m.1 x.send.sent in
      let c = of_cub n x.at link (msg.Piece w sent m.0) (λ q. q) (λ q. q) tt x.known x.done there in
      let l = c.place in
      let at = cubs.piece_at (life_in h l.which) kept.plan (lived kept.plan kept.ring l.which) n c.small l.at link w sent m.0
      l.done c.did in
      (at.0, serving_told n x.at e link w sent m.0 span c.small l x.there at.1 m.2)

  failed_told : (n : ℕ) (e : Entry) (w : Want) → StandsIn journals n e → e.what ≡ what.ReadFailed w
      → IsFailure (blocks_of p h disk_at) n w e.stamp.beat
  failed_told n e w s is =
      let d = cub_entry kept n e (what.ReadFailed w) s tt tt (λ v q. absurd (cc)) is in
      let lives : Lives = life_in h d.which in
      let inputs : ℕ → Input Msg = lives.input n in
      let g = store_at p n inputs d.input in
      let f = failed_read p n (inputs d.input) g w
      (was_put_out p lives n d.input (out.Act (what.ReadFailed w)) d.did) in
      let k = of_record g w (λ x i. (cubs.numbered p n x (all_in (IsPieceAt p n) x g.pieces.items
      (cubs.kept lives kept.plan (lived kept.plan kept.ring d.which) n d.small d.input d.done).pieces i)).0) f.wanted in
      let when : f.stamp.beat ≡ e.stamp.beat = ap (λ (y : Stamp). y.beat)
      (sym (d.when ∙ ap (λ (x : Input Msg). stamp_of x) f.is)) in
      let answered = subst (λ (b : ℕ). AnsweredAt p lives n k.tenancy w.visit w.piece b None) when (record {
        small = d.small;
        at = d.input;
        done = d.done;
        reading = f.stamp.reading;
        link = f.link;
        is = f.is ∙ ap (λ (z : Want). Take f.stamp f.link (msg.ReadDone z None)) k.same;
        formed = subst (λ (z : Want). is_in_form p (noted (msg.ReadDone z None)) ≡ true) k.same f.formed;
        there = k.there;
      }) in
      record {
        tenancy = k.tenancy;
        wanted = k.same;
        failed = in_life h (λ y. AnsweredAt p y n k.tenancy w.visit w.piece e.stamp.beat None) d.which answered;
      }

  pub tells : TellsParcels p (pieces_beside p added h) (blocks_of p h disk_at) journals
  tells = record { whole = whole_told; piece = piece_told; asks = asks_told; failed = failed_told }

  -- ---- which facts have entries

  served_in : (w : WhichLife) (c n j b : ℕ) (t : Tenancy) → ServesAt p (life_in h w) c t n j b
      → IsLogged journals c b (SendsParcel (want_of_visit t n j))
  served_in w c n j b t s =
      let k = s.sends in
      let small = k.tick.small in
      let o : Out Msg = out.Send (way_to_viewers p c) (part_sent (want t n j) b s.part) in
      let goes = cubs.serves_go (life_in h w) kept.plan (lived kept.plan kept.ring w) c small k in
      let l = did_logged kept w c b o (record {
        small = small;
        at = k.tick.at;
        done = k.tick.done;
        in_beat = ap (λ (x : Input Msg). (stamp_of x).beat) k.tick.is;
        did = goes;
      }) in
      record {
        entry = l.entry;
        stands = l.stands;
        beat = l.beat;
        is = record {
          link = way_to_viewers p c;
          sent = b;
          part = s.part.span;
          is = l.is ∙ ap (λ (m : Note). what.Sent (way_to_viewers p c) m) (noted_parcel (want t n j) b s.part);
        };
      }

  failed_in : (w : WhichLife) (c n j b : ℕ) (t : Tenancy) → AnsweredAt p (life_in h w) c t n j b None
      → IsLogged journals c b (λ e. e.what ≡ what.ReadFailed (want_of_visit t n j))
  failed_in w c n j b t a =
      let inputs : ℕ → Input Msg = (life_in h w).input c in
      let g = store_at p c inputs a.at in
      let wanted = record_wanted g (always_once p c inputs a.at) t n j a.there in
      let goes = answer_kept p (life_in h w) (formed kept.plan kept.ring w) c b (want t n j) None
      (record { small = a.small; at = a.at; done = a.done; reading = a.reading; link = a.link; is = a.is }) wanted in
      did_logged kept w c b (out.Act (what.ReadFailed (want t n j))) (record {
        small = a.small;
        at = a.at;
        done = a.done;
        in_beat = ap (λ (x : Input Msg). (stamp_of x).beat) a.is;
        did = goes;
      })

  pub logs : LogsParcels (pieces_beside p added h) (blocks_of p h disk_at) journals
  logs = record {
    served = λ c n j b t s. by_life h (λ y. ServesAt p y c t n j b) (λ w k. served_in w c n j b t k) s;
    failed = λ c n j b t a. by_life h (λ y. AnsweredAt p y c t n j b None) (λ w k. failed_in w c n j b t k) a;
  }
