-- In one beat a cub sends a parcel once, and asks a disk for one thing once.
use Rattle.std.proofs.Common.{◌≡◌, ℕ, ◌<◌, List, [], ◌∷◌, ◌++◌, Bool, true, false, refl, sym, ap, subst, ◌∙◌, arith, ⊎_elim, inl, inr}
use Rattle.std.specs.Prelude.{◌==◌}
use Rattle.std.specs.List.{AllByRecursion}
use Rattle.std.proofs.lemmas.Bool.{cases_Bool, true≢false}
use Rattle.tiger_base.specs.declared.number.Stamp.{Stamp}
use Rattle.tiger_base.specs.declared.tenancy.Want.{Want}
use Rattle.tiger_base.specs.declared.message.Msg.{Msg}
use Rattle.tiger_base.specs.declared.message.Msg.TheVariants as msg
use Rattle.tiger_base.specs.declared.message.Note.TheVariants as note
use Rattle.tiger_base.specs.Notes.{noted}
use Rattle.tiger_base.specs.Records.{same_want}
use Rattle.slot_plan.specs.declared.params.Params.{Params}
use Rattle.node_kit.specs.declared.course.Order.{Order}
use Rattle.node_kit.specs.declared.journal.Entry.{Entry}
use Rattle.node_kit.specs.declared.journal.What.{What}
use Rattle.node_kit.specs.declared.journal.What.TheVariants as what
use Rattle.node_kit.specs.declared.outbox.Out.{Out}
use Rattle.node_kit.specs.declared.outbox.Out.TheVariants as out
use Rattle.node_kit.specs.Steps.{Deed, Input, IsAllowed, what_of, entry_of}
use Rattle.node_kit.specs.Steps.Input.{Tick}
use Rattle.run_facts.specs.Events.{NodeEvent, Past, entries_at, outs_of, stamp_at, is_tick_input}
use Rattle.run_facts.specs.Histories.{History, outs, past}
use Rattle.disk_core.specs.State.{DiskState}
use Rattle.proof_lives.specs.Lives.{outs_in}
use Rattle.proof_lives.specs.Histories.{has_input, input_of}
use Rattle.proof_lives.specs.TwoLifeRun.{WhichLife, IsOfLife, life_in}
use Rattle.tiger_base.specs.declared.tenancy.Tenancy.{Tenancy}
use Rattle.lists.specs.Elements.{In}
use Rattle.proof_lives.proofs.Carrying.{tick_same}
use Rattle.lists.proofs.Elements.{in_right}
use Rattle.lists.proofs.Each.{all_in}
use Rattle.proof_journals.proofs.Ones.{IsNone, IsOne, none_one, one_append, one_map}
use Rattle.proof_journals.proofs.Journals.{beat_is, wrote}
use Rattle.proof_pieces.specs.Pieces.{ArePiecesRight}
use Rattle.proof_schedule.specs.Facts.{Facts}
use Rattle.proof_facts.specs.Beside.{Additions}
use Rattle.proof_facts.specs.Facts.{pieces_beside}
use Rattle.proof_facts.specs.Pieces.{AsksAt}
use Rattle.proof_facts.specs.Rings.{node_count}
use Rattle.proof_parts.proofs.Found.{same_self}
use Rattle.proof_links.proofs.Nodes.{lived}
use Rattle.proof_journals.proofs.BothLives.{IsByRules, before_it, beside_it, in_life, not_returning}
use Rattle.proof_journals.proofs.Events.{AreKept, adds_none, behind_tick, event_of_life, fair, outs_of_input}
use Rattle.proof_journals.proofs.Lists.{moved, one_behind}
use Rattle.proof_journals.proofs.Cutting.{cut_at_entry}
use Rattle.proof_journals.proofs.Wrote.{got_at, got_in, died_in, died_is, sent_in, entries_are}
use Rattle.proof_moments.specs.ParcelTies.{SendsParcel, AsksDisk, AreOfBeats, KeepsParcels}
use Rattle.proof_parcels.proofs.AskOuts.{asks}
use Rattle.proof_parcels.proofs.ServeOuts.{sends}
use Rattle.proof_parcels.proofs.Cubs as cubs
use Rattle.proof_links.proofs.InOrder.{formed}
use Rattle.proof_parcels.proofs.Entries.{event_sent, ask_back, whole_back, piece_back}
use Rattle.proof_parcels.proofs.Telling.{input_there, of_cub}

-- ---- lists

-- what passes a narrower test stands once too
one_less : {X : Type 0} (test narrow : X → Bool) (xs : List X) → ((x : X) → In x xs → narrow x ≡ true
    → test x ≡ true) → IsOne test xs → IsOne narrow xs
one_less test narrow [] less one = tt
one_less test narrow (x ∷ xs) less one = (
  (λ t y i s. one.0 (less x (inl refl) t) y i (less y (inr i) s)),
  one_less test narrow xs (λ y i. less y (inr i)) one.1,
)

-- ---- entries

-- an entry asks for this, or sends it
abbrev says_ask : Want → What → Bool
says_ask w (what.Sent link (note.ReadAsk v)) = same_want w v
says_ask w other = false

abbrev says_send : Want → What → Bool
says_send w (what.Sent link (note.Whole v sent part)) = same_want w v
says_send w (what.Sent link (note.Piece v sent part)) = same_want w v
says_send w other = false

asks_agree : (p : Params) (n : ℕ) (w : Want) (o : Out Msg) → IsAllowed noted p n o
    → says_ask w (what_of noted o) ≡ true → asks w o ≡ true
asks_agree p n w (out.Send link (msg.ReadAsk v)) fair t = t
asks_agree p n w (out.Send link other) fair t = absurd (cc)
asks_agree p n w (out.Act (what.Sent link m)) fair t = absurd fair
asks_agree p n w (out.Act other) fair t = absurd (cc)

sends_agree : (p : Params) (n : ℕ) (w : Want) (o : Out Msg) → IsAllowed noted p n o
    → says_send w (what_of noted o) ≡ true → sends w o ≡ true
sends_agree p n w (out.Send link (msg.Whole v sent part)) fair t = t
sends_agree p n w (out.Send link (msg.Piece v sent part)) fair t = t
sends_agree p n w (out.Send link other) fair t = absurd (cc)
sends_agree p n w (out.Act (what.Sent link m)) fair t = absurd fair
sends_agree p n w (out.Act other) fair t = absurd (cc)

-- what is asked for, or sent, tells of no return, and is not added
ask_no_return : (w : Want) (o : Out Msg) → asks w o ≡ true → IsByRules o
ask_no_return w (out.Send link (msg.ReadAsk v)) t = tt
ask_no_return w (out.Send link other) t = absurd (cc)
ask_no_return w (out.Act v) t = absurd (cc)

parcel_no_return : (w : Want) (o : Out Msg) → sends w o ≡ true → IsByRules o
parcel_no_return w (out.Send link (msg.Whole v sent part)) t = tt
parcel_no_return w (out.Send link (msg.Piece v sent part)) t = tt
parcel_no_return w (out.Send link other) t = absurd (cc)
parcel_no_return w (out.Act v) t = absurd (cc)

ask_said : (w : Want) (e : Entry) → AsksDisk w e → says_ask w e.what ≡ true
ask_said w e a = ap (says_ask w) a.is ∙ same_self w

parcel_said : (w : Want) (e : Entry) → SendsParcel w e → says_send w e.what ≡ true
parcel_said w e a = ap (says_send w) a.is ∙ ⊎_elim
    (λ (t : (w.piece == 0) ≡ true). rw t (same_self w))
    (λ (f : (w.piece == 0) ≡ false). rw f (same_self w))
    (cases_Bool (w.piece == 0))

-- at a tick at most one entry says a thing, if at most one of its outputs does
tick_wrote : {S : Type 0} (step : S → Input Msg → Deed Msg S) (p : Params) (n : ℕ) (ev : NodeEvent Msg)
    (before : Past S) (stamp : Stamp) (says : What → Bool)
    → AllByRecursion (IsAllowed noted p n) (outs_of step ev before) → input_of ev ≡ Tick stamp
    → says what.Died ≡ false → IsOne (λ (o : Out Msg). says (what_of noted o)) (outs_of step ev before)
    → IsOne (λ (x : Entry). says x.what) (entries_at noted step ev before)
tick_wrote step p n ev before stamp says fair tick no_death one =
    let Says : Entry → Bool = λ x. says x.what in
    let sent : List Entry = sent_in step ev before in
    let no_got : IsNone Says (got_in ev) = λ x k t. absurd (moved x (ap got_at tick) k) in
    let no_died : IsNone Says (died_in ev) = λ x k t.
    true≢false (sym t ∙ ap Says (died_is ev x k).0 ∙ no_death) in
    subst (λ (l : List Entry). IsOne Says l) (sym (entries_are step p n ev before fair))
    (one_append Says (got_in ev) (sent ++ died_in ev) (none_one Says (got_in ev) no_got)
    (one_append Says sent (died_in ev)
    (one_map (entry_of noted (stamp_at ev)) Says (outs_of step ev before) one)
    (none_one Says (died_in ev) no_died) (λ x y i k t s. no_died y k s))
    (λ x y i k t s. no_got x i t))

module _ {S : Type 0} {step : S → Input Msg → Deed Msg S} {p : Params} {orders : List Order} {disk_at : ℕ
    → DiskState} {added : Additions} {h : History Msg S} {journals : List (List Entry)}
    (kept : AreKept step p orders disk_at added h journals) where
  -- an entry was written at a tick of a cub
  pub record IsOfTick (n i : ℕ) : Type 0 where
    pub small : n < p.cubs
    pub place : IsOfLife h n i
    pub stamp : Stamp
    pub tick : input_of (h.event n i) ≡ Tick stamp

  -- If at most one output of an input passes a test, and none that tells of a return or may be added does, at most one of
  -- the event does.
  one_out : (test : Out Msg → Bool) → ((o : Out Msg) → test o ≡ true → IsByRules o) → (n i : ℕ) → n < p.cubs
      → (l : IsOfLife h n i) → IsOne test (outs_in p (life_in h l.which) n l.at) → IsOne test (outs noted step h n i)
  one_out test other n i small l one =
      let before : List (Out Msg) = before_it h p l.which n l.at in
      let behind : List (Out Msg) = beside_it added l.which n l.at in
      let none : IsNone test before = λ o k t. not_returning h p l.which n l.at o (other o t) k in
      let no_more : IsNone test behind = λ o k t. adds_none kept l.which n l.at o small l.done (other o t) k in
      subst (λ (os : List (Out Msg)). IsOne test os) (sym (outs_of_input kept n i l small))
      (one_append test before (outs_in p (life_in h l.which) n l.at ++ behind) (none_one test before none)
      (one_append test (outs_in p (life_in h l.which) n l.at) behind one (none_one test behind no_more)
      (λ x y j k t s. no_more y k s))
      (λ x y j k t s. none x j t))

  -- If an output at a tick is written once, and at most one passes a test, an entry that says so is of a later beat
  -- than one before it.
  of_beats : (Is : Entry → Type 0) (says : What → Bool) (test : Out Msg → Bool) → says what.Died ≡ false
      → ((e : Entry) → Is e → says e.what ≡ true)
      → ((n : ℕ) (o : Out Msg) → IsAllowed noted p n o → says (what_of noted o) ≡ true → test o ≡ true)
      → ((o : Out Msg) → test o ≡ true → IsByRules o)
      → ((n i : ℕ) (e : Entry) → n < node_count p → i < h.count n → In e (wrote step h n i) → Is e → IsOfTick n i)
      → ((w : WhichLife) (n i : ℕ) → n < p.cubs → i < (life_in h w).count n → IsOne test (outs_in p (life_in h w) n i))
      → AreOfBeats journals Is
  of_beats Is says test no_death said agrees other at_tick one n xs ys e f at i is_e is_f =
      let c = cut_at_entry kept n xs e ys at in
      let here : In e (wrote step h n c.at) = subst (λ (l : List Entry). In e l) c.event_is
      (in_right e c.part (e ∷ c.rest) (inl refl)) in
      let t = at_tick n c.at e c.known c.done here is_e in
      let l = t.place in
      let acts = acts_there n c.at c.known l in
      ⊎_elim
      (λ k.
      let os : List (Out Msg) = outs noted step h n c.at in
      let rule : IsOne test os = one_out test other n c.at t.small l (one l.which n l.at t.small l.done) in
      let narrow : IsOne (λ (o : Out Msg). says (what_of noted o)) os = one_less test
      (λ (o : Out Msg). says (what_of noted o)) os
      (λ o j s. agrees n o (all_in (IsAllowed noted p n) o os (fair kept n c.at c.known c.done) j) s) rule in
      let whole : IsOne (λ (x : Entry). says x.what) (wrote step h n c.at) =
      tick_wrote step p n (h.event n c.at) (past noted step h n c.at) t.stamp says (fair kept n c.at c.known c.done)
      t.tick no_death narrow in
      absurd (one_behind (λ (x : Entry). says x.what) c.part e c.rest f
      (subst (λ (l : List Entry). IsOne (λ (x : Entry). says x.what) l) (sym c.event_is) whole) (said e is_e) k
      (said f is_f)))
      (λ k.
      let later = behind_tick kept n c.at k.0 c.known k.1 k.2
      (tick_same (h.event n c.at) acts ∙ ap is_tick_input t.tick) in
      let first = beat_is step h n c.at e here in
      let second = beat_is step h n k.0 f k.3 in
      omega arith)
      (c.behind f i)
    where
      acts_there : (n i : ℕ) → n < node_count p → (l : IsOfLife h n i) → has_input (h.event n i) ≡ true
      acts_there n i known l = subst (λ (j : ℕ). has_input (h.event n j) ≡ true) (sym l.is)
          (event_of_life kept l.which n l.at known l.done).1

  -- the tick of an ask, and of a parcel
  ask_tick : (w : Want) (n i : ℕ) (e : Entry) → n < node_count p → i < h.count n → In e (wrote step h n i)
      → AsksDisk w e → IsOfTick n i
  ask_tick w n i e known low k a =
      let x = event_sent step p n (h.event n i) (past noted step h n i) e a.link (note.ReadAsk w)
      (fair kept n i known low) k a.is in
      let m : x.message ≡ msg.ReadAsk w = ask_back x.message w x.same in
      let sent = subst (λ (y : Msg). In (out.Send a.link y) (outs noted step h n i)) m x.sent in
      let c = of_cub kept n i a.link (msg.ReadAsk w) (λ q. q) (λ q. q) tt known low sent in
      let l = c.place in
      let at = cubs.ask_tick (life_in h l.which) kept.plan (lived kept.plan kept.ring l.which) n c.small l.at a.link w c.did in
      record { small = c.small; place = l; stamp = at.stamp; tick = sym (input_there kept n i l) ∙ at.tick }

  parcel_tick : (w : Want) (n i : ℕ) (e : Entry) → n < node_count p → i < h.count n → In e (wrote step h n i)
      → SendsParcel w e → IsOfTick n i
  parcel_tick w n i e known low k a = ⊎_elim
      (λ (t : (w.piece == 0) ≡ true).
      let is : e.what ≡ what.Sent a.link (note.Whole w a.sent a.part) = a.is ∙ (rw t refl) in
      let x = event_sent step p n (h.event n i) (past noted step h n i) e a.link (note.Whole w a.sent a.part)
      (fair kept n i known low) k is in
      let m = whole_back x.message w a.sent a.part x.same in
      let sent = subst (λ (y : Msg). In (out.Send a.link y) (outs noted step h n i)) m.1 x.sent in
      let c = of_cub kept n i a.link (msg.Whole w a.sent m.0) (λ q. q) (λ q. q) tt known low sent in
      let l = c.place in
      let at = (cubs.whole_at (life_in h l.which) kept.plan (lived kept.plan kept.ring l.which) n c.small l.at a.link w a.sent
      m.0 l.done c.did).1 in
      record { small = c.small; place = l; stamp = at.stamp; tick = sym (input_there kept n i l) ∙ at.tick })
      (λ (f : (w.piece == 0) ≡ false).
      let is : e.what ≡ what.Sent a.link (note.Piece w a.sent a.part) = a.is ∙ (rw f refl) in
      let x = event_sent step p n (h.event n i) (past noted step h n i) e a.link (note.Piece w a.sent a.part)
      (fair kept n i known low) k is in
      let m = piece_back x.message w a.sent a.part x.same in
      let sent = subst (λ (y : Msg). In (out.Send a.link y) (outs noted step h n i)) m.1 x.sent in
      let c = of_cub kept n i a.link (msg.Piece w a.sent m.0) (λ q. q) (λ q. q) tt known low sent in
      let l = c.place in
      let at = (cubs.piece_at (life_in h l.which) kept.plan (lived kept.plan kept.ring l.which) n c.small l.at a.link w a.sent
      m.0 l.done c.did).1 in
      record { small = c.small; place = l; stamp = at.stamp; tick = sym (input_there kept n i l) ∙ at.tick })
      (cases_Bool (w.piece == 0))

  -- What is asked for one piece of a visit of a slot in a life is of one tenancy, since that holds of both lives.
  one_in_life : {r : Facts} → ArePiecesRight p r (pieces_beside p added h) → (w : WhichLife) (c : ℕ) (t u : Tenancy) (n j a b : ℕ)
      → AsksAt p (life_in h w) c t n j a → AsksAt p (life_in h w) c u n j b → u.slot.0 ≡ t.slot.0 → u ≡ t
  one_in_life right w c t u n j a b x y slots =
      (right.one_ask c c n j a b t u (in_life h (λ l. AsksAt p l c t n j a) w x)
      (in_life h (λ l. AsksAt p l c u n j b) w y) slots).1

  pub keeps : {r : Facts} → ArePiecesRight p r (pieces_beside p added h) → KeepsParcels journals
  keeps {r} right = record {
    one_parcel = λ w. of_beats (SendsParcel w) (says_send w) (sends w) refl (parcel_said w)
        (λ n o fair t. sends_agree p n w o fair t) (parcel_no_return w) (parcel_tick w)
        (λ k n i small low. cubs.sends_one (life_in h k) kept.plan (lived kept.plan kept.ring k) n small
        (one_in_life {r = r} right k n) (formed kept.plan kept.ring k) i w low);
    one_ask = λ w. of_beats (AsksDisk w) (says_ask w) (asks w) refl (ask_said w)
        (λ n o fair t. asks_agree p n w o fair t) (ask_no_return w) (ask_tick w)
        (λ k n i small low. cubs.asks_one (life_in h k) kept.plan (lived kept.plan kept.ring k) n small
        (one_in_life {r = r} right k n) i w low);
  }
