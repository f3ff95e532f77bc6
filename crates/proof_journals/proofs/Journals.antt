-- In which event of its node an entry was written, and what stands before it in the journal.
use Rattle.std.proofs.Common.{◌≡◌, ℕ, zero, suc, ◌<◌, ◌≤◌, List, [], ◌∷◌, ◌++◌, map, false, refl, sym, ap, subst, ◌∙◌, arith, ⊎_elim, inl, append-nil, append_assoc, eq-or-lt_of_le}
use Rattle.std.specs.List.{AllByRecursion}
use Rattle.std.proofs.lemmas.Bool.{true≢false}
use Rattle.tiger_base.specs.declared.number.Stamp.{Stamp}
use Rattle.tiger_base.specs.declared.message.Msg.{Msg}
use Rattle.tiger_base.specs.Notes.{noted}
use Rattle.slot_plan.specs.declared.params.Params.{Params}
use Rattle.node_kit.specs.declared.journal.Entry.{Entry}
use Rattle.node_kit.specs.declared.outbox.Out.{Out}
use Rattle.node_kit.specs.Steps.{Deed, Input, IsAllowed, entry_of}
use Rattle.run_facts.specs.Events.{NodeEvent, Past, outs_of, stamp_at, entries_at}
use Rattle.run_facts.specs.Histories.{History, past, beat}
use Rattle.run_facts.specs.Accounts.{Rising}
use Rattle.run_facts.specs.Timed.{is_died}
use Rattle.run_facts.proofs.Journals.{is_got, stamped-written, rising-append}
use Rattle.lists.specs.Elements.{In}
use Rattle.proof_lives.specs.Histories.{input_of, lives_of}
use Rattle.lists.proofs.Elements.{in_right, in_cases}
use Rattle.lists.proofs.Each.{all_in}
use Rattle.proof_journals.proofs.Cuts.{all_from, IsAhead, two_cuts, rising_joined}
use Rattle.proof_journals.proofs.Lists.{past_front, in_front}
use Rattle.proof_journals.proofs.Written.{written_at, one_event_more}
pub use Rattle.proof_journals.proofs.Wrote.{got_at, got_in}
use Rattle.proof_journals.proofs.Wrote.{sent_in, died_in, entries_are, got_is, died_is}

-- a list that was mapped, cut at an element
pub record IsMapped {X Y : Type 0} (f : X → Y) (xs : List X) (front : List Y) (y : Y) : Type 0 where
  pub before : List X
  pub at : X
  pub behind : List X
  pub whole : xs ≡ before ++ at ∷ behind
  pub front_is : front ≡ map f before
  pub is : y ≡ f at

pub mapped_cut : {X Y : Type 0} (f : X → Y) (xs : List X) (front : List Y) (y : Y) (back : List Y) → front ++ y ∷ back ≡ map f xs → IsMapped f xs front y
mapped_cut f [] front y back e = absurd (subst (λ l. In y l) e (in_right y front (y ∷ back) (inl refl)))
mapped_cut f (x ∷ xs) [] y back e = let head : y ≡ f x = cc in record { before = []; at = x; behind = xs; whole = refl; front_is = refl; is = head }
mapped_cut f (x ∷ xs) (z ∷ zs) y back e =
    let head : z ≡ f x = cc in
    let tail : zs ++ y ∷ back ≡ map f xs = cc in
    let m = mapped_cut f xs zs y back tail in
    record {
      before = x ∷ m.before;
      at = m.at;
      behind = m.behind;
      whole = ap (λ l. x ∷ l) m.whole;
      front_is = ap (λ l. z ∷ l) m.front_is ∙ ap (λ w. w ∷ map f m.before) head;
      is = m.is;
    }

-- an entry of an event is an output's, and what stands before it in the event are the entries of what was put out before
pub record IsPutOut {S : Type 0} (step : S → Input Msg → Deed Msg S) (ev : NodeEvent Msg) (before : Past S) (part : List Entry) (e : Entry) : Type 0 where
  pub earlier : List (Out Msg)
  pub output : Out Msg
  pub later : List (Out Msg)
  pub outs_are : outs_of step ev before ≡ earlier ++ output ∷ later
  pub part_is : part ≡ got_in ev ++ map (entry_of noted (stamp_at ev)) earlier
  pub is : e ≡ entry_of noted (stamp_at ev) output

pub put_out : {S : Type 0} (step : S → Input Msg → Deed Msg S) (p : Params) (n : ℕ) (ev : NodeEvent Msg) (before : Past S) (part : List Entry) (e : Entry) (rest : List Entry)
    → AllByRecursion (IsAllowed noted p n) (outs_of step ev before) → is_got e.what ≡ false → is_died e.what ≡ false
    → part ++ e ∷ rest ≡ entries_at noted step ev before → IsPutOut step ev before part e
put_out step p n ev before part e rest fair sent lives is =
    let one = past_front (got_in ev) (sent_in step ev before ++ died_in ev) part e rest (is ∙ entries_are step p n ev before fair)
    (λ k. true≢false (sym (got_is (input_of ev) e k) ∙ sent)) in
    let two = in_front (sent_in step ev before) (died_in ev) one.0 e rest one.2
    (λ k. true≢false (sym (ap (λ (x : Entry). is_died x.what) (died_is ev e k).0) ∙ lives)) in
    let c = mapped_cut (entry_of noted (stamp_at ev)) (outs_of step ev before) one.0 e two.0 two.1 in
    record {
      earlier = c.before;
      output = c.at;
      later = c.behind;
      outs_are = c.whole;
      part_is = one.1 ∙ ap (λ l. got_in ev ++ l) c.front_is;
      is = c.is;
    }

-- what befalls a node
abbrev pub inputs_of : {S : Type 0} → History Msg S → ℕ → ℕ → Input Msg
inputs_of h n = (lives_of h).input n

module _ {S : Type 0} (step : S → Input Msg → Deed Msg S) (h : History Msg S) (n : ℕ) where
  -- what the node's first events have written, and what one of them writes
  abbrev pub so_far : ℕ → List Entry
  so_far i = (past noted step h n i).journal

  abbrev pub wrote : ℕ → List Entry
  wrote i = entries_at noted step (h.event n i) (past noted step h n i)

  -- an entry was written in an event, behind what the events before and the event itself had written
  pub record IsWritten (i : ℕ) (front : List Entry) (e : Entry) : Type 0 where
    pub at : ℕ
    pub before : at < i
    pub part : List Entry
    pub rest : List Entry
    pub front_is : front ≡ so_far at ++ part
    pub event_is : part ++ e ∷ rest ≡ wrote at

  pub written_before : (i : ℕ) (front : List Entry) (e : Entry) (back between : List Entry) → front ++ between ≡ so_far i → between ++ wrote i ≡ e ∷ back
      → ((bs : List Entry) → front ++ e ∷ bs ≡ so_far i → IsWritten i front e) → IsWritten (suc i) front e
  written_before i front e back [] old new more =
      record { at = i; before = omega arith; part = []; rest = back; front_is = sym (append-nil front) ∙ old ∙ sym (append-nil (so_far i)); event_is = sym new }
  written_before i front e back (x ∷ xs) old new more =
      let head : x ≡ e = cc in
      let w = more xs (ap (λ y. front ++ y ∷ xs) (sym head) ∙ old) in
      let b = w.before in
      record { at = w.at; before = omega arith; part = w.part; rest = w.rest; front_is = w.front_is; event_is = w.event_is }

  pub written : (i : ℕ) (front : List Entry) (e : Entry) (back : List Entry) → front ++ e ∷ back ≡ so_far i → IsWritten i front e
  written zero front e back is = absurd (subst (λ l. In e l) is (in_right e front (e ∷ back) (inl refl)))
  written (suc i) front e back is = ⊎_elim
      (λ (a : IsAhead front (e ∷ back) (so_far i) (wrote i)). written_before i front e back a.between a.front a.back (λ bs q. written i front e bs q))
      (λ (a : IsAhead (so_far i) (wrote i) front (e ∷ back)).
      record { at = i; before = omega arith; part = a.between; rest = back; front_is = sym a.front; event_is = a.back })
      (two_cuts front (e ∷ back) (so_far i) (wrote i) (is ∙ one_event_more step h n i))

  -- all that an event writes has its stamp
  pub stamped : (i : ℕ) (e : Entry) → In e (wrote i) → e.stamp ≡ stamp_at (h.event n i)
  stamped i e k =
      let ev : NodeEvent Msg = h.event n i in
      let all = stamped-written noted step (λ s. s ≡ stamp_at ev) (ev ∷ []) (past noted step h n i) (refl, tt) in
      all_in (λ (x : Entry). x.stamp ≡ stamp_at ev) e (wrote i) (subst (λ (l : List Entry). AllByRecursion (λ (x : Entry). x.stamp ≡ stamp_at ev) l) (append-nil (wrote i)) all) k

  -- and so its beat
  pub beat_is : (i : ℕ) (e : Entry) → In e (wrote i) → e.stamp.beat ≡ beat h n i
  beat_is i e k = ap (λ (s : Stamp). s.beat) (stamped i e k)

  -- entries of one beat have beats that never fall
  pub level : (b : ℕ) (es : List Entry) → ((e : Entry) → In e es → e.stamp.beat ≡ b) → Rising (λ (e : Entry). e.stamp.beat) es
  level b es same = subst (Rising (λ (e : Entry). e.stamp.beat)) (append-nil es)
      (rising-append (λ (e : Entry). e.stamp.beat) b es [] (all_from (λ (e : Entry). e.stamp.beat ≡ b) es same) tt tt)

  -- the beats of a journal never fall, if those of the node's events do not
  pub rising_so_far : ((j i : ℕ) → j ≤ i → i < h.count n → beat h n j ≤ beat h n i) → (i : ℕ) → i ≤ h.count n
      → Rising (λ (e : Entry). e.stamp.beat) (so_far i)
  rising_so_far rise zero low = tt
  rising_so_far rise (suc i) low =
      subst (Rising (λ (e : Entry). e.stamp.beat)) (sym (one_event_more step h n i))
      (rising_joined (λ (e : Entry). e.stamp.beat) (so_far i) (wrote i) (rising_so_far rise i (omega arith)) (level (beat h n i) (wrote i) (beat_is i))
      (λ x y k l.
      let w = written_at step h n i x k in
      let b = w.before in
      let one = beat_is w.at x w.there in
      let two = beat_is i y l in
      let r = rise w.at i (omega arith) (omega arith) in
      omega arith))

  -- what later events have written stands behind
  pub record IsOn (i j : ℕ) : Type 0 where
    pub rest : List Entry
    pub is : so_far i ++ rest ≡ so_far j
    pub from : (e : Entry) → In e rest → (k : ℕ) × (i ≤ k) × (k < j) × In e (wrote k)

  pub so_far_on : (i j : ℕ) → i ≤ j → IsOn i j
  so_far_on i zero low = let e : i ≡ 0 = omega arith in record { rest = []; is = append-nil (so_far i) ∙ ap so_far e; from = λ f k. absurd k }
  so_far_on i (suc j) low = ⊎_elim
      (λ (e : i ≡ suc j). record { rest = []; is = append-nil (so_far i) ∙ ap so_far e; from = λ f k. absurd k })
      (λ (l : i < suc j).
      let more = so_far_on i j (omega arith) in
      record {
        rest = more.rest ++ wrote j;
        is = sym (append_assoc (so_far i) more.rest (wrote j)) ∙ ap (λ (es : List Entry). es ++ wrote j) more.is ∙ sym (one_event_more step h n j);
        from = λ e k. ⊎_elim
            (λ q. let f = more.from e q in let b = f.2 in (f.0, f.1, (let z : f.0 < suc j = omega arith in z), f.3))
            (λ q. (j, (let z : i ≤ j = omega arith in z), (let z : j < suc j = omega arith in z), q))
            (in_cases e more.rest (wrote j) k);
      })
      (eq-or-lt_of_le low)
