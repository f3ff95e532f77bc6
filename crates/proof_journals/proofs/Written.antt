-- What the entries of a cub's journal say that it did, and in which of its events.
use Rattle.std.proofs.Common.{◌≡◌, ℕ, zero, suc, true, ◌<◌, ◌≤◌, List, [], ◌∷◌, ◌++◌, map, refl, sym, ap, subst, ◌∙◌, arith, ⊎_elim, append-nil, eq-or-lt_of_le}
use Rattle.std.specs.List.{AllByRecursion}
use Rattle.tiger_base.specs.declared.number.LinkNo.{LinkNo}
use Rattle.tiger_base.specs.declared.number.Stamp.{Stamp}
use Rattle.tiger_base.specs.declared.message.Msg.{Msg}
use Rattle.tiger_base.specs.declared.message.Note.{Note}
use Rattle.tiger_base.specs.Notes.{noted}
use Rattle.slot_plan.specs.declared.params.Params.{Params}
use Rattle.node_kit.specs.declared.journal.What.{What}
use Rattle.node_kit.specs.declared.journal.What.TheVariants as what
use Rattle.node_kit.specs.declared.journal.Entry.{Entry}
use Rattle.node_kit.specs.declared.outbox.Out.{Out}
use Rattle.node_kit.specs.declared.outbox.Out.TheVariants as out
use Rattle.node_kit.specs.Steps.{Deed, Input, IsAllowed, IsOwnEntry, what_of, entry_of}
use Rattle.node_kit.specs.Steps.Input.{Take, Tick}
use Rattle.run_facts.specs.Events.{NodeEvent, Past, outs_of, stamp_at, entries_at}
use Rattle.run_facts.specs.Events.NodeEvent.{Does, Ends, Dies, Returns}
use Rattle.run_facts.specs.Histories.{History, past}
use Rattle.run_facts.proofs.Along.{journal-after}
use Rattle.lists.specs.Elements.{In}
use Rattle.proof_lives.specs.Histories.{input_of, has_input}
use Rattle.proof_journals.proofs.Lists.{moved}
use Rattle.proof_journals.proofs.Wrote.{got_at, got_in, died_in, sent_in, entries_are, got_not_own, died_not_own, died_not_got, one_of}
use Rattle.run_facts.proofs.Journals.{is_got}
use Rattle.std.proofs.lemmas.Bool.{true≢false}
use Rattle.lists.proofs.Elements.{in_left, in_right, in_cases, in_map, from_map}
use Rattle.lists.proofs.Each.{all_in}

-- an output that is written as an entry of the node's own is that entry
pub acted : (o : Out Msg) (w : What) → IsOwnEntry w → what_of noted o ≡ w → o ≡ out.Act w
acted (out.Send link m) w own q = absurd (subst IsOwnEntry (sym q) own)
acted (out.Act v) w own q = ap (λ (x : What). out.Act x) q

pub outs_written : (stamp : Stamp) (os : List (Out Msg)) (e : Entry) (w : What) → IsOwnEntry w → In e (map (entry_of noted stamp) os) → e.what ≡ w
    → In (out.Act w) os × (e.stamp ≡ stamp)
outs_written stamp os e w own i is =
    let r = from_map (entry_of noted stamp) e os i in
    let o : r.0 ≡ out.Act w = acted r.0 w own (ap (λ (x : Entry). x.what) (sym r.2) ∙ is) in
    (subst (λ (x : Out Msg). In x os) o r.1, ap (λ (x : Entry). x.stamp) r.2)

-- no output is written as a message that was got
pub no_got : (p : Params) (c : ℕ) (o : Out Msg) (link : LinkNo) (n : Note) → IsAllowed noted p c o → what_of noted o ≡ what.Got link n → ⊥
no_got p c (out.Send way m) link n fair q = absurd (cc)
no_got p c (out.Act w) link n fair q = subst IsOwnEntry q fair

pub none_got : (p : Params) (c : ℕ) (stamp : Stamp) (os : List (Out Msg)) (e : Entry) (link : LinkNo) (n : Note) → AllByRecursion (IsAllowed noted p c) os → In e (map (entry_of noted stamp) os)
    → e.what ≡ what.Got link n → ⊥
none_got p c stamp os e link n fair i is =
    let r = from_map (entry_of noted stamp) e os i in
    no_got p c r.0 link n (all_in (IsAllowed noted p c) r.0 os fair r.1) (ap (λ (x : Entry). x.what) (sym r.2) ∙ is)

-- an event at which a message is taken has that for its input
take_input : (ev : NodeEvent Msg) (stamp : Stamp) (link : LinkNo) (m : Msg) → input_of ev ≡ Take stamp link m → has_input ev ≡ true
take_input (Does i) stamp link m e = refl
take_input (Ends i sends) stamp link m e = refl
take_input (Dies t) stamp link m e = absurd (cc)
take_input (Returns t) stamp link m e = absurd (cc)

module _ {S : Type 0} (step : S → Input Msg → Deed Msg S) where
  -- an entry of the node's own that an event writes is one of its outputs
  pub event_wrote : (p : Params) (n : ℕ) (ev : NodeEvent Msg) (before : Past S) (e : Entry) (w : What)
      → AllByRecursion (IsAllowed noted p n) (outs_of step ev before) → IsOwnEntry w
      → In e (entries_at noted step ev before) → e.what ≡ w
      → In (out.Act w) (outs_of step ev before) × (e.stamp ≡ stamp_at ev)
  event_wrote p n ev before e w fair own i is = ⊎_elim
      (λ k. absurd (got_not_own (input_of ev) e w k is own))
      (λ o. ⊎_elim
      (λ k. outs_written (stamp_at ev) (outs_of step ev before) e w own k is)
      (λ k. absurd (died_not_own ev e w k is own))
      o)
      (one_of step p n ev before e fair i)

  -- an entry was written in one of the node's first events
  pub record WrittenAt (h : History Msg S) (n i : ℕ) (e : Entry) : Type 0 where
    pub at : ℕ
    pub before : at < i
    pub there : In e (entries_at noted step (h.event n at) (past noted step h n at))

  pub one_event_more : (h : History Msg S) (n i : ℕ) → (past noted step h n (suc i)).journal ≡ (past noted step h n i).journal ++ entries_at noted step (h.event n i) (past noted step h n i)
  one_event_more h n i =
      let before : Past S = past noted step h n i in
      journal-after noted step (h.event n i ∷ []) before ∙ ap (λ (es : List Entry). before.journal ++ es) (append-nil (entries_at noted step (h.event n i) before))

  pub written_at : (h : History Msg S) (n i : ℕ) (e : Entry) → In e (past noted step h n i).journal → WrittenAt h n i e
  written_at h n zero e k = absurd k
  written_at h n (suc i) e k = ⊎_elim
      (λ q. let r = written_at h n i e q in let b = r.before in record { at = r.at; before = omega arith; there = r.there })
      (λ q. record { at = i; before = omega arith; there = q })
      (in_cases e (past noted step h n i).journal (entries_at noted step (h.event n i) (past noted step h n i)) (subst (λ (es : List Entry). In e es) (one_event_more h n i) k))

  -- and each output of an event is written
  pub event_writes : (p : Params) (n : ℕ) (ev : NodeEvent Msg) (before : Past S) (o : Out Msg)
      → AllByRecursion (IsAllowed noted p n) (outs_of step ev before)
      → In o (outs_of step ev before) → In (entry_of noted (stamp_at ev) o) (entries_at noted step ev before)
  event_writes p n ev before o fair k =
      let e : Entry = entry_of noted (stamp_at ev) o in
      moved e (sym (entries_are step p n ev before fair))
      (in_right e (got_in ev) _ (in_left e (sent_in step ev before) (died_in ev)
      (in_map (entry_of noted (stamp_at ev)) o (outs_of step ev before) k)))

  pub journal_keeps : (h : History Msg S) (n i j : ℕ) (e : Entry) → i < j → In e (entries_at noted step (h.event n i) (past noted step h n i)) → In e (past noted step h n j).journal
  journal_keeps h n i zero e l k = absurd (omega arith)
  journal_keeps h n i (suc j) e l k =
      let old : List Entry = (past noted step h n j).journal in
      let new : List Entry = entries_at noted step (h.event n j) (past noted step h n j) in
      subst (λ (es : List Entry). In e es) (sym (one_event_more h n j)) (⊎_elim
      (λ (q : i ≡ j). in_right e old new (subst (λ m. In e (entries_at noted step (h.event n m) (past noted step h n m))) q k))
      (λ (g : i < j). in_left e old new (journal_keeps h n i j e g k))
      (eq-or-lt_of_le (let z : i ≤ j = omega arith in z)))

  pub out_written : (p : Params) (h : History Msg S) (n i : ℕ) (o : Out Msg) → i < h.count n
      → AllByRecursion (IsAllowed noted p n) (outs_of step (h.event n i) (past noted step h n i))
      → In o (outs_of step (h.event n i) (past noted step h n i))
      → In (entry_of noted (stamp_at (h.event n i)) o) (past noted step h n (h.count n)).journal
  out_written p h n i o low fair k =
      journal_keeps h n i (h.count n) (entry_of noted (stamp_at (h.event n i)) o) low
      (event_writes p n (h.event n i) (past noted step h n i) o fair k)

  -- a message that was got was taken in the event that wrote so
  pub record TookIn (ev : NodeEvent Msg) (e : Entry) (link : LinkNo) (n : Note) : Type 0 where
    pub message : Msg
    pub input : has_input ev ≡ true
    pub is : input_of ev ≡ Take e.stamp link message
    pub same : noted message ≡ n

  got_taken : (ev : NodeEvent Msg) (i : Input Msg) (e : Entry) (link : LinkNo) (n : Note) → input_of ev ≡ i → In e (got_at i)
      → e.what ≡ what.Got link n → TookIn ev e link n
  got_taken ev (Take stamp way m) e link n input k is = ⊎_elim
      (λ q.
      let both : what.Got way (noted m) ≡ what.Got link n = ap (λ (x : Entry). x.what) (sym q) ∙ is in
      let ways : way ≡ link = cc in
      let notes : noted m ≡ n = cc in
      let when : stamp ≡ e.stamp = ap (λ (x : Entry). x.stamp) (sym q) in
      record {
        message = m;
        input = take_input ev stamp way m input;
        is = input ∙ ap (λ (s : Stamp). Take s way m) when ∙ ap (λ (l : LinkNo). Take e.stamp l m) ways;
        same = notes;
      })
      (λ q. absurd q)
      k
  got_taken ev (Tick stamp) e link n input k is = absurd k

  pub event_took : (p : Params) (c : ℕ) (ev : NodeEvent Msg) (before : Past S) (e : Entry) (link : LinkNo) (n : Note)
      → AllByRecursion (IsAllowed noted p c) (outs_of step ev before) → In e (entries_at noted step ev before) → e.what ≡ what.Got link n → TookIn ev e link n
  event_took p c ev before e link n fair i is = ⊎_elim
      (λ k. got_taken ev (input_of ev) e link n refl k is)
      (λ o. ⊎_elim
      (λ k. absurd (none_got p c (stamp_at ev) (outs_of step ev before) e link n fair k is))
      (λ k. absurd (true≢false (sym (ap is_got is) ∙ died_not_got ev e k)))
      o)
      (one_of step p c ev before e fair i)
