-- Which output an entry of a sent message tells of, and which entry an output has; and where the entries of later
-- events stand.
use Rattle.std.proofs.Common.{◌≡◌, ℕ, zero, suc, ◌<◌, ◌≤◌, List, [], ◌∷◌, ◌++◌, map, true, refl, sym, ap, subst, ◌∙◌, arith, ⊎_elim, inl, append_assoc, eq-or-lt_of_le}
use Rattle.std.proofs.lemmas.Bool.{true≢false}
use Rattle.std.specs.List.{AllByRecursion}
use Rattle.tiger_base.specs.declared.number.LinkNo.{LinkNo}
use Rattle.tiger_base.specs.declared.number.Stamp.{Stamp}
use Rattle.tiger_base.specs.declared.tenancy.Want.{Want}
use Rattle.tiger_base.specs.declared.part.Span.{Span}
use Rattle.tiger_base.specs.Span.{LibraryPart}
use Rattle.tiger_base.specs.declared.message.Msg.{Msg}
use Rattle.tiger_base.specs.declared.message.Msg.TheVariants as msg
use Rattle.tiger_base.specs.declared.message.Note.{Note}
use Rattle.tiger_base.specs.declared.message.Note.TheVariants as note
use Rattle.tiger_base.specs.Notes.{noted}
use Rattle.slot_plan.specs.declared.params.Params.{Params}
use Rattle.node_kit.specs.declared.journal.Entry.{Entry}
use Rattle.node_kit.specs.declared.journal.What.TheVariants as what
use Rattle.node_kit.specs.declared.outbox.Out.{Out}
use Rattle.node_kit.specs.declared.outbox.Out.TheVariants as out
use Rattle.node_kit.specs.Outputs.{with_death}
use Rattle.node_kit.specs.Steps.{Deed, Input, IsAllowed, IsOwnEntry, what_of, entry_of, entries_of}
use Rattle.node_kit.specs.Steps.Input.{Take}
use Rattle.run_facts.specs.Events.{NodeEvent, Past, entries_at, kept_outs, left_outs, outs_of, stamp_at}
use Rattle.run_facts.specs.Events.NodeEvent.{Does, Ends, Dies, Returns}
use Rattle.run_facts.specs.Histories.{History, outs, past, last_of}
use Rattle.run_facts.proofs.Journals.{is_got}
use Rattle.disk_core.specs.State.{DiskState}
use Rattle.node_kit.specs.declared.course.Order.{Order}
use Rattle.lists.specs.Elements.{In}
use Rattle.lists.proofs.Elements.{in_left, in_right, in_map, from_map}
use Rattle.lists.proofs.Each.{all_in}
use Rattle.proof_journals.proofs.Written.{journal_keeps, one_event_more}
use Rattle.proof_journals.proofs.Journals.{so_far, wrote}
use Rattle.proof_journals.proofs.Lists.{moved}
use Rattle.proof_journals.proofs.Wrote.{got_in, died_in, sent_in as entries_sent, entries_are, got_is, died_is, one_of}
use Rattle.proof_moments.specs.Ties.{StandsIn}
use Rattle.proof_facts.specs.Beside.{Additions}
use Rattle.proof_facts.specs.Rings.{node_count}
use Rattle.proof_lives.specs.Histories.{input_of, has_input}
use Rattle.proof_journals.proofs.Events.{AreKept, fair, written_in}

-- ---- messages by their notes

pub ask_back : (m : Msg) (w : Want) → noted m ≡ note.ReadAsk w → m ≡ msg.ReadAsk w
ask_back (msg.ReadAsk v) w e = let q : v ≡ w = cc in ap (λ (z : Want). msg.ReadAsk z) q
ask_back other w e = absurd (cc)

pub whole_back : (m : Msg) (w : Want) (sent : ℕ) (span : Span) → noted m ≡ note.Whole w sent span
    → (part : LibraryPart) × (m ≡ msg.Whole w sent part) × (part.span ≡ span)
whole_back (msg.Whole v s part) w sent span e =
    let q : v ≡ w = cc in
    let r : s ≡ sent = cc in
    let z : part.span ≡ span = cc in
    (part, ap (λ (y : Want). msg.Whole y s part) q ∙ ap (λ (y : ℕ). msg.Whole w y part) r, z)
whole_back other w sent span e = absurd (cc)

pub piece_back : (m : Msg) (w : Want) (sent : ℕ) (span : Span) → noted m ≡ note.Piece w sent span
    → (part : LibraryPart) × (m ≡ msg.Piece w sent part) × (part.span ≡ span)
piece_back (msg.Piece v s part) w sent span e =
    let q : v ≡ w = cc in
    let r : s ≡ sent = cc in
    let z : part.span ≡ span = cc in
    (part, ap (λ (y : Want). msg.Piece y s part) q ∙ ap (λ (y : ℕ). msg.Piece w y part) r, z)
piece_back other w sent span e = absurd (cc)

-- ---- one event

-- an output that is written as a message that was sent is that message
send_is : (p : Params) (n : ℕ) (o : Out Msg) (link : LinkNo) (m : Note) → IsAllowed noted p n o
    → what_of noted o ≡ what.Sent link m
    → (x : Msg) × (noted x ≡ m) × (o ≡ out.Send link x)
send_is p n (out.Send way x) link m fair e =
    let ways : way ≡ link = cc in
    let notes : noted x ≡ m = cc in
    (x, notes, ap (λ (l : LinkNo). out.Send l x) ways)
send_is p n (out.Act w) link m fair e = absurd (subst IsOwnEntry e fair)

-- a message that was sent, as an output
pub record IsSend (outs : List (Out Msg)) (link : LinkNo) (m : Note) : Type 0 where
  pub message : Msg
  pub same : noted message ≡ m
  pub sent : In (out.Send link message) outs

outs_sent : (p : Params) (n : ℕ) (stamp : Stamp) (os : List (Out Msg)) (e : Entry) (link : LinkNo) (m : Note)
    → AllByRecursion (IsAllowed noted p n) os
    → In e (map (entry_of noted stamp) os) → e.what ≡ what.Sent link m → IsSend os link m
outs_sent p n stamp os e link m fair i is =
    let r = from_map (entry_of noted stamp) e os i in
    let k = send_is p n r.0 link m (all_in (IsAllowed noted p n) r.0 os fair r.1) (ap (λ (x : Entry). x.what)
    (sym r.2) ∙ is) in
    record { message = k.0; same = k.1; sent = subst (λ (x : Out Msg). In x os) k.2 r.1 }

-- ---- later events

-- an entry of a journal has another behind it
pub record StandsBehind (j : List Entry) (e f : Entry) : Type 0 where
  pub before : List Entry
  pub behind : List Entry
  pub is : j ≡ before ++ e ∷ behind
  pub there : In f behind

pub behind_more : (j more : List Entry) (e f : Entry) → StandsBehind j e f → StandsBehind (j ++ more) e f
behind_more j more e f b = record {
  before = b.before;
  behind = b.behind ++ more;
  is = ap (λ (l : List Entry). l ++ more) b.is ∙ append_assoc b.before (e ∷ b.behind) more;
  there = in_left f b.behind more b.there;
}

pub behind_front : (front j : List Entry) (e f : Entry) → StandsBehind j e f → StandsBehind (front ++ j) e f
behind_front front j e f b = record {
  before = front ++ b.before;
  behind = b.behind;
  is = ap (λ (l : List Entry). front ++ l) b.is ∙ sym (append_assoc front b.before (e ∷ b.behind));
  there = b.there;
}

cut_of : (e : Entry) (xs : List Entry) → In e xs → (front : List Entry) × (back : List Entry) × (xs ≡ front ++ e ∷ back)
cut_of e [] i = absurd i
cut_of e (x ∷ xs) i = ⊎_elim
    (λ (q : e ≡ x). ([], xs, ap (λ (z : Entry). z ∷ xs) (sym q)))
    (λ k. let r = cut_of e xs k in (x ∷ r.0, r.1, ap (λ (l : List Entry). x ∷ l) r.2))
    i

behind_here : (j more : List Entry) (e f : Entry) → In e j → In f more → StandsBehind (j ++ more) e f
behind_here j more e f i k =
    let c = cut_of e j i in
    record {
      before = c.0;
      behind = c.1 ++ more;
      is = ap (λ (l : List Entry). l ++ more) c.2 ∙ append_assoc c.0 (e ∷ c.1) more;
      there = in_right f c.1 more k;
    }

module _ {S : Type 0} (step : S → Input Msg → Deed Msg S) where
  pub event_sent : (p : Params) (n : ℕ) (ev : NodeEvent Msg) (before : Past S) (e : Entry) (link : LinkNo)
      (m : Note) → AllByRecursion (IsAllowed noted p n) (outs_of step ev before)
      → In e (entries_at noted step ev before) → e.what ≡ what.Sent link m → IsSend (outs_of step ev before) link m
  event_sent p n ev before e link m fair i is = ⊎_elim
      (λ k. absurd (true≢false (sym (got_is (input_of ev) e k) ∙ ap is_got is)))
      (λ o. ⊎_elim
      (λ k. outs_sent p n (stamp_at ev) (outs_of step ev before) e link m fair k is)
      (λ k. let both : what.Died ≡ what.Sent link m = ap (λ (x : Entry). x.what) (sym (died_is ev e k).0)
      ∙ is in absurd (cc))
      o)
      (one_of step p n ev before e fair i)

  pub event_writes_out : (p : Params) (n : ℕ) (ev : NodeEvent Msg) (before : Past S) (o : Out Msg)
      → AllByRecursion (IsAllowed noted p n) (outs_of step ev before) → In o (outs_of step ev before)
      → In (entry_of noted (stamp_at ev) o) (entries_at noted step ev before)
  event_writes_out p n ev before o fair k =
      let e : Entry = entry_of noted (stamp_at ev) o in
      moved e (sym (entries_are step p n ev before fair))
      (in_right e (got_in ev) _ (in_left e (entries_sent step ev before) (died_in ev)
      (in_map (entry_of noted (stamp_at ev)) o (outs_of step ev before) k)))

  -- what a node took it wrote
  pub event_writes_got : (ev : NodeEvent Msg) (before : Past S) (stamp : Stamp) (link : LinkNo) (m : Msg)
      → has_input ev ≡ true → input_of ev ≡ Take stamp link m
      → In (record { stamp = stamp; what = what.Got link (noted m) }) (entries_at noted step ev before)
  event_writes_got (Does i) before stamp link m acts e =
      subst (λ (k : Input Msg). In (record { stamp = stamp; what = what.Got link (noted m) })
      (entries_of noted k (kept_outs step i before))) (sym e) (inl refl)
  event_writes_got (Ends i sends) before stamp link m acts e =
      subst (λ (k : Input Msg). In (record { stamp = stamp; what = what.Got link (noted m) })
      (entries_of noted k (with_death (left_outs step i sends before)))) (sym e) (inl refl)
  event_writes_got (Dies now) before stamp link m acts e = absurd (cc)
  event_writes_got (Returns now) before stamp link m acts e = absurd (cc)

  module _ (h : History Msg S) (n : ℕ) where
    -- what a later event wrote stands behind
    pub later_behind : (i k j : ℕ) (e f : Entry) → i < k → k < j → In e (wrote step h n i) → In f (wrote step h n k)
        → StandsBehind (so_far step h n j) e f
    later_behind i k zero e f first second x y = absurd (omega arith)
    later_behind i k (suc j) e f first second x y = subst (λ (l : List Entry). StandsBehind l e f)
        (sym (one_event_more step h n j)) (⊎_elim
        (λ (q : k ≡ j). behind_here (so_far step h n j) (wrote step h n j) e f (journal_keeps step h n i j e
        (omega arith) x) (subst (λ (m : ℕ). In f (wrote step h n m)) q y))
        (λ (l : k < j). behind_more (so_far step h n j) (wrote step h n j) e f (later_behind i k j e f first l x y))
        (eq-or-lt_of_le (let z : k ≤ j = omega arith in z)))

    -- and so does what the same event wrote behind
    pub same_behind : (i j : ℕ) (e f : Entry) → i < j → StandsBehind (wrote step h n i) e f
        → StandsBehind (so_far step h n j) e f
    same_behind i zero e f low b = absurd (omega arith)
    same_behind i (suc j) e f low b = subst (λ (l : List Entry). StandsBehind l e f)
        (sym (one_event_more step h n j)) (⊎_elim
        (λ (q : i ≡ j). behind_front (so_far step h n j) (wrote step h n j) e f
        (subst (λ (m : ℕ). StandsBehind (wrote step h n m) e f) q b))
        (λ (l : i < j). behind_more (so_far step h n j) (wrote step h n j) e f (same_behind i j e f l b))
        (eq-or-lt_of_le (let z : i ≤ j = omega arith in z)))

-- ---- a ring

module _ {S : Type 0} {step : S → Input Msg → Deed Msg S} {p : Params} {orders : List Order} {disk_at : ℕ
    → DiskState} {added : Additions} {h : History Msg S} {journals : List (List Entry)}
    (kept : AreKept step p orders disk_at added h journals) where
  -- a message that an entry says was sent was put out in an event of its node
  pub record SentIn (n : ℕ) (e : Entry) (link : LinkNo) (m : Note) : Type 0 where
    pub known : n < node_count p
    pub at : ℕ
    pub done : at < h.count n
    pub there : In e (wrote step h n at)
    pub send : IsSend (outs noted step h n at) link m

  pub sent_in : (n : ℕ) (e : Entry) (link : LinkNo) (m : Note) → StandsIn journals n e → e.what ≡ what.Sent link m
      → SentIn n e link m
  sent_in n e link m s is =
      let w = written_in kept n e s in
      record {
        known = w.0;
        at = w.1.at;
        done = w.1.before;
        there = w.1.there;
        send = event_sent step p n (h.event n w.1.at) (past noted step h n w.1.at) e link m
            (fair kept n w.1.at w.0 w.1.before) w.1.there is;
      }

  -- what an event wrote stands in the journal
  pub stands_written : (n i : ℕ) (e : Entry) → n < node_count p → i < h.count n → In e (wrote step h n i)
      → StandsIn journals n e
  stands_written n i e known low k = record {
    journal = (last_of noted step h n).journal;
    at = kept.are.writes n known;
    there = journal_keeps step h n i (h.count n) e low k;
  }

  pub stands_out : (n i : ℕ) (o : Out Msg) → n < node_count p → i < h.count n → In o (outs noted step h n i)
      → StandsIn journals n (entry_of noted (stamp_at (h.event n i)) o)
  stands_out n i o known low k = stands_written n i (entry_of noted (stamp_at (h.event n i)) o) known low
      (event_writes_out step p n (h.event n i) (past noted step h n i) o (fair kept n i known low) k)
