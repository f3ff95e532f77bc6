-- What the nodes of a ring wrote in a history is writable: what each puts out is, and what it gets was sent by another one.
use Rattle.std.proofs.Common.{◌≡◌, ℕ, zero, suc, ◌<◌, ◌≤◌, ◌==◌, ◌&&◌, nat_le, List, [], ◌∷◌, ◌++◌, map, Option, Some, None, IsTrue, refl, subst, arith, inl, inr}
use Rattle.std.specs.Prelude.{slice_get}
use Rattle.std.specs.List.{AllByRecursion}
use Rattle.std.proofs.lemmas.Bool.{and_parts, cond_both, leb-true}
use Rattle.std.proofs.lemmas.Option.{none-some}
use Rattle.tiger_base.specs.declared.number.Stamp.{Stamp}
use Rattle.tiger_base.specs.declared.number.LinkNo.{LinkNo}
use Rattle.tiger_base.specs.declared.message.Msg.{Msg}
use Rattle.tiger_base.specs.declared.message.Msg.TheVariants as msg
use Rattle.tiger_base.specs.declared.tenancy.Tag.{Tag}
use Rattle.tiger_base.specs.Limits.{most_reading, most_visit}
use Rattle.tiger_base.specs.Notes.{noted}
use Rattle.slot_plan.specs.declared.params.Params.{Params}
use Rattle.node_kit.specs.declared.journal.Entry.{Entry}
use Rattle.node_kit.specs.declared.journal.What.TheVariants as what
use Rattle.node_kit.specs.declared.outbox.Out.{Out}
use Rattle.node_kit.specs.declared.outbox.Out.TheVariants as out
use Rattle.node_kit.specs.Form.{is_tenancy, is_tag, is_in_form}
use Rattle.node_kit.specs.Outputs.{begins_lost, cut_at, ends_in_death, fewer_behind, with_death}
use Rattle.node_kit.specs.Steps.{IsAllowed, entry_of, what_of}
use Rattle.node_kit.specs.Steps.Input.{Take, Tick}
use Rattle.cub_changes.proofs.Numbers.{piece_parts}
use Rattle.run_facts.specs.Events.{NodeEvent, Past, Dated, after, after_input, after_cut, kept_outs, left_outs, outs_of, sends_of, stamp_at, entries_at}
use Rattle.run_facts.specs.Events.NodeEvent.{Does, Ends, Dies, Returns}
use Rattle.run_facts.specs.Histories.{History, IsRun, TakesAt, beat, reading, past, outs, sent, last_of}
use Rattle.ring_nodes.specs.declared.nodes.AnyNode.{AnyNode}
use Rattle.ring_nodes.specs.AllNodes.{any_step}
use Rattle.lists.proofs.Each.{all_append}
use Rattle.audit_read.specs.Writable.{IsTag, IsNote, IsWhat}
use Rattle.journal_promises.proofs.Cubs.{IsFine, AreFine, tenancy_writable, place_writable}
use Rattle.journal_promises.proofs.Nodes.{IsSteady, stays_steady, puts_fine}

-- ---- outputs

tag_writable : (p : Params) (tag : Option Tag) → IsTrue (is_tag p tag) → IsTag p tag
tag_writable p None form = tt
tag_writable p (Some t) form = place_writable p t.slot.0 t.visit form

-- a message in form that is sent is writable
note_writable : (p : Params) (link : LinkNo) (m : Msg) → IsTrue (is_in_form p (noted m)) → IsFine p (out.Send link m) → IsNote p (noted m)
note_writable p link (msg.ViewerState s) form fine =
    let parts = and_parts (is_tenancy p s.tenancy) (nat_le s.visit most_visit) form in
    let low = leb-true s.visit most_visit parts.1 in
    (tenancy_writable p s.tenancy parts.0, omega (arith, low))
note_writable p link (msg.MirrorState x) form fine =
    let parts = piece_parts p x form in
    let tenancy = tenancy_writable p x.tenancy parts.tenancy in
    let last = tenancy.2 in
    let over = parts.not_over in
    (tenancy, omega (arith, last, over))
note_writable p link (msg.Start redundant ask) form fine = fine
note_writable p link (msg.Deschedule v tag) form fine = tag_writable p tag form
note_writable p link (msg.Kill v slot visit) form fine = place_writable p slot.0 visit form
note_writable p link (msg.Placed t) form fine = tenancy_writable p t form
note_writable p link msg.Heartbeat form fine = tt
note_writable p link (msg.ReadAsk want) form fine = place_writable p want.slot.0 want.visit form
note_writable p link (msg.ReadDone want part) form fine = place_writable p want.slot.0 want.visit form
note_writable p link (msg.Whole want at part) form fine = place_writable p want.slot.0 want.visit form
note_writable p link (msg.Piece want at part) form fine = place_writable p want.slot.0 want.visit form
note_writable p link (msg.Back from) form fine = tt

abbrev IsOutWritable : Params → Out Msg → Type 0
IsOutWritable p o = IsWhat p (what_of noted o)

out_writable : (p : Params) (n : ℕ) (o : Out Msg) → IsAllowed noted p n o → IsFine p o → IsOutWritable p o
out_writable p n (out.Send link m) allowed fine = note_writable p link m allowed.1 fine
out_writable p n (out.Act w) allowed fine = fine

outs_writable : (p : Params) (n : ℕ) (os : List (Out Msg)) → AllByRecursion (IsAllowed noted p n) os → AreFine p os
    → AllByRecursion (IsOutWritable p) os
outs_writable p n [] allowed fine = tt
outs_writable p n (o ∷ os) allowed fine = (out_writable p n o allowed.0 fine.0, outs_writable p n os allowed.1 fine.1)

-- what a death leaves of outputs
pub cut_all : (P : Out Msg → Type 0) (k : ℕ) (os : List (Out Msg)) → AllByRecursion P os → AllByRecursion P (cut_at k os)
cut_all P k [] all = tt
cut_all P k (o ∷ os) all =
    cond_both ((k == 0) && begins_lost (o ∷ os)) [] (o ∷ cut_at (fewer_behind k o) os) (AllByRecursion P)
    (λ _. tt) (λ _. (all.0, cut_all P (fewer_behind k o) os all.1))

death_writable : (p : Params) (os : List (Out Msg)) → AllByRecursion (IsOutWritable p) os → AllByRecursion (IsOutWritable p) (with_death os)
death_writable p os all =
    cond_both (ends_in_death os) os (os ++ out.Act what.Died ∷ []) (AllByRecursion (IsOutWritable p))
    (λ _. all) (λ _. all_append (IsOutWritable p) os (out.Act what.Died ∷ []) all (tt, tt))

-- ---- what is written and sent of outputs

abbrev pub IsEntryWritable : Params → Entry → Type 0
IsEntryWritable p e = IsWhat p e.what

entries_writable : (p : Params) (stamp : Stamp) (os : List (Out Msg)) → AllByRecursion (IsOutWritable p) os
    → AllByRecursion (IsEntryWritable p) (map (entry_of noted stamp) os)
entries_writable p stamp [] all = tt
entries_writable p stamp (o ∷ os) all = (all.0, entries_writable p stamp os all.1)

abbrev IsSentWritable : Params → Dated Msg → Type 0
IsSentWritable p d = IsNote p (noted d.item)

sends_writable : (p : Params) (l b : ℕ) (os : List (Out Msg)) → AllByRecursion (IsOutWritable p) os
    → AllByRecursion (IsSentWritable p) (sends_of l b os)
sends_writable p l b [] all = tt
sends_writable p l b (out.Send link m ∷ os) all =
    cond_both (link.0 == l) (record { beat = b; item = m } ∷ sends_of l b os) (sends_of l b os) (AllByRecursion (IsSentWritable p))
    (λ _. (all.0, sends_writable p l b os all.1)) (λ _. sends_writable p l b os all.1)
sends_writable p l b (out.Act w ∷ os) all = sends_writable p l b os all.1

pub all_at : {X : Type 0} (P : X → Type 0) (xs : List X) (k : ℕ) (x : X) → AllByRecursion P xs → slice_get xs k ≡ Some x → P x
all_at P [] k x all at = absurd (none-some x at)
all_at P (y ∷ ys) zero x all at = let same : y ≡ x = cc in subst P same all.0
all_at P (y ∷ ys) (suc k) x all at = all_at P ys k x all.1 at

-- ---- along a history

module _ {G : Type 0} (p : Params) (h : History Msg (AnyNode G)) (nodes : ℕ) (run : IsRun noted any_step p nodes h)
    (opens : (n : ℕ) → n < nodes → IsSteady p n (h.first n))
    (short : (n i : ℕ) → n < nodes → i < h.count n → reading h n i ≤ most_reading) where
  abbrev before : ℕ → ℕ → Past (AnyNode G)
  before n i = past noted any_step h n i

  steady_after : (n : ℕ) (e : NodeEvent Msg) (q : Past (AnyNode G)) → (stamp_at e).reading ≤ most_reading → IsSteady p n q.state
      → IsSteady p n (after noted any_step e q).state
  unfolding after_input after_cut
  steady_after n (Does i) q early steady = stays_steady p n q.state i early steady
  steady_after n (Ends i sends) q early steady = stays_steady p n q.state i early steady
  steady_after n (Dies stamp) q early steady = steady
  steady_after n (Returns stamp) q early steady = steady

  pub steady : (n i : ℕ) → n < nodes → i ≤ h.count n → IsSteady p n (before n i).state
  steady n zero inside low = opens n inside
  steady n (suc i) inside low =
      steady_after n (h.event n i) (before n i) (short n i inside (omega (arith, low))) (steady n i inside (omega (arith, low)))

  fine_outs : (n : ℕ) (e : NodeEvent Msg) (q : Past (AnyNode G)) → (stamp_at e).reading ≤ most_reading → IsSteady p n q.state
      → AreFine p (outs_of any_step e q)
  unfolding kept_outs left_outs
  fine_outs n (Does i) q early steady = puts_fine p n q.state i early steady
  fine_outs n (Ends i sends) q early steady = cut_all (IsFine p) sends (any_step q.state i).outs (puts_fine p n q.state i early steady)
  fine_outs n (Dies stamp) q early steady = tt
  fine_outs n (Returns stamp) q early steady = tt

  all_outs : (n i : ℕ) → n < nodes → i < h.count n → AllByRecursion (IsOutWritable p) (outs noted any_step h n i)
  all_outs n i inside low =
      outs_writable p n (outs noted any_step h n i) (run.fair n i inside low)
      (fine_outs n (h.event n i) (before n i) (short n i inside low) (steady n i inside (omega (arith, low))))

  all_sent : (l n i : ℕ) → n < nodes → i ≤ h.count n → AllByRecursion (IsSentWritable p) (sent noted any_step l h n i)
  all_sent l n zero inside low = tt
  all_sent l n (suc i) inside low =
      all_append (IsSentWritable p) (sent noted any_step l h n i) (sends_of l (beat h n i) (outs noted any_step h n i))
      (all_sent l n i inside (omega (arith, low)))
      (sends_writable p l (beat h n i) (outs noted any_step h n i) (all_outs n i inside (omega (arith, low))))

  got : (n i : ℕ) (stamp : Stamp) (link : LinkNo) (m : Msg) → n < nodes → i < h.count n → TakesAt (h.event n i) stamp link m → IsNote p (noted m)
  got n i stamp link m inside low takes =
      let came = run.carried n i stamp link m inside low takes in
      all_at (IsSentWritable p) (sent noted any_step link.0 h came.from (h.count came.from)) _ _
      (all_sent link.0 came.from (h.count came.from) came.known (omega arith)) came.was_sent

  -- what an event writes
  wrote : (n i : ℕ) (e : NodeEvent Msg) (q : Past (AnyNode G)) → n < nodes → i < h.count n → h.event n i ≡ e
      → AllByRecursion (IsOutWritable p) (outs_of any_step e q) → AllByRecursion (IsEntryWritable p) (entries_at noted any_step e q)
  wrote n i (Does (Take stamp link m)) q inside low is all =
      (got n i stamp link m inside low (inl is), entries_writable p stamp (kept_outs any_step (Take stamp link m) q) all)
  wrote n i (Does (Tick stamp)) q inside low is all = entries_writable p stamp (kept_outs any_step (Tick stamp) q) all
  wrote n i (Ends (Take stamp link m) sends) q inside low is all =
      let left = left_outs any_step (Take stamp link m) sends q in
      (got n i stamp link m inside low (inr (sends, is)), entries_writable p stamp (with_death left) (death_writable p left all))
  wrote n i (Ends (Tick stamp) sends) q inside low is all =
      let left = left_outs any_step (Tick stamp) sends q in
      entries_writable p stamp (with_death left) (death_writable p left all)
  wrote n i (Dies stamp) q inside low is all = (tt, tt)
  wrote n i (Returns stamp) q inside low is all = tt

  -- a journal behind an event
  longer : (e : NodeEvent Msg) (q : Past (AnyNode G)) → AllByRecursion (IsEntryWritable p) q.journal
      → AllByRecursion (IsEntryWritable p) (entries_at noted any_step e q) → AllByRecursion (IsEntryWritable p) (after noted any_step e q).journal
  unfolding after_input after_cut
  longer (Does i) q old new = all_append (IsEntryWritable p) q.journal _ old new
  longer (Ends i sends) q old new = all_append (IsEntryWritable p) q.journal _ old new
  longer (Dies stamp) q old new = all_append (IsEntryWritable p) q.journal _ old new
  longer (Returns stamp) q old new = old

  so_far : (n i : ℕ) → n < nodes → i ≤ h.count n → AllByRecursion (IsEntryWritable p) (before n i).journal
  so_far n zero inside low = tt
  so_far n (suc i) inside low =
      longer (h.event n i) (before n i) (so_far n i inside (omega (arith, low)))
      (wrote n i (h.event n i) (before n i) inside (omega (arith, low)) refl (all_outs n i inside (omega (arith, low))))

  pub journal_writable : (n : ℕ) → n < nodes → AllByRecursion (IsEntryWritable p) (last_of noted any_step h n).journal
  journal_writable n inside = so_far n (h.count n) inside (omega arith)
