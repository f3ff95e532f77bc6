-- What the links bring to the viewers: what came was sent, what was sent in time came, and what came twice was sent
-- twice.
use Rattle.std.proofs.Common.{◌≡◌, ℕ, zero, suc, ◌+◌, ◌<◌, ◌≤◌, List, [], ◌∷◌, ◌++◌, map, Bool, true, false, cond, Some, refl, sym, ap, subst, ◌∙◌, arith, ⊎_elim, inl, eq-or-lt_of_le}
use Rattle.std.specs.Prelude.{◌==◌, slice_get}
use Rattle.std.specs.List.{AllByRecursion}
use Rattle.std.proofs.lemmas.Bool.{cases_lt, eqb-true, eq-eqb}
use Rattle.std.proofs.lemmas.List.{map-append}
use Rattle.std.proofs.lemmas.Option.{none-some}
use Rattle.tiger_base.specs.declared.number.LinkNo.{LinkNo}
use Rattle.tiger_base.specs.declared.number.Stamp.{Stamp}
use Rattle.tiger_base.specs.declared.message.Msg.{Msg}
use Rattle.tiger_base.specs.declared.message.Note.{Note}
use Rattle.tiger_base.specs.Notes.{noted}
use Rattle.slot_plan.specs.declared.params.Params.{Params}
use Rattle.node_kit.specs.declared.course.Order.{Order}
use Rattle.node_kit.specs.declared.journal.Entry.{Entry}
use Rattle.node_kit.specs.declared.journal.What.TheVariants as what
use Rattle.node_kit.specs.declared.outbox.Out.{Out}
use Rattle.node_kit.specs.declared.outbox.Out.TheVariants as out
use Rattle.node_kit.specs.Links.{links_of, ends_of}
use Rattle.node_kit.specs.Steps.{Deed, Input, IsAllowed, entry_of, entries_of}
use Rattle.node_kit.specs.Steps.Input.{Take}
use Rattle.run_facts.specs.Events.{NodeEvent, Past, Dated, entries_at, kept_outs, outs_of, sends_of, stamp_at, is_input_on, is_take_on, is_death, is_return}
use Rattle.run_facts.specs.Events.NodeEvent.{Does, Ends, Dies, Returns}
use Rattle.run_facts.specs.Histories.{History, outs, past, beat, place}
use Rattle.disk_core.specs.State.{DiskState}
use Rattle.lists.specs.Elements.{In}
use Rattle.proof_lives.specs.Histories.{input_of, has_input}
use Rattle.proof_lives.proofs.Carrying.{same_dated, same_ends, sends_in}
use Rattle.proof_lives.proofs.Numbers.{places_rise}
use Rattle.proof_lives.specs.TwoLifeRun.WhichLife.{First}
use Rattle.lists.proofs.Elements.{chosen, in_map, in_right}
use Rattle.proof_journals.proofs.Written.{event_took}
use Rattle.proof_journals.proofs.Journals.{so_far, wrote, stamped}
use Rattle.proof_moments.specs.Ties.{StandsIn}
use Rattle.proof_facts.specs.Beside.{Additions}
use Rattle.proof_facts.specs.Lives.{acting}
use Rattle.proof_facts.specs.Rings.{IsUpTo, node_count}
use Rattle.proof_links.proofs.Carrying.{Came, came_from, SentAs, sent_as, number_of, numbers_rise, delivered}
use Rattle.proof_links.proofs.Nodes.{immortal, is_up, lives_on}
use Rattle.proof_journals.proofs.Events.{AreKept, event_of_life, fair, written_in}
use Rattle.proof_journals.proofs.Lists.{none_more}
use Rattle.proof_journals.proofs.Cutting.{cut_at_entry}
use Rattle.proof_journals.proofs.Wrote.{got_in, died_in, sent_in as entries_sent, entries_are}
use Rattle.proof_moments.specs.ParcelTies.{viewers, WasSentOn, IsGotOn, IsSentTwice, ViewersGet}
use Rattle.proof_parcels.proofs.Entries.{behind_front, behind_more, sent_in, stands_out, stands_written, event_writes_got, event_writes_out, StandsBehind, later_behind, same_behind}

-- two messages that are sent on a link in one event, one after the other
pub record SentBehind (outs : List (Out Msg)) (link : LinkNo) (m o : Msg) : Type 0 where
  pub front : List (Out Msg)
  pub back : List (Out Msg)
  pub is : outs ≡ front ++ out.Send link m ∷ back
  pub there : In (out.Send link o) back

one_before : (x : Out Msg) (outs : List (Out Msg)) (link : LinkNo) (m o : Msg) → SentBehind outs link m o
    → SentBehind (x ∷ outs) link m o
one_before x outs link m o s = record {
  front = x ∷ s.front;
  back = s.back;
  is = ap (λ (l : List (Out Msg)). x ∷ l)
      s.is;
  there = s.there;
}

link_same : (a b : LinkNo) → a.0 ≡ b.0 → a ≡ b
link_same a b e = ap (λ (n : ℕ). record { 0 = n }) e

-- the first of two places is that of the first message, or both are behind it
pair_here : (b : ℕ) (way : LinkNo) (n : Msg) (os : List (Out Msg)) (link : LinkNo) (m o : Msg) → way.0 ≡ link.0
    → ((i k : ℕ) → i < k → slice_get (sends_of link.0 b os) i ≡ Some (record { beat = b; item = m })
    → slice_get (sends_of link.0 b os) k ≡ Some (record { beat = b; item = o }) → SentBehind os link m o)
    → (i k : ℕ) → i < k → slice_get (record { beat = b; item = n } ∷ sends_of link.0 b os) i ≡ Some
    (record { beat = b; item = m })
    → slice_get (record { beat = b; item = n } ∷ sends_of link.0 b os) k ≡ Some (record { beat = b; item = o })
    → SentBehind (out.Send way n ∷ os) link m o
pair_here b way n os link m o same more zero zero low x y = absurd (omega arith)
pair_here b way n os link m o same more zero (suc k) low x y =
    let first : record { beat = b; item = n } ≡ record { beat = b; item = m } = same_dated
    (record { beat = b; item = n }) (record { beat = b; item = m }) x in
    let message : n ≡ m = ap (λ (d : Dated Msg). d.item) first in
    let r = sends_in link.0 b os (record { beat = b; item = o }) k y in
    record {
      front = [];
      back = os;
      is = ap (λ (l : LinkNo). out.Send l n ∷ os) (link_same way link same) ∙ ap (λ (z : Msg). out.Send link z ∷ os)
          message;
      there = subst (λ (l : LinkNo). In (out.Send l o) os) (link_same r.0 link r.1) r.2;
    }
pair_here b way n os link m o same more (suc i) zero low x y = absurd (omega arith)
pair_here b way n os link m o same more (suc i) (suc k) low x y = one_before (out.Send way n) os link m o
    (more i k (omega arith) x y)

pair_sent : (b : ℕ) (os : List (Out Msg)) (link : LinkNo) (m o : Msg) (i k : ℕ) → i < k
    → slice_get (sends_of link.0 b os) i ≡ Some (record { beat = b; item = m })
    → slice_get (sends_of link.0 b os) k ≡ Some (record { beat = b; item = o }) → SentBehind os link m o
pair_sent b [] link m o i k low x y = absurd (none-some _ x)
pair_sent b (out.Act w ∷ os) link m o i k low x y = one_before (out.Act w) os link m o
    (pair_sent b os link m o i k low x y)
pair_sent b (out.Send way n ∷ os) link m o i k low x y =
    chosen (λ (ds : List (Dated Msg)). slice_get ds i ≡ Some (record { beat = b; item = m })
    → slice_get ds k ≡ Some (record { beat = b; item = o }) → SentBehind (out.Send way n ∷ os) link m o)
    (way.0 == link.0) (record { beat = b; item = n } ∷ sends_of link.0 b os) (sends_of link.0 b os)
    (λ t first second. pair_here b way n os link m o (eqb-true _ _ t) (λ j l less p q. pair_sent b os link m o j l
    less p q) i k low first second)
    (λ _ first second. one_before (out.Send way n) os link m o (pair_sent b os link m o i k low first second))
    x y

-- ---- what an event writes

mapped_behind : (stamp : Stamp) (outs : List (Out Msg)) (link : LinkNo) (m o : Msg) → SentBehind outs link m o
    → StandsBehind (map (entry_of noted stamp) outs) (entry_of noted stamp (out.Send link m))
    (entry_of noted stamp (out.Send link o))
mapped_behind stamp outs link m o s = record {
  before = map (entry_of noted stamp) s.front;
  behind = map (entry_of noted stamp) s.back;
  is = ap (map (entry_of noted stamp)) s.is ∙ map-append (entry_of noted stamp) s.front (out.Send link m ∷ s.back);
  there = (in_map (entry_of noted stamp) (out.Send link o) s.back
      s.there);
}

-- a message is taken on a link in an event, if that is its input
take_same : (l : ℕ) (ev : NodeEvent Msg) → has_input ev ≡ true → is_take_on l ev ≡ is_input_on l (input_of ev)
take_same l (Does i) acts = refl
take_same l (Ends i sends) acts = refl
take_same l (Dies stamp) acts = absurd (cc)
take_same l (Returns stamp) acts = absurd (cc)

-- an event with an input is no return
acts_here : (ev : NodeEvent Msg) → has_input ev ≡ true → is_return ev ≡ false
acts_here (Does i) acts = refl
acts_here (Ends i sends) acts = refl
acts_here (Dies stamp) acts = absurd (cc)
acts_here (Returns stamp) acts = absurd (cc)

module _ {S : Type 0} (step : S → Input Msg → Deed Msg S) where
  event_behind : (p : Params) (n : ℕ) (ev : NodeEvent Msg) (before : Past S) (link : LinkNo) (m o : Msg)
      → AllByRecursion (IsAllowed noted p n) (outs_of step ev before) → SentBehind (outs_of step ev before) link m o
      → StandsBehind (entries_at noted step ev before) (entry_of noted (stamp_at ev) (out.Send link m))
      (entry_of noted (stamp_at ev) (out.Send link o))
  event_behind p n ev before link m o fair s =
      let e : Entry = entry_of noted (stamp_at ev) (out.Send link m) in
      let f : Entry = entry_of noted (stamp_at ev) (out.Send link o) in
      subst (λ (l : List Entry). StandsBehind l e f) (sym (entries_are step p n ev before fair))
      (behind_front (got_in ev) (entries_sent step ev before ++ died_in ev) e f
      (behind_more (entries_sent step ev before) (died_in ev) e f
      (mapped_behind (stamp_at ev) (outs_of step ev before) link m o s)))

  -- a node that puts nothing out, and does not die, writes what it takes
  take_wrote : (ev : NodeEvent Msg) (before : Past S) (stamp : Stamp) (link : LinkNo) (m : Msg)
      → has_input ev ≡ true → is_death ev ≡ false → input_of ev ≡ Take stamp link m → outs_of step ev before ≡ []
      → entries_at noted step ev before ≡ record { stamp = stamp; what = what.Got link (noted m) } ∷ []
  take_wrote (Does i) before stamp link m acts alive e none =
      ap (λ (k : Input Msg). entries_of noted k (kept_outs step i before)) e
      ∙ ap (λ (os : List (Out Msg)). entries_of noted (Take stamp link m) os) none
  take_wrote (Ends i sends) before stamp link m acts alive e none = absurd (cc)
  take_wrote (Dies now) before stamp link m acts alive e none = absurd (cc)
  take_wrote (Returns now) before stamp link m acts alive e none = absurd (cc)

module _ {S : Type 0} {step : S → Input Msg → Deed Msg S} {p : Params} {orders : List Order} {disk_at : ℕ
    → DiskState} {added : Additions} {h : History Msg S} {journals : List (List Entry)}
    (kept : AreKept step p orders disk_at added h journals) where
  known : viewers p < node_count p
  known = omega arith

  lives_all : acting h (viewers p) ≡ h.count (viewers p)
  lives_all = lives_on kept.plan kept.ring (viewers p) known (omega arith)

  -- No event of theirs is a return.
  viewers_stay : (i : ℕ) → i < h.count (viewers p) → is_return (h.event (viewers p) i) ≡ false
  viewers_stay i low =
      let all = lives_all in
      acts_here (h.event (viewers p) i) (event_of_life kept First (viewers p) i known (omega arith)).1

  -- ---- what came was sent

  -- the event of an entry of what they got
  pub record IsTakenIn (i : ℕ) (e : Entry) (link : LinkNo) (m : Note) : Type 0 where
    pub message : Msg
    pub acts : has_input (h.event (viewers p) i) ≡ true
    pub is : input_of (h.event (viewers p) i) ≡ Take e.stamp link message
    pub same : noted message ≡ m
    pub came : Came kept.plan kept.ring (viewers p) i e.stamp.beat link message

  taken_in : (i : ℕ) (e : Entry) (link : LinkNo) (m : Note) → i < h.count (viewers p)
      → In e (wrote step h (viewers p) i) → e.what ≡ what.Got link m → IsTakenIn i e link m
  taken_in i e link m low k is =
      let t = event_took step p (viewers p) (h.event (viewers p) i) (past noted step h (viewers p) i) e link m
      (fair kept (viewers p) i known low) k is in
      let all = lives_all in
      record {
        message = t.message;
        acts = t.input;
        is = t.is;
        same = t.same;
        came = came_from kept.plan kept.ring First (viewers p) i e.stamp link t.message known (omega arith) t.is;
      }

  came : (e : Entry) (link : LinkNo) (m : Note) → StandsIn journals (viewers p) e → e.what ≡ what.Got link m
      → WasSentOn p journals link m e.stamp.beat
  came e link m s is =
      let w = written_in kept (viewers p) e s in
      let t = taken_in w.1.at e link m w.1.before w.1.there is in
      let f = t.came in
      record {
        node = f.from;
        entry = entry_of noted (stamp_at (h.event f.from f.at)) (out.Send link t.message);
        stands = stands_out kept f.from f.at (out.Send link t.message) f.known f.note.done f.sent;
        is = ap (λ (z : Note). what.Sent link z) t.same;
        later = f.later;
        soon = f.soon;
      }

  -- ---- what was sent in time came

  module _ (end : ℕ) (until : IsUpTo p end h) where
    comes : (n : ℕ) (e : Entry) (link : LinkNo) (m : Note) → StandsIn journals n e → e.what ≡ what.Sent link m
        → ends_of (links_of p) link.0 ≡ Some (n, viewers p) → e.stamp.beat + p.delay < end
        → IsGotOn journals (viewers p) link m
    comes n e link m s is ends late =
        let x = sent_in kept n e link m s is in
        let place = sent_as kept.plan kept.ring n x.at link x.send.message x.done x.send.sent in
        let when : e.stamp.beat ≡ beat h n x.at = ap (λ (z : Stamp). z.beat) (stamped step h n x.at e x.there) in
        let alive = immortal kept.plan kept.ring (viewers p) known (omega arith) in
        let all = until.until (viewers p) known (is_up kept.plan kept.ring (viewers p) alive) in
        let t = delivered kept.plan kept.ring (viewers p) place.1 x.known known alive ends (omega arith) in
        record {
          entry = record { stamp = t.stamp; what = what.Got link (noted x.send.message) };
          stands = stands_written kept (viewers p) t.when _ known t.before_it
              (event_writes_got step (h.event (viewers p) t.when) (past noted step h (viewers p) t.when) t.stamp
              link x.send.message (event_of_life kept First (viewers p) t.when known t.done).1 t.is);
          is = ap (λ (z : Note). what.Got link z) x.send.same;
        }

  -- ---- what came twice was sent twice

  -- two messages of one node on a link, of which the first has the lower number
  sent_pair : (n i k a b : ℕ) (link : LinkNo) (m : Note) (x y : Msg) → n < node_count p
      → SentAs kept.plan kept.ring n i a link x → SentAs kept.plan kept.ring n k b link y
      → In (out.Send link x) (outs noted step h n i) → In (out.Send link y) (outs noted step h n k)
      → number_of kept.plan kept.ring n i a link < number_of kept.plan kept.ring n k b link
      → noted x ≡ m → noted y ≡ m → IsSentTwice journals link m
  sent_pair n i k a b link m x y inside one two first second less same_x same_y =
      let e : Entry = entry_of noted (stamp_at (h.event n i)) (out.Send link x) in
      let f : Entry = entry_of noted (stamp_at (h.event n k)) (out.Send link y) in
      let there_e = event_writes_out step p n (h.event n i) (past noted step h n i) (out.Send link x)
      (fair kept n i inside one.done) first in
      let there_f = event_writes_out step p n (h.event n k) (past noted step h n k) (out.Send link y)
      (fair kept n k inside two.done) second in
      let done_i = one.done in
      let done_k = two.done in
      let both : StandsBehind (so_far step h n (h.count n)) e f = ⊎_elim
      (λ (l : i < k). later_behind step h n i k (h.count n) e f l done_k there_e there_f)
      (λ (g : k ≤ i). ⊎_elim
      (λ (q : k ≡ i).
      let places : a < b = (let z : number_of kept.plan kept.ring n i b link ≡ number_of kept.plan kept.ring n k b
      link = ap (λ (j : ℕ). number_of kept.plan kept.ring n j b link) (sym q) in omega arith) in
      let other : slice_get (sends_of link.0 (beat h n i) (outs noted step h n i)) b ≡ Some
      (record { beat = beat h n i; item = y }) =
      subst (λ (j : ℕ). slice_get (sends_of link.0 (beat h n j) (outs noted step h n j)) b ≡ Some
      (record { beat = beat h n j; item = y })) q two.sends in
      let s = pair_sent (beat h n i) (outs noted step h n i) link x y a b places one.sends other in
      let here = same_behind step h n i (h.count n) e (entry_of noted (stamp_at (h.event n i)) (out.Send link y))
      done_i (event_behind step p n (h.event n i) (past noted step h n i) link x y (fair kept n i inside one.done)
      s) in
      subst (λ (j : ℕ). StandsBehind (so_far step h n (h.count n)) e (entry_of noted (stamp_at (h.event n j))
      (out.Send link y))) (sym q) here)
      (λ (l : k < i). let r = numbers_rise kept.plan kept.ring {n = n} {at = k} {place = b} {link = link} {m = y} i
      a two l in absurd (omega arith))
      (eq-or-lt_of_le g))
      (cases_lt i k) in
      record {
        node = n;
        before = both.before;
        behind = both.behind;
        first = e;
        second = f;
        at = kept.are.writes n inside ∙ ap (λ (l : List Entry). Some l) both.is;
        there = both.there;
        first_is = ap (λ (z : Note). what.Sent link z) same_x;
        second_is = ap (λ (z : Note). what.Sent link z) same_y;
      }

  twice : (xs ys : List Entry) (e f : Entry) (link : LinkNo) (m : Note) → slice_get journals (viewers p) ≡ Some
      (xs ++ e ∷ ys) → In f ys
      → e.what ≡ what.Got link m → f.what ≡ what.Got link m → IsSentTwice journals link m
  twice xs ys e f link m at i e_is f_is =
      let v : ℕ = viewers p in
      let c = cut_at_entry kept v xs e ys at in
      let here : In e (wrote step h v c.at) = subst (λ (l : List Entry). In e l) c.event_is
      (in_right e c.part (e ∷ c.rest) (inl refl)) in
      let one = taken_in c.at e link m c.done here e_is in
      ⊎_elim
      (λ k.
      let whole : wrote step h v c.at ≡ record { stamp = e.stamp; what = what.Got link (noted one.message) } ∷ [] =
      take_wrote step (h.event v c.at) (past noted step h v c.at) e.stamp link one.message one.acts
      (kept.ring.deaths.mortal v c.at known (omega arith) c.done) one.is (kept.ring.rules.views c.at c.done) in
      absurd (none_more c.part e c.rest _ f (c.event_is ∙ whole) k))
      (λ k.
      let later : c.at < k.0 = k.1 in
      let two = taken_in k.0 f link m k.2 k.3 f_is in
      let a = one.came in
      let b = two.came in
      let from : b.from ≡ a.from = (same_ends b.from v a.from v (sym b.ends ∙ a.ends)).0 in
      let moved = subst (λ (n : ℕ). SentAs kept.plan kept.ring n b.at b.place_there link two.message
      × In (out.Send link two.message) (outs noted step h n b.at)
      × (place link.0 h v k.0 ≡ number_of kept.plan kept.ring n b.at b.place_there link)) from
      (b.note, b.sent, b.number) in
      let takes_it : is_take_on link.0 (h.event v c.at) ≡ true = take_same link.0 (h.event v c.at) one.acts
      ∙ ap (is_input_on link.0) one.is ∙ eq-eqb _ _ refl in
      let stays : is_return (h.event v c.at) ≡ false = acts_here (h.event v c.at) one.acts in
      let next : place link.0 h v (suc c.at) ≡ suc (place link.0 h v c.at) =
      ap (λ (t : Bool). cond t (h.before link.0)
      (cond (is_take_on link.0 (h.event v c.at)) (suc (place link.0 h v c.at)) (place link.0 h v c.at))) stays
      ∙ ap (λ (t : Bool). cond t (suc (place link.0 h v c.at)) (place link.0 h v c.at)) takes_it in
      let rise = places_rise link.0 h v (suc c.at) k.0 (λ i _ low. viewers_stay i (let z = k.2 in omega arith)) (omega arith) in
      let first = a.number in
      let second = moved.2 in
      sent_pair a.from a.at b.at a.place_there b.place_there link m one.message two.message a.known a.note moved.0 a.sent
      moved.1 (omega arith) one.same two.same)
      (c.behind f i)

  pub get : (end : ℕ) → IsUpTo p end h → ViewersGet p journals end
  get end until = record { came = came; comes = comes end until; twice = twice }
