-- How the events of a node whose death may come in one of them are told by what they wrote.
use Rattle.std.proofs.Common.{◌≡◌, ℕ, zero, suc, ◌+◌, ◌<◌, ◌≤◌, List, [], ◌∷◌, ◌++◌, map, Bool, true, false, ◌&&◌, None, refl, ap, sym, ◌∙◌, subst, arith, cond, ⊎_elim, append_assoc, append-nil}
use Rattle.std.specs.Prelude.{◌==◌}
use Rattle.std.specs.List.{AllByRecursion}
use Rattle.std.proofs.lemmas.Bool.{cases_Bool, eq-eqb}
use Rattle.std.proofs.lemmas.Bool.Decides.{nat_tests}
use Rattle.tiger_base.specs.declared.number.LinkNo.{LinkNo}
use Rattle.tiger_base.specs.declared.number.Stamp.{Stamp}
use Rattle.tiger_base.specs.declared.message.Note.{Note}
use Rattle.node_kit.specs.declared.course.Course.{Course}
use Rattle.node_kit.specs.declared.journal.Entry.{Entry}
use Rattle.node_kit.specs.declared.journal.What.{What}
use Rattle.node_kit.specs.declared.journal.What.TheVariants as what
use Rattle.node_kit.specs.declared.outbox.Out.{Out}
use Rattle.node_kit.specs.Life.{acts, ends_in, lifetime_of}
use Rattle.node_kit.specs.Outputs.{with_death, send_count}
use Rattle.node_kit.specs.Steps.{Input, Deed, IsAllowed, what_of, entry_of, entries_of}
use Rattle.node_kit.specs.Steps.Input.{Take, Tick}
use Rattle.run_facts.specs.Events.{NodeEvent, Past, behind, entries_at, kept_outs, left_outs, outs_of, stamp_at, is_death, is_return, is_tick, written}
use Rattle.run_facts.specs.Events.NodeEvent.{Does, Ends, Dies, Returns}
use Rattle.run_facts.specs.Histories.{History, beat, open_beat, outs, past}
use Rattle.run_facts.proofs.Along.{written-append}
use Rattle.run_facts.proofs.Listed.{listed, listed-past, next-sum}
use Rattle.run_facts.proofs.Recording.{open-ticked}
use Rattle.run_facts.proofs.Rows.{all-append, all-map}
use Rattle.ring_world.specs.declared.event.Act.TheVariants as act
use Rattle.ring_world.specs.declared.event.Last.TheVariants as last
use Rattle.proof_turns.specs.Turns.{is_of_take}
use Rattle.proof_turns.specs.Laws.{AreOfTake}
use Rattle.kept_worlds.specs.Events.{said_in, sends_said, behind_take, is_none, message_got, tick_part, has_got, is_in_take, cut_end}
use Rattle.kept_worlds.proofs.Ends.{IsOfLife, IsEndAs}
use Rattle.kept_worlds.proofs.Gets.{IsToldAs, AreToldAs}
use Rattle.kept_worlds.proofs.Numbers.{listed-more, count-grows}
use Rattle.kept_worlds.proofs.Said.{said-append, said-none, none-got, sends-are, said-outs, said-cut, stays-behind, got-apart, take-gone, all-gone, no-gots, some-got, tick-all, tick-behind}

-- of some outputs the first is there, and may not come of the take of a message
abbrev pub IsOtherwise : {M : Type 0} → (M → Note) → Note → List (Out M) → Type 0
IsOtherwise note message [] = ⊥
IsOtherwise note message (o ∷ os) = is_of_take message (what_of note o) ≡ false

-- What is known of the events of node n of a history below a number, if it returns in none of them: each is in the open beat, one of the run's, and as the course has it;
-- a death is the last; a node that lives goes on to the end; what a take puts out in the beat of such a death may come of
-- it, and what the tick behind it puts out first is there and may not; and of an event in which the death comes as many
-- messages go out as it says.
pub record IsTellable {M S : Type 0} (note : M → Note) (step : S → Input M → Deed M S) (c : Course) (n : ℕ)
    (g : History M S) (upto : ℕ) : Type 0 where
  pub in_beat : (i : ℕ) → i < upto → beat g n i ≡ open_beat g n i
  pub here : (i : ℕ) → i < upto → is_return (g.event n i) ≡ false
  pub early : (i : ℕ) → i < upto → beat g n i < c.beats
  pub lived : (i : ℕ) → i < upto → IsOfLife (lifetime_of c n) (g.event n i)
  pub ended : (i : ℕ) → i < upto → is_death (g.event n i) ≡ true → i + 1 ≡ upto
  pub fair : (i : ℕ) → i < upto → AllByRecursion (IsAllowed note c.plan.params n) (outs note step g n i)
  pub finish : ((i : ℕ) → i < upto → is_death (g.event n i) ≡ false) → open_beat g n (upto) ≡ c.beats
  pub last_take : (i : ℕ) (stamp : Stamp) (link : LinkNo) (msg : M) (sends : ℕ) → i < upto
      → g.event n i ≡ Ends (Take stamp link msg) sends → AreOfTake note (note msg) (outs note step g n i)
  pub whole_take : (i : ℕ) (stamp : Stamp) (link : LinkNo) (msg : M) → i < upto
      → ends_in (lifetime_of c n) stamp.beat ≡ true → g.event n i ≡ Does (Take stamp link msg)
      → AreOfTake note (note msg) (outs note step g n i)
  pub last_tick : (i : ℕ) (stamp now : Stamp) (link : LinkNo) (msg : M) (sends : ℕ) → suc i < upto
      → g.event n i ≡ Does (Take stamp link msg) → g.event n (suc i) ≡ Ends (Tick now) sends
      → IsOtherwise note (note msg) (outs note step g n (suc i))
  pub sends : (i k : ℕ) (x : Input M) → i < upto → g.event n i ≡ Ends x k → send_count (outs note step g n i) ≡ k

-- entries of which one stays behind the front that may come of a take
record Stays (message : Note) (ws : List What) : Type 0 where
  front : List What
  first : What
  rest : List What
  is : ws ≡ front ++ first ∷ rest
  other : is_of_take message first ≡ false

stays-more : (message : Note) (xs ws : List What) → Stays message ws → Stays message (xs ++ ws)
stays-more message xs ws s = record {
  front = xs ++ s.front;
  first = s.first;
  rest = s.rest;
  is = ap (λ q. xs ++ q) s.is ∙ sym (append_assoc xs s.front (s.first ∷ s.rest));
  other = s.other;
}

not-gone : (message : Note) (ws : List What) → Stays message ws → is_none (behind_take message ws) ≡ false
not-gone message ws s =
    ap (λ q. is_none (behind_take message q)) s.is ∙ stays-behind message s.front s.first s.rest s.other

-- the stamp of what an event writes is its own
outs-dated : {M : Type 0} (note : M → Note) (P : ℕ → Type 0) (stamp : Stamp) (os : List (Out M)) → P stamp.beat
    → AllByRecursion (λ (e : Entry). P e.stamp.beat) (map (entry_of note stamp) os)
outs-dated note P stamp [] h = tt
outs-dated note P stamp (o ∷ os) h = (h, outs-dated note P stamp os h)

input-dated : {M : Type 0} (note : M → Note) (P : ℕ → Type 0) (i : Input M) (os : List (Out M)) → P (stamp_at (Does i)).beat
    → AllByRecursion (λ (e : Entry). P e.stamp.beat) (entries_of note i os)
input-dated note P (Take s l m) os h = (h, outs-dated note P s os h)
input-dated note P (Tick s) os h = outs-dated note P s os h

pub event-dated : {M S : Type 0} (note : M → Note) (step : S → Input M → Deed M S) (P : ℕ → Type 0) (e : NodeEvent M) (x : Past S)
    → P (stamp_at e).beat → AllByRecursion (λ (f : Entry). P f.stamp.beat) (entries_at note step e x)
event-dated note step P (Does i) x h = input-dated note P i (kept_outs step i x) h
event-dated note step P (Ends i sends) x h = input-dated note P i (with_death (left_outs step i sends x)) h
event-dated note step P (Dies s) x h = (h, tt)
event-dated note step P (Returns s) x h = tt

module _ {M S : Type 0} (note : M → Note) (step : S → Input M → Deed M S) (c : Course) (n : ℕ) (g : History M S)
    (upto : ℕ) (run : IsTellable note step c n g upto) where
  -- a node's journal behind so many events
  abbrev pub journal_to : ℕ → List Entry
  journal_to i = written note step (listed g n 0 i) (past note step g n 0)

  journal-more : (i : ℕ) → journal_to (suc i) ≡ journal_to i ++ entries_at note step (g.event n i) (past note step g n i)
  journal-more i =
      ap (λ q. written note step q (past note step g n 0)) (listed-more g n 0 i i (omega arith))
      ∙ written-append note step (listed g n 0 i) (g.event n i ∷ []) (past note step g n 0)
      ∙ ap (λ (x : Past S). journal_to i ++ (entries_at note step (g.event n i) x ++ [])) (listed-past note step g n 0 i i (omega arith))
      ∙ ap (λ q. journal_to i ++ q) (append-nil (entries_at note step (g.event n i) (past note step g n i)))

  said-more : (b i : ℕ) → said_in b (journal_to (suc i))
      ≡ said_in b (journal_to i) ++ said_in b (entries_at note step (g.event n i) (past note step g n i))
  said-more b i =
      ap (said_in b) (journal-more i)
      ∙ said-append b (journal_to i) (entries_at note step (g.event n i) (past note step g n i))

  -- what an event says in its beat
  said-take : (i : ℕ) (b : ℕ) (s : Stamp) (l : LinkNo) (m : M) → i < upto → (s.beat == b) ≡ true
      → g.event n i ≡ Does (Take s l m)
      → said_in b (entries_at note step (g.event n i) (past note step g n i))
      ≡ what.Got l (note m) ∷ map (what_of note) (outs note step g n i)
  said-take i b s l m low hit is =
      let x = past note step g n i in
      let fair : AllByRecursion (IsAllowed note c.plan.params n) (kept_outs step (Take s l m) x) =
      subst (λ (e : NodeEvent M). AllByRecursion (IsAllowed note c.plan.params n) (outs_of step e x)) is (run.fair i low) in
      ap (λ (e : NodeEvent M). said_in b (entries_at note step e x)) is
      ∙ (let q : said_in b (entries_at note step (Does (Take s l m)) x)
      ≡ what.Got l (note m) ∷ said_in b (map (entry_of note s) (kept_outs step (Take s l m) x)) = rw hit refl in q)
      ∙ ap (λ ws. what.Got l (note m) ∷ ws) (said-outs note c.plan.params n b s (kept_outs step (Take s l m) x) hit fair)
      ∙ sym (ap (λ (e : NodeEvent M). what.Got l (note m) ∷ map (what_of note) (outs_of step e x)) is)

  said-last_take : (i : ℕ) (b : ℕ) (s : Stamp) (l : LinkNo) (m : M) (k : ℕ) → i < upto → (s.beat == b) ≡ true
      → g.event n i ≡ Ends (Take s l m) k
      → said_in b (entries_at note step (g.event n i) (past note step g n i))
      ≡ what.Got l (note m) ∷ map (what_of note) (outs note step g n i)
  said-last_take i b s l m k low hit is =
      let x = past note step g n i in
      let left = left_outs step (Take s l m) k x in
      let fair : AllByRecursion (IsAllowed note c.plan.params n) left =
      subst (λ (e : NodeEvent M). AllByRecursion (IsAllowed note c.plan.params n) (outs_of step e x)) is (run.fair i low) in
      ap (λ (e : NodeEvent M). said_in b (entries_at note step e x)) is
      ∙ (let q : said_in b (entries_at note step (Ends (Take s l m) k) x)
      ≡ what.Got l (note m) ∷ said_in b (map (entry_of note s) (with_death left)) = rw hit refl in q)
      ∙ ap (λ ws. what.Got l (note m) ∷ ws) (said-cut note c.plan.params n b s left hit fair)
      ∙ sym (ap (λ (e : NodeEvent M). what.Got l (note m) ∷ map (what_of note) (outs_of step e x)) is)

  said-last_tick : (i : ℕ) (b : ℕ) (s : Stamp) (k : ℕ) → i < upto → (s.beat == b) ≡ true
      → g.event n i ≡ Ends (Tick s) k
      → said_in b (entries_at note step (g.event n i) (past note step g n i)) ≡ map (what_of note) (outs note step g n i)
  said-last_tick i b s k low hit is =
      let x = past note step g n i in
      let left = left_outs step (Tick s) k x in
      let fair : AllByRecursion (IsAllowed note c.plan.params n) left =
      subst (λ (e : NodeEvent M). AllByRecursion (IsAllowed note c.plan.params n) (outs_of step e x)) is (run.fair i low) in
      ap (λ (e : NodeEvent M). said_in b (entries_at note step e x)) is
      ∙ said-cut note c.plan.params n b s left hit fair
      ∙ sym (ap (λ (e : NodeEvent M). map (what_of note) (outs_of step e x)) is)

  -- behind a take the beat goes on, and behind a tick the next begins
  next-beat : (i : ℕ) → suc i < upto → beat g n (suc i) ≡ behind (g.event n i) (beat g n i)
  next-beat i low =
      run.in_beat (suc i) low ∙ ap (behind (g.event n i)) (sym (run.in_beat i (omega (arith, low))))

  beats-rise : (j i : ℕ) → j ≤ i → i < upto → beat g n j ≤ beat g n i
  beats-rise j i up low =
      let a = run.in_beat j (omega (arith, up, low)) ∙ open-ticked g n j (λ k before. run.here k (omega (arith, before, up, low))) in
      let b = run.in_beat i low ∙ open-ticked g n i (λ k before. run.here k (omega (arith, before, low))) in
      let grows = count-grows is_tick g n j i up in
      omega (arith, a, b, grows)

  -- no more is said in a beat by the events of lower ones
  none-said : (b i : ℕ) → i ≤ upto → ((j : ℕ) → j < i → beat g n j < b) → said_in b (journal_to i) ≡ []
  none-said b zero low before = refl
  none-said b (suc i) low before =
      let here = before i (omega arith) in
      let miss : (beat g n i == b) ≡ false = grind (arith, nat_tests, here) in
      said-more b i
      ∙ ap (λ ws. ws ++ said_in b (entries_at note step (g.event n i) (past note step g n i)))
      (none-said b i (omega (arith, low)) (λ j up. before j (omega (arith, up))))
      ∙ said-none b (entries_at note step (g.event n i) (past note step g n i))
      (event-dated note step (λ k. (k == b) ≡ false) (g.event n i) (past note step g n i) miss)

  -- ---- takes

  -- a take in the beat of such a death is not the last event of the node, and what comes next says what is not of the take
  module _ (i : ℕ) (s : Stamp) (l : LinkNo) (m : M) (low : i < upto) (is : g.event n i ≡ Does (Take s l m))
      (cut : ends_in (lifetime_of c n) s.beat ≡ true) where
    dated : beat g n i ≡ s.beat
    dated = ap (λ (e : NodeEvent M). (stamp_at e).beat) is

    alive-to : (j : ℕ) → j < suc i → suc i ≡ upto → is_death (g.event n j) ≡ false
    alive-to j before all = ⊎_elim
        (λ (t : is_death (g.event n j) ≡ true).
        let end = run.ended j (omega (arith, before, all)) t in
        let same : j ≡ i = omega (arith, end, all) in
        let q : true ≡ false = sym t ∙ ap (λ (k : ℕ). is_death (g.event n k)) same ∙ ap is_death is in absurd (cc))
        (λ (t : is_death (g.event n j) ≡ false). t)
        (cases_Bool (is_death (g.event n j)))

    goes-on : suc i ≡ upto → ⊥
    goes-on all =
        let end = run.finish (λ j before. alive-to j (omega (arith, before, all)) all) in
        let opens : open_beat g n (suc i) ≡ open_beat g n i = ap (λ (e : NodeEvent M). behind e (open_beat g n i)) is in
        let same : open_beat g n (suc i) ≡ open_beat g n (upto) = ap (open_beat g n) all in
        let here = run.in_beat i low in
        let early = run.early i low in
        omega (arith, end, opens, same, here, early)

    module _ (more : suc i < upto) where
      same-beat : beat g n (suc i) ≡ s.beat
      same-beat = next-beat i more ∙ ap (λ (e : NodeEvent M). behind e (beat g n i)) is ∙ dated

      otherwise : (os : List (Out M)) → IsOtherwise note (note m) os → Stays (note m) (map (what_of note) os)
      otherwise [] h = absurd h
      otherwise (o ∷ os) h =
          record { front = []; first = what_of note o; rest = map (what_of note) os; is = refl; other = h }

      next-said : (e : NodeEvent M) → g.event n (suc i) ≡ e
          → Stays (note m) (said_in s.beat (entries_at note step (g.event n (suc i)) (past note step g n (suc i))))
      next-said (Does (Take s2 l2 m2)) at =
          let now : s2.beat ≡ s.beat = sym (ap (λ (e : NodeEvent M). (stamp_at e).beat) at) ∙ same-beat in
          record {
            front = [];
            first = what.Got l2 (note m2);
            rest = map (what_of note) (outs note step g n (suc i));
            is = said-take (suc i) s.beat s2 l2 m2 more (eq-eqb s2.beat s.beat now) at;
            other = got-apart (note m) l2 (note m2);
          }
      next-said (Ends (Take s2 l2 m2) k) at =
          let now : s2.beat ≡ s.beat = sym (ap (λ (e : NodeEvent M). (stamp_at e).beat) at) ∙ same-beat in
          record {
            front = [];
            first = what.Got l2 (note m2);
            rest = map (what_of note) (outs note step g n (suc i));
            is = said-last_take (suc i) s.beat s2 l2 m2 k more (eq-eqb s2.beat s.beat now) at;
            other = got-apart (note m) l2 (note m2);
          }
      next-said (Does (Tick s2)) at =
          let now : s2.beat ≡ s.beat = sym (ap (λ (e : NodeEvent M). (stamp_at e).beat) at) ∙ same-beat in
          let whole : IsOfLife {M = M} (lifetime_of c n) (Does (Tick s2)) = subst (IsOfLife (lifetime_of c n)) at (run.lived (suc i) more) in
          let q : true ≡ false = sym cut ∙ ap (ends_in (lifetime_of c n)) (sym now) ∙ whole.1 in absurd (cc)
      next-said (Ends (Tick s2) k) at =
          let now : s2.beat ≡ s.beat = sym (ap (λ (e : NodeEvent M). (stamp_at e).beat) at) ∙ same-beat in
          let says = said-last_tick (suc i) s.beat s2 k more (eq-eqb s2.beat s.beat now) at in
          subst (Stays (note m)) (sym says)
          (otherwise (outs note step g n (suc i)) (run.last_tick i s s2 l m k more is at))
      next-said (Dies s2) at =
          let now : s2.beat ≡ s.beat = sym (ap (λ (e : NodeEvent M). (stamp_at e).beat) at) ∙ same-beat in
          let dead : IsOfLife {M = M} (lifetime_of c n) (Dies s2) = subst (IsOfLife (lifetime_of c n)) at (run.lived (suc i) more) in
          let live : acts (lifetime_of c n) s.beat ≡ true = subst (IsOfLife (lifetime_of c n)) is (run.lived i low) in
          let q : true ≡ false = sym live ∙ ap (acts (lifetime_of c n)) (sym now) ∙ dead.0 in absurd (cc)
      next-said (Returns s2) at =
          let q : true ≡ false = sym (ap is_return at) ∙ run.here (suc i) more in absurd (cc)

  told-whole : (i k : ℕ) (s : Stamp) (l : LinkNo) (m : M) → i + suc k ≡ upto → g.event n i ≡ Does (Take s l m)
      → ends_in (lifetime_of c n) s.beat ≡ true
      → Stays (note m) (said_in s.beat (written note step (listed g n (suc i) k) (past note step g n (suc i))))
  told-whole i zero s l m sum is cut = absurd (goes-on i s l m (omega (arith, sum)) is cut (omega (arith, sum)))
  told-whole i (suc k) s l m sum is cut =
      let more : suc i < upto = omega (arith, sum) in
      let next = next-said i s l m (omega (arith, sum)) is cut more (g.event n (suc i)) refl in
      let first = entries_at note step (g.event n (suc i)) (past note step g n (suc i)) in
      let rest = written note step (listed g n (suc (suc i)) k) (past note step g n (suc (suc i))) in
      subst (Stays (note m)) (sym (said-append s.beat first rest))
      (stays-front (said_in s.beat first) (said_in s.beat rest) next)
    where
      stays-front : (xs ys : List What) → Stays (note m) xs → Stays (note m) (xs ++ ys)
      stays-front xs ys t = record {
        front = t.front;
        first = t.first;
        rest = t.rest ++ ys;
        is = ap (λ q. q ++ ys) t.is ∙ append_assoc t.front (t.first ∷ t.rest) ys;
        other = t.other;
      }

  -- so each take is told as it is
  told-one : (i k : ℕ) → i + suc k ≡ upto
      → IsToldAs note step c n (g.event n i)
      (written note step (listed g n (suc i) k) (past note step g n (suc i))) (past note step g n i)
  told-one i k sum = by (g.event n i) refl
    where
      low : i < upto
      low = omega (arith, sum)

      last-none : is_death (g.event n i) ≡ true → written note step (listed g n (suc i) k) (past note step g n (suc i)) ≡ []
      last-none died =
          let end = run.ended i low died in
          let none : k ≡ 0 = omega (arith, end, sum) in
          ap (λ q. written note step (listed g n (suc i) q) (past note step g n (suc i))) none

      by : (e : NodeEvent M) → g.event n i ≡ e → IsToldAs note step c n e
          (written note step (listed g n (suc i) k) (past note step g n (suc i))) (past note step g n i)
      by (Does (Take s l m)) is = ⊎_elim
          (λ (cut : ends_in (lifetime_of c n) s.beat ≡ true).
          let stays = told-whole i k s l m sum is cut in
          let own = map (entry_of note s) (kept_outs step (Take s l m) (past note step g n i)) in
          let rest = written note step (listed g n (suc i) k) (past note step g n (suc i)) in
          let all = ap (λ ws. is_none (behind_take (note m) ws)) (said-append s.beat own rest)
          ∙ not-gone (note m) (said_in s.beat own ++ said_in s.beat rest)
          (stays-more (note m) (said_in s.beat own) (said_in s.beat rest) stays) in
          rw (cut, all) refl)
          (λ (whole : ends_in (lifetime_of c n) s.beat ≡ false). rw whole refl)
          (cases_Bool (ends_in (lifetime_of c n) s.beat))
      by (Does (Tick s)) is = tt
      by (Ends (Take s l m) sends) is =
          let y = past note step g n i in
          let left = left_outs step (Take s l m) sends y in
          let none = last-none (ap is_death is) in
          let fair : AllByRecursion (IsAllowed note c.plan.params n) left =
          subst (λ (e : NodeEvent M). AllByRecursion (IsAllowed note c.plan.params n) (outs_of step e y)) is (run.fair i low) in
          let own : AreOfTake note (note m) left =
          subst (λ (e : NodeEvent M). AreOfTake note (note m) (outs_of step e y)) is (run.last_take i s l m sends low is) in
          let cut : ends_in (lifetime_of c n) s.beat ≡ true = subst (IsOfLife (lifetime_of c n)) is (run.lived i low) in
          let hit : (s.beat == s.beat) ≡ true = eq-eqb s.beat s.beat refl in
          let wrote = map (entry_of note s) (with_death left) in
          let rest = written note step (listed g n (suc i) k) (past note step g n (suc i)) in
          let says : said_in s.beat (wrote ++ rest) ≡ map (what_of note) left =
          ap (λ q. said_in s.beat (wrote ++ q)) none ∙ ap (said_in s.beat) (append-nil wrote)
          ∙ said-cut note c.plan.params n s.beat s left hit fair in
          let gone : is_none (behind_take (note m) (said_in s.beat (wrote ++ rest))) ≡ true =
          ap (λ ws. is_none (behind_take (note m) ws)) says
          ∙ ap is_none (all-gone (note m) (map (what_of note) left) (all-map (λ (w : What). is_of_take (note m) w ≡ true) (what_of note) left own)) in
          let count : send_count left ≡ sends =
          sym (ap (λ (e : NodeEvent M). send_count (outs_of step e y)) is) ∙ run.sends i sends (Take s l m) low is in (
            rw (cut, gone) refl,
            ap sends_said says ∙ sends-are note c.plan.params n left fair ∙ count,
          )
      by (Ends (Tick s) sends) is = tt
      by (Dies s) is = tt
      by (Returns s) is = tt

  pub told-from : (i k : ℕ) → i + k ≡ upto
      → AreToldAs note step c n (listed g n i k) (past note step g n i)
  told-from i zero sum = tt
  told-from i (suc k) sum = (told-one i k sum, told-from (suc i) k (next-sum i k (upto) sum))

  -- ---- ends

  abbrev journal : List Entry
  journal = journal_to (upto)

  said-all : (b i : ℕ) → i + 1 ≡ upto → said_in b journal
      ≡ said_in b (journal_to i) ++ said_in b (entries_at note step (g.event n i) (past note step g n i))
  said-all b i end =
      let last_one : suc i ≡ upto = omega (arith, end) in
      ap (λ q. said_in b (journal_to q)) (sym last_one) ∙ said-more b i

  -- the tick said all, or what is left behind a take
  tick-end : (ws kept : List What) (k : ℕ) → is_in_take ws ≡ false → tick_part ws ws ≡ kept → sends_said kept ≡ k
      → cut_end n ws ≡ act.DieIn (last.Tick (record { 0 = n })) k ∷ []
  tick-end ws kept k apart part count =
      ap (λ b. cond b [] (act.DieIn (last.Tick (record { 0 = n })) (sends_said (tick_part ws ws)) ∷ [])) apart
      ∙ ap (λ (q : List What). act.DieIn (last.Tick (record { 0 = n })) (sends_said q) ∷ []) part
      ∙ ap (λ (q : ℕ). act.DieIn (last.Tick (record { 0 = n })) q ∷ []) count

  alone-end : (b i : ℕ) (s : Stamp) (k : ℕ) → i + 1 ≡ upto → (s.beat == b) ≡ true → g.event n i ≡ Ends (Tick s) k
      → said_in b (journal_to i) ≡ [] → cut_end n (said_in b journal) ≡ act.DieIn (last.Tick (record { 0 = n })) k ∷ []
  alone-end b i s k end hit is none =
      let low : i < upto = omega (arith, end) in
      let os = outs note step g n i in
      let ws = map (what_of note) os in
      let gots = none-got note c.plan.params n os (run.fair i low) in
      let says : said_in b journal ≡ ws =
      said-all b i end ∙ ap (λ q. q ++ said_in b (entries_at note step (g.event n i) (past note step g n i))) none
      ∙ said-last_tick i b s k low hit is in
      let apart : is_in_take ws ≡ false = ap (λ t. t && is_none (tick_part ws ws)) (no-gots ws gots) in
      ap (cut_end n) says
      ∙ tick-end ws ws k apart (tick-all ws ws gots)
      (sends-are note c.plan.params n os (run.fair i low) ∙ run.sends i k (Tick s) low is)

  otherwise-left : (message : Note) (os : List (Out M)) → IsOtherwise note message os
      → (behind_take message (map (what_of note) os) ≡ map (what_of note) os) × (is_none (map (what_of note) os) ≡ false)
  otherwise-left message [] h = absurd h
  otherwise-left message (o ∷ os) h = (rw h refl, refl)

  behind-end : (b j : ℕ) (s t : Stamp) (l : LinkNo) (m : M) (k : ℕ) → suc j + 1 ≡ upto → (s.beat == b) ≡ true
      → (t.beat == b) ≡ true → ends_in (lifetime_of c n) t.beat ≡ true
      → g.event n j ≡ Does (Take t l m) → g.event n (suc j) ≡ Ends (Tick s) k
      → cut_end n (said_in b journal) ≡ act.DieIn (last.Tick (record { 0 = n })) k ∷ []
  behind-end b j s t l m k end hit hit_take cut takes is =
      let low : suc j < upto = omega (arith, end) in
      let before : j < upto = omega (arith, end) in
      let os = outs note step g n (suc j) in
      let own = outs note step g n j in
      let ws = map (what_of note) os in
      let us = map (what_of note) own in
      let front = said_in b (journal_to j) in
      let all = front ++ what.Got l (note m) ∷ (us ++ ws) in
      let says : said_in b journal ≡ all =
      said-all b (suc j) end
      ∙ ap (λ q. q ++ said_in b (entries_at note step (g.event n (suc j)) (past note step g n (suc j))))
      (said-more b j ∙ ap (λ q. front ++ q) (said-take j b t l m before hit_take takes))
      ∙ ap (λ q. (front ++ what.Got l (note m) ∷ us) ++ q) (said-last_tick (suc j) b s k low hit is)
      ∙ append_assoc front (what.Got l (note m) ∷ us) ws in
      let gots = all-append (λ (w : What). message_got w ≡ None) us ws
      (none-got note c.plan.params n own (run.fair j before)) (none-got note c.plan.params n os (run.fair (suc j) low)) in
      let left = otherwise-left (note m) os (run.last_tick j t s l m k low takes is) in
      let part : tick_part all all ≡ ws =
      tick-behind all front l (note m) (us ++ ws) gots
      ∙ take-gone (note m) us ws
      (all-map (λ (w : What). is_of_take (note m) w ≡ true) (what_of note) own (run.whole_take j t l m before cut takes))
      ∙ left.0 in
      let apart : is_in_take all ≡ false =
      ap (λ q. has_got all && is_none q) part ∙ ap (λ q. has_got all && q) left.1 ∙ and-false (has_got all) in
      ap (cut_end n) says
      ∙ tick-end all ws k apart part
      (sends-are note c.plan.params n os (run.fair (suc j) low) ∙ run.sends (suc j) k (Tick s) low is)
    where
      and-false : (b : Bool) → (b && false) ≡ false
      and-false true = refl
      and-false false = refl

  tick-as : (i : ℕ) (s : Stamp) (k : ℕ) → i + 1 ≡ upto → g.event n i ≡ Ends (Tick s) k
      → cut_end n (said_in s.beat journal) ≡ act.DieIn (last.Tick (record { 0 = n })) k ∷ []
  tick-as zero s k end is = alone-end s.beat 0 s k end (eq-eqb s.beat s.beat refl) is refl
  tick-as (suc j) s k end is = by (g.event n j) refl
    where
      low : suc j < upto
      low = omega (arith, end)

      now : beat g n (suc j) ≡ s.beat
      now = ap (λ (e : NodeEvent M). (stamp_at e).beat) is

      no-death : is_death (g.event n j) ≡ true → ⊥
      no-death died = let at = run.ended j (omega (arith, end)) died in omega (arith, at, end)

      by : (e : NodeEvent M) → g.event n j ≡ e
          → cut_end n (said_in s.beat (journal_to (upto))) ≡ act.DieIn (last.Tick (record { 0 = n })) k ∷ []
      by (Does (Take t l m)) at =
          let dated : t.beat ≡ s.beat =
          sym (ap (λ (e : NodeEvent M). (stamp_at e).beat) at)
          ∙ sym (next-beat j low ∙ ap (λ (e : NodeEvent M). behind e (beat g n j)) at) ∙ now in
          let cut : ends_in (lifetime_of c n) s.beat ≡ true =
          subst (IsOfLife (lifetime_of c n)) is (run.lived (suc j) low) in
          behind-end s.beat j s t l m k end (eq-eqb s.beat s.beat refl) (eq-eqb t.beat s.beat dated)
          (ap (ends_in (lifetime_of c n)) dated ∙ cut) at is
      by (Does (Tick t)) at =
          let later : s.beat ≡ suc (beat g n j) =
          sym now ∙ next-beat j low ∙ ap (λ (e : NodeEvent M). behind e (beat g n j)) at in
          alone-end s.beat (suc j) s k end (eq-eqb s.beat s.beat refl) is
          (none-said s.beat (suc j) (omega (arith, end)) (λ i before.
          let up = beats-rise i j (omega (arith, before)) (omega (arith, end)) in omega (arith, up, later)))
      by (Ends x sends) at = absurd (no-death (ap is_death at))
      by (Dies t) at = absurd (no-death (ap is_death at))
      by (Returns t) at =
          let q : true ≡ false = sym (ap is_return at) ∙ run.here j (omega (arith, end)) in absurd (cc)

  take-as : (i : ℕ) (s : Stamp) (l : LinkNo) (m : M) (k : ℕ) → i + 1 ≡ upto → g.event n i ≡ Ends (Take s l m) k
      → cut_end n (said_in s.beat journal) ≡ []
  take-as i s l m k end is =
      let low : i < upto = omega (arith, end) in
      let os = outs note step g n i in
      let ws = map (what_of note) os in
      let front = said_in s.beat (journal_to i) in
      let all = front ++ what.Got l (note m) ∷ ws in
      let says : said_in s.beat journal ≡ all =
      said-all s.beat i end ∙ ap (λ q. front ++ q) (said-last_take i s.beat s l m k low (eq-eqb s.beat s.beat refl) is) in
      let part : tick_part all all ≡ [] =
      tick-behind all front l (note m) ws (none-got note c.plan.params n os (run.fair i low))
      ∙ all-gone (note m) ws
      (all-map (λ (w : What). is_of_take (note m) w ≡ true) (what_of note) os (run.last_take i s l m k low is)) in
      let inside : is_in_take all ≡ true =
      ap (λ q. has_got all && is_none q) part ∙ ap (λ t. t && true) (some-got front l (note m) ws) in
      ap (cut_end n) says
      ∙ ap (λ b. cond b [] (act.DieIn (last.Tick (record { 0 = n })) (sends_said (tick_part all all)) ∷ [])) inside

  pub ends-as : (i : ℕ) → i < upto → IsEndAs n (λ b. said_in b journal) (g.event n i)
  ends-as i low = by (g.event n i) refl
    where
      by : (e : NodeEvent M) → g.event n i ≡ e → IsEndAs n (λ b. said_in b (journal_to (upto))) e
      by (Does x) is = tt
      by (Ends (Take s l m) k) is = take-as i s l m k (run.ended i low (ap is_death is)) is
      by (Ends (Tick s) k) is = tick-as i s k (run.ended i low (ap is_death is)) is
      by (Dies s) is = tt
      by (Returns s) is = tt
