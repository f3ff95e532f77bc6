-- Journals that are paced and timed are carried: sends that never fall run through the clock in order.
use Rattle.std.proofs.Common.{◌≡◌, ℕ, ◌<◌, ◌≤◌, List, [], ◌∷◌, ◌++◌, true, false, arith, ⊎_elim}
use Rattle.std.specs.Prelude.{◌==◌}
use Rattle.std.specs.List.{AllByRecursion}
use Rattle.std.proofs.lemmas.Bool.{cases_Bool}
use Rattle.tiger_base.specs.declared.message.Note.{Note}
use Rattle.tiger_base.specs.Limits.{most_beats}
use Rattle.link_timing.specs.Clock.{Clock, IsClock, new_clock, arrival_at, after_send}
use Rattle.link_timing.proofs.Arrivals.{GoesOn-from_IsClock, IsClock-after_send, IsClock-new_clock}
use Rattle.node_kit.specs.declared.journal.What.{What}
use Rattle.node_kit.specs.declared.journal.What.TheVariants as what
use Rattle.node_kit.specs.declared.journal.Entry.{Entry}
use Rattle.node_kit.specs.Life.{death_of, cut_of, back_of}
use Rattle.run_facts.specs.Events.{Dated}
use Rattle.run_facts.specs.Carried.{sent_by, sent_on, got_on}
use Rattle.run_facts.specs.Paced.{Passage, passages, DiedInTurn}
use Rattle.run_facts.specs.Timed.{IsNotBelow, AreRising}
use Rattle.run_facts.specs.Laws.{PacedIsCarried}
use Rattle.run_facts.specs.Accounts.{Rising, IsTimely, AreInOrder}
use Rattle.run_facts.proofs.Rows.{all-weaker}
use Rattle.run_facts.proofs.Fronts.{paced-carries}

-- what they are on their way
pub record RunsOn {X : Type 0} (most : ℕ) (clock : Clock) (sent : List (Dated X)) : Type 0 where
  pub timely : AllByRecursion (IsTimely most) (passages clock sent)
  pub above : AllByRecursion (λ (f : Passage X). clock.last_arrival ≤ f.arrival) (passages clock sent)
  pub rising : Rising (λ (f : Passage X). f.arrival) (passages clock sent)

pub runs-on : {X : Type 0} (clock : Clock) (sent : List (Dated X)) → IsClock clock → AreInOrder clock.last_send sent
    → RunsOn clock.most clock sent
runs-on clock [] k h = record { timely = tt; above = tt; rising = tt }
runs-on {X} clock (s ∷ ss) k h =
    let goes = GoesOn-from_IsClock clock s.beat k h.0 in
    let rest = runs-on (after_send clock s.beat) ss (IsClock-after_send clock s.beat k h.0 h.1) h.2 in
    let in_order = goes.in_order in
    record {
      timely = ((goes.later, goes.soon), rest.timely);
      above = (
        in_order,
        all-weaker (λ (f : Passage X). arrival_at clock s.beat ≤ f.arrival)
            (λ f. clock.last_arrival ≤ f.arrival) (passages (after_send clock s.beat) ss)
            (λ f l. omega (arith, l, in_order)) rest.above,
      );
      rising = (rest.above, rest.rising);
    }

-- the notes that a journal has as sent
abbrev sent_one : ℕ → Entry → List (Dated Note)
sent_one l e = sent_by l e.stamp.beat e.what

order-one : (l low : ℕ) (e : Entry) (rest : List (Dated Note)) → low ≤ e.stamp.beat → e.stamp.beat ≤ most_beats
    → AreInOrder e.stamp.beat rest → AreInOrder low rest → AreInOrder low (sent_one l e ++ rest)
order-one l low e rest above early here there = by_what e.what
  where
    by_what : (w : What) → AreInOrder low (sent_by l e.stamp.beat w ++ rest)
    by_what (what.Sent link note) = ⊎_elim
        (λ (q : (link.0 == l) ≡ true). rw q (above, early, here))
        (λ (q : (link.0 == l) ≡ false). rw q there)
        (cases_Bool (link.0 == l))
    by_what (what.Got link note) = there
    by_what (what.Took r) = there
    by_what (what.Dropped r) = there
    by_what (what.Queued v d) = there
    by_what (what.Unqueued v) = there
    by_what (what.Put t) = there
    by_what (what.Gone v) = there
    by_what (what.ReadFailed w) = there
    by_what (what.Believed c) = there
    by_what what.Died = there
    by_what what.Returned = there

order-sent : (l low beats : ℕ) (journal : List Entry) → beats ≤ most_beats
    → AllByRecursion (λ (e : Entry). low ≤ e.stamp.beat) journal → AreRising journal
    → AllByRecursion (λ (e : Entry). e.stamp.beat < beats) journal → AreInOrder low (sent_on l journal)
unfolding sent_on
order-sent l low beats [] few above rising early = tt
order-sent l low beats (e ∷ es) few above rising early =
    let here = early.0 in
    order-one l low e (sent_on l es) above.0 (omega (arith, here, few))
    (order-sent l e.stamp.beat beats es few
    (all-weaker (IsNotBelow e) (λ (f : Entry). e.stamp.beat ≤ f.stamp.beat) es (λ f h. h.beat) rising.0) rising.1
    early.1)
    (order-sent l low beats es few above.1 rising.1 early.1)

all-low : (journal : List Entry) → AllByRecursion (λ (e : Entry). 0 ≤ e.stamp.beat) journal
all-low [] = tt
all-low (e ∷ es) = (omega arith, all-low es)

pub paced_is_carried : PacedIsCarried
paced_is_carried c journals course paced timed l from to sender receiver ends hs hr =
    let delay = c.plan.sound.ranges.delay in
    let start = new_clock l c.delay c.plan.params.delay in
    let theirs = timed from sender hs in
    let on = runs-on start (sent_on l sender)
    (IsClock-new_clock l c.delay c.plan.params.delay delay.0 delay.1 course.delay)
    (order-sent l 0 c.beats sender course.beats (all-low sender) theirs.rising theirs.early) in
    paced-carries (death_of c to) (cut_of c to) (back_of c to) (course.returns_later to) c.plan.params.delay c.beats
    start
    (DiedInTurn (death_of c to) l receiver) (sent_on l sender) (got_on l receiver) on.timely on.rising
    (paced.on_links l from to sender receiver ends hs hr)
