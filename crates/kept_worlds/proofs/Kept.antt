-- What the journals of a run tell, as events, is its events by beat and node.
use Rattle.std.proofs.Common.{◌≡◌, ℕ, zero, suc, ◌+◌, ◌<◌, ◌≤◌, List, [], ◌∷◌, ◌++◌, map, length, true, false, Option, Some, refl, ap, sym, ◌∙◌, subst, arith, add-one, ⊎_elim, inl, inr}
use Rattle.std.specs.Prelude.{nat_lt, slice_get}
use Rattle.std.specs.List.{AllByRecursion}
use Rattle.std.proofs.lemmas.Bool.{cases_Bool}
use Rattle.std.proofs.lemmas.Bool.Decides.{nat_tests}
use Rattle.std.proofs.lemmas.Option.{none-some}
use Rattle.std.proofs.lemmas.List.{length-map}
use Rattle.tiger_base.specs.declared.message.Note.{Note}
use Rattle.slot_plan.specs.declared.params.Params.{Params}
use Rattle.node_kit.specs.declared.course.Course.{Course}
use Rattle.node_kit.specs.declared.journal.Entry.{Entry}
use Rattle.node_kit.specs.Courses.{ReturnsLater, reading_of}
use Rattle.node_kit.specs.Life.{back_of, cut_of, death_of, lifetime_of}
use Rattle.node_kit.specs.Links.{IsInLink}
use Rattle.node_kit.specs.Steps.{Input, Deed}
use Rattle.node_kit.specs.Steps.Input.{Take, Tick}
use Rattle.node_kit.proofs.Rows.{get-below}
use Rattle.run_facts.specs.Accounts.{Rising, AreCounted, IsLed, IsOpen}
use Rattle.run_facts.specs.Carried.{sent_on}
use Rattle.run_facts.specs.Events.{NodeEvent, Past, Dated, AreFair, noted_as, opening, sends_along, stamp_at, is_return, written}
use Rattle.run_facts.specs.Events.NodeEvent.{Does, Ends, Dies, Returns}
use Rattle.run_facts.specs.Histories.{History, IsRun, beat, below, past, last_of, open_beat, sent}
use Rattle.run_facts.specs.Kept.{HaveKept}
use Rattle.run_facts.proofs.Along.{journal-after, sends-none, sent-written}
use Rattle.run_facts.proofs.Listed.{listed, events_of, listed-last, listed-all, listed-counted, listed-sends, next-sum}
use Rattle.run_facts.proofs.Timelines.{rising-counted}
use Rattle.proof_answer.proofs.Dated.{events_below}
use Rattle.proof_answer.proofs.Lifetimes.{returns-when}
use Rattle.proof_answer.proofs.Lists.{each-same, element-of}
use Rattle.ring_world.specs.Laws.{IsPlace}
use Rattle.ring_world.specs.Merging.{Happening, IsMerged}
use Rattle.ring_world.specs.Machine.{Being, journals_of}
use Rattle.proof_turns.specs.Laws.{AreToldApart}
use Rattle.kept_worlds.proofs.Numbers.{listed-below}
use Rattle.kept_worlds.specs.Events.{events_in, events_of_beat, events_from, events_by, lost_told, sent_before, sent_below}
use Rattle.kept_worlds.specs.Laws.{CubsStand, ForgetsTicks, KeptRunsAreAccepted}
use Rattle.kept_worlds.proofs.Ends.{cut-in}
use Rattle.kept_worlds.proofs.Again.{back-life, return-event, tells-again, tells-first}
use Rattle.kept_worlds.proofs.Going.{may-open}
use Rattle.kept_worlds.proofs.Naming.{named_in, named_row, named_rows, rows_from, told-rows, own-each, rows-all, rows-rising}
use Rattle.kept_worlds.proofs.Cuts.{g, death-told, early-told, front, later-told, life-told, away-told, run-told, tellable, may-told, writes-told, stamped-told}
use Rattle.kept_worlds.proofs.Merged.{merges-accepted}
use Rattle.run_facts.proofs.Passing.{beats_never_fall, opens_by, return_opens}
use Rattle.kept_worlds.proofs.Returning.{IsNextBack, up-again}

-- no event is below beat 0
below-none : {M : Type 0} (es : List (NodeEvent M)) → events_below 0 es ≡ []
below-none [] = refl
below-none (e ∷ es) =
    let t : nat_lt (stamp_at e).beat 0 ≡ false = grind (arith, nat_tests) in rw t (below-none es)

-- the journals of nodes from one on, each of which tells its node's events of each beat
abbrev Tell : {M : Type 0} → (ℕ → ℕ) → Course → (ℕ → ℕ → ℕ) → (ℕ → List (NodeEvent M)) → ℕ → List (List Entry) → Type 0
Tell lost c numbers all n journals =
    (k : ℕ) (journal : List Entry) → slice_get journals k ≡ Some journal
    → (b : ℕ) → b < c.beats → events_in c (n + k) (numbers (n + k)) b journal ≡ named_in lost b (n + k) (all (n + k))

row-told : {M : Type 0} (lost : ℕ → ℕ) (c : Course) (numbers : ℕ → ℕ → ℕ) (all : ℕ → List (NodeEvent M)) (b n : ℕ)
    (journals : List (List Entry)) → b < c.beats → Tell lost c numbers all n journals
    → events_of_beat c numbers b n journals ≡ named_row lost b n (length journals) all
row-told lost c numbers all b n [] low tell = refl
row-told {M} lost c numbers all b n (journal ∷ rest) low tell =
    let none : n + 0 ≡ n = omega arith in
    let here : events_in c n (numbers n) b journal ≡ named_in lost b n (all n) =
    subst (λ q. events_in c q (numbers q) b journal ≡ named_in lost b q (all q)) none (tell 0 journal refl b low) in
    let more : Tell lost c numbers all (suc n) rest = λ k j at beat early.
    (let sum : n + suc k ≡ suc n + k = omega arith in
    subst (λ q. events_in c q (numbers q) beat j ≡ named_in lost beat q (all q)) sum (tell (suc k) j at beat early)) in
    ap (λ q. q ++ events_of_beat c numbers b (n + 1) rest) here
    ∙ ap (λ q. named_in lost b n (all n) ++ events_of_beat c numbers b q rest) (add-one n)
    ∙ ap (λ q. named_in lost b n (all n) ++ q) (row-told lost c numbers all b (suc n) rest low more)

rows-told : {M : Type 0} (lost : ℕ → ℕ) (c : Course) (numbers : ℕ → ℕ → ℕ) (all : ℕ → List (NodeEvent M)) (b k : ℕ)
    (journals : List (List Entry)) → b + k ≤ c.beats → Tell lost c numbers all 0 journals
    → events_from c numbers b k journals ≡ named_rows lost b k (length journals) all
rows-told lost c numbers all b zero journals low tell = refl
rows-told lost c numbers all b (suc k) journals low tell =
    ap (λ q. q ++ events_from c numbers (b + 1) k journals) (row-told lost c numbers all b 0 journals (omega (arith, low)) tell)
    ∙ ap (λ q. named_row lost b 0 (length journals) all ++ q) (rows-told lost c numbers all (b + 1) k journals (omega (arith, low)) tell)

-- how many were sent below a beat does not hang on how they are noted
below-noted : {M : Type 0} (note : M → Note) (b : ℕ) (ds : List (Dated M)) → below b (map (noted_as note) ds) ≡ below b ds
below-noted note b [] = refl
below-noted note b (d ∷ ds) = ⊎_elim
    (λ (t : nat_lt d.beat b ≡ true). rw t (ap suc (below-noted note b ds)))
    (λ (t : nat_lt d.beat b ≡ false). rw t (below-noted note b ds))
    (cases_Bool (nat_lt d.beat b))

-- if only one journal says that messages were sent on a link, all that were sent there are its
sent-other : (w l : ℕ) (journals : List (List Entry))
    → ((j : ℕ) (journal : List Entry) → slice_get journals j ≡ Some journal → sent_on l journal ≡ []) → sent_below w l journals ≡ 0
sent-other w l [] none = refl
sent-other w l (journal ∷ rest) none =
    let here : below w (sent_on l journal) ≡ 0 = ap (below w) (none 0 journal refl) in
    let more = sent-other w l rest (λ j q at. none (suc j) q at) in
    omega (arith, here, more)

sent-one : (w l from : ℕ) (journals : List (List Entry)) (one : List Entry) → slice_get journals from ≡ Some one
    → ((j : ℕ) (journal : List Entry) → slice_get journals j ≡ Some journal → (from ≡ j → ⊥) → sent_on l journal ≡ [])
    → sent_below w l journals ≡ below w (sent_on l one)
sent-one w l from [] one at none = absurd (none-some one at)
sent-one w l zero (journal ∷ rest) one at none =
    let same : journal ≡ one = cc in
    let more = sent-other w l rest (λ j q there. none (suc j) q there (λ e. omega (arith, e))) in
    let here : below w (sent_on l journal) ≡ below w (sent_on l one) = ap (λ q. below w (sent_on l q)) same in
    omega (arith, more, here)
sent-one w l (suc from) (journal ∷ rest) one at none =
    let here : below w (sent_on l journal) ≡ 0 = ap (below w) (none 0 journal refl (λ e. omega (arith, e))) in
    let more = sent-one w l from rest one at (λ j q there ne. none (suc j) q there (λ e. ne (let z : from ≡ j = omega (arith, e) in z))) in
    omega (arith, more, here)

module _ {M S : Type 0} (note : M → Note) (step : S → Input M → Deed M S) (p : Params) (nodes : ℕ) (h : History M S)
    (run : IsRun note step p nodes h) where
  -- the outputs of listed events are allowed
  fair-listed : (n i k m : ℕ) → n < nodes → i + k ≡ m → m ≤ h.count n
      → AreFair note step p n (listed h n i k) (past note step h n i)
  fair-listed n i zero m low sum high = tt
  fair-listed n i (suc k) m low sum high =
      (run.fair n i low (omega (arith, sum, high)), fair-listed n (suc i) k m low (next-sum i k m sum) high)

module _ {M S : Type 0} (note : M → Note) (step : S → Input M → Deed M S) (stands : S → Params → ℕ → Type 0) (c : Course)
    (given nodes : List S) (journals : List (List Entry))
    (later : (n : ℕ) → ReturnsLater (death_of c n) (back_of c n))
    (forgets : (n back : ℕ) → back_of c n ≡ Some back → ForgetsTicks step stands c.plan.params given)
    (apart : AreToldApart note step stands c.plan.params) (cubs : CubsStand stands c.plan.params given)
    (place : IsPlace c.plan.params (length given) c.beats) (kept : HaveKept note step c given nodes journals) where
  abbrev k : History M S
  k = g note step stands c given nodes journals forgets apart cubs kept

  abbrev all : ℕ → List (NodeEvent M)
  all = events_of k

  runs : IsRun note step c.plan.params (length given) k
  runs = run-told note step stands c given nodes journals forgets apart cubs kept

  stamps : (n i : ℕ) → n < length given → i < k.count n
      → (stamp_at (k.event n i)).reading ≡ reading_of c n (stamp_at (k.event n i)).beat
  stamps = stamped-told note step stands c given nodes journals forgets apart cubs kept

  -- each event is open to its node, and what is taken comes on a link to it
  opens : (n i : ℕ) → n < length given → i < k.count n → IsOpen (open_beat k n i) (k.event n i)
  opens n i low at =
      may-open (open_beat k n i) (k.event n i) (λ here. sym (runs.in_beat n i low at here))
      (opens_by runs n low i at)

  led-to : (n i : ℕ) → n < length given → i < k.count n → IsLed c.plan.params n (k.event n i)
  led-to n i low at = by_event (k.event n i) refl
    where
      by_event : (e : NodeEvent M) → k.event n i ≡ e → IsLed c.plan.params n e
      by_event (Does (Take s l m)) is = let came = runs.carried n i s l m low at (inl is) in (came.from, came.ends)
      by_event (Does (Tick s)) is = tt
      by_event (Ends (Take s l m) sends) is = let came = runs.carried n i s l m low at (inr (sends, is)) in (came.from, came.ends)
      by_event (Ends (Tick s) sends) is = tt
      by_event (Dies s) is = tt
      by_event (Returns s) is = tt

  counted : (n : ℕ) → n < length given → AreCounted 0 (all n)
  counted n low = listed-counted k n 0 (k.count n) (k.count n) (omega arith) (λ j at. opens n j low at)

  early : (n : ℕ) → n < length given → AllByRecursion (λ (e : NodeEvent M). (stamp_at e).beat < c.beats) (all n)
  early n low =
      listed-all k (λ e. (stamp_at e).beat < c.beats) n 0 (k.count n) (k.count n) (omega arith) (λ j _ at.
      early-told note step stands c given nodes journals forgets apart cubs kept n j low at)

  rising : (n : ℕ) → n < length given → Rising (λ (e : NodeEvent M). (stamp_at e).beat) (all n)
  rising n low = (rising-counted 0 (all n) (counted n low)).1

  -- where the first life of a node ends
  abbrev lives : (n : ℕ) → IsNextBack k n 0 (k.count n)
  lives n = front note step stands c given nodes journals forgets apart cubs kept n

  -- each journal tells its node's events
  wrote : (n : ℕ) (journal : List Entry) → n < length given → slice_get journals n ≡ Some journal
      → journal ≡ written note step (all n) (past note step k n 0)
  wrote n journal low at =
      let start = opening (k.first n) (k.life n) in
      let same = writes-told note step stands c given nodes journals forgets apart cubs kept n low in
      let there : Some journal ≡ Some (last_of note step kept.lived.history n).journal = sym at ∙ kept.lived.theirs.writes n low in
      some-list journal (last_of note step kept.lived.history n).journal there ∙ sym same
      ∙ ap (λ (s : Past S). s.journal) (listed-last note step k n) ∙ journal-after note step (all n) start
    where
      some-list : (xs ys : List Entry) → Some xs ≡ Some ys → xs ≡ ys
      some-list xs ys e = cc

  fair : (n : ℕ) → n < length given → (i j m : ℕ) → i + j ≡ m → m ≤ k.count n
      → AreFair note step c.plan.params n (listed k n i j) (past note step k n i)
  fair n low i j m sum high = fair-listed note step c.plan.params (length given) k runs n i j m low sum high

  abbrev numbers : ℕ → ℕ → ℕ
  numbers = lost_told c journals

  -- what a journal says was sent on a link
  says-sent : (j l : ℕ) (journal : List Entry) → j < length given → slice_get journals j ≡ Some journal
      → sent_on l journal ≡ map (noted_as note) (sends_along note step l (all j) (past note step k j 0))
  says-sent j l journal low at =
      ap (sent_on l) (wrote j journal low at)
      ∙ sent-written note step c.plan.params j l (all j) (past note step k j 0)
      (fair j low 0 (k.count j) (k.count j) (omega arith) (omega arith))

  -- so as many are told to be lost as the history has it
  right : (n u w : ℕ) → n < length given → u < k.count n → is_return (k.event n u) ≡ true → beat k n u ≡ w → back_of c n ≡ Some w
      → (l : ℕ) → IsInLink c.plan.params n l → numbers n l ≡ k.before l
  right n u w low at back when course l link =
      let from = link.0 in
      let low_from = (place.linked l from n link.1).0 in
      let size = kept.each_has_journal in
      let there = element-of journals from (omega (arith, size, low_from)) in
      let mine : map (noted_as note) (sends_along note step l (all from) (past note step k from 0))
      ≡ map (noted_as note) (sent note step l k from (k.count from)) =
      ap (map (noted_as note)) (sym (listed-sends note step l k from 0 (k.count from) (k.count from) (omega arith))) in
      let event : k.event n u ≡ Returns (stamp_at (k.event n u)) = return-event (k.event n u) back in
      ap (λ o. sent_before o l journals) course
      ∙ sent-one w l from journals there.0 there.1 (λ j journal here ne.
      (let within = get-below journals j journal here in
      let low_j : j < length given = omega (arith, size, within) in
      says-sent j l journal low_j here
      ∙ ap (map (noted_as note)) (sends-none note step c.plan.params j from n l (all j) (past note step k j 0) link.1 ne
      (fair j low_j 0 (k.count j) (k.count j) (omega arith) (omega arith)))))
      ∙ ap (below w) (says-sent from l there.0 low_from there.1 ∙ mine)
      ∙ below-noted note w (sent note step l k from (k.count from))
      ∙ sym (runs.before l from n u (stamp_at (k.event n u)) low_from low link.1 at event
      ∙ ap (λ q. below q (sent note step l k from (k.count from))) when)

  -- the journal of a node that returns
  tell-again : (n : ℕ) (journal : List Entry) (low : n < length given) → slice_get journals n ≡ Some journal
      → (lives n).at < k.count n → is_return (k.event n (lives n).at) ≡ true
      → (b : ℕ) → b < c.beats → events_in c n (numbers n) b journal ≡ named_in k.before b n (all n)
  tell-again n journal low at inner back b early =
      let u = (lives n).at in
      let w = beat k n u in
      let r = runs.returned n u low inner back in
      let next = r.next in
      let apart_by = r.apart in
      let died = death-told note step stands c given nodes journals forgets apart cubs kept n r.last low (omega (arith, next, inner)) r.died in
      let life = life-told note step stands c given nodes journals forgets apart cubs kept n u low inner in
      let course : back_of c n ≡ Some w =
      returns-when (death_of c n) (cut_of c n) (back_of c n) w (back-life (k.event n u) (lifetime_of c n) life back) in
      let up = up-again note step c.plan.params (length given) k runs n low in
      let opened : open_beat k n (suc u) ≡ w = return_opens (k.event n u) (open_beat k n u) back in
      let tells = tells-again note step c n k u (lives n).low (tellable note step stands c given nodes journals forgets apart cubs kept n low)
      (λ i. stamps n i low) (fair n low) (λ i. led-to n i low) (λ i high. (opens n i low high, tt)) (numbers n)
      inner w (beat k n r.last) back refl course died apart_by
      (λ i less. (let rise = beats_never_fall runs n low i r.last (omega (arith, less, next)) (omega (arith, next, inner)) in
      omega (arith, rise, apart_by)))
      (λ i more high. (up u i inner high back more).0) (λ i more high. (up u i inner high back more).1)
      (λ i more high. beats_never_fall runs n low u i (omega (arith, more)) high)
      (λ i high. life-told note step stands c given nodes journals forgets apart cubs kept n i low high)
      opened (later-told note step stands c given nodes journals forgets apart cubs kept n low u inner back)
      (λ x cut. (let both : ◌≡◌ {A = Option ℕ} (Some x) (Some (beat k n r.last)) = sym (cut-in c n x cut) ∙ died in let q : x ≡ beat k n r.last = cc in q))
      (right n u w low inner back refl course) in
      ap (λ q. events_in c n (numbers n) b q) (wrote n journal low at) ∙ tells b early

  -- and of one that does not
  tell-once : (n : ℕ) (journal : List Entry) (low : n < length given) → slice_get journals n ≡ Some journal
      → (lives n).at ≡ k.count n
      → (b : ℕ) → b < c.beats → events_in c n (numbers n) b journal ≡ named_in k.before b n (all n)
  tell-once n journal low at same b early =
      let u = (lives n).at in
      let tells = tells-first note step c n k u (lives n).low (tellable note step stands c given nodes journals forgets apart cubs kept n low)
      (λ i. stamps n i low) (fair n low) (λ i. led-to n i low) (λ i high. (opens n i low high, tt)) (numbers n)
      same (later n)
      (λ i high died w is. away-told note step stands c given nodes journals forgets apart cubs kept n i low same high died w is) in
      ap (λ q. events_in c n (numbers n) b q) (wrote n journal low at
      ∙ ap (λ q. written note step (listed k n 0 q) (past note step k n 0)) (sym same))
      ∙ tells b early ∙ ap (λ q. named_in k.before b n (listed k n 0 q)) same

  tell-of : (n : ℕ) (journal : List Entry) → slice_get journals n ≡ Some journal → (b : ℕ) → b < c.beats
      → events_in c n (numbers n) b journal ≡ named_in k.before b n (all n)
  tell-of n journal at b early =
      let size = kept.each_has_journal in
      let within = get-below journals n journal at in
      let low : n < length given = omega (arith, size, within) in
      ⊎_elim
      (λ (same : (lives n).at ≡ k.count n). tell-once n journal low at same b early)
      (λ (back : ((lives n).at < k.count n) × (is_return (k.event n (lives n).at) ≡ true)).
      tell-again n journal low at back.0 back.1 b early)
      (lives n).ends

  tell-each : Tell k.before c numbers all 0 journals
  tell-each n journal at b early =
      let same : n ≡ 0 + n = omega arith in
      subst (λ q. events_in c q (numbers q) b journal ≡ named_in k.before b q (all q)) same (tell-of n journal at b early)

  -- so all that they tell is a list of the history's events
  merged-of : IsMerged k (length given) (events_by c journals)
  merged-of = record {
    merged = rows_from 0 c.beats (length given) all;
    told = rows-told k.before c numbers all 0 c.beats journals (omega arith) tell-each
        ∙ ap (λ q. named_rows k.before 0 c.beats q all) kept.each_has_journal
        ∙ sym (told-rows k.before (length given) all rising 0 c.beats (λ _. []) (λ n low. sym (below-none (all n))));
    of_nodes = rows-all (λ (x : Happening M). x.node < length given) 0 c.beats (length given) all (λ k e low _. low);
    rising = rows-rising 0 c.beats (length given) all;
    each = λ n low.
        own-each c.beats (length given) n all low (early n low) (rising n low)
        ∙ sym (listed-below k n (k.count n));
  }

pub kept-accepted : {M S : Type 0} (note : M → Note) (step : S → Input M → Deed M S) (stands : S → Params → ℕ → Type 0)
    → KeptRunsAreAccepted note step stands
kept-accepted {M} {S} note step stands c given nodes journals place apart later forgets told cubs kept =
    let k = g note step stands c given nodes journals forgets told cubs kept in
    let may = may-told note step stands c given nodes journals forgets told cubs kept place apart in
    let merged = merged-of note step stands c given nodes journals later forgets told cubs place kept in
    let lived = merges-accepted M S note step c.plan.params c.beats given k (events_by c journals) place
    (λ n s here. (kept.lived.theirs.opens n s here).0)
    (run-told note step stands c given nodes journals forgets told cubs kept) may merged in
    let m = lived.machine in
    let count : length (journals_of m) ≡ length given =
    length-map m.beings (λ (b : Being S). b.past.journal) ∙ lived.each_has_being in
    record {
      machine = m;
      accepts = lived.accepts;
      writes = each-same (journals_of m) journals (count ∙ sym kept.each_has_journal) (λ n at.
          let within : n < length given = omega (arith, at, count) in
          lived.writes n within
          ∙ ap Some (writes-told note step stands c given nodes journals forgets told cubs kept n within)
          ∙ sym (kept.lived.theirs.writes n within));
    }
