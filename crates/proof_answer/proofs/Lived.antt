-- A history that keeps its course, in lists: what the course and the nodes' lives say of each node's events.
use Rattle.std.proofs.Common.{◌≡◌, ℕ, zero, suc, ◌+◌, ◌<◌, ◌≤◌, List, [], ◌∷◌, filter, Bool, true, false, Option, Some, None}
use Rattle.std.proofs.Common.{refl, ap, sym, ◌∙◌, subst, arith, cond, ⊎_elim, inl, inr}
use Rattle.std.specs.Prelude.{◌⊎◌, ◌==◌}
use Rattle.std.specs.List.{AllByRecursion}
use Rattle.std.proofs.lemmas.Bool.{cases_Bool, cases_eq, eqb-true}
use Rattle.tiger_base.specs.declared.number.Stamp.{Stamp}
use Rattle.tiger_base.specs.declared.number.LinkNo.{LinkNo}
use Rattle.tiger_base.specs.declared.message.Note.{Note}
use Rattle.slot_plan.specs.declared.params.Params.{Params}
use Rattle.link_timing.specs.Clock.{new_clock}
use Rattle.node_kit.specs.declared.course.Course.{Course}
use Rattle.node_kit.specs.Courses.{reading_of}
use Rattle.node_kit.specs.Life.{Lifetime, acts, lifetime_of, death_of, cut_of, back_of}
use Rattle.node_kit.specs.Links.{links_of, ends_of}
use Rattle.node_kit.specs.Steps.{Input, Deed, stamp_of}
use Rattle.node_kit.specs.Steps.Input.{Take, Tick}
use Rattle.run_facts.specs.Events.{NodeEvent, Past, Dated, IsCutUpTo, behind, is_death, is_return, is_tick_input, opening}
use Rattle.run_facts.specs.Events.{sends_along, stamp_at, takes_along}
use Rattle.run_facts.specs.Events.NodeEvent.{Does, Ends, Dies, Returns}
use Rattle.run_facts.specs.Histories.{History, past, beat, open_beat, sent, taken, HasCut, IsBack, IsComplete, IsRun}
use Rattle.run_facts.specs.Histories.{TakesAt}
use Rattle.run_facts.specs.Accounts.{AreTurns, AreWhole, IsInTurn, IsOpen, IsWhole, LivesBy, input_in}
use Rattle.run_facts.specs.Kept.{KeepsCourse}
use Rattle.run_facts.specs.Paced.{AreGot, AreMissed, Passage, is_heard, passages}
use Rattle.run_facts.proofs.Listed.{events_of, listed, listed-all, listed-counted, listed-sends, listed-takes, listed-turn}
use Rattle.run_facts.proofs.Listed.{next-sum}
use Rattle.proof_answer.proofs.Left.{AreLeft}
use Rattle.proof_answer.proofs.Lifetimes.{IsLater, not-later, after-later, acts-later, dies-later, ended-later, idle-later}
use Rattle.proof_answer.proofs.Lifetimes.{returns-later}
use Rattle.proof_answer.proofs.Stages.{goes-on}
use Rattle.proof_answer.proofs.Stages.Stage.{Alive}
use Rattle.proof_answer.proofs.Turning.{IsCutAmong}

-- what node n takes comes on a link from one of the nodes
abbrev pub HasComeIn : {M : Type 0} → Params → ℕ → ℕ → Input M → Type 0
HasComeIn p nodes n (Take stamp link msg) =
    (from : ℕ) × (from < nodes) × (ends_of (links_of p) link.0 ≡ Some (from, n))
HasComeIn p nodes n (Tick stamp) = Unit {0}

abbrev pub HasCome : {M : Type 0} → Params → ℕ → ℕ → NodeEvent M → Type 0
HasCome p nodes n (Does i) = HasComeIn p nodes n i
HasCome p nodes n (Ends i sends) = HasComeIn p nodes n i
HasCome p nodes n (Dies stamp) = Unit {0}
HasCome p nodes n (Returns stamp) = Unit {0}

-- a link on which something is taken leads here from one of the nodes
pub none-or-from : {M : Type 0} (p : Params) (nodes n l : ℕ) (es : List (NodeEvent M))
    → AllByRecursion (HasCome p nodes n) es
    → (takes_along l es ≡ []) ⊎ ((from : ℕ) × (from < nodes) × (ends_of (links_of p) l ≡ Some (from, n)))
none-or-from p nodes n l [] h = inl refl
none-or-from p nodes n l (Does (Take s k m) ∷ es) h = ⊎_elim
    (λ (q : (k.0 == l) ≡ true).
    let leads = subst (λ x. ends_of (links_of p) x ≡ Some (h.0.0, n)) (eqb-true _ _ q) h.0.2 in
    inr (h.0.0, h.0.1, leads))
    (λ (q : (k.0 == l) ≡ false). rw q (none-or-from p nodes n l es h.1))
    (cases_Bool (k.0 == l))
none-or-from p nodes n l (Does (Tick s) ∷ es) h = none-or-from p nodes n l es h.1
none-or-from p nodes n l (Ends (Take s k m) sends ∷ es) h = ⊎_elim
    (λ (q : (k.0 == l) ≡ true).
    let leads = subst (λ x. ends_of (links_of p) x ≡ Some (h.0.0, n)) (eqb-true _ _ q) h.0.2 in
    inr (h.0.0, h.0.1, leads))
    (λ (q : (k.0 == l) ≡ false). rw q (none-or-from p nodes n l es h.1))
    (cases_Bool (k.0 == l))
none-or-from p nodes n l (Ends (Tick s) sends ∷ es) h = none-or-from p nodes n l es h.1
none-or-from p nodes n l (Dies s ∷ es) h = none-or-from p nodes n l es h.1
none-or-from p nodes n l (Returns s ∷ es) h = none-or-from p nodes n l es h.1

-- the events of nodes that begin in these states and live through a course
pub record HaveLived {M S : Type 0} (note : M → Note) (step : S → Input M → Deed M S) (c : Course) (nodes : ℕ)
    (first : ℕ → S) (events : ℕ → List (NodeEvent M)) : Type 0 where
  pub all : (n : ℕ) → n < nodes → AreLeft note step (reading_of c n) (lifetime_of c n) c.beats Alive 0
      (opening (first n) (lifetime_of c n)) (events n)
  pub come : (n : ℕ) → n < nodes → AllByRecursion (HasCome c.plan.params nodes n) (events n)
  pub paced : (l from to : ℕ) → from < nodes → to < nodes
      → ends_of (links_of c.plan.params) l ≡ Some (from, to)
      → AreGot (lifetime_of c to) (IsCutAmong l (events to))
      (filter (is_heard (lifetime_of c to) c.beats) (passages (new_clock l c.delay c.plan.params.delay)
      (sends_along note step l (events from) (opening (first from) (lifetime_of c from)))))
      (takes_along l (events to))

-- events of a history in a list: each is what its node's steps make of it, and a death is among them
listed-whole : {M S : Type 0} (note : M → Note) (step : S → Input M → Deed M S) (h : History M S) (n i k m : ℕ)
    → i + k ≡ m → ((j : ℕ) → j < m → IsWhole step (h.event n j) (past note step h n j))
    → AreWhole note step (listed h n i k) (past note step h n i)
listed-whole note step h n i zero m e f = tt
listed-whole note step h n i (suc k) m e f =
    (f i (omega (arith, e)), listed-whole note step h n (suc i) k m (next-sum i k m e) f)

listed-cut : {M S : Type 0} (l : ℕ) (h : History M S) (n i k m j : ℕ) → i + k ≡ m → i ≤ j → j < m
    → IsCutUpTo l (h.event n j) → IsCutAmong l (listed h n i k)
listed-cut l h n i zero m j e low high cut = absurd (omega (arith, e, low, high))
listed-cut l h n i (suc k) m j e low high cut = ⊎_elim
    (λ (same : i ≡ j). inl (subst (λ q. IsCutUpTo l (h.event n q)) (sym same) cut))
    (λ (other : i ≡ j → ⊥).
    inr (listed-cut l h n (suc i) k m j (next-sum i k m e) (omega (arith, low, other)) high cut))
    (cases_eq i j)

takes-at : {M : Type 0} (e : NodeEvent M) (s : Stamp) (k : LinkNo) (m : M) → input_in e ≡ Some (Take s k m)
    → TakesAt e s k m
takes-at (Does i) s k m is = let q : i ≡ Take s k m = cc in inl (ap Does q)
takes-at {M} (Ends i sends) s k m is =
    let q : i ≡ Take s k m = cc in inr (sends, ap (λ (x : Input M). Ends x sends) q)
takes-at (Dies r) s k m is = absurd (cc)
takes-at (Returns r) s k m is = absurd (cc)

death-stays : {M : Type 0} (e : NodeEvent M) → is_death e ≡ true → is_return e ≡ false
death-stays (Does i) h = absurd (cc)
death-stays (Ends i sends) h = refl
death-stays (Dies s) h = refl
death-stays (Returns s) h = absurd (cc)

step-soon : (b : Bool) (t : ℕ) → cond b (suc t) t ≤ suc t
step-soon true t = omega arith
step-soon false t = omega arith

behind-soon : {M : Type 0} (e : NodeEvent M) (t : ℕ) → is_return e ≡ false → behind e t ≤ suc t
behind-soon (Does i) t h = step-soon (is_tick_input i) t
behind-soon (Ends i sends) t h = step-soon (is_tick_input i) t
behind-soon (Dies s) t h = omega arith
behind-soon (Returns s) t h = absurd (cc)

got-weaker : {X : Type 0} (life : Lifetime) (A B : Type 0) (heard : List (Passage X)) (got : List (Dated X)) → (A → B)
    → AreGot life A heard got → AreGot life B heard got
got-weaker life A B heard got f h = ⊎_elim
    (λ all. inl all)
    (λ (missed : A × AreMissed life heard got). inr (f missed.0, missed.1))
    h

module _ {M S : Type 0} (note : M → Note) (step : S → Input M → Deed M S) (c : Course) (nodes : ℕ) (h : History M S)
    (lives : (n : ℕ) → n < nodes → h.life n ≡ lifetime_of c n) (run : IsRun note step c.plan.params nodes h)
    (complete : IsComplete note step nodes c.beats h) (keeps : KeepsCourse note step c nodes h) where
  later-at : (n i : ℕ) → n < nodes → IsLater (death_of c n) (cut_of c n) (back_of c n) (past note step h n i).life
  later-at n zero low =
      subst (IsLater (death_of c n) (cut_of c n) (back_of c n)) (sym (lives n low))
      (not-later (death_of c n) (cut_of c n) (back_of c n))
  later-at n (suc i) low =
      after-later note step (death_of c n) (cut_of c n) (back_of c n) (h.event n i) (past note step h n i)
      (later-at n i low)

  -- each event is as the life of its course has it
  lives-at : (n i : ℕ) → n < nodes → i < h.count n → LivesBy (lifetime_of c n) (h.event n i)
  lives-at n i low at = by_event (h.event n i) refl
    where
      now : Past S
      now = past note step h n i

      live-at : (x : Input M) (e : NodeEvent M) → h.event n i ≡ e → stamp_at e ≡ stamp_of x
          → acts now.life (beat h n i) ≡ true → acts (lifetime_of c n) (stamp_of x).beat ≡ true
      live-at x e is stamp live =
          let same : beat h n i ≡ (stamp_of x).beat =
          ap (λ (f : NodeEvent M). (stamp_at f).beat) is ∙ ap (λ (s : Stamp). s.beat) stamp in
          acts-later (death_of c n) (cut_of c n) (back_of c n) now.life (later-at n i low) (stamp_of x).beat
          (ap (acts now.life) (sym same) ∙ live)

      by_event : (e : NodeEvent M) → h.event n i ≡ e → LivesBy (lifetime_of c n) e
      by_event (Does x) is = live-at x (Does x) is refl (complete.acting n i x low at is).0
      by_event (Ends x sends) is =
          let both = complete.ending n i sends x low at is in (
            live-at x (Ends x sends) is refl both.0,
            ended-later step (death_of c n) (cut_of c n) (back_of c n) x sends now (later-at n i low) both.1,
          )
      by_event (Dies s) is =
          let both = complete.dying n i s low at is in (
            idle-later (death_of c n) (cut_of c n) (back_of c n) now.life (later-at n i low) s.beat both.0 both.1,
            dies-later (death_of c n) (cut_of c n) (back_of c n) now.life (later-at n i low) s.beat both.1,
          )
      by_event (Returns s) is =
          returns-later (death_of c n) (cut_of c n) (back_of c n) now.life (later-at n i low) s.beat
          (complete.returning n i s low at is)

  whole-at : (n i : ℕ) → n < nodes → i < h.count n → IsWhole step (h.event n i) (past note step h n i)
  whole-at n i low at = by_event (h.event n i) refl
    where
      by_event : (e : NodeEvent M) → h.event n i ≡ e → IsWhole step e (past note step h n i)
      by_event (Does x) is = (complete.acting n i x low at is).1
      by_event (Ends x sends) is = (complete.ending n i sends x low at is).1
      by_event (Dies s) is = tt
      by_event (Returns s) is = tt

  turn-at : (n a b : ℕ) → n < nodes → a < b → b < h.count n → IsInTurn (h.event n a) (h.event n b)
  turn-at n a b low up high = by_inputs (input_in (h.event n a)) (input_in (h.event n b)) refl refl
    where
      by_inputs : (i j : Option (Input M)) → input_in (h.event n a) ≡ i → input_in (h.event n b) ≡ j → AreTurns i j
      by_inputs (Some (Take s k m)) (Some (Take r o x)) one two =
          keeps.in_turn n a b s r k o m x low up high (takes-at (h.event n a) s k m one)
          (takes-at (h.event n b) r o x two)
      by_inputs (Some (Take s k m)) (Some (Tick r)) one two = tt
      by_inputs (Some (Take s k m)) None one two = tt
      by_inputs (Some (Tick s)) j one two = tt
      by_inputs None j one two = tt

  come-at : (n i : ℕ) → n < nodes → i < h.count n → HasCome c.plan.params nodes n (h.event n i)
  come-at n i low at = by_event (h.event n i) refl
    where
      by_event : (e : NodeEvent M) → h.event n i ≡ e → HasCome c.plan.params nodes n e
      by_event (Does (Take s k m)) is =
          let came = run.carried n i s k m low at (inl is) in (came.from, came.known, came.ends)
      by_event (Does (Tick s)) is = tt
      by_event (Ends (Take s k m) sends) is =
          let came = run.carried n i s k m low at (inr (sends, is)) in (came.from, came.known, came.ends)
      by_event (Ends (Tick s) sends) is = tt
      by_event (Dies s) is = tt
      by_event (Returns s) is = tt

  -- each event is in the open beat, or a return in a later one
  open-at : (n i : ℕ) → n < nodes → i < h.count n → IsOpen (open_beat h n i) (h.event n i)
  open-at n i low at = by_event (h.event n i) refl
    where
      now-at : (e : NodeEvent M) → h.event n i ≡ e → is_return e ≡ false → (stamp_at e).beat ≡ open_beat h n i
      now-at e is here =
          ap (λ (f : NodeEvent M). (stamp_at f).beat) (sym is)
          ∙ run.in_beat n i low at (ap (λ (f : NodeEvent M). is_return f) is ∙ here)

      back-at : IsBack h n i → open_beat h n i ≤ beat h n i
      back-at b =
          let next = b.next in
          let apart = b.apart in
          let last_here = death-stays (h.event n b.last) b.died in
          let last_now = run.in_beat n b.last low (omega (arith, next, at)) last_here in
          let soon = behind-soon (h.event n b.last) (open_beat h n b.last) last_here in
          let opens : open_beat h n i ≡ behind (h.event n b.last) (open_beat h n b.last) = ap (open_beat h n) next in
          omega (arith, apart, last_now, soon, opens)

      by_event : (e : NodeEvent M) → h.event n i ≡ e → IsOpen (open_beat h n i) e
      by_event (Does x) is = now-at (Does x) is refl
      by_event (Ends x sends) is = now-at (Ends x sends) is refl
      by_event (Dies s) is = now-at (Dies s) is refl
      by_event (Returns s) is =
          let back = back-at (run.returned n i low at (ap (λ (f : NodeEvent M). is_return f) is)) in
          let same : beat h n i ≡ s.beat = ap (λ (f : NodeEvent M). (stamp_at f).beat) is in
          omega (arith, back, same)

  -- all events of a node are what is left before the first
  all-of : (first : ℕ → S) → ((n : ℕ) → n < nodes → h.first n ≡ first n) → (n : ℕ) → n < nodes
      → AreLeft note step (reading_of c n) (lifetime_of c n) c.beats Alive 0 (opening (first n) (lifetime_of c n))
      (events_of h n)
  all-of first same n low =
      let m = h.count n in
      let sum : 0 + m ≡ m = omega arith in
      let Shown : NodeEvent M → Type 0 = λ e. (stamp_at e).reading ≡ reading_of c n (stamp_at e).beat in
      let opens : ◌≡◌ {A = Past S} (opening (h.first n) (h.life n)) (opening (first n) (lifetime_of c n)) =
      rw (same n low, lives n low) refl in
      record {
        stamped = listed-all h Shown n 0 m m sum (λ j _ at. keeps.stamped n j low at);
        early = listed-all h (λ e. (stamp_at e).beat < c.beats) n 0 m m sum
            (λ j _ at. complete.early n j low at);
        counted = listed-counted h n 0 m m sum (λ j at. open-at n j low at);
        in_turn = listed-turn h n 0 m m sum (λ a b up high. turn-at n a b low up high);
        lived = listed-all h (LivesBy (lifetime_of c n)) n 0 m m sum (λ j _ at. lives-at n j low at);
        whole = subst (λ (q : Past S). AreWhole note step (events_of h n) q) opens
            (listed-whole note step h n 0 m m sum (λ j at. whole-at n j low at));
        goes_on = goes-on note step c.plan.params nodes c.beats h run complete n low (back_of c n)
            (λ i. ap (λ (q : Lifetime). q.back) (later-at n i low).is);
      }

  paced-of : (first : ℕ → S) → ((n : ℕ) → n < nodes → h.first n ≡ first n) → (l from to : ℕ)
      → from < nodes → to < nodes
      → ends_of (links_of c.plan.params) l ≡ Some (from, to)
      → AreGot (lifetime_of c to) (IsCutAmong l (events_of h to))
      (filter (is_heard (lifetime_of c to) c.beats) (passages (new_clock l c.delay c.plan.params.delay)
      (sends_along note step l (events_of h from) (opening (first from) (lifetime_of c from)))))
      (takes_along l (events_of h to))
  paced-of first same l from to low_from low_to ends =
      let start = new_clock l c.delay c.plan.params.delay in
      let Heard : List (Dated M) → List (Passage M) =
      λ ds. filter (is_heard (lifetime_of c to) c.beats) (passages start ds) in
      let Came = IsCutAmong l (events_of h to) in
      let Paced : List (Dated M) → List (Dated M) → Type 0 = λ sent got. AreGot (lifetime_of c to) Came (Heard sent) got in
      let whole : (n : ℕ) → 0 + h.count n ≡ h.count n = λ n. omega arith in
      let opens : ◌≡◌ {A = Past S} (opening (h.first from) (h.life from))
      (opening (first from) (lifetime_of c from)) =
      rw (same from low_from, lives from low_from) refl in
      let sends = listed-sends note step l h from 0 (h.count from) (h.count from) (whole from) in
      let takes = listed-takes l h to 0 (h.count to) (h.count to) (whole to) in
      let among : HasCut l h to → Came =
      λ cut. listed-cut l h to 0 (h.count to) (h.count to) cut.0 (whole to) (omega arith) cut.1 cut.2 in
      let in_numbers : Paced (sent note step l h from (h.count from)) (taken l h to (h.count to)) =
      got-weaker (lifetime_of c to) (HasCut l h to) Came (Heard (sent note step l h from (h.count from)))
      (taken l h to (h.count to)) among (keeps.on_links l from to low_from low_to ends) in
      let with_takes = subst (λ ds. Paced (sent note step l h from (h.count from)) ds) takes in_numbers in
      let with_sends = subst (λ ds. Paced ds (takes_along l (events_of h to))) sends with_takes in
      subst (λ (q : Past S). Paced (sends_along note step l (events_of h from) q) (takes_along l (events_of h to)))
      opens with_sends

  pub have-lived : (first : ℕ → S) → ((n : ℕ) → n < nodes → h.first n ≡ first n)
      → HaveLived note step c nodes first (events_of h)
  have-lived first same = record {
    all = all-of first same;
    come = λ n low. listed-all h (HasCome c.plan.params nodes n) n 0 (h.count n) (h.count n) (omega arith)
        (λ j _ at. come-at n j low at);
    paced = paced-of first same;
  }
