-- What the journal of a node tells of each beat, if it returns and if it does not, is its events in that beat.
use Rattle.std.proofs.Common.{◌≡◌, ℕ, zero, suc, ◌+◌, ◌-◌, ◌<◌, ◌≤◌, List, [], ◌∷◌, ◌++◌, map, filter, length, true, false, Option, Some, None, refl, ap, sym, ◌∙◌, subst, arith, ⊎_elim, inl, inr, append-nil}
use Rattle.std.specs.Prelude.{◌==◌, ◌⊎◌, nat_le, nat_lt}
use Rattle.std.specs.List.{AllByRecursion}
use Rattle.std.proofs.lemmas.Bool.{cases_Bool, cases_eq, cases_lt, eq-eqb, ne_eqb}
use Rattle.std.proofs.lemmas.Bool.Decides.{nat_tests}
use Rattle.std.proofs.lemmas.List.{map-append}
use Rattle.std.proofs.lemmas.List.Elements.{filter-append}
use Rattle.tiger_base.specs.declared.message.Note.{Note}
use Rattle.node_kit.specs.declared.course.Course.{Course}
use Rattle.node_kit.specs.declared.journal.Entry.{Entry}
use Rattle.node_kit.specs.declared.journal.What.{What}
use Rattle.node_kit.specs.Courses.{ReturnsLater, reading_of}
use Rattle.node_kit.specs.Life.{Lifetime, acts, back_of, cut_of, death_of, ends_in, lifetime_of, returns}
use Rattle.node_kit.specs.Links.{IsInLink}
use Rattle.node_kit.specs.Steps.{Input, Deed}
use Rattle.node_kit.specs.Steps.Input.{Take, Tick}
use Rattle.run_facts.specs.Accounts.{AreAlive, AreCounted, AreHere, DeathIsLast, IsLed, tick_count, open_after}
use Rattle.run_facts.specs.Carried.{got_on, since, until}
use Rattle.run_facts.specs.Events.{NodeEvent, Past, Dated, AreFair, after, entries_at, is_death, is_return, noted_as, stamp_at, take_on, takes_along, written}
use Rattle.run_facts.specs.Events.NodeEvent.{Does, Ends, Dies, Returns}
use Rattle.run_facts.specs.Histories.{History, beat, open_beat, past}
use Rattle.run_facts.proofs.Along.{got-written, written-append}
use Rattle.run_facts.proofs.Listed.{listed, listed-all, listed-alive, listed-counted, listed-ended, listed-past, listed-ticks}
use Rattle.run_facts.proofs.Recording.{open-ticked}
use Rattle.run_facts.proofs.Rows.{all-append, all-map, all-weaker, filter-none}
use Rattle.run_facts.proofs.Timelines.{open-ticks}
use Rattle.ring_world.specs.declared.event.Act.{Act}
use Rattle.ring_world.specs.declared.event.Act.TheVariants as act
use Rattle.ring_world.specs.declared.event.Event.{Event}
use Rattle.ring_world.proofs.Ways.{place-append}
use Rattle.kept_worlds.specs.Events.{begin_of_beat, cut_end, end_of_beat, event_in, events_in, gets_behind, in_life, lost_in, said_in}
use Rattle.kept_worlds.proofs.Ends.{IsEndAs, IsOfLife, IsRest, lives-in, named-acts, named-append, named-none, shown, takes-none}
use Rattle.kept_worlds.proofs.Gets.{AreLevel, AreToldAs, AreToldBefore, IsInFirst, IsInLater, gets-written, takes_behind, told-before}
use Rattle.kept_worlds.proofs.Naming.{named, named_in}
use Rattle.kept_worlds.proofs.Said.{said-append, said-none}
use Rattle.kept_worlds.proofs.Told.{IsTellable, ends-as, event-dated, told-from}

-- ---- a course's word on a return

-- who dies and returns does not act in the beat of its death unless that cuts it off there
pub not-through : (c : Course) (n d w : ℕ) → death_of c n ≡ Some d → back_of c n ≡ Some w → d < w
    → acts (lifetime_of c n) d ≡ true → ends_in (lifetime_of c n) d ≡ false → ⊥
unfolding acts
not-through c n d w death back later = by_left (cut_of c n) refl
  where
    by_left : (o : Option ℕ) → cut_of c n ≡ o → acts (lifetime_of c n) d ≡ true → ends_in (lifetime_of c n) d ≡ false → ⊥
    by_left None cut lives whole =
        let same : lifetime_of c n ≡ record { death = Some d; left = None; back = Some w; over = false } = rw (death, cut, back) refl in
        let below : nat_lt d d ≡ false = grind (arith, nat_tests) in
        let hit : (d == d) ≡ true = eq-eqb d d refl in
        let from : nat_le w d ≡ false = grind (arith, nat_tests, later) in
        let none : acts (record { death = Some d; left = None; back = Some w; over = false }) d ≡ false = rw (below, hit, from) refl in
        let q : true ≡ false = sym lives ∙ ap (λ (x : Lifetime). acts x d) same ∙ none in absurd (cc)
    by_left (Some k) cut lives whole =
        let same : lifetime_of c n ≡ record { death = Some d; left = Some k; back = Some w; over = false } = rw (death, cut, back) refl in
        let hit : (d == d) ≡ true = eq-eqb d d refl in
        let some : ends_in (record { death = Some d; left = Some k; back = Some w; over = false }) d ≡ true = rw hit refl in
        let q : false ≡ true = sym whole ∙ ap (λ (x : Lifetime). ends_in x d) same ∙ some in absurd (cc)

-- a beat that is not that of the return begins with nothing
begin-none : (c : Course) (n b : ℕ) → ((w : ℕ) → back_of c n ≡ Some w → (b ≡ w → ⊥)) → begin_of_beat c n b ≡ []
unfolding returns
begin-none c n b other = by_back (back_of c n) refl
  where
    by_back : (o : Option ℕ) → back_of c n ≡ o → begin_of_beat c n b ≡ []
    by_back None none =
        let t : returns (lifetime_of c n) b ≡ false = rw none refl in rw t refl
    by_back (Some w) is =
        let miss : (b == w) ≡ false = ne_eqb b w (other w is) in
        let t : returns (lifetime_of c n) b ≡ false = rw (is, miss) refl in rw t refl

begin-back : (c : Course) (n w : ℕ) → back_of c n ≡ Some w → begin_of_beat c n w ≡ act.Return (record { 0 = n }) ∷ []
unfolding returns
begin-back c n w is =
    let hit : (w == w) ≡ true = eq-eqb w w refl in
    let t : returns (lifetime_of c n) w ≡ true = rw (is, hit) refl in rw t refl

-- before any entry the next message has number 0
none-got : (l : ℕ) → got_on l [] ≡ []
unfolding got_on
none-got l = refl

level-opens : (M : Type 0) (c : Course) (n : ℕ) (numbers lost : ℕ → ℕ)
    → AreLevel {M = M} c n numbers lost (IsInFirst (back_of c n)) [] []
level-opens M c n numbers lost b first l led = by_back (back_of c n) first
  where
    by_back : (o : Option ℕ) → IsInFirst o b → lost_in o b (numbers l) + length (in_life o b (got_on l [])) ≡ 0
    by_back None first = let z : length (got_on l []) ≡ 0 = ap length (none-got l) in omega (arith, z)
    by_back (Some w) first =
        let t : nat_le w b ≡ false = grind (arith, nat_tests, first) in
        let z : length (until w (got_on l [])) ≡ 0 = ap (λ ds. length (until w ds)) (none-got l) in
        rw t (omega (arith, z))

-- what is taken is got in the beat of the event
take-low : {M : Type 0} (l w : ℕ) (e : NodeEvent M) → (stamp_at e).beat < w
    → AllByRecursion (λ (d : Dated M). d.beat < w) (take_on l e)
take-low l w (Does (Take s k m)) low = ⊎_elim
    (λ (t : (k.0 == l) ≡ true). rw t (low, tt))
    (λ (t : (k.0 == l) ≡ false). rw t tt)
    (cases_Bool (k.0 == l))
take-low l w (Does (Tick s)) low = tt
take-low l w (Ends (Take s k m) sends) low = ⊎_elim
    (λ (t : (k.0 == l) ≡ true). rw t (low, tt))
    (λ (t : (k.0 == l) ≡ false). rw t tt)
    (cases_Bool (k.0 == l))
take-low l w (Ends (Tick s) sends) low = tt
take-low l w (Dies s) low = tt
take-low l w (Returns s) low = tt

takes-low : {M : Type 0} (l w : ℕ) (es : List (NodeEvent M)) → AllByRecursion (λ (e : NodeEvent M). (stamp_at e).beat < w) es
    → AllByRecursion (λ (d : Dated M). d.beat < w) (takes_along l es)
takes-low l w [] low = tt
takes-low l w (e ∷ es) low =
    all-append (λ (d : Dated _). d.beat < w) (take_on l e) (takes_along l es) (take-low l w e low.0) (takes-low l w es low.1)

-- lists of events behind each other
pub listed-split : {M S : Type 0} (h : History M S) (n i a b m : ℕ) → i + a ≡ m
    → listed h n i (a + b) ≡ listed h n i a ++ listed h n m b
listed-split h n i zero b m sum =
    let same : i ≡ m = omega (arith, sum) in
    let none : 0 + b ≡ b = omega arith in
    ap (λ q. listed h n i q) none ∙ ap (λ q. listed h n q b) same
listed-split h n i (suc a) b m sum =
    let more : suc a + b ≡ suc (a + b) = omega arith in
    ap (λ q. listed h n i q) more ∙ ap (λ es. h.event n i ∷ es) (listed-split h n (suc i) a b m (omega (arith, sum)))

-- entries of events are in their beats
written-dated : {M S : Type 0} (note : M → Note) (step : S → Input M → Deed M S) (P : ℕ → Type 0) (es : List (NodeEvent M)) (x : Past S)
    → AllByRecursion (λ (e : NodeEvent M). P (stamp_at e).beat) es
    → AllByRecursion (λ (f : Entry). P f.stamp.beat) (written note step es x)
written-dated note step P [] x h = tt
written-dated note step P (e ∷ es) x h =
    all-append (λ (f : Entry). P f.stamp.beat) (entries_at note step e x) (written note step es (after note step e x))
    (event-dated note step P e x h.0) (written-dated note step P es (after note step e x) h.1)

-- an end that is told by one row of entries is told by another one that says the same of its beat
end-same : {M : Type 0} (n : ℕ) (one other : ℕ → List What) (e : NodeEvent M) → other (stamp_at e).beat ≡ one (stamp_at e).beat
    → IsEndAs n one e → IsEndAs n other e
end-same n one other (Does i) same h = tt
end-same n one other (Ends (Take s l m) sends) same h = ap (cut_end n) same ∙ h
end-same n one other (Ends (Tick s) sends) same h = ap (cut_end n) same ∙ h
end-same n one other (Dies s) same h = tt
end-same n one other (Returns s) same h = tt

-- takes of a life in which no death is to cut anything off are told as they are
whole-told : {M S : Type 0} (note : M → Note) (step : S → Input M → Deed M S) (c : Course) (n : ℕ) (es : List (NodeEvent M)) (x : Past S)
    → AllByRecursion (λ (e : NodeEvent M). is_death e ≡ false) es
    → AllByRecursion (λ (e : NodeEvent M). ends_in (lifetime_of c n) (stamp_at e).beat ≡ false) es
    → AreToldAs note step c n es x
whole-told note step c n [] x alive whole = tt
whole-told note step c n (Does (Take s l m) ∷ es) x alive whole =
    let w : ends_in (lifetime_of c n) s.beat ≡ false = whole.0 in
    (rw w refl, whole-told note step c n es (after note step (Does (Take s l m)) x) alive.1 whole.1)
whole-told note step c n (Does (Tick s) ∷ es) x alive whole =
    (tt, whole-told note step c n es (after note step (Does (Tick s)) x) alive.1 whole.1)
whole-told note step c n (Ends i k ∷ es) x alive whole = let q = alive.0 in absurd (cc)
whole-told note step c n (Dies s ∷ es) x alive whole =
    (tt, whole-told note step c n es (after note step (Dies s) x) alive.1 whole.1)
whole-told note step c n (Returns s ∷ es) x alive whole =
    (tt, whole-told note step c n es (after note step (Returns s) x) alive.1 whole.1)

whole-ends : {M : Type 0} (n : ℕ) (said : ℕ → List What) (e : NodeEvent M) → is_death e ≡ false → IsEndAs n said e
whole-ends n said (Does i) alive = tt
whole-ends n said (Ends i k) alive = absurd (cc)
whole-ends n said (Dies s) alive = tt
whole-ends n said (Returns s) alive = tt

-- a return is in the beat of the return
pub back-life : {M : Type 0} (e : NodeEvent M) (life : Lifetime) → IsOfLife life e → is_return e ≡ true
    → returns life (stamp_at e).beat ≡ true
back-life (Does i) life lives t = absurd (cc)
back-life (Ends i sends) life lives t = absurd (cc)
back-life (Dies s) life lives t = absurd (cc)
back-life (Returns s) life lives t = lives

pub return-event : {M : Type 0} (e : NodeEvent M) → is_return e ≡ true → e ≡ Returns (stamp_at e)
return-event (Does i) t = absurd (cc)
return-event (Ends i sends) t = absurd (cc)
return-event (Dies stamp) t = absurd (cc)
return-event (Returns stamp) t = refl

module _ {M S : Type 0} (note : M → Note) (step : S → Input M → Deed M S) (c : Course) (n : ℕ) (k : History M S) (u : ℕ)
    (low : u ≤ k.count n) (run : IsTellable note step c n k u)
    (stamped : (i : ℕ) → i < k.count n → (stamp_at (k.event n i)).reading ≡ reading_of c n (stamp_at (k.event n i)).beat)
    (fair : (i j m : ℕ) → i + j ≡ m → m ≤ k.count n → AreFair note step c.plan.params n (listed k n i j) (past note step k n i))
    (led : (i : ℕ) → i < k.count n → IsLed c.plan.params n (k.event n i))
    (open_in : (i : ℕ) → i < k.count n → AreCounted (open_beat k n i) (k.event n i ∷ []))
    (numbers : ℕ → ℕ) where
  abbrev first : List (NodeEvent M)
  first = listed k n 0 u

  abbrev start : Past S
  start = past note step k n 0

  abbrev mine : List Entry
  mine = written note step first start

  here-first : AreHere first
  here-first = listed-all k (λ e. is_return e ≡ false) n 0 u u (omega arith) (λ j _ at. run.here j at)

  counted-first : AreCounted 0 first
  counted-first = listed-counted k n 0 u u (omega arith) (λ j at. (open_in j (omega (arith, at, low))).0)

  whole-first : AreAlive first → 0 + tick_count first ≡ c.beats
  whole-first alive =
      let end = run.finish (λ j at. listed-alive k n 0 u u (omega arith) alive j (omega arith) at) in
      let opens = open-ticked k n u (λ j at. run.here j at) in
      let all = listed-ticks k n 0 u u (omega arith) in
      omega (arith, end, opens, all)

  lived-first : AllByRecursion (IsOfLife (lifetime_of c n)) first
  lived-first = listed-all k (IsOfLife (lifetime_of c n)) n 0 u u (omega arith) (λ j _ at. run.lived j at)

  led-first : AllByRecursion (IsLed c.plan.params n) first
  led-first = listed-all k (IsLed c.plan.params n) n 0 u u (omega arith) (λ j _ at. led j (omega (arith, at, low)))

  -- the rest of the first life, if what is said in each of its beats is what it says
  rest-first : (said : ℕ → List What) → ((j : ℕ) → j < u → said (beat k n j) ≡ said_in (beat k n j) mine) → IsRest c n 0 said first
  rest-first said same = record {
    stamped = listed-all k (λ e. (stamp_at e).reading ≡ reading_of c n (stamp_at e).beat) n 0 u u (omega arith)
        (λ j _ at. stamped j (omega (arith, at, low)));
    counted = counted-first;
    lived = lived-first;
    here = here-first;
    ended = listed-ended k n 0 u u (omega arith) (λ j at died. run.ended j at died);
    ends = listed-all k (IsEndAs n said) n 0 u u (omega arith) (λ j _ at.
        end-same n (λ b. said_in b mine) said (k.event n j) (same j at) (ends-as note step c n k u run j at));
    whole = whole-first;
  }

  -- ---- no return

  module _ (all : u ≡ k.count n) (later : ReturnsLater (death_of c n) (back_of c n))
      (away : (i : ℕ) → i < k.count n → is_death (k.event n i) ≡ true → (w : ℕ) → back_of c n ≡ Some w → c.beats ≤ w) where
    -- so the return that the course has is behind the last beat
    never : (w : ℕ) → back_of c n ≡ Some w → c.beats ≤ w
    never w is = ⊎_elim
        (λ (behind_it : c.beats ≤ w). behind_it)
        (λ (within : w < c.beats). absurd (by_death (death_of c n) refl (subst (ReturnsLater (death_of c n)) is later) within))
        (cases_le c.beats w)
      where
        cases_le : (a b : ℕ) → (a ≤ b) ⊎ (b < a)
        cases_le a b = ⊎_elim (λ (l : b < a). inr l) (λ (g : a ≤ b). inl g) (cases_lt b a)

        alive-or : (m : ℕ) → m ≤ u → (AllByRecursion (λ (e : NodeEvent M). is_death e ≡ false) (listed k n 0 m))
            ⊎ ((i : ℕ) × (i < m) × (is_death (k.event n i) ≡ true))
        alive-or zero up = inl tt
        alive-or (suc m) up = ⊎_elim
            (λ (alive : AllByRecursion (λ (e : NodeEvent M). is_death e ≡ false) (listed k n 0 m)). ⊎_elim
            (λ (t : is_death (k.event n m) ≡ true). inr (m, omega arith, t))
            (λ (f : is_death (k.event n m) ≡ false).
            let one : suc m ≡ m + 1 = omega arith in
            inl (subst (AllByRecursion (λ (e : NodeEvent M). is_death e ≡ false))
            (sym (ap (λ q. listed k n 0 q) one ∙ listed-split k n 0 m 1 m (omega arith)))
            (all-append (λ (e : NodeEvent M). is_death e ≡ false) (listed k n 0 m) (k.event n m ∷ []) alive (f, tt))))
            (cases_Bool (is_death (k.event n m))))
            (λ (dead : (i : ℕ) × (i < m) × (is_death (k.event n i) ≡ true)).
            let less = dead.1 in inr (dead.0, omega (arith, less), dead.2))
            (alive-or m (omega (arith, up)))

        by_death : (o : Option ℕ) → death_of c n ≡ o → ReturnsLater (death_of c n) (Some w) → w < c.beats → ⊥
        by_death None none h within = subst (λ o. ReturnsLater o (Some w)) none h
        by_death (Some d) death h within =
            let apart : d + 2 ≤ w = subst (λ o. ReturnsLater o (Some w)) death h in
            ⊎_elim
            (λ (alive : AllByRecursion (λ (e : NodeEvent M). is_death e ≡ false) first).
            let ticks = whole-first alive in
            let there = lives-in c n 0 d first counted-first here-first alive lived-first (omega arith) (omega (arith, ticks, within, apart)) in
            not-through c n d w death is (omega (arith, apart)) there.0 there.1)
            (λ (dead : (i : ℕ) × (i < u) × (is_death (k.event n i) ≡ true)).
            let less = dead.1 in
            let late = away dead.0 (omega (arith, less, low)) dead.2 w is in
            omega (arith, late, within))
            (alive-or u (omega arith))

    in-first : (b : ℕ) → b < c.beats → IsInFirst (back_of c n) b
    in-first b early = by_back (back_of c n) refl
      where
        by_back : (o : Option ℕ) → back_of c n ≡ o → IsInFirst o b
        by_back None none = tt
        by_back (Some w) is = let late = never w is in omega (arith, late, early)

    pub tells-first : (b : ℕ) → b < c.beats → events_in c n numbers b mine ≡ named_in k.before b n first
    tells-first b early =
        let its = listed-all k (λ e. IsInFirst (back_of c n) (stamp_at e).beat) n 0 u u (omega arith)
        (λ j _ at. in-first (beat k n j) (run.early j at)) in
        let told = told-before note step c n [] (λ x cut. refl) first start
        (told-from note step c n k u run 0 u (omega arith)) in
        let gets = gets-written note step c n numbers k.before (IsInFirst (back_of c n)) (inl (λ x h. h)) [] [] [] first start
        here-first its led-first (fair 0 u u (omega arith) low) told (level-opens M c n numbers k.before) in
        let got : gets_behind c n numbers [] mine ≡ takes_behind k.before [] first =
        ap (gets_behind c n numbers []) (sym (append-nil mine)) ∙ gets ∙ append-nil (takes_behind k.before [] first) in
        let begin = begin-none c n b (λ w is same. let late = never w is in omega (arith, late, same, early)) in
        ap (λ q. map (event_in c n b) (q ++ (map (λ (g : Dated Act). g.item)
        (filter (λ g. g.beat == b) (gets_behind c n numbers [] mine)) ++ end_of_beat c n b (said_in b mine)))) begin
        ∙ ap (λ q. map (event_in c n b) (map (λ (g : Dated Act). g.item) (filter (λ g. g.beat == b) q)
        ++ end_of_beat c n b (said_in b mine))) got
        ∙ sym (named-acts k.before c n (λ x. said_in x mine) 0 b [] first (rest-first (λ x. said_in x mine) (λ j at. refl))
        (omega arith) early (inr (in-first b early)))

  -- ---- a return

  module _ (at_back : u < k.count n) (w death : ℕ) (back : is_return (k.event n u) ≡ true) (when : beat k n u ≡ w)
      (course : back_of c n ≡ Some w) (death_is : death_of c n ≡ Some death) (apart : death + 2 ≤ w)
      (before : (i : ℕ) → i < u → beat k n i < w)
      (alive : (i : ℕ) → u < i → i < k.count n → is_death (k.event n i) ≡ false)
      (here : (i : ℕ) → u < i → i < k.count n → is_return (k.event n i) ≡ false)
      (since_back : (i : ℕ) → u < i → i < k.count n → w ≤ beat k n i)
      (lived : (i : ℕ) → i < k.count n → IsOfLife (lifetime_of c n) (k.event n i))
      (opened : open_beat k n (suc u) ≡ w) (finish : open_beat k n (k.count n) ≡ c.beats)
      (ends_at : (b : ℕ) → ends_in (lifetime_of c n) b ≡ true → b ≡ death)
      (right : (l : ℕ) → IsInLink c.plan.params n l → numbers l ≡ k.before l) where
    abbrev pub more : ℕ
    more = k.count n - suc u

    sum : suc u + more ≡ k.count n
    sum = omega (arith, at_back)

    abbrev second : List (NodeEvent M)
    second = listed k n (suc u) more

    abbrev again : Past S
    again = past note step k n (suc u)

    abbrev tail : List Entry
    tail = written note step second again

    -- the events of the later life
    all-second : (P : NodeEvent M → Type 0) → ((j : ℕ) → u < j → j < k.count n → P (k.event n j)) → AllByRecursion P second
    all-second P f = listed-all k P n (suc u) more (k.count n) sum (λ j from at. f j from at)

    since-second : AllByRecursion (λ (e : NodeEvent M). w ≤ (stamp_at e).beat) second
    since-second = all-second (λ e. w ≤ (stamp_at e).beat) since_back

    whole-beat : (b : ℕ) → w ≤ b → ends_in (lifetime_of c n) b ≡ false
    whole-beat b up = ⊎_elim
        (λ (t : ends_in (lifetime_of c n) b ≡ true). let is = ends_at b t in absurd (omega (arith, is, apart, up)))
        (λ (f : ends_in (lifetime_of c n) b ≡ false). f)
        (cases_Bool (ends_in (lifetime_of c n) b))

    -- nothing of it is said in a beat below the return
    silent : (b : ℕ) → b < w → said_in b tail ≡ []
    silent b down =
        said-none b tail (written-dated note step (λ x. (x == b) ≡ false) second again
        (all-weaker (λ (e : NodeEvent M). w ≤ (stamp_at e).beat) (λ e. ((stamp_at e).beat == b) ≡ false) second
        (λ e up. grind (arith, nat_tests, up, down)) since-second))

    abbrev whole : List Entry
    whole = mine ++ tail

    said-first : (b : ℕ) → b < w → said_in b whole ≡ said_in b mine
    said-first b down =
        said-append b mine tail ∙ ap (λ q. said_in b mine ++ q) (silent b down) ∙ append-nil (said_in b mine)

    first-in : (b : ℕ) → b < w → IsInFirst (back_of c n) b
    first-in b down = subst (λ o. IsInFirst o b) (sym course) down

    later-in : (b : ℕ) → w ≤ b → IsInLater (back_of c n) b
    later-in b up = subst (λ o. IsInLater o b) (sym course) up

    first-its : AllByRecursion (λ (e : NodeEvent M). IsInFirst (back_of c n) (stamp_at e).beat) first
    first-its = listed-all k (λ e. IsInFirst (back_of c n) (stamp_at e).beat) n 0 u u (omega arith)
        (λ j _ at. first-in (beat k n j) (before j at))

    second-its : AllByRecursion (λ (e : NodeEvent M). IsInLater (back_of c n) (stamp_at e).beat) second
    second-its = all-second (λ e. IsInLater (back_of c n) (stamp_at e).beat) (λ j from at. later-in (beat k n j) (since_back j from at))

    abbrev ret : NodeEvent M
    ret = Returns (stamp_at (k.event n u))

    ret-is : k.event n u ≡ ret
    ret-is = return-event (k.event n u) back

    -- behind the return a message has the number that the events give it
    level-again : AreLevel c n numbers k.before (IsInLater (back_of c n)) mine (first ++ ret ∷ [])
    level-again b later l led_to =
        let up : w ≤ b = subst (λ o. IsInLater o b) course later in
        let t : nat_le w b ≡ true = grind (arith, nat_tests, up) in
        let low_got : AllByRecursion (λ (d : Dated Note). d.beat < w) (got_on l mine) =
        subst (AllByRecursion (λ (d : Dated Note). d.beat < w))
        (sym (got-written note step c.plan.params n l first start (fair 0 u u (omega arith) low)))
        (all-map (λ (d : Dated Note). d.beat < w) (noted_as note) (takes_along l first)
        (takes-low l w first (listed-all k (λ e. (stamp_at e).beat < w) n 0 u u (omega arith) (λ j _ at. before j at)))) in
        let none : since w (got_on l mine) ≡ [] = filter-none (λ (d : Dated Note). nat_le w d.beat) (got_on l mine)
        (all-weaker (λ (d : Dated Note). d.beat < w) (λ d. nat_le w d.beat ≡ false) (got_on l mine)
        (λ d less. grind (arith, nat_tests, less)) low_got) in
        let count : lost_in (Some w) b (numbers l) + length (in_life (Some w) b (got_on l mine)) ≡ numbers l + 0 =
        rw (t, none) refl in
        ap (λ o. lost_in o b (numbers l) + length (in_life o b (got_on l mine))) course ∙ count
        ∙ (let z : numbers l + 0 ≡ numbers l = omega arith in z) ∙ right l led_to
        ∙ sym (place-append l (k.before l) 0 first (ret ∷ []))

    rest-second : IsRest c n w (λ b. said_in b whole) second
    rest-second = record {
      stamped = all-second (λ e. (stamp_at e).reading ≡ reading_of c n (stamp_at e).beat) (λ j _ at. stamped j at);
      counted = subst (λ t. AreCounted t second) opened
          (listed-counted k n (suc u) more (k.count n) sum (λ j at. (open_in j at).0));
      lived = all-second (IsOfLife (lifetime_of c n)) (λ j _ at. lived j at);
      here = all-second (λ e. is_return e ≡ false) here;
      ended = ended-second second (all-second (λ e. is_death e ≡ false) alive);
      ends = all-second (IsEndAs n (λ b. said_in b whole)) (λ j from at. whole-ends n (λ b. said_in b whole) (k.event n j) (alive j from at));
      whole = λ _.
          let opens = open-ticks w second (all-second (λ e. is_return e ≡ false) here) in
          let all = open-listed-from more (suc u) (k.count n) sum in
          let same : open_after w second ≡ open_after (open_beat k n (suc u)) second = ap (λ t. open_after t second) (sym opened) in
          omega (arith, opens, all, same, finish);
    }
      where
        ended-second : (es : List (NodeEvent M)) → AllByRecursion (λ (e : NodeEvent M). is_death e ≡ false) es
            → DeathIsLast es
        ended-second [] h = tt
        ended-second (e ∷ es) h = (λ died. (let q : true ≡ false = sym died ∙ h.0 in absurd (cc)), ended-second es h.1)

        open-listed-from : (j i m : ℕ) → i + j ≡ m → open_after (open_beat k n i) (listed k n i j) ≡ open_beat k n m
        open-listed-from zero i m s = ap (open_beat k n) (let q : i ≡ m = omega (arith, s) in q)
        open-listed-from (suc j) i m s = open-listed-from j (suc i) m (omega (arith, s))

    told-first : AreToldBefore note step c n tail first start
    told-first = told-before note step c n tail (λ b cut. let is = ends_at b cut in silent b (omega (arith, is, apart)))
        first start (told-from note step c n k u run 0 u (omega arith))

    told-second : AreToldBefore note step c n [] second again
    told-second = told-before note step c n [] (λ x cut. refl) second again
        (whole-told note step c n second again (all-second (λ e. is_death e ≡ false) alive)
        (all-second (λ e. ends_in (lifetime_of c n) (stamp_at e).beat ≡ false)
        (λ j from at. whole-beat (beat k n j) (since_back j from at))))

    -- all that it got
    gets-all : gets_behind c n numbers [] whole
        ≡ takes_behind k.before [] first ++ takes_behind k.before (first ++ ret ∷ []) second
    gets-all =
        gets-written note step c n numbers k.before (IsInFirst (back_of c n)) (inl (λ x h. h)) tail [] [] first start
        here-first first-its led-first (fair 0 u u (omega arith) low) told-first (level-opens M c n numbers k.before)
        ∙ ap (λ q. takes_behind k.before [] first ++ q) (ap (gets_behind c n numbers mine) (sym (append-nil tail))
        ∙ gets-written note step c n numbers k.before (IsInLater (back_of c n)) (inr (λ x h. h)) [] mine (first ++ ret ∷ []) second again
        (all-second (λ e. is_return e ≡ false) here) second-its (all-second (IsLed c.plan.params n) (λ j _ at. led j at))
        (fair (suc u) more (k.count n) sum (omega arith)) told-second level-again
        ∙ append-nil (takes_behind k.before (first ++ ret ∷ []) second))

    abbrev in_b : ℕ → List Event → List Event
    in_b b es = filter (λ e. e.stamp.beat == b) es

    abbrev got_b : ℕ → List (Dated Act) → List Act
    got_b b gs = map (λ (g : Dated Act). g.item) (filter (λ g. g.beat == b) gs)

    -- all events, by name
    named-all : (b : ℕ) → in_b b (named k.before n [] (first ++ ret ∷ second))
        ≡ in_b b (named k.before n [] first) ++ in_b b (named k.before n first (ret ∷ second))
    named-all b =
        ap (in_b b) (named-append k.before n [] first (ret ∷ second))
        ∙ filter-append (λ (e : Event). e.stamp.beat == b) (named k.before n [] first) (named k.before n first (ret ∷ second))

    takes-all : (b : ℕ) → got_b b (gets_behind c n numbers [] whole)
        ≡ got_b b (takes_behind k.before [] first) ++ got_b b (takes_behind k.before (first ++ ret ∷ []) second)
    takes-all b =
        ap (got_b b) gets-all
        ∙ ap (map (λ (g : Dated Act). g.item))
        (filter-append (λ (g : Dated Act). g.beat == b) (takes_behind k.before [] first) (takes_behind k.before (first ++ ret ∷ []) second))
        ∙ map-append (λ (g : Dated Act). g.item) (filter (λ g. g.beat == b) (takes_behind k.before [] first))
        (filter (λ g. g.beat == b) (takes_behind k.before (first ++ ret ∷ []) second))

    ret-beat : (stamp_at ret).beat ≡ w
    ret-beat = sym (ap (λ (e : NodeEvent M). (stamp_at e).beat) ret-is) ∙ when

    -- a beat below the return
    tells-low : (b : ℕ) → b < w → b < c.beats
        → events_in c n numbers b whole ≡ in_b b (named k.before n [] (first ++ ret ∷ second))
    tells-low b down early =
        let other : AllByRecursion (λ (e : NodeEvent M). ((stamp_at e).beat == b) ≡ false) second =
        all-weaker (λ (e : NodeEvent M). w ≤ (stamp_at e).beat) (λ e. ((stamp_at e).beat == b) ≡ false) second
        (λ e up. grind (arith, nat_tests, up, down)) since-second in
        let miss : ((stamp_at ret).beat == b) ≡ false =
        (let is = ret-beat in grind (arith, nat_tests, is, down)) in
        let none = named-none k.before n b first (ret ∷ second) (miss, other) in
        let begin = begin-none c n b (λ x is same.
        (let both : ◌≡◌ {A = Option ℕ} (Some x) (Some w) = sym is ∙ course in
        let q : x ≡ w = cc in omega (arith, q, same, down))) in
        let taken = takes-none k.before b (first ++ ret ∷ []) second other in
        let mine_named = named-acts k.before c n (λ x. said_in x whole) 0 b [] first
        (rest-first (λ x. said_in x whole) (λ j at. said-first (beat k n j) (before j at)))
        (omega arith) early (inr (first-in b down)) in
        ap (λ q. map (event_in c n b) (q ++ (got_b b (gets_behind c n numbers [] whole) ++ end_of_beat c n b (said_in b whole)))) begin
        ∙ ap (λ q. map (event_in c n b) (q ++ end_of_beat c n b (said_in b whole)))
        (takes-all b ∙ ap (λ q. got_b b (takes_behind k.before [] first) ++ map (λ (g : Dated Act). g.item) q) taken
        ∙ append-nil (got_b b (takes_behind k.before [] first)))
        ∙ sym mine_named
        ∙ sym (named-all b ∙ ap (λ q. in_b b (named k.before n [] first) ++ q) none ∙ append-nil (in_b b (named k.before n [] first)))

    -- the return in a row
    ret-named : (b : ℕ) → w ≤ b → in_b b (named k.before n first (ret ∷ second))
        ≡ map (event_in c n b) (begin_of_beat c n b) ++ in_b b (named k.before n (first ++ ret ∷ []) second)
    ret-named b up = ⊎_elim
        (λ (same : b ≡ w).
        let hit : ((stamp_at ret).beat == b) ≡ true = eq-eqb (stamp_at ret).beat b (ret-beat ∙ sym same) in
        let begin : begin_of_beat c n b ≡ act.Return (record { 0 = n }) ∷ [] = ap (begin_of_beat c n) same ∙ begin-back c n w course in
        let show = shown c n b (stamp_at ret) (act.Return (record { 0 = n }))
        (sym (ap (λ (e : NodeEvent M). (stamp_at e).reading) ret-is) ∙ stamped u at_back
        ∙ ap (λ (e : NodeEvent M). reading_of c n (stamp_at e).beat) ret-is) (ret-beat ∙ sym same) in
        rw (hit, begin) (ap (λ q. q ∷ in_b b (named k.before n (first ++ ret ∷ []) second)) show))
        (λ (other : b ≡ w → ⊥).
        let miss : ((stamp_at ret).beat == b) ≡ false = ne_eqb (stamp_at ret).beat b (λ e. other (sym e ∙ ret-beat)) in
        let begin = begin-none c n b (λ x is same.
        (let both : ◌≡◌ {A = Option ℕ} (Some x) (Some w) = sym is ∙ course in
        let q : x ≡ w = cc in other (same ∙ q))) in
        rw (miss, begin) refl)
        (cases_eq b w)

    -- a beat from the return on
    tells-high : (b : ℕ) → w ≤ b → b < c.beats
        → events_in c n numbers b whole ≡ in_b b (named k.before n [] (first ++ ret ∷ second))
    tells-high b up early =
        let other : AllByRecursion (λ (e : NodeEvent M). ((stamp_at e).beat == b) ≡ false) first =
        listed-all k (λ e. ((stamp_at e).beat == b) ≡ false) n 0 u u (omega arith)
        (λ j _ at. (let less : beat k n j < w = before j at in grind (arith, nat_tests, less, up))) in
        let none = named-none k.before n b [] first other in
        let taken = takes-none k.before b [] first other in
        let theirs = named-acts k.before c n (λ x. said_in x whole) w b (first ++ ret ∷ []) second rest-second up early
        (inl (all-second (λ e. is_death e ≡ false) alive)) in
        let acts = got_b b (takes_behind k.before (first ++ ret ∷ []) second) ++ end_of_beat c n b (said_in b whole) in
        ap (λ q. map (event_in c n b) (begin_of_beat c n b ++ (q ++ end_of_beat c n b (said_in b whole))))
        (takes-all b ∙ ap (λ q. map (λ (g : Dated Act). g.item) q ++ got_b b (takes_behind k.before (first ++ ret ∷ []) second)) taken)
        ∙ map-append (event_in c n b) (begin_of_beat c n b) acts
        ∙ ap (λ q. map (event_in c n b) (begin_of_beat c n b) ++ q) (sym theirs)
        ∙ sym (named-all b ∙ ap (λ q. q ++ in_b b (named k.before n first (ret ∷ second))) none ∙ ret-named b up)

    tells-both : (b : ℕ) → b < c.beats
        → events_in c n numbers b whole ≡ in_b b (named k.before n [] (first ++ ret ∷ second))
    tells-both b early = ⊎_elim
        (λ (down : b < w). tells-low b down early)
        (λ (up : w ≤ b). tells-high b up early)
        (cases_lt b w)

    -- all events of the node, and all that they write
    all-are : listed k n 0 (k.count n) ≡ first ++ ret ∷ second
    all-are =
        let whole_sum : k.count n ≡ u + suc more = omega (arith, sum) in
        ap (λ q. listed k n 0 q) whole_sum ∙ listed-split k n 0 u (suc more) u (omega arith)
        ∙ ap (λ e. first ++ e ∷ second) ret-is

    writes-whole : written note step (listed k n 0 (k.count n)) start ≡ whole
    writes-whole =
        ap (λ es. written note step es start) all-are
        ∙ written-append note step first (ret ∷ second) start
        ∙ ap (λ (x : Past S). mine ++ written note step second x) (listed-past note step k n 0 u u (omega arith)
        ∙ sym (ap (λ (e : NodeEvent M). after note step e (past note step k n u)) ret-is))

    -- so what is written tells of all events
    pub tells-again : (b : ℕ) → b < c.beats
        → events_in c n numbers b (written note step (listed k n 0 (k.count n)) start)
        ≡ named_in k.before b n (listed k n 0 (k.count n))
    tells-again b early =
        ap (events_in c n numbers b) writes-whole ∙ tells-both b early ∙ sym (ap (named_in k.before b n) all-are)
