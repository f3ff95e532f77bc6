-- The events of a node in a beat are its takes, and then its tick or its death.
use Rattle.std.proofs.Common.{◌≡◌, ℕ, suc, ◌+◌, ◌<◌, ◌≤◌, List, [], ◌∷◌, ◌++◌, map, filter, true, false, Option, Some, None, refl, ap, sym, ◌∙◌, subst, arith, cond, ⊎_elim, inl, inr, append_assoc, append-nil}
use Rattle.std.specs.Prelude.{◌==◌, ◌&&◌, ◌⊎◌, not, Bool, nat_le, nat_lt, is_some}
use Rattle.std.specs.List.{AllByRecursion}
use Rattle.std.proofs.lemmas.Bool.{cases_Bool, cases_eq, eqb-true, eq-eqb, ne_eqb}
use Rattle.std.proofs.lemmas.Bool.Decides.{nat_tests}
use Rattle.tiger_base.specs.declared.number.Stamp.{Stamp}
use Rattle.node_kit.specs.declared.course.Course.{Course}
use Rattle.node_kit.specs.declared.journal.What.{What}
use Rattle.node_kit.specs.Courses.{reading_of, stamp_in}
use Rattle.node_kit.specs.Life.{Lifetime, lifetime_of, death_of, cut_of, back_of, acts, dies, ends_in, returns}
use Rattle.node_kit.specs.Steps.{Input}
use Rattle.node_kit.specs.Steps.Input.{Take, Tick}
use Rattle.run_facts.specs.Accounts.{tick_count, AreCounted, AreAlive, AreHere, DeathIsLast}
use Rattle.run_facts.specs.Events.{NodeEvent, Dated, is_tick_input, stamp_at}
use Rattle.run_facts.specs.Events.NodeEvent.{Does, Ends, Dies, Returns}
use Rattle.run_facts.proofs.Rows.{all-weaker}
use Rattle.run_facts.proofs.Timelines.{rising-counted}
use Rattle.proof_answer.proofs.Lifetimes.{ends-when}
use Rattle.ring_world.specs.declared.event.Act.{Act}
use Rattle.ring_world.specs.declared.event.Act.TheVariants as act
use Rattle.ring_world.specs.declared.event.Last.TheVariants as last
use Rattle.ring_world.specs.declared.event.Event.{Event}
use Rattle.ring_world.specs.Merging.{act_of, told_as}
use Rattle.kept_worlds.specs.Events.{cut_end, end_of_beat, event_in}
use Rattle.kept_worlds.proofs.Gets.{IsInFirst, takes_behind}
use Rattle.kept_worlds.proofs.Naming.{named}

-- what a node does in a beat in which it said this, by its takes
abbrev pub acts_by : {M : Type 0} → (ℕ → ℕ) → Course → ℕ → ℕ → List What → List (NodeEvent M) → List (NodeEvent M) → List Act
acts_by lost c n b ws before es =
    map (λ (g : Dated Act). g.item) (filter (λ g. g.beat == b) (takes_behind lost before es)) ++ end_of_beat c n b ws

-- behind a death nothing happens before the return
abbrev life_to : ℕ → Option ℕ → Option ℕ → Lifetime
life_to d left back = record { death = Some d; left = left; back = back; over = false }

idle-by : (left back : Option ℕ) (d b : ℕ) → d < b → IsInFirst back b
    → (acts (life_to d left back) b ≡ false) × (dies (life_to d left back) b ≡ false) × (ends_in (life_to d left back) b ≡ false)
unfolding acts dies
idle-by left None d b later first =
    let below : nat_lt b d ≡ false = grind (arith, nat_tests, later) in
    let other : (b == d) ≡ false = ne_eqb b d (λ e. omega (arith, e, later)) in
    (rw (below, other) refl, rw other refl, rw other refl)
idle-by left (Some back) d b later first =
    let below : nat_lt b d ≡ false = grind (arith, nat_tests, later) in
    let other : (b == d) ≡ false = ne_eqb b d (λ e. omega (arith, e, later)) in
    let away : nat_le back b ≡ false = grind (arith, nat_tests, first) in
    (rw (below, other, away) refl, rw other refl, rw other refl)

pub idle-behind : (c : Course) (n d b : ℕ) → death_of c n ≡ Some d → IsInFirst (back_of c n) b → d < b
    → (acts (lifetime_of c n) b ≡ false) × (dies (lifetime_of c n) b ≡ false) × (ends_in (lifetime_of c n) b ≡ false)
idle-behind c n d b death first later =
    let same : lifetime_of c n ≡ life_to d (cut_of c n) (back_of c n) = rw death refl in
    subst (λ (q : Lifetime). (acts q b ≡ false) × (dies q b ≡ false) × (ends_in q b ≡ false)) (sym same)
    (idle-by (cut_of c n) (back_of c n) d b later first)

-- who dies apart from any event does so in the beat of its death, and no event of it is cut off
dies-by : (death left back : Option ℕ) (b x : ℕ)
    → dies (record { death = death; left = left; back = back; over = false }) b ≡ true
    → (death ≡ Some b) × (ends_in (record { death = death; left = left; back = back; over = false }) x ≡ false)
unfolding dies
dies-by None left back b x h = absurd (cc)
dies-by (Some d) left back b x h = by_tests (b == d) left refl h
  where
    either : (t : Bool) → is_some (cond {A = Option ℕ} t None None) ≡ false
    either true = refl
    either false = refl

    by_tests : (same : Bool) (o : Option ℕ) → (b == d) ≡ same → (same && not (is_some o)) ≡ true
        → (Some d ≡ Some b) × (ends_in (record { death = Some d; left = o; back = back; over = false }) x ≡ false)
    by_tests true None e t = (ap (λ (k : ℕ). Some k) (sym (eqb-true b d e)), either (x == d && true))
    by_tests true (Some k) e t = absurd (cc)
    by_tests false o e t = absurd (cc)

pub dies-in : (c : Course) (n b x : ℕ) → dies (lifetime_of c n) b ≡ true
    → (death_of c n ≡ Some b) × (ends_in (lifetime_of c n) x ≡ false)
dies-in c n b x h = dies-by (death_of c n) (cut_of c n) (back_of c n) b x h

pub cut-in : (c : Course) (n b : ℕ) → ends_in (lifetime_of c n) b ≡ true → death_of c n ≡ Some b
cut-in c n b h = ends-when (death_of c n) (cut_of c n) (back_of c n) b h

-- of other beats nothing is named, and nothing taken
pub named-none : {M : Type 0} (lost : ℕ → ℕ) (n b : ℕ) (before es : List (NodeEvent M))
    → AllByRecursion (λ (e : NodeEvent M). ((stamp_at e).beat == b) ≡ false) es
    → filter (λ e. e.stamp.beat == b) (named lost n before es) ≡ []
named-none lost n b before [] later = refl
named-none lost n b before (e ∷ es) later =
    let other = later.0 in
    rw other (named-none lost n b (before ++ e ∷ []) es later.1)

pub takes-none : {M : Type 0} (lost : ℕ → ℕ) (b : ℕ) (before es : List (NodeEvent M))
    → AllByRecursion (λ (e : NodeEvent M). ((stamp_at e).beat == b) ≡ false) es
    → filter (λ (g : Dated Act). g.beat == b) (takes_behind lost before es) ≡ []
takes-none lost b before [] later = refl
takes-none {M} lost b before (Does (Take s k m) ∷ es) later =
    let other : (s.beat == b) ≡ false = later.0 in
    rw other (takes-none lost b (before ++ Does (Take s k m) ∷ []) es later.1)
takes-none {M} lost b before (Ends (Take s k m) sends ∷ es) later =
    let other : (s.beat == b) ≡ false = later.0 in
    rw other (takes-none lost b (before ++ Ends (Take s k m) sends ∷ []) es later.1)
takes-none lost b before (Does (Tick s) ∷ es) later = takes-none lost b (before ++ Does (Tick s) ∷ []) es later.1
takes-none lost b before (Ends (Tick s) sends ∷ es) later = takes-none lost b (before ++ Ends (Tick s) sends ∷ []) es later.1
takes-none lost b before (Dies s ∷ es) later = takes-none lost b (before ++ Dies s ∷ []) es later.1
takes-none lost b before (Returns s ∷ es) later = takes-none lost b (before ++ Returns s ∷ []) es later.1

pub shown : (c : Course) (n b : ℕ) (s : Stamp) (a : Act) → s.reading ≡ reading_of c n s.beat → s.beat ≡ b
    → ◌≡◌ {A = Event} (record { stamp = s; act = a }) (event_in c n b a)
shown c n b s a reads now =
    let read : s.reading ≡ reading_of c n b = reads ∙ ap (reading_of c n) now in
    let same : ◌≡◌ {A = Stamp} (record { beat = s.beat; reading = s.reading }) (stamp_in c n b) = rw (now, read) refl in
    ap (λ (q : Stamp). record { stamp = q; act = a }) same

both-same : {X : Type 0} (x y : X) (xs ys : List X) → x ≡ y → xs ≡ ys → x ∷ xs ≡ y ∷ ys
both-same x y xs ys head tail = rw (head, tail) refl

-- an event as the life of node n has it: a whole tick ends a beat in which no death cuts it off
abbrev pub IsOfLife : {M : Type 0} → Lifetime → NodeEvent M → Type 0
IsOfLife life (Does (Take stamp link msg)) = acts life stamp.beat ≡ true
IsOfLife life (Does (Tick stamp)) = (acts life stamp.beat ≡ true) × (ends_in life stamp.beat ≡ false)
IsOfLife life (Ends i sends) = ends_in life (stamp_at (Ends i sends)).beat ≡ true
IsOfLife life (Dies stamp) = (acts life stamp.beat ≡ false) × (dies life stamp.beat ≡ true)
IsOfLife life (Returns stamp) = returns life stamp.beat ≡ true

-- The beat of a death that comes in an event ends by what was said in it: in the take, or in the tick with so many messages.
abbrev pub IsEndAs : {M : Type 0} → ℕ → (ℕ → List What) → NodeEvent M → Type 0
IsEndAs n said (Does i) = Unit {0}
IsEndAs n said (Ends (Take stamp link msg) sends) = cut_end n (said stamp.beat) ≡ []
IsEndAs n said (Ends (Tick stamp) sends) =
    cut_end n (said stamp.beat) ≡ act.DieIn (last.Tick (record { 0 = n })) sends ∷ []
IsEndAs n said (Dies stamp) = Unit {0}
IsEndAs n said (Returns stamp) = Unit {0}

-- all events that a node has from one on, before which it ticked t times, up to its death or the end of the beats
pub record IsRest {M : Type 0} (c : Course) (n t : ℕ) (said : ℕ → List What) (es : List (NodeEvent M)) : Type 0 where
  pub stamped : AllByRecursion (λ e. (stamp_at e).reading ≡ reading_of c n (stamp_at e).beat) es
  pub counted : AreCounted t es
  pub lived : AllByRecursion (IsOfLife (lifetime_of c n)) es
  pub here : AreHere es
  pub ended : DeathIsLast es
  pub ends : AllByRecursion (IsEndAs n said) es
  pub whole : AreAlive es → t + tick_count es ≡ c.beats

module _ {M : Type 0} (lost : ℕ → ℕ) (c : Course) (n : ℕ) (said : ℕ → List What) where
  rest-behind : (t : ℕ) (i : Input M) (es : List (NodeEvent M)) → IsRest c n t said (Does i ∷ es)
      → IsRest c n (cond (is_tick_input i) (suc t) t) said es
  rest-behind t (Take s k m) es h = record {
    stamped = h.stamped.1;
    counted = h.counted.1;
    lived = h.lived.1;
    here = h.here.1;
    ended = h.ended.1;
    ends = h.ends.1;
    whole = λ alive. h.whole (refl, alive);
  }
  rest-behind t (Tick s) es h = record {
    stamped = h.stamped.1;
    counted = h.counted.1;
    lived = h.lived.1;
    here = h.here.1;
    ended = h.ended.1;
    ends = h.ends.1;
    whole = λ alive. let all = h.whole (refl, alive) in omega (arith, all);
  }

  -- what is named of a beat is what is told of it
  abbrev IsNamed : ℕ → List (NodeEvent M) → List (NodeEvent M) → Type 0
  IsNamed b before es =
      filter (λ e. e.stamp.beat == b) (named lost n before es) ≡ map (event_in c n b) (acts_by lost c n b (said b) before es)

  -- a tick in a beat is the last of it
  ticked-at : (t b : ℕ) (before : List (NodeEvent M)) (s : Stamp) (es : List (NodeEvent M))
      → IsRest c n t said (Does (Tick s) ∷ es) → t ≡ b → IsNamed b before (Does (Tick s) ∷ es)
  ticked-at t b before s es h same =
      let e : NodeEvent M = Does (Tick s) in
      let now : s.beat ≡ b = h.counted.0 ∙ same in
      let hit : (s.beat == b) ≡ true = eq-eqb s.beat b now in
      let live : acts (lifetime_of c n) b ≡ true = ap (acts (lifetime_of c n)) (sym now) ∙ h.lived.0.0 in
      let uncut : ends_in (lifetime_of c n) b ≡ false = ap (ends_in (lifetime_of c n)) (sym now) ∙ h.lived.0.1 in
      let rest = rest-behind t (Tick s) es h in
      let later = all-weaker (λ (f : NodeEvent M). suc t ≤ (stamp_at f).beat) (λ f. ((stamp_at f).beat == b) ≡ false) es
      (λ f low. grind (arith, nat_tests, low, same)) (rising-counted (suc t) es rest.counted).0 in
      rw (hit, named-none lost n b (before ++ e ∷ []) es later, takes-none lost b (before ++ e ∷ []) es later, uncut, live)
      (ap (λ q. q ∷ []) (shown c n b s (act.Tick (record { 0 = n })) h.stamped.0 now))

  died-at : (t b : ℕ) (before : List (NodeEvent M)) (s : Stamp) (es : List (NodeEvent M))
      → IsRest c n t said (Dies s ∷ es) → t ≡ b → IsNamed b before (Dies s ∷ es)
  died-at t b before s es h same =
      let now : s.beat ≡ b = h.counted.0 ∙ same in
      let hit : (s.beat == b) ≡ true = eq-eqb s.beat b now in
      let idle : acts (lifetime_of c n) b ≡ false = ap (acts (lifetime_of c n)) (sym now) ∙ h.lived.0.0 in
      let dead : dies (lifetime_of c n) b ≡ true = ap (dies (lifetime_of c n)) (sym now) ∙ h.lived.0.1 in
      let uncut : ends_in (lifetime_of c n) b ≡ false = (dies-in c n b b dead).1 in
      rw (hit, h.ended.0 refl, uncut, idle, dead)
      (ap (λ q. q ∷ []) (shown c n b s (act.Die (record { 0 = n })) h.stamped.0 now))

  -- a death in a beat before
  over-by : (d b : ℕ) (before : List (NodeEvent M)) (e : NodeEvent M) → death_of c n ≡ Some d → d < b → IsInFirst (back_of c n) b
      → (stamp_at e).beat ≡ d → filter (λ (g : Dated Act). g.beat == b) (takes_behind lost before (e ∷ [])) ≡ []
      → IsNamed b before (e ∷ [])
  over-by d b before e death later first dated none =
      let miss : ((stamp_at e).beat == b) ≡ false = grind (arith, nat_tests, dated, later) in
      let over = idle-behind c n d b death first later in
      rw (miss, none, over.2, over.0, over.1) refl

  dead-by : (t b : ℕ) (before : List (NodeEvent M)) (s : Stamp) (es : List (NodeEvent M))
      → IsRest c n t said (Dies s ∷ es) → t < b → IsInFirst (back_of c n) b → IsNamed b before (Dies s ∷ es)
  dead-by t b before s es h later first =
      let now = h.counted.0 in
      subst (λ q. IsNamed b before (Dies s ∷ q)) (sym (h.ended.0 refl))
      (over-by s.beat b before (Dies s) (dies-in c n s.beat s.beat h.lived.0.1).0 (omega (arith, now, later)) first refl refl)

  -- a death that comes in an event
  cut-by : (t b : ℕ) (before : List (NodeEvent M)) (i : Input M) (sends : ℕ) (es : List (NodeEvent M))
      → IsRest c n t said (Ends i sends ∷ es) → t < b → IsInFirst (back_of c n) b → IsNamed b before (Ends i sends ∷ es)
  cut-by t b before i sends es h later first =
      let e : NodeEvent M = Ends i sends in
      let now = h.counted.0 in
      let death = cut-in c n (stamp_at e).beat h.lived.0 in
      let low : (stamp_at e).beat < b = omega (arith, now, later) in
      subst (λ q. IsNamed b before (e ∷ q)) (sym (h.ended.0 refl))
      (over-by (stamp_at e).beat b before e death low first refl (none i low))
    where
      none : (i : Input M) → (stamp_at (Ends i sends)).beat < b
          → filter (λ (g : Dated Act). g.beat == b) (takes_behind lost before (Ends i sends ∷ [])) ≡ []
      none (Take s k m) low = let miss : (s.beat == b) ≡ false = grind (arith, nat_tests, low) in rw miss refl
      none (Tick s) low = refl

  cut-at : (t b : ℕ) (before : List (NodeEvent M)) (i : Input M) (sends : ℕ) (es : List (NodeEvent M))
      → IsRest c n t said (Ends i sends ∷ es) → t ≡ b → IsNamed b before (Ends i sends ∷ es)
  cut-at t b before (Take s k m) sends es h same =
      let now : s.beat ≡ b = h.counted.0 ∙ same in
      let hit : (s.beat == b) ≡ true = eq-eqb s.beat b now in
      let cut : ends_in (lifetime_of c n) b ≡ true = ap (ends_in (lifetime_of c n)) (sym now) ∙ h.lived.0 in
      let end : cut_end n (said b) ≡ [] = ap (λ q. cut_end n (said q)) (sym now) ∙ h.ends.0 in
      subst (λ q. IsNamed b before (Ends (Take s k m) sends ∷ q)) (sym (h.ended.0 refl))
      (rw (hit, cut, end)
      (ap (λ q. q ∷ []) (shown c n b s (act_of lost before n (Ends (Take s k m) sends)) h.stamped.0 now)))
  cut-at t b before (Tick s) sends es h same =
      let now : s.beat ≡ b = h.counted.0 ∙ same in
      let hit : (s.beat == b) ≡ true = eq-eqb s.beat b now in
      let cut : ends_in (lifetime_of c n) b ≡ true = ap (ends_in (lifetime_of c n)) (sym now) ∙ h.lived.0 in
      let end : cut_end n (said b) ≡ act.DieIn (last.Tick (record { 0 = n })) sends ∷ [] =
      ap (λ q. cut_end n (said q)) (sym now) ∙ h.ends.0 in
      subst (λ q. IsNamed b before (Ends (Tick s) sends ∷ q)) (sym (h.ended.0 refl))
      (rw (hit, cut, end)
      (ap (λ q. q ∷ []) (shown c n b s (act.DieIn (last.Tick (record { 0 = n })) sends) h.stamped.0 now)))

  -- so it is of each beat that is not over, and of the first life, or of a life without a death
  pub named-acts : (t b : ℕ) (before es : List (NodeEvent M)) → IsRest c n t said es → t ≤ b → b < c.beats
      → AreAlive es ⊎ IsInFirst (back_of c n) b → IsNamed b before es
  named-acts t b before [] h low high still = let all = h.whole tt in absurd (omega (arith, all, low, high))
  named-acts t b before (Does (Take s k m) ∷ es) h low high still =
      let e : NodeEvent M = Does (Take s k m) in
      let rest = named-acts t b (before ++ e ∷ []) es (rest-behind t (Take s k m) es h) low high (still-on still) in
      ⊎_elim
      (λ (hit : (s.beat == b) ≡ true).
      let first = shown c n b s (act_of lost before n e) h.stamped.0 (eqb-true _ _ hit) in
      rw hit (both-same _ _ _ _ first rest))
      (λ (miss : (s.beat == b) ≡ false). rw miss rest)
      (cases_Bool (s.beat == b))
    where
      still-on : AreAlive (Does (Take s k m) ∷ es) ⊎ IsInFirst (back_of c n) b → AreAlive es ⊎ IsInFirst (back_of c n) b
      still-on q = ⊎_elim (λ (alive : AreAlive (Does (Take s k m) ∷ es)). inl alive.1) (λ (f : IsInFirst (back_of c n) b). inr f) q
  named-acts t b before (Does (Tick s) ∷ es) h low high still = ⊎_elim
      (λ (same : t ≡ b). ticked-at t b before s es h same)
      (λ (other : t ≡ b → ⊥).
      let now = h.counted.0 in
      let miss : (s.beat == b) ≡ false = ne_eqb s.beat b (λ q. other (sym now ∙ q)) in
      rw miss (named-acts (suc t) b (before ++ Does (Tick s) ∷ []) es (rest-behind t (Tick s) es h) (omega (arith, low, other)) high
      (still-on still)))
      (cases_eq t b)
    where
      still-on : AreAlive (Does (Tick s) ∷ es) ⊎ IsInFirst (back_of c n) b → AreAlive es ⊎ IsInFirst (back_of c n) b
      still-on q = ⊎_elim (λ (alive : AreAlive (Does (Tick s) ∷ es)). inl alive.1) (λ (f : IsInFirst (back_of c n) b). inr f) q
  named-acts t b before (Dies s ∷ es) h low high still = ⊎_elim
      (λ (same : t ≡ b). died-at t b before s es h same)
      (λ (other : t ≡ b → ⊥). dead-by t b before s es h (omega (arith, low, other)) (in-first still))
      (cases_eq t b)
    where
      in-first : AreAlive (Dies s ∷ es) ⊎ IsInFirst (back_of c n) b → IsInFirst (back_of c n) b
      in-first q = ⊎_elim (λ (alive : AreAlive (Dies s ∷ es)). let z = alive.0 in absurd (cc)) (λ (f : IsInFirst (back_of c n) b). f) q
  named-acts t b before (Ends i sends ∷ es) h low high still = ⊎_elim
      (λ (same : t ≡ b). cut-at t b before i sends es h same)
      (λ (other : t ≡ b → ⊥). cut-by t b before i sends es h (omega (arith, low, other)) (in-first still))
      (cases_eq t b)
    where
      in-first : AreAlive (Ends i sends ∷ es) ⊎ IsInFirst (back_of c n) b → IsInFirst (back_of c n) b
      in-first q = ⊎_elim (λ (alive : AreAlive (Ends i sends ∷ es)). let z = alive.0 in absurd (cc)) (λ (f : IsInFirst (back_of c n) b). f) q
  named-acts t b before (Returns s ∷ es) h low high still = let q = h.here.0 in absurd (cc)

-- who lives on to the end has acted in each beat, and no death cut it off there
pub lives-in : {M : Type 0} (c : Course) (n t d : ℕ) (es : List (NodeEvent M)) → AreCounted t es → AreHere es → AreAlive es
    → AllByRecursion (IsOfLife (lifetime_of c n)) es → t ≤ d → d < t + tick_count es
    → (acts (lifetime_of c n) d ≡ true) × (ends_in (lifetime_of c n) d ≡ false)
lives-in c n t d [] counted here alive lived low high = absurd (omega (arith, low, high))
lives-in c n t d (Does (Take s k m) ∷ es) counted here alive lived low high =
    lives-in c n t d es counted.1 here.1 alive.1 lived.1 low high
lives-in c n t d (Does (Tick s) ∷ es) counted here alive lived low high =
    let now = counted.0 in
    ⊎_elim
    (λ (same : t ≡ d). subst (λ b. (acts (lifetime_of c n) b ≡ true) × (ends_in (lifetime_of c n) b ≡ false)) (now ∙ same) lived.0)
    (λ (other : t ≡ d → ⊥).
    lives-in c n (suc t) d es counted.1 here.1 alive.1 lived.1 (omega (arith, low, other)) (omega (arith, high)))
    (cases_eq t d)
lives-in c n t d (Ends i sends ∷ es) counted here alive lived low high = let q = alive.0 in absurd (cc)
lives-in c n t d (Dies s ∷ es) counted here alive lived low high = let q = alive.0 in absurd (cc)
lives-in c n t d (Returns s ∷ es) counted here alive lived low high = let q = here.0 in absurd (cc)

-- names and takes of lists behind each other
pub named-append : {M : Type 0} (lost : ℕ → ℕ) (n : ℕ) (before xs ys : List (NodeEvent M))
    → named lost n before (xs ++ ys) ≡ named lost n before xs ++ named lost n (before ++ xs) ys
named-append lost n before [] ys = ap (λ q. named lost n q ys) (sym (append-nil before))
named-append lost n before (x ∷ xs) ys =
    ap (λ q. told_as lost before (record { node = n; event = x }) ∷ q) (named-append lost n (before ++ x ∷ []) xs ys
    ∙ ap (λ q. named lost n (before ++ x ∷ []) xs ++ named lost n q ys) (append_assoc before (x ∷ []) xs))
