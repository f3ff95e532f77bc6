-- What is paced is carried: of what is sent in beats below the receiver's return a front is got, and so of the rest.
use Rattle.std.proofs.Common.{◌≡◌, ℕ, ◌+◌, ◌<◌, ◌≤◌, List, [], ◌∷◌, ◌++◌, map, filter, Bool, true, false, not, ◌&&◌}
use Rattle.std.proofs.Common.{◌||◌, cond, Option, Some, None, refl, ap, sym, ◌∙◌, subst, arith, ⊎_elim, inl, inr}
use Rattle.std.specs.Prelude.{nat_lt, nat_le, ◌==◌, is_some, ◌⊎◌}
use Rattle.std.specs.List.{AllByRecursion}
use Rattle.std.proofs.lemmas.Bool.{cases_Bool, and_from, and_parts, and_cases, eqb-true, eq-eqb, ltb-true}
use Rattle.std.proofs.lemmas.Bool.Decides.{nat_tests}
use Rattle.tiger_base.specs.declared.message.Note.{Note}
use Rattle.link_timing.specs.Clock.{Clock, arrival_at, after_send}
use Rattle.node_kit.specs.Courses.{ReturnsLater}
use Rattle.node_kit.specs.Life.{Lifetime, acts, hears, ends_in}
use Rattle.run_facts.specs.Accounts.{Rising, IsTimely}
use Rattle.run_facts.specs.Carried.{AreFrontOn, AreCarriedOn, MayBeLost, DiedBy, NotBackBy, since}
use Rattle.run_facts.specs.Events.{Dated}
use Rattle.run_facts.specs.Paced.{Passage, passages, is_heard, brought, AreMissed, AreGot, ArePacedOn}
use Rattle.run_facts.proofs.Rows.{all-map, all-given, all-weaker, filter-all, filter-none}

-- a life whose death has not come in an event
abbrev pub lived : Option ℕ → Option ℕ → Option ℕ → Lifetime
lived death left back = record { death = death; left = left; back = back; over = false }

-- a beat is below that of the return, if there is one
abbrev keeps : Option ℕ → ℕ → Bool
keeps None beat = true
keeps (Some back) beat = nat_lt beat back

one-of : (x y z : Bool) → (x || y || z) ≡ true → (x ≡ true) ⊎ ((y ≡ true) ⊎ (z ≡ true))
one-of true y z h = inl refl
one-of false true z h = inr (inl refl)
one-of false false z h = inr (inr h)

none-of : (x y z : Bool) → (x || y || z) ≡ false → (x ≡ false) × (y ≡ false)
none-of true y z h = absurd (cc)
none-of false true z h = absurd (cc)
none-of false false z h = (refl, refl)

-- who acts in a beat below that of its return has not died in it, or is cut off there; who does not act is dead
abbrev Alive : Option ℕ → Option ℕ → ℕ → Type 0
Alive None left b = Unit {0}
Alive (Some d) left b = (b < d) ⊎ ((b ≡ d) × (is_some left ≡ true))

abbrev Dead : Option ℕ → Option ℕ → ℕ → Type 0
Dead None left b = ⊥
Dead (Some d) left b = (d ≤ b) × (b ≡ d → is_some left ≡ true → ⊥)

alive-by : (d : ℕ) (left : Option ℕ) (b : ℕ) (z : Bool)
    → (nat_lt b d || ((b == d) && (is_some left && true)) || z) ≡ true
    → (z ≡ true → ⊥) → Alive (Some d) left b
alive-by d left b z h never = ⊎_elim
    (λ (e : nat_lt b d ≡ true). inl (ltb-true _ _ e))
    (λ (more : (((b == d) && (is_some left && true)) ≡ true) ⊎ (z ≡ true)). ⊎_elim
    (λ (e : ((b == d) && (is_some left && true)) ≡ true).
    let both = and_parts (b == d) (is_some left && true) e in
    inr (eqb-true _ _ both.0, (and_parts (is_some left) true both.1).0))
    (λ (e : z ≡ true). absurd (never e))
    more)
    (one-of (nat_lt b d) ((b == d) && (is_some left && true)) z h)

acts-alive : (death left back : Option ℕ) (b : ℕ) → acts (lived death left back) b ≡ true → keeps back b ≡ true
    → Alive death left b
unfolding acts
acts-alive None left back b h k = tt
acts-alive (Some d) left None b h k = alive-by d left b false h (λ e. absurd (cc))
acts-alive (Some d) left (Some w) b h k =
    alive-by d left b (nat_le w b) h (λ e. absurd (grind (arith, nat_tests, e, k)))

acts-dead : (death left back : Option ℕ) (b : ℕ) → acts (lived death left back) b ≡ false → Dead death left b
unfolding acts
acts-dead None left back b h = absurd (cc)
acts-dead (Some d) left back b h =
    let none = none-of (nat_lt b d) ((b == d) && (is_some left && true)) _ h in
    let low = none.0 in (
      grind (arith, nat_tests, low),
      λ same some.
          let q : ((b == d) && (is_some left && true)) ≡ true = and_from (b == d) (is_some left && true)
          (eq-eqb b d same) (and_from (is_some left) true some refl) in
          let bad : true ≡ false = sym q ∙ none.1 in absurd (cc),
    )

-- what is not heard by who acts is lost by the return
abbrev LostBy : Option ℕ → ℕ → ℕ → Type 0
LostBy None sent b = ⊥
LostBy (Some w) sent b = (sent < w) × (w ≤ b)

unheard-lost : (death left back : Option ℕ) (sent b : ℕ) → hears (lived death left back) sent b ≡ false
    → LostBy back sent b
unfolding hears
unheard-lost death left None sent b h = absurd (cc)
unheard-lost death left (Some w) sent b h = ⊎_elim
    (λ (e : (nat_lt sent w && nat_le w b) ≡ true).
    let both = and_parts (nat_lt sent w) (nat_le w b) e in
    let low = both.0 in
    let high = both.1 in
    (grind (arith, nat_tests, low), grind (arith, nat_tests, high)))
    (λ (e : (nat_lt sent w && nat_le w b) ≡ false). let bad : true ≡ false = sym (ap not e) ∙ h in absurd (cc))
    (cases_Bool (nat_lt sent w && nat_le w b))

heard-kept : (death left back : Option ℕ) (sent b : ℕ) → hears (lived death left back) sent b ≡ true
    → keeps back sent ≡ true
    → keeps back b ≡ true
unfolding hears
heard-kept death left None sent b h k = refl
heard-kept death left (Some w) sent b h k = ⊎_elim
    (λ (e : nat_le w b ≡ true).
    let bad : true ≡ false = sym h ∙ ap not (and_from (nat_lt sent w) (nat_le w b) k e) in absurd (cc))
    (λ (e : nat_le w b ≡ false). grind (arith, nat_tests, e))
    (cases_Bool (nat_le w b))

-- the beat in which a death cuts a node off
ends-by : (d : ℕ) (left : Option ℕ) (b : ℕ) → is_some (cond ((b == d) && true) left None) ≡ true
    → (b ≡ d) × (is_some left ≡ true)
ends-by d left b h = ⊎_elim
    (λ (e : (b == d) ≡ true). (eqb-true _ _ e, sym (ap (λ t. is_some (cond (t && true) left None)) e) ∙ h))
    (λ (e : (b == d) ≡ false). let bad : false ≡ true = sym (ap (λ t. is_some (cond (t && true) left None)) e) ∙ h in
    absurd (cc))
    (cases_Bool (b == d))

ends-at : (death left back : Option ℕ) (b : ℕ) → ends_in (lived death left back) b ≡ true
    → (d : ℕ) × (death ≡ Some d) × (b ≡ d) × (is_some left ≡ true)
ends-at None left back b h = absurd (cc)
ends-at (Some d) left back b h = let at = ends-by d left b h in (d, refl, at.0, at.1)

ends-there : (d : ℕ) (left back : Option ℕ) (b : ℕ) → b ≡ d → is_some left ≡ true
    → ends_in (lived (Some d) left back) b ≡ true
ends-there d left back b same some = ap (λ t. is_some (cond (t && true) left None)) (eq-eqb b d same) ∙ some

-- why what is brought is not got
abbrev Skip : {X : Type 0} → Lifetime → ℕ → Passage X → List (Dated X) → Type 0
Skip life beats f gs = (is_heard life beats f ≡ false)
    ⊎ ((ends_in life f.arrival ≡ true) × AllByRecursion (λ g. ends_in life g.beat ≡ false) gs)

heard-parts : {X : Type 0} (life : Lifetime) (beats : ℕ) (f : Passage X) → is_heard life beats f ≡ true
    → (f.arrival < beats) × (acts life f.arrival ≡ true) × (hears life f.sent f.arrival ≡ true)
heard-parts life beats f h =
    let one = and_parts (nat_lt f.arrival beats) (acts life f.arrival && hears life f.sent f.arrival) h in
    let two = and_parts (acts life f.arrival) (hears life f.sent f.arrival) one.1 in
    (ltb-true _ _ one.0, two.0, two.1)

unheard-why : {X : Type 0} (life : Lifetime) (beats : ℕ) (f : Passage X) → is_heard life beats f ≡ false
    → (beats ≤ f.arrival) ⊎ ((acts life f.arrival ≡ false) ⊎ (hears life f.sent f.arrival ≡ false))
unheard-why life beats f h = ⊎_elim
    (λ (e : nat_lt f.arrival beats ≡ false). inl (grind (arith, nat_tests, e)))
    (λ (e : (acts life f.arrival && hears life f.sent f.arrival) ≡ false). inr
    (and_cases (acts life f.arrival) (hears life f.sent f.arrival) e))
    (and_cases (nat_lt f.arrival beats) (acts life f.arrival && hears life f.sent f.arrival) h)

abbrev LateOrDead : Option ℕ → ℕ → ℕ → Type 0
LateOrDead death beats b = (beats ≤ b) ⊎ DiedBy death b

module _ (death left back : Option ℕ) (later : ReturnsLater death back) (beats : ℕ) where
  abbrev one_life : Lifetime
  one_life = lived death left back

  dead-by : (b : ℕ) → Dead death left b → DiedBy death b
  dead-by b h = by death b h
    where
      by : (o : Option ℕ) (b : ℕ) → Dead o left b → DiedBy o b
      by None b h = h
      by (Some d) b h = h.0

  lost-by : (sent b : ℕ) → LostBy back sent b → DiedBy death b
  lost-by sent b h = by death back later sent b h
    where
      by : (o w : Option ℕ) → ReturnsLater o w → (sent b : ℕ) → LostBy w sent b → DiedBy o b
      by o None l sent b h = absurd h
      by None (Some w) l sent b h = absurd l
      by (Some d) (Some w) l sent b h = let high = h.1 in omega (arith, l, high)

  skip-late : {X : Type 0} (f : Passage X) (gs : List (Dated X)) → Skip one_life beats f gs
      → LateOrDead death beats f.arrival
  skip-late f gs h = ⊎_elim
      (λ (none : is_heard one_life beats f ≡ false). ⊎_elim
      (λ (late : beats ≤ f.arrival). inl late)
      (λ (why : (acts one_life f.arrival ≡ false) ⊎ (hears one_life f.sent f.arrival ≡ false)). inr (⊎_elim
      (λ idle. dead-by f.arrival (acts-dead death left back f.arrival idle))
      (λ deaf. lost-by f.sent f.arrival (unheard-lost death left back f.sent f.arrival deaf))
      why))
      (unheard-why one_life beats f none))
      (λ (cut : (ends_in one_life f.arrival ≡ true) × AllByRecursion (λ g. ends_in one_life g.beat ≡ false) gs).
      let at = ends-at death left back f.arrival cut.0 in
      let same = at.2 in
      inr (subst (λ o. DiedBy o f.arrival) (sym at.1) (let low : at.0 ≤ f.arrival = omega (arith, same) in low)))
      h

  -- behind something that is not got nothing is got below the return
  alive-not : (b c : ℕ) → Dead death left b → Alive death left c → b ≤ c → ⊥
  alive-not b c dead alive up = by death b c dead alive up
    where
      by : (o : Option ℕ) (b c : ℕ) → Dead o left b → Alive o left c → b ≤ c → ⊥
      by None b c dead alive up = dead
      by (Some d) b c dead alive up =
          let low = dead.0 in
          ⊎_elim
          (λ (before : c < d). omega (arith, low, up, before))
          (λ (there : (c ≡ d) × (is_some left ≡ true)). let same = there.0 in
          dead.1 (omega (arith, low, up, same)) there.1)
          alive

  ended-not : (b c : ℕ) → ends_in one_life b ≡ true → Alive death left c → b ≤ c → ends_in one_life c ≡ false → ⊥
  ended-not b c h alive up other = by death b c h alive up other
    where
      by : (o : Option ℕ) (b c : ℕ) → ends_in (lived o left back) b ≡ true → Alive o left c → b ≤ c
          → ends_in (lived o left back) c ≡ false → ⊥
      by None b c h alive up other = let at = ends-at None left back b h in let q : None ≡ Some at.0 = at.1 in
          absurd (cc)
      by (Some d) b c h alive up other =
          let at = ends-by d left b h in
          let same = at.0 in
          ⊎_elim
          (λ (before : c < d). omega (arith, same, up, before))
          (λ (there : (c ≡ d) × (is_some left ≡ true)).
          let bad : true ≡ false = sym (ends-there d left back c there.0 there.1) ∙ other in absurd (cc))
          alive

  not-lost : (o : Option ℕ) (sent b c : ℕ) → LostBy o sent b → b ≤ c → keeps o c ≡ true → ⊥
  not-lost None sent b c h up k = h
  not-lost (Some w) sent b c h up k = let high = h.1 in let low = ltb-true _ _ k in omega (arith, high, up, low)

  skip-stays : {X : Type 0} (f g : Passage X) (gs : List (Dated X)) → Skip one_life beats f (brought g ∷ gs)
      → f.arrival ≤ g.arrival
      → is_heard one_life beats g ≡ true → keeps back g.arrival ≡ true → ⊥
  skip-stays f g gs h up heard k =
      let parts = heard-parts one_life beats g heard in
      let soon = parts.0 in
      let alive = acts-alive death left back g.arrival parts.1 k in
      ⊎_elim
      (λ (none : is_heard one_life beats f ≡ false). ⊎_elim
      (λ (late : beats ≤ f.arrival). omega (arith, late, up, soon))
      (λ (why : (acts one_life f.arrival ≡ false) ⊎ (hears one_life f.sent f.arrival ≡ false)). ⊎_elim
      (λ idle. alive-not f.arrival g.arrival (acts-dead death left back f.arrival idle) alive up)
      (λ deaf. not-lost back f.sent f.arrival g.arrival (unheard-lost death left back f.sent f.arrival deaf) up k)
      why)
      (unheard-why one_life beats f none))
      (λ (cut : (ends_in one_life f.arrival ≡ true) × AllByRecursion (λ g. ends_in one_life g.beat ≡ false)
      (brought g ∷ gs)).
      ended-not f.arrival g.arrival cut.0 alive up cut.1.0)
      h

-- what is got, one by one: each thing that is brought is got if it is heard, or it is skipped
abbrev Picked : {X : Type 0} → Lifetime → ℕ → List (Passage X) → List (Dated X) → Type 0
Picked life beats [] [] = Unit {0}
Picked life beats [] (g ∷ gs) = ⊥
Picked life beats (f ∷ fs) [] = Skip life beats f [] × Picked life beats fs []
Picked life beats (f ∷ fs) (g ∷ gs) =
    ((is_heard life beats f ≡ true) × (g ≡ brought f) × Picked life beats fs gs)
    ⊎ (Skip life beats f (g ∷ gs) × Picked life beats fs (g ∷ gs))

skipped : {X : Type 0} (life : Lifetime) (beats : ℕ) (f : Passage X) (fs : List (Passage X)) (gs : List (Dated X))
    → Skip life beats f gs → Picked life beats fs gs → Picked life beats (f ∷ fs) gs
skipped life beats f fs [] s h = (s, h)
skipped life beats f fs (g ∷ gs) s h = inr (s, h)

-- all that is heard
picked-all : {X : Type 0} (life : Lifetime) (beats : ℕ) (fs : List (Passage X))
    → Picked life beats fs (map brought (filter (is_heard life beats) fs))
picked-all life beats [] = tt
picked-all {X} life beats (f ∷ fs) = ⊎_elim
    (λ (e : is_heard life beats f ≡ true). rw e (inl (e, refl, picked-all life beats fs)))
    (λ (e : is_heard life beats f ≡ false).
    rw e (skipped life beats f fs (map brought (filter (is_heard life beats) fs)) (inl e) (picked-all life beats fs)))
    (cases_Bool (is_heard life beats f))

-- or all but what is missed
abbrev RestPicked : {X : Type 0} → Lifetime → ℕ → List (Passage X) → Type 0
RestPicked {X} life beats fs =
    (missed late : List (Passage X)) → filter (is_heard life beats) fs ≡ missed ++ late
    → AllByRecursion (λ (g : Passage X). ends_in life g.arrival ≡ true) missed
    → AllByRecursion (λ (g : Passage X). ends_in life g.arrival ≡ false) late → Picked life beats fs (map brought late)

picked-one : {X : Type 0} (life : Lifetime) (beats : ℕ) (f : Passage X) (fs missed late : List (Passage X))
    → RestPicked life beats fs
    → is_heard life beats f ≡ true → f ∷ filter (is_heard life beats) fs ≡ missed ++ late
    → AllByRecursion (λ (g : Passage X). ends_in life g.arrival ≡ true) missed
    → AllByRecursion (λ (g : Passage X). ends_in life g.arrival ≡ false) late
    → Picked life beats (f ∷ fs) (map brought late)
picked-one life beats f fs [] [] ih heard all cut beyond =
    let none : f ∷ filter (is_heard life beats) fs ≡ [] = all in absurd (cc)
picked-one life beats f fs [] (l ∷ ls) ih heard all cut beyond =
    let joined : f ∷ filter (is_heard life beats) fs ≡ l ∷ ls = all in
    let same : l ≡ f = cc in
    let rest : filter (is_heard life beats) fs ≡ ls = cc in
    inl (heard, ap brought same, ih [] ls rest tt beyond.1)
picked-one {X} life beats f fs (m ∷ ms) late ih heard all cut beyond =
    let joined : f ∷ filter (is_heard life beats) fs ≡ m ∷ (ms ++ late) = all in
    let same : m ≡ f = cc in
    let rest : filter (is_heard life beats) fs ≡ ms ++ late = cc in
    skipped life beats f fs (map brought late)
    (inr (
      ap (λ (g : Passage X). ends_in life g.arrival) (sym same) ∙ cut.0,
      all-map (λ (d : Dated X). ends_in life d.beat ≡ false) brought late beyond,
    ))
    (ih ms late rest cut.1 beyond)

picked-late : {X : Type 0} (life : Lifetime) (beats : ℕ) (fs : List (Passage X)) → RestPicked life beats fs
picked-late life beats [] [] [] e cut beyond = tt
picked-late {X} life beats [] [] (l ∷ ls) e cut beyond = let none : [] ≡ l ∷ ls = e in absurd (cc)
picked-late {X} life beats [] (m ∷ ms) late e cut beyond = let none : [] ≡ m ∷ (ms ++ late) = e in absurd (cc)
picked-late {X} life beats (f ∷ fs) missed late e cut beyond = ⊎_elim
    (λ (heard : is_heard life beats f ≡ true).
    let all : f ∷ filter (is_heard life beats) fs ≡ missed ++ late =
    sym (ap (λ b. cond b (f ∷ filter (is_heard life beats) fs) (filter (is_heard life beats) fs)) heard) ∙ e in
    picked-one life beats f fs missed late (λ ms ls q c b. picked-late life beats fs ms ls q c b) heard all cut beyond)
    (λ (none : is_heard life beats f ≡ false).
    let rest : filter (is_heard life beats) fs ≡ missed ++ late =
    sym (ap (λ b. cond b (f ∷ filter (is_heard life beats) fs) (filter (is_heard life beats) fs)) none) ∙ e in
    skipped life beats f fs (map brought late) (inl none) (picked-late life beats fs missed late rest cut beyond))
    (cases_Bool (is_heard life beats f))

picked-early : {X : Type 0} (life : Lifetime) (beats : ℕ) (fs early missed late : List (Passage X))
    → filter (is_heard life beats) fs ≡ early ++ (missed ++ late)
    → AllByRecursion (λ (f : Passage X). ends_in life f.arrival ≡ true) missed
    → AllByRecursion (λ (f : Passage X). ends_in life f.arrival ≡ false) late
    → Picked life beats fs (map brought (early ++ late))
picked-early life beats fs [] missed late e cut beyond = picked-late life beats fs missed late e cut beyond
picked-early {X} life beats [] (x ∷ xs) missed late e cut beyond =
    let none : [] ≡ x ∷ (xs ++ (missed ++ late)) = e in absurd (cc)
picked-early {X} life beats (f ∷ fs) (x ∷ xs) missed late e cut beyond = ⊎_elim
    (λ (heard : is_heard life beats f ≡ true).
    let all : f ∷ filter (is_heard life beats) fs ≡ x ∷ (xs ++ (missed ++ late)) =
    sym (ap (λ b. cond b (f ∷ filter (is_heard life beats) fs) (filter (is_heard life beats) fs)) heard) ∙ e in
    let same : x ≡ f = cc in
    let rest : filter (is_heard life beats) fs ≡ xs ++ (missed ++ late) = cc in
    inl (heard, ap brought same, picked-early life beats fs xs missed late rest cut beyond))
    (λ (none : is_heard life beats f ≡ false).
    let rest : filter (is_heard life beats) fs ≡ x ∷ (xs ++ (missed ++ late)) =
    sym (ap (λ b. cond b (f ∷ filter (is_heard life beats) fs) (filter (is_heard life beats) fs)) none) ∙ e in
    skipped life beats f fs (map brought ((x ∷ xs) ++ late)) (inl none)
    (picked-early life beats fs (x ∷ xs) missed late rest cut beyond))
    (cases_Bool (is_heard life beats f))

pub picked-got : {X : Type 0} (life : Lifetime) (beats : ℕ) (Came : Type 0) (fs : List (Passage X))
    (got : List (Dated X))
    → AreGot life Came (filter (is_heard life beats) fs) got → Picked life beats fs got
picked-got {X} life beats Came fs got h = ⊎_elim
    (λ (all : got ≡ map brought (filter (is_heard life beats) fs)). subst (Picked life beats fs) (sym all)
    (picked-all life beats fs))
    (λ (some : Came × AreMissed life (filter (is_heard life beats) fs) got).
    let m = some.1 in
    subst (Picked life beats fs) (sym m.kept)
    (picked-early life beats fs m.early m.missed m.late m.split m.cut_off m.beyond))
    h

-- what was sent in beats below the return, and what was got then
abbrev kept_of : {X : Type 0} → Option ℕ → List (Dated X) → List (Dated X)
kept_of back ds = filter (λ d. keeps back d.beat) ds

not-back : (back : Option ℕ) (sent : ℕ) → keeps back sent ≡ true → NotBackBy back sent
not-back None sent k = tt
not-back (Some w) sent k = ltb-true _ _ k

module _ (death left back : Option ℕ) (later : ReturnsLater death back) (most beats : ℕ) where
  abbrev its : Lifetime
  its = lived death left back

  may-lose : (low arrival sent : ℕ) → LateOrDead death beats low → low ≤ arrival → arrival ≤ sent + most
      → keeps back sent ≡ true
      → MayBeLost most beats its sent
  may-lose low arrival sent h up soon k = ⊎_elim
      (λ (late : beats ≤ low). inl (omega (arith, late, up, soon)))
      (λ (dead : DiedBy death low). inr (still death dead, not-back back sent k))
      h
    where
      still : (o : Option ℕ) → DiedBy o low → DiedBy o (sent + most)
      still None dead = dead
      still (Some d) dead = omega (arith, dead, up, soon)

  all-lost : (clock : Clock) (sent : List (Dated Note)) (low : ℕ) → LateOrDead death beats low
      → AllByRecursion (λ (f : Passage Note). low ≤ f.arrival) (passages clock sent)
      → AllByRecursion (IsTimely most) (passages clock sent)
      → AreFrontOn most beats its (kept_of back sent) []
  all-lost clock [] low h above timely = tt
  all-lost clock (s ∷ ss) low h above timely = ⊎_elim
      (λ (k : keeps back s.beat ≡ true).
      rw k (
        may-lose low (arrival_at clock s.beat) s.beat h above.0 timely.0.1 k,
        all-lost (after_send clock s.beat) ss low h above.1 timely.1,
      ))
      (λ (k : keeps back s.beat ≡ false). rw k (all-lost (after_send clock s.beat) ss low h above.1 timely.1))
      (cases_Bool (keeps back s.beat))

  -- behind something that is skipped nothing is got below the return
  none-kept : (f : Passage Note) (fs : List (Passage Note)) (gs : List (Dated Note)) → Skip its beats f gs
      → AllByRecursion (λ (g : Passage Note). f.arrival ≤ g.arrival) fs → Picked its beats fs gs
      → AllByRecursion (λ (d : Dated Note). keeps back d.beat ≡ false) gs
  none-kept f [] [] s above h = tt
  none-kept f [] (g ∷ gs) s above h = absurd h
  none-kept f (x ∷ xs) [] s above h = tt
  none-kept f (x ∷ xs) (g ∷ gs) s above h = ⊎_elim
      (λ (took : (is_heard its beats x ≡ true) × (g ≡ brought x) × Picked its beats xs gs).
      (not-kept (keeps back g.beat) refl took, none-kept f xs gs (rest s) above.1 took.2))
      (λ (over : Skip its beats x (g ∷ gs) × Picked its beats xs (g ∷ gs)). none-kept f xs (g ∷ gs) s above.1 over.1)
      h
    where
      rest : Skip its beats f (g ∷ gs) → Skip its beats f gs
      rest s = ⊎_elim
          (λ (e : is_heard its beats f ≡ false). inl e)
          (λ (cut : (ends_in its f.arrival ≡ true) × AllByRecursion (λ d. ends_in its d.beat ≡ false) (g ∷ gs)).
          inr (cut.0, cut.1.1))
          s

      not-kept : (b : Bool) → keeps back g.beat ≡ b → (is_heard its beats x ≡ true) × (g ≡ brought x)
          × Picked its beats xs gs
          → keeps back g.beat ≡ false
      not-kept true e took =
          let there : Skip its beats f (brought x ∷ gs) = subst (λ d. Skip its beats f (d ∷ gs)) took.1 s in
          let below : keeps back x.arrival ≡ true = sym (ap (λ (d : Dated Note). keeps back d.beat) took.1) ∙ e in
          absurd (skip-stays death left back later beats f x gs there above.0 took.0 below)
      not-kept false e took = e

  later-kept : (o : Option ℕ) (a b : ℕ) → a ≤ b → keeps o a ≡ false → keeps o b ≡ false
  later-kept None a b l e = absurd (cc)
  later-kept (Some w) a b l e = grind (arith, nat_tests, l, e)

  abbrev first_of : Clock → Dated Note → Passage Note
  first_of clock s = record { sent = s.beat; arrival = arrival_at clock s.beat; item = s.item }

  abbrev rest_of : Clock → Dated Note → List (Dated Note) → List (Passage Note)
  rest_of clock s ss = passages (after_send clock s.beat) ss

  abbrev RestFront : Clock → Dated Note → List (Dated Note) → Type 0
  RestFront clock s ss =
      (gs : List (Dated Note)) → Picked its beats (rest_of clock s ss) gs
      → AreFrontOn most beats its (kept_of back ss) (kept_of back gs)

  module _ (clock : Clock) (s : Dated Note) (ss : List (Dated Note))
      (timely : AllByRecursion (IsTimely most) (passages clock (s ∷ ss)))
      (rising : Rising (λ (f : Passage Note). f.arrival) (passages clock (s ∷ ss))) (ih : RestFront clock s ss) where
    skip-it : (got : List (Dated Note)) → keeps back s.beat ≡ true → Skip its beats (first_of clock s) got
        → Picked its beats (rest_of clock s ss) got
        → AreFrontOn most beats its (s ∷ kept_of back ss) (kept_of back got)
    skip-it got k skip rest =
        let f = first_of clock s in
        let late = skip-late death left back later beats f got skip in
        let none = filter-none (λ (d : Dated Note). keeps back d.beat) got
        (none-kept f (rest_of clock s ss) got skip rising.0 rest) in
        subst (AreFrontOn most beats its (s ∷ kept_of back ss)) (sym none) (
          may-lose f.arrival f.arrival s.beat late (omega arith) timely.0.1 k,
          all-lost (after_send clock s.beat) ss f.arrival late rising.0 timely.1,
        )

    with-it : (got : List (Dated Note)) → keeps back s.beat ≡ true
        → Picked its beats (first_of clock s ∷ rest_of clock s ss) got
        → AreFrontOn most beats its (s ∷ kept_of back ss) (kept_of back got)
    with-it [] k h = skip-it [] k h.0 h.1
    with-it (g ∷ gs) k h = ⊎_elim
        (λ (took : (is_heard its beats (first_of clock s) ≡ true) × (g ≡ brought (first_of clock s))
        × Picked its beats (rest_of clock s ss) gs).
        let parts = heard-parts its beats (first_of clock s) took.0 in
        let below : keeps back g.beat ≡ true = ap (λ (d : Dated Note). keeps back d.beat) took.1
        ∙ heard-kept death left back s.beat (arrival_at clock s.beat) parts.2 k in
        let when : g.beat ≡ arrival_at clock s.beat = ap (λ (d : Dated Note). d.beat) took.1 in
        let high = timely.0.1 in
        let low = timely.0.0 in
        rw below (
          ap (λ (d : Dated Note). d.item) took.1,
          omega (arith, low, when),
          omega (arith, high, when),
          ih gs took.2,
        ))
        (λ (over : Skip its beats (first_of clock s) (g ∷ gs) × Picked its beats (rest_of clock s ss) (g ∷ gs)). skip-it
        (g ∷ gs) k over.0 over.1)
        h

    without-it : (got : List (Dated Note)) → keeps back s.beat ≡ false
        → Picked its beats (first_of clock s ∷ rest_of clock s ss) got
        → AreFrontOn most beats its (kept_of back ss) (kept_of back got)
    without-it [] k h = ih [] h.1
    without-it (g ∷ gs) k h = ⊎_elim
        (λ (took : (is_heard its beats (first_of clock s) ≡ true) × (g ≡ brought (first_of clock s))
        × Picked its beats (rest_of clock s ss) gs).
        let when : g.beat ≡ arrival_at clock s.beat = ap (λ (d : Dated Note). d.beat) took.1 in
        let low = timely.0.0 in
        let above : keeps back g.beat ≡ false = later-kept back s.beat g.beat (omega (arith, low, when)) k in
        rw above (ih gs took.2))
        (λ (over : Skip its beats (first_of clock s) (g ∷ gs) × Picked its beats (rest_of clock s ss) (g ∷ gs)). ih
        (g ∷ gs) over.1)
        h

  pub front-kept : (clock : Clock) (sent got : List (Dated Note)) → AllByRecursion (IsTimely most) (passages clock sent)
      → Rising (λ (f : Passage Note). f.arrival) (passages clock sent) → Picked its beats (passages clock sent) got
      → AreFrontOn most beats its (kept_of back sent) (kept_of back got)
  front-kept clock [] [] timely rising h = tt
  front-kept clock [] (g ∷ gs) timely rising h = absurd h
  front-kept clock (s ∷ ss) got timely rising h = ⊎_elim
      (λ (k : keeps back s.beat ≡ true).
      rw k (with-it clock s ss timely rising (λ gs r. front-kept (after_send clock s.beat) ss gs timely.1 rising.1 r)
      got k h))
      (λ (k : keeps back s.beat ≡ false).
      rw k (without-it clock s ss timely rising (λ gs r. front-kept (after_send clock s.beat) ss gs timely.1 rising.1 r)
      got k h))
      (cases_Bool (keeps back s.beat))

-- from the return on
module _ (d : ℕ) (left : Option ℕ) (w : ℕ) (later : d + 2 ≤ w) (most beats : ℕ) where
  abbrev theirs : Lifetime
  theirs = lived (Some d) left (Some w)

  -- what was sent from the return on is heard, but for what arrives behind the last beat
  heard-since : (f : Passage Note) → w ≤ f.sent → f.sent < f.arrival → f.arrival < beats
      → is_heard theirs beats f ≡ true
  unfolding acts hears
  heard-since f from up soon =
      let early : nat_lt f.arrival beats ≡ true = grind (arith, nat_tests, soon) in
      let back : nat_le w f.arrival ≡ true = grind (arith, nat_tests, from, up) in
      let sent : nat_lt f.sent w ≡ false = grind (arith, nat_tests, from) in
      rw (early, back, sent) (last-or (nat_lt f.arrival d) ((f.arrival == d) && (is_some left && true)))
    where
      last-or : (x y : Bool) → ((x || y || true) && not (false && true)) ≡ true
      last-or true y = refl
      last-or false true = refl
      last-or false false = refl

  unended-since : (f : Passage Note) → w ≤ f.sent → f.sent < f.arrival → ends_in theirs f.arrival ≡ true → ⊥
  unended-since f from up h =
      let at = ends-by d left f.arrival h in
      let same = at.0 in
      omega (arith, same, from, up, later)

  skip-since : (f : Passage Note) (gs : List (Dated Note)) → w ≤ f.sent → f.sent < f.arrival → Skip theirs beats f gs
      → beats ≤ f.arrival
  skip-since f gs from up s = ⊎_elim
      (λ (none : is_heard theirs beats f ≡ false). ⊎_elim
      (λ (e : nat_lt f.arrival beats ≡ true).
      let heard = heard-since f from up (ltb-true _ _ e) in
      let bad : true ≡ false = sym heard ∙ none in absurd (cc))
      (λ (e : nat_lt f.arrival beats ≡ false). grind (arith, nat_tests, e))
      (cases_Bool (nat_lt f.arrival beats)))
      (λ (cut : (ends_in theirs f.arrival ≡ true) × AllByRecursion (λ g. ends_in theirs g.beat ≡ false) gs). absurd
      (unended-since f from up cut.0))
      s

  -- what arrives behind the last beat is not got
  none-late : (fs : List (Passage Note)) (gs : List (Dated Note))
      → AllByRecursion (λ (f : Passage Note). beats ≤ f.arrival) fs
      → Picked theirs beats fs gs → gs ≡ []
  none-late [] [] late h = refl
  none-late [] (g ∷ gs) late h = absurd h
  none-late (f ∷ fs) [] late h = refl
  none-late (f ∷ fs) (g ∷ gs) late h = ⊎_elim
      (λ (took : (is_heard theirs beats f ≡ true) × (g ≡ brought f) × Picked theirs beats fs gs).
      let soon = (heard-parts theirs beats f took.0).0 in
      let behind = late.0 in
      absurd (omega (arith, soon, behind)))
      (λ (over : Skip theirs beats f (g ∷ gs) × Picked theirs beats fs (g ∷ gs)). none-late fs (g ∷ gs) late.1 over.1)
      h

  all-late : (clock : Clock) (sent : List (Dated Note))
      → AllByRecursion (λ (f : Passage Note). beats ≤ f.arrival) (passages clock sent)
      → AllByRecursion (IsTimely most) (passages clock sent) → AreFrontOn most beats theirs (since w sent) []
  all-late clock [] late timely = tt
  all-late clock (s ∷ ss) late timely = ⊎_elim
      (λ (k : nat_le w s.beat ≡ true).
      let behind = late.0 in
      let soon = timely.0.1 in
      rw k (inl (omega (arith, behind, soon)), all-late (after_send clock s.beat) ss late.1 timely.1))
      (λ (k : nat_le w s.beat ≡ false). rw k (all-late (after_send clock s.beat) ss late.1 timely.1))
      (cases_Bool (nat_le w s.beat))

  abbrev its_first : Clock → Dated Note → Passage Note
  its_first clock s = record { sent = s.beat; arrival = arrival_at clock s.beat; item = s.item }

  abbrev its_rest : Clock → Dated Note → List (Dated Note) → List (Passage Note)
  its_rest clock s ss = passages (after_send clock s.beat) ss

  module _ (clock : Clock) (s : Dated Note) (ss : List (Dated Note))
      (timely : AllByRecursion (IsTimely most) (passages clock (s ∷ ss)))
      (rising : Rising (λ (f : Passage Note). f.arrival) (passages clock (s ∷ ss)))
      (ih : (gs : List (Dated Note)) → Picked theirs beats (its_rest clock s ss) gs
      → AreFrontOn most beats theirs (since w ss) (since w gs)) where
    skip-late-it : (got : List (Dated Note)) → w ≤ s.beat → Skip theirs beats (its_first clock s) got
        → Picked theirs beats (its_rest clock s ss) got → AreFrontOn most beats theirs (s ∷ since w ss) (since w got)
    skip-late-it got from skip rest =
        let high = timely.0.1 in
        let low = timely.0.0 in
        let behind = skip-since (its_first clock s) got from low skip in
        let late = all-weaker (λ (g : Passage Note). arrival_at clock s.beat ≤ g.arrival)
        (λ (g : Passage Note). beats ≤ g.arrival)
        (its_rest clock s ss) (λ g l. omega (arith, l, behind)) rising.0 in
        let none = ap (since w) (none-late (its_rest clock s ss) got late rest) in
        subst (AreFrontOn most beats theirs (s ∷ since w ss)) (sym none)
        (inl (omega (arith, behind, high)), all-late (after_send clock s.beat) ss late timely.1)

    with-late : (got : List (Dated Note)) → nat_le w s.beat ≡ true
        → Picked theirs beats (its_first clock s ∷ its_rest clock s ss) got
        → AreFrontOn most beats theirs (s ∷ since w ss) (since w got)
    with-late [] k h = skip-late-it [] (grind (arith, nat_tests, k)) h.0 h.1
    with-late (g ∷ gs) k h = ⊎_elim
        (λ (took : (is_heard theirs beats (its_first clock s) ≡ true) × (g ≡ brought (its_first clock s))
        × Picked theirs beats (its_rest clock s ss) gs).
        let when : g.beat ≡ arrival_at clock s.beat = ap (λ (d : Dated Note). d.beat) took.1 in
        let high = timely.0.1 in
        let low = timely.0.0 in
        let above : nat_le w g.beat ≡ true = grind (arith, nat_tests, k, low, when) in
        rw above (
          ap (λ (d : Dated Note). d.item) took.1,
          omega (arith, low, when),
          omega (arith, high, when),
          ih gs took.2,
        ))
        (λ (over : Skip theirs beats (its_first clock s) (g ∷ gs) × Picked theirs beats (its_rest clock s ss) (g ∷ gs)).
        skip-late-it (g ∷ gs) (grind (arith, nat_tests, k)) over.0 over.1)
        h

    without-late : (got : List (Dated Note)) → nat_le w s.beat ≡ false
        → Picked theirs beats (its_first clock s ∷ its_rest clock s ss) got
        → AreFrontOn most beats theirs (since w ss) (since w got)
    without-late [] k h = ih [] h.1
    without-late (g ∷ gs) k h = ⊎_elim
        (λ (took : (is_heard theirs beats (its_first clock s) ≡ true) × (g ≡ brought (its_first clock s))
        × Picked theirs beats (its_rest clock s ss) gs).
        let parts = heard-parts theirs beats (its_first clock s) took.0 in
        let before : nat_lt s.beat w ≡ true = grind (arith, nat_tests, k) in
        let below = heard-kept (Some d) left (Some w) s.beat (arrival_at clock s.beat) parts.2 before in
        let when : g.beat ≡ arrival_at clock s.beat = ap (λ (d : Dated Note). d.beat) took.1 in
        let gone : nat_le w g.beat ≡ false = grind (arith, nat_tests, below, when) in
        rw gone (ih gs took.2))
        (λ (over : Skip theirs beats (its_first clock s) (g ∷ gs) × Picked theirs beats (its_rest clock s ss)
        (g ∷ gs)). ih (g ∷ gs) over.1)
        h

  pub front-since : (clock : Clock) (sent got : List (Dated Note))
      → AllByRecursion (IsTimely most) (passages clock sent)
      → Rising (λ (f : Passage Note). f.arrival) (passages clock sent) → Picked theirs beats (passages clock sent) got
      → AreFrontOn most beats theirs (since w sent) (since w got)
  front-since clock [] [] timely rising h = tt
  front-since clock [] (g ∷ gs) timely rising h = absurd h
  front-since clock (s ∷ ss) got timely rising h = ⊎_elim
      (λ (k : nat_le w s.beat ≡ true).
      rw k (with-late clock s ss timely rising (λ gs r. front-since (after_send clock s.beat) ss gs timely.1 rising.1 r)
      got k h))
      (λ (k : nat_le w s.beat ≡ false).
      rw k (without-late clock s ss timely rising
      (λ gs r. front-since (after_send clock s.beat) ss gs timely.1 rising.1 r) got k h))
      (cases_Bool (nat_le w s.beat))

all-kept : (ds : List (Dated Note)) → kept_of None ds ≡ ds
all-kept ds = filter-all (λ (d : Dated Note). keeps None d.beat) ds
    (all-given (λ (d : Dated Note). keeps None d.beat ≡ true) ds (λ d. refl))

-- a link that is paced carries, whatever befalls its receiver
pub paced-carries : (death left back : Option ℕ) → ReturnsLater death back
    → (most beats : ℕ) (clock : Clock) (Came : Type 0)
    (sent got : List (Dated Note)) → AllByRecursion (IsTimely most) (passages clock sent)
    → Rising (λ (f : Passage Note). f.arrival) (passages clock sent)
    → ArePacedOn clock (lived death left back) beats Came sent got
    → AreCarriedOn most beats (lived death left back) sent got
paced-carries death left None later most beats clock Came sent got timely rising paced =
    let picked = picked-got (lived death left None) beats Came (passages clock sent) got paced in
    let all = front-kept death left None later most beats clock sent got timely rising picked in
    subst (λ ds. AreFrontOn most beats (lived death left None) ds got) (all-kept sent)
    (subst (AreFrontOn most beats (lived death left None) (kept_of None sent)) (all-kept got) all)
paced-carries None left (Some w) later most beats clock Came sent got timely rising paced = absurd later
paced-carries (Some d) left (Some w) later most beats clock Came sent got timely rising paced =
    let picked = picked-got (lived (Some d) left (Some w)) beats Came (passages clock sent) got paced in (
      front-kept (Some d) left (Some w) later most beats clock sent got timely rising picked,
      front-since d left w later most beats clock sent got timely rising picked,
    )
