-- What a receiver of any life gets on a link: of what is sent below its return a front, and of the rest a front.
use Rattle.std.proofs.Common.{◌≡◌, ℕ, ◌+◌, ◌<◌, ◌≤◌, List, [], ◌∷◌, ◌++◌, map, filter, Bool, true, false}
use Rattle.std.proofs.Common.{not, ◌&&◌, ◌||◌, cond, Option, Some, None, refl, ap, sym, ◌∙◌, subst, arith}
use Rattle.std.proofs.Common.{⊎_elim, inl, inr}
use Rattle.std.specs.Prelude.{nat_lt, nat_le, ◌==◌, is_some, ◌⊎◌}
use Rattle.std.specs.List.{AllByRecursion}
use Rattle.std.proofs.lemmas.Bool.{cases_Bool, cases_lt, and_parts, eqb-true, eq-eqb, ltb-true}
use Rattle.std.proofs.lemmas.Bool.Decides.{nat_tests}
use Rattle.node_kit.specs.Courses.{ReturnsLater}
use Rattle.node_kit.specs.Life.{Lifetime, acts, hears}
use Rattle.run_facts.specs.Accounts.{Rising}
use Rattle.run_facts.specs.Events.{Dated}
use Rattle.run_facts.specs.Paced.{Passage, is_heard, brought}
use Rattle.run_facts.specs.Timed.{death_within}
use Rattle.run_facts.proofs.Fronts.{lived}
use Rattle.run_facts.proofs.Rows.{all-weaker, all-filter, filter-none}
use Rattle.run_lives.proofs.Standing.{within-of}

-- lists and tests
pub filter-map : {X : Type 0} (k : ℕ → Bool) (fs : List (Passage X))
    → filter (λ (d : Dated X). k d.beat) (map brought fs) ≡ map brought (filter (λ (f : Passage X). k f.arrival) fs)
filter-map k [] = refl
filter-map k (f ∷ fs) = ⊎_elim
    (λ (e : k f.arrival ≡ true). rw e (ap (λ ds. brought f ∷ ds) (filter-map k fs)))
    (λ (e : k f.arrival ≡ false). rw e (filter-map k fs))
    (cases_Bool (k f.arrival))

pub filter-twice : {X : Type 0} (k h q : X → Bool) (xs : List X)
    → AllByRecursion (λ x. (k x ≡ true → h x ≡ q x) × (k x ≡ false → q x ≡ false)) xs
    → filter k (filter h xs) ≡ filter q xs
filter-twice k h q [] all = refl
filter-twice k h q (x ∷ xs) all =
    let rest = filter-twice k h q xs all.1 in
    ⊎_elim
    (λ (e : k x ≡ true).
    let same = all.0.0 e in
    ⊎_elim
    (λ (t : q x ≡ true). rw (same ∙ t, e, t) (ap (λ ys. x ∷ ys) rest))
    (λ (t : q x ≡ false). rw (same ∙ t, t) rest)
    (cases_Bool (q x)))
    (λ (e : k x ≡ false).
    let out = all.0.1 e in
    ⊎_elim
    (λ (t : h x ≡ true). rw (t, e, out) rest)
    (λ (t : h x ≡ false). rw (t, out) rest)
    (cases_Bool (h x)))
    (cases_Bool (k x))

pub filter-passes : {X : Type 0} (h : X → Bool) (xs : List X) → AllByRecursion (λ x. h x ≡ true) (filter h xs)
filter-passes h [] = tt
filter-passes h (x ∷ xs) = ⊎_elim
    (λ (e : h x ≡ true). rw e (e, filter-passes h xs))
    (λ (e : h x ≡ false). rw e (filter-passes h xs))
    (cases_Bool (h x))

pub rising-filter : {X : Type 0} (f : X → ℕ) (h : X → Bool) (xs : List X) → Rising f xs → Rising f (filter h xs)
rising-filter f h [] r = tt
rising-filter f h (x ∷ xs) r = ⊎_elim
    (λ (e : h x ≡ true). rw e (all-filter (λ y. f x ≤ f y) h xs r.0, rising-filter f h xs r.1))
    (λ (e : h x ≡ false). rw e (rising-filter f h xs r.1))
    (cases_Bool (h x))

-- what passes a test that no later thing passes again is a front
pub record HasFront {X : Type 0} (test : Passage X → Bool) (fs : List (Passage X)) : Type 0 where
  pub rest : List (Passage X)
  pub all : fs ≡ filter test fs ++ rest
  pub none : AllByRecursion (λ (f : Passage X). test f ≡ false) rest

abbrev pub IsDownward : {X : Type 0} → (Passage X → Bool) → Type 0
IsDownward {X} test = (f g : Passage X) → f.arrival ≤ g.arrival → test g ≡ true → test f ≡ true

pub has-front : {X : Type 0} (test : Passage X → Bool) (fs : List (Passage X)) → IsDownward test
    → Rising (λ (f : Passage X). f.arrival) fs → HasFront test fs
has-front test [] down rises = record { rest = []; all = refl; none = tt }
has-front {X} test (f ∷ fs) down rises = ⊎_elim
    (λ (e : test f ≡ true).
    let more = has-front test fs down rises.1 in
    record { rest = more.rest; all = rw e (ap (λ gs. f ∷ gs) more.all); none = more.none })
    (λ (e : test f ≡ false).
    let later : AllByRecursion (λ (g : Passage X). test g ≡ false) fs =
    all-weaker (λ (g : Passage X). f.arrival ≤ g.arrival) (λ g. test g ≡ false) fs
    (λ g up. ⊎_elim
    (λ (t : test g ≡ true). let q : true ≡ false = sym (down f g up t) ∙ e in absurd (cc))
    (λ (t : test g ≡ false). t)
    (cases_Bool (test g))) rises.0 in
    let none = filter-none test fs later in
    record { rest = f ∷ fs; all = rw (e, none) refl; none = (e, later) })
    (cases_Bool (test f))

-- a beat is below that of the return that the run comes to, if there is one
abbrev pub is_below : Option ℕ → ℕ → Bool
is_below None b = true
is_below (Some w) b = nat_lt b w

-- the node lives its first life in a beat, and takes messages there
abbrev pub lives_in : Option ℕ → Option ℕ → ℕ → Bool
lives_in None left b = true
lives_in (Some d) left b = nat_lt b d || (b == d && is_some left)

acts-by : (a q s : Bool) → (a || (q && (s && true)) || false) ≡ (a || (q && s))
acts-by true q s = refl
acts-by false false s = refl
acts-by false true true = refl
acts-by false true false = refl

hears-by : (a : Bool) → not (a && false) ≡ true
hears-by true = refl
hears-by false = refl

and-true : (a : Bool) → (a && true) ≡ a
and-true true = refl
and-true false = refl

pub low-or : (t q s : Bool) → (t || (q && s)) ≡ true → (t ≡ true) ⊎ ((q ≡ true) × (s ≡ true))
low-or true q s h = inl refl
low-or false true true h = inr (refl, refl)
low-or false true false h = absurd (cc)
low-or false false s h = absurd (cc)

or-low : (t q s : Bool) → (t ≡ true) ⊎ ((q ≡ true) × (s ≡ true)) → (t || (q && s)) ≡ true
or-low true q s h = refl
or-low false true true h = refl
or-low false true false h = ⊎_elim (λ (e : false ≡ true). absurd (cc)) (λ (e : (true ≡ true) × (false ≡ true)). absurd
    (let z = e.1 in cc)) h
or-low false false s h = ⊎_elim (λ (e : false ≡ true). absurd (cc)) (λ (e : (false ≡ true) × (s ≡ true)). absurd
    (let z = e.0 in cc)) h

-- who lives its first life in a beat does so in each before it
pub lives-before : (death left : Option ℕ) (a b : ℕ) → a ≤ b → lives_in death left b ≡ true
    → lives_in death left a ≡ true
lives-before None left a b up h = refl
lives-before (Some d) left a b up h = or-low (nat_lt a d) (a == d) (is_some left) (⊎_elim
    (λ (e : nat_lt b d ≡ true). inl (grind (arith, nat_tests, e, up)))
    (λ (e : ((b == d) ≡ true) × (is_some left ≡ true)).
    let same = eqb-true b d e.0 in
    ⊎_elim
    (λ (low : a < d). inl (grind (arith, nat_tests, low)))
    (λ (high : d ≤ a). inr (eq-eqb a d (omega (arith, high, up, same)), e.1))
    (cases_lt a d))
    (low-or (nat_lt b d) (b == d) (is_some left) h))

module _ (death left back : Option ℕ) (later : ReturnsLater death back) (beats : ℕ) where
  abbrev pub life : Lifetime
  life = lived death left back

  abbrev pub again : Option ℕ
  again = death_within beats back

  -- what is heard in the first life
  abbrev pub is_first : {X : Type 0} → Passage X → Bool
  is_first f = nat_lt f.arrival beats && lives_in death left f.arrival

  pub first-down : {X : Type 0} → IsDownward {X = X} is_first
  first-down f g up h =
      let both = and_parts (nat_lt g.arrival beats) (lives_in death left g.arrival) h in
      let soon = ltb-true _ _ both.0 in
      let low : nat_lt f.arrival beats ≡ true = grind (arith, nat_tests, soon, up) in
      rw low (lives-before death left f.arrival g.arrival up both.1)

  -- below the return that is what is heard, and from it on nothing is
  early-by : (b : ℕ) → b < beats → is_below again b ≡ true → (w : ℕ) → back ≡ Some w → nat_le w b ≡ false
  early-by b soon below w is = ⊎_elim
      (λ (e : nat_lt w beats ≡ true).
      let at : again ≡ Some w = ap (death_within beats) is ∙ ap (λ t. cond t (Some w) None) e in
      let low : nat_lt b w ≡ true = sym (ap (λ o. is_below o b) at) ∙ below in grind (arith, nat_tests, low))
      (λ (e : nat_lt w beats ≡ false). grind (arith, nat_tests, e, soon))
      (cases_Bool (nat_lt w beats))

  heard-by : (o w : Option ℕ) → ReturnsLater o w → {X : Type 0} (f : Passage X)
      → ((x : ℕ) → w ≡ Some x → nat_le x f.arrival ≡ false)
      → (acts (lived o left w) f.arrival && hears (lived o left w) f.sent f.arrival) ≡ lives_in o left f.arrival
  unfolding acts hears
  heard-by None None l f early = refl
  heard-by None (Some x) l f early = absurd l
  heard-by (Some d) None l f early =
      and-true _ ∙ acts-by (nat_lt f.arrival d) (f.arrival == d) (is_some left)
  heard-by (Some d) (Some x) l f early =
      let away = early x refl in
      rw (away, hears-by (nat_lt f.sent x))
      (and-true _ ∙ acts-by (nat_lt f.arrival d) (f.arrival == d) (is_some left))

  pub first-heard : {X : Type 0} (f : Passage X) → is_below again f.arrival ≡ true → is_heard life beats f ≡ is_first f
  first-heard f below = ⊎_elim
      (λ (e : nat_lt f.arrival beats ≡ true). rw e
      (heard-by death back later f (early-by f.arrival (ltb-true _ _ e) below)))
      (λ (e : nat_lt f.arrival beats ≡ false). rw e refl)
      (cases_Bool (nat_lt f.arrival beats))

  pub first-below : {X : Type 0} (f : Passage X) → is_below again f.arrival ≡ false → is_first f ≡ false
  first-below f above = ⊎_elim
      (λ (t : is_first f ≡ true).
      let both = and_parts (nat_lt f.arrival beats) (lives_in death left f.arrival) t in
      let q : true ≡ false = sym (low-by again refl f.arrival both.1) ∙ above in absurd (cc))
      (λ (t : is_first f ≡ false). t)
      (cases_Bool (is_first f))
    where
      low-under : (d w b : ℕ) → d + 2 ≤ w → lives_in (Some d) left b ≡ true → nat_lt b w ≡ true
      low-under d w b apart h = ⊎_elim
          (λ (e : nat_lt b d ≡ true). grind (arith, nat_tests, e, apart))
          (λ (e : ((b == d) ≡ true) × (is_some left ≡ true)).
          let same = eqb-true b d e.0 in grind (arith, nat_tests, same, apart))
          (low-or (nat_lt b d) (b == d) (is_some left) h)

      low-life : (o : Option ℕ) (w b : ℕ) → ReturnsLater o (Some w) → lives_in o left b ≡ true → nat_lt b w ≡ true
      low-life None w b l h = absurd l
      low-life (Some d) w b l h = low-under d w b l h

      low-by : (o : Option ℕ) → again ≡ o → (b : ℕ) → lives_in death left b ≡ true → is_below o b ≡ true
      low-by None is b h = refl
      low-by (Some w) is b h =
          low-life death w b (subst (ReturnsLater death) (within-of beats w back is).0 later) h
