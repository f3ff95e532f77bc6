-- Of two neighbours in the ring at most one has ever died, and so it stays when a cub dies between two that never have.
use Rattle.std.proofs.Common.{◌≡◌, ℕ, ◌+◌, ◌-◌, ◌%◌, ◌<◌, ◌≤◌, List, Bool, true, false, Option, Some, None, refl, ap, sym}
use Rattle.std.proofs.Common.{◌∙◌, arith, cond, ⊎_elim, inl, inr}
use Rattle.std.specs.Prelude.{slice_get, option_map, is_some, ◌==◌, ◌⊎◌, if◌then◌else◌}
use Rattle.std.proofs.Math.Nat.{mod-eq_of_lt, mod_self}
use Rattle.std.proofs.lemmas.Option.{none-some}
use Rattle.std.proofs.lemmas.Bool.{cases_Bool, cases_eq, cases_lt, ne_eqb}
use Rattle.tiger_base.specs.declared.message.Note.{Note}
use Rattle.slot_plan.specs.declared.params.Params.{Params}
use Rattle.node_kit.specs.Steps.{Input, Deed}
use Rattle.run_facts.specs.Events.{NodeEvent, is_death}
use Rattle.ring_world.specs.Machine.{Being, lived, each_at}
use Rattle.ring_world.specs.Faults.{cub_after, cub_before, has_died}
use Rattle.ring_world.proofs.Lists.{each-get}

-- of two neighbours at most one has ever died
abbrev pub AreApart : {S : Type 0} → Params → List (Being S) → Type 0
AreApart {S} p beings =
    (cub : ℕ) (a b : Being S) → cub < p.cubs → slice_get beings cub ≡ Some a
    → slice_get beings (cub_after p cub) ≡ Some b → (a.died ≡ None) ⊎ (b.died ≡ None)

-- a cub that may die is between two that have never died
abbrev pub MayDie : {S : Type 0} → Params → List (Being S) → ℕ → Type 0
MayDie p beings n =
    (n < p.cubs) × (has_died (slice_get beings (cub_before p n)) ≡ false)
    × (has_died (slice_get beings (cub_after p n)) ≡ false)

after-other : (p : Params) (cub : ℕ) → 2 ≤ p.cubs → cub < p.cubs → cub_after p cub ≡ cub → ⊥
after-other p cub two low h = ⊎_elim
    (λ (inside : cub + 1 < p.cubs).
    let q : (cub + 1) % p.cubs ≡ cub + 1 = mod-eq_of_lt inside in omega (arith, q, h))
    (λ (end : p.cubs ≤ cub + 1).
    let all : cub + 1 ≡ p.cubs = omega (arith, end, low) in
    let q : (cub + 1) % p.cubs ≡ 0 = ap (λ k. k % p.cubs) all ∙ mod_self p.cubs in
    omega (arith, q, h, all, two))
    (cases_lt (cub + 1) p.cubs)

before-after : (p : Params) (cub : ℕ) → cub < p.cubs → cub_before p (cub_after p cub) ≡ cub
before-after p cub low = ⊎_elim
    (λ (inside : cub + 1 < p.cubs).
    let q : (cub + 1) % p.cubs ≡ cub + 1 = mod-eq_of_lt inside in
    let ne : cub + 1 ≡ 0 → ⊥ = λ e. omega (arith, e) in
    let t : (cub + 1 == 0) ≡ false = ne_eqb (cub + 1) 0 ne in
    let one : cub + 1 - 1 ≡ cub = omega arith in
    ap (cub_before p) q ∙ ap (λ b. cond b (p.cubs - 1) (cub + 1 - 1)) t ∙ one)
    (λ (end : p.cubs ≤ cub + 1).
    let all : cub + 1 ≡ p.cubs = omega (arith, end, low) in
    let q : (cub + 1) % p.cubs ≡ 0 = ap (λ k. k % p.cubs) all ∙ mod_self p.cubs in
    let one : p.cubs - 1 ≡ cub = omega (arith, all) in
    ap (cub_before p) q ∙ one)
    (cases_lt (cub + 1) p.cubs)

mapped : {X : Type 0} (f : X → X) (o : Option X) (y : X) → option_map f o ≡ Some y → (x : X) × (o ≡ Some x) × (f x ≡ y)
mapped f None y h = absurd (none-some y h)
mapped f (Some x) y h = (x, refl, cc)

died-same : {M S : Type 0} (note : M → Note) (step : S → Input M → Deed M S) (x : NodeEvent M) (t : Bool) (c : Being S)
    → is_death x ≡ false → (if t then lived note step x c else c).died ≡ c.died
died-same note step x false c lives = refl
died-same note step x true c lives = rw lives refl

died-other : {M S : Type 0} (note : M → Note) (step : S → Input M → Deed M S) (x : NodeEvent M) (k n : ℕ) (c : Being S)
    → (k ≡ n → ⊥) → (if k == n then lived note step x c else c).died ≡ c.died
died-other note step x k n c ne = ap (λ t. (if t then lived note step x c else c).died) (ne_eqb k n ne)

pub none-died : {S : Type 0} (beings : List (Being S)) (k : ℕ) (c : Being S) → slice_get beings k ≡ Some c
    → has_died (slice_get beings k) ≡ false → c.died ≡ None
none-died beings k c at lives = by_death c.died (sym (ap has_died at) ∙ lives)
  where
    by_death : (o : Option ℕ) → is_some o ≡ false → o ≡ None
    by_death None h = refl
    by_death (Some d) h = absurd (cc)

pub apart-moved : {M S : Type 0} (note : M → Note) (step : S → Input M → Deed M S) (p : Params) (beings : List (Being S)) (x : NodeEvent M) (n : ℕ)
    → 2 ≤ p.cubs → AreApart p beings → (is_death x ≡ true → MayDie p beings n)
    → AreApart p (each_at (λ k b. if k == n then lived note step x b else b) 0 beings)
apart-moved {M} {S} note step p beings x n two apart may cub a b low here there =
    let f = λ (k : ℕ) (c : Being S). if k == n then lived note step x c else c in
    let next = cub_after p cub in
    let one = mapped (f cub) (slice_get beings cub) a (sym (each-get f 0 beings cub cub (omega arith)) ∙ here) in
    let other = mapped (f next) (slice_get beings next) b (sym (each-get f 0 beings next next (omega arith)) ∙ there) in
    let old = apart cub one.0 other.0 low one.1 other.1 in
    let is_a : (f cub one.0).died ≡ a.died = ap (λ (c : Being S). c.died) one.2 in
    let is_b : (f next other.0).died ≡ b.died = ap (λ (c : Being S). c.died) other.2 in
    ⊎_elim
    (λ (died : is_death x ≡ true).
    let free = may died in
    ⊎_elim
    (λ (same : cub ≡ n).
    let ne : next ≡ n → ⊥ = λ e. after-other p cub two low (e ∙ sym same) in
    let at : slice_get beings (cub_after p n) ≡ Some other.0 = ap (λ k. slice_get beings (cub_after p k)) (sym same) ∙ other.1 in
    let lives : other.0.died ≡ None = none-died beings (cub_after p n) other.0 at free.2 in
    inr (sym is_b ∙ died-other note step x next n other.0 ne ∙ lives))
    (λ (ne : cub ≡ n → ⊥).
    let keeps : a.died ≡ one.0.died = sym is_a ∙ died-other note step x cub n one.0 ne in
    ⊎_elim
    (λ (same : next ≡ n).
    let before : cub_before p n ≡ cub = ap (cub_before p) (sym same) ∙ before-after p cub low in
    let at : slice_get beings (cub_before p n) ≡ Some one.0 = ap (slice_get beings) before ∙ one.1 in
    let lives : one.0.died ≡ None = none-died beings (cub_before p n) one.0 at free.1 in
    inl (keeps ∙ lives))
    (λ (far : next ≡ n → ⊥).
    ⊎_elim
    (λ (lives : one.0.died ≡ None). inl (keeps ∙ lives))
    (λ (lives : other.0.died ≡ None). inr (sym is_b ∙ died-other note step x next n other.0 far ∙ lives))
    old)
    (cases_eq next n))
    (cases_eq cub n))
    (λ (lives : is_death x ≡ false).
    ⊎_elim
    (λ (alive : one.0.died ≡ None). inl (sym is_a ∙ died-same note step x (cub == n) one.0 lives ∙ alive))
    (λ (alive : other.0.died ≡ None). inr (sym is_b ∙ died-same note step x (next == n) other.0 lives ∙ alive))
    old)
    (cases_Bool (is_death x))
