-- What a receiver gets of what it hears.
use Rattle.std.proofs.Common.{◌≡◌, ℕ, List, [], ◌∷◌, ◌++◌, map, true, false, Option, refl, ap, sym, ◌∙◌, ⊎_elim, inl}
use Rattle.std.proofs.Common.{inr}
use Rattle.std.specs.List.{AllByRecursion}
use Rattle.node_kit.specs.Life.{Lifetime, mortal, ends_in}
use Rattle.node_kit.proofs.Whole.{ends-never}
use Rattle.run_facts.specs.Events.{Dated}
use Rattle.run_facts.specs.Paced.{Passage, brought, AreMissed, AreGot}

-- the death of a whole life cuts nothing off
none-missed : {X : Type 0} (o : Option ℕ) (life : Lifetime) (fs : List (Passage X)) → life ≡ mortal o
    → AllByRecursion (λ (f : Passage X). ends_in life f.arrival ≡ true) fs → fs ≡ []
none-missed o life [] same h = refl
none-missed o life (f ∷ fs) same h =
    let never : ends_in life f.arrival ≡ false = ap (λ q. ends_in q f.arrival) same ∙ ends-never o f.arrival in
    let q : true ≡ false = sym h.0 ∙ never in absurd (cc)

-- so all that is heard is got
pub got-whole : {X : Type 0} (o : Option ℕ) (life : Lifetime) (Came : Type 0) (heard : List (Passage X))
    (got : List (Dated X))
    → life ≡ mortal o → AreGot life Came heard got → got ≡ map brought heard
got-whole o life Came heard got same h = ⊎_elim
    (λ (all : got ≡ map brought heard). all)
    (λ (some : Came × AreMissed life heard got).
    let m = some.1 in
    let none = none-missed o life m.missed same m.cut_off in
    m.kept ∙ ap (map brought) (sym (m.split ∙ ap (λ fs. m.early ++ (fs ++ m.late)) none)))
    h

-- one reason for what was missed is another too
pub got-weaker : {X : Type 0} (life : Lifetime) (Came Also : Type 0) (heard : List (Passage X)) (got : List (Dated X))
    → (Came → Also)
    → AreGot life Came heard got → AreGot life Also heard got
got-weaker life Came Also heard got f h = ⊎_elim
    (λ (all : got ≡ map brought heard). inl all)
    (λ (some : Came × AreMissed life heard got). inr (f some.0, some.1))
    h
