-- The deaths, from what was drawn for them.
use Rattle.std.proofs.Common.{◌≡◌, ℕ, ◌+◌, ◌%◌, List, Option, ◌∙◌, refl, IfOk, OnOk, Result, Ok, Err}
use Rattle.rand_pcg.specs.Lcg.{Lcg}
use Rattle.tiger_base.specs.declared.number.NoMemory.{NoMemory}
use Rattle.scenario_make.specs.Draws.{draw}
use Rattle.scenario_make.specs.Troubles.{two_deaths, deaths_by}

pub deaths-drawn : (g : Lcg) (first early distance late : ℕ) (r : Result (List (Option ℕ)) NoMemory)
    → first ≡ draw g 0 14 → early ≡ draw g 1 1000 → distance ≡ draw g 2 11 → late ≡ draw g 3 1000
    → IfOk r (λ deaths. deaths ≡ two_deaths (first, 1000 + early) ((first + 2 + distance) % 14, 2500 + late) 14) → IfOk r (λ deaths. deaths ≡ deaths_by g)
unfolding deaths_by
deaths-drawn g first early distance late (Ok deaths) e f e' f' h = h ∙ rw (e, f, e', f') refl
deaths-drawn g first early distance late (Err error) e f e' f' h = tt

pub on_ok : {X E : Type 0} (r : Result X E) (P : Type 0) → P → OnOk r P
on_ok (Ok x) P p = p
on_ok (Err error) P p = tt
