-- A claim of which one entry more is judged by the front before it goes by steps whose states are the fronts themselves.
use Rattle.std.proofs.Common.{List, [], ◌∷◌, ◌++◌, append_assoc, append-nil, sym, subst}
use Rattle.run_facts.specs.Order.{Noted}
use Rattle.run_model.specs.Fronts.{AtEach}
use Rattle.audit_frame.proofs.Deciding.{GoesBySteps}
use Rattle.audit_visits.specs.Once.{front_with}

to_steps : (Claim : List Noted → Type 0) (R : List Noted → Noted → Type 0)
    → ((front back : List Noted) → Claim (front ++ back) → Claim front)
    → ((front : List Noted) (x : Noted) → Claim (front_with front x) → R front x)
    → (front xs : List Noted) → Claim (front ++ xs) → AtEach R front_with front xs
to_steps Claim R shorter there front [] h = tt
to_steps Claim R shorter there front (x ∷ xs) h =
    let all : Claim (front_with front x ++ xs) = subst Claim (sym (append_assoc front (x ∷ []) xs)) h in
    (there front x (shorter (front_with front x) xs all), to_steps Claim R shorter there (front_with front x) xs all)

from_steps : (Claim : List Noted → Type 0) (R : List Noted → Noted → Type 0)
    → ((front : List Noted) (x : Noted) → Claim front → R front x → Claim (front_with front x))
    → (front xs : List Noted) → Claim front → AtEach R front_with front xs → Claim (front ++ xs)
from_steps Claim R longer front [] h g = subst Claim (sym (append-nil front)) h
from_steps Claim R longer front (x ∷ xs) h g =
    subst Claim (append_assoc front (x ∷ []) xs) (from_steps Claim R longer (front_with front x) xs (longer front x h g.0) g.1)

pub goes_by_fronts : (Claim : List Noted → Type 0) (R : List Noted → Noted → Type 0) → Claim []
    → ((front back : List Noted) → Claim (front ++ back) → Claim front)
    → ((front : List Noted) (x : Noted) → Claim (front_with front x) → R front x)
    → ((front : List Noted) (x : Noted) → Claim front → R front x → Claim (front_with front x))
    → GoesBySteps Claim R front_with []
goes_by_fronts Claim R none shorter there longer log =
    ((λ h. to_steps Claim R shorter there [] log h), (λ h. from_steps Claim R longer [] log none h))
