-- To walk along a list and to look at its fronts is the same.
use Rattle.std.proofs.Common.{◌≡◌, List, [], ◌∷◌, ◌++◌, refl, ap}
use Rattle.std.specs.List.{fold}
use Rattle.run_model.specs.Fronts.{Always, AtEach}

-- what always holds does so after each front
pub always_after : {S X : Type 0} (P : S → Type 0) (f : S → X → S) (s : S) (front back : List X) → Always P f s (front ++ back) → P (fold f s front)
always_after P f s [] [] h = h
always_after P f s [] (y ∷ ys) h = h.0
always_after P f s (x ∷ xs) back h = always_after P f (f s x) xs back h.1

pub always_from : {S X : Type 0} (P : S → Type 0) (f : S → X → S) (s : S) (log : List X) → ((front back : List X) → front ++ back ≡ log → P (fold f s front)) → Always P f s log
always_from P f s [] h = h [] [] refl
always_from P f s (x ∷ xs) h = (h [] (x ∷ xs) refl, always_from P f (f s x) xs (λ front back e. h (x ∷ front) back (ap (λ ys. x ∷ ys) e)))

-- what holds at each element does so after the front before it
pub at_each_after : {S X : Type 0} (R : S → X → Type 0) (f : S → X → S) (s : S) (front : List X) (x : X) (back : List X) → AtEach R f s (front ++ x ∷ back) → R (fold f s front) x
at_each_after R f s [] x back h = h.0
at_each_after R f s (y ∷ ys) x back h = at_each_after R f (f s y) ys x back h.1

pub at_each_from : {S X : Type 0} (R : S → X → Type 0) (f : S → X → S) (s : S) (log : List X) → ((front : List X) (x : X) (back : List X) → front ++ x ∷ back ≡ log → R (fold f s front) x) → AtEach R f s log
at_each_from R f s [] h = tt
at_each_from R f s (x ∷ xs) h = (h [] x xs refl, at_each_from R f (f s x) xs (λ front y back e. h (x ∷ front) y back (ap (λ ys. x ∷ ys) e)))

pub at_each_more : {S X : Type 0} (R : S → X → Type 0) (f : S → X → S) (s : S) (xs ys : List X) → AtEach R f s xs → AtEach R f (fold f s xs) ys → AtEach R f s (xs ++ ys)
at_each_more R f s [] ys h g = g
at_each_more R f s (x ∷ xs) ys h g = (h.0, at_each_more R f (f s x) xs ys h.1 g)
