-- Two rows of a course, of which each cub's elements belong together.
use Rattle.std.proofs.Common.{ℕ, zero, suc, nat_lt, Bool, true, false, List, [], ◌∷◌, Option, None}
use Rattle.std.specs.Prelude.{slice_get, option_and_then, if◌then◌else◌}
use Rattle.node_kit.specs.declared.course.Course.{Course}
use Rattle.node_kit.specs.Life.{of_cub}

module _ (P : Option ℕ → Option ℕ → Type 0) where
  -- element for element; past the end there is nothing
  abbrev pub Paired : List (Option ℕ) → List (Option ℕ) → Type 0
  Paired [] [] = P None None
  Paired [] (y ∷ ys) = ⊥
  Paired (x ∷ xs) [] = ⊥
  Paired (x ∷ xs) (y ∷ ys) = P x y × Paired xs ys

  abbrev at : List (Option ℕ) → ℕ → Option ℕ
  at row n = option_and_then (λ d. d) (slice_get row n)

  each : (xs ys : List (Option ℕ)) → Paired xs ys → (n : ℕ) → P (at xs n) (at ys n)
  each [] [] h n = h
  each [] (y ∷ ys) h n = absurd h
  each (x ∷ xs) [] h n = absurd h
  each (x ∷ xs) (y ∷ ys) h zero = h.0
  each (x ∷ xs) (y ∷ ys) h (suc n) = each xs ys h.1 n

  pub of-paired : P None None → (c : Course) (xs ys : List (Option ℕ)) → Paired xs ys → (n : ℕ) → P (of_cub c xs n) (of_cub c ys n)
  of-paired none c xs ys h n = by (nat_lt n c.plan.params.cubs)
    where
      by : (b : Bool) → P (if b then at xs n else None) (if b then at ys n else None)
      by true = each xs ys h n
      by false = none
