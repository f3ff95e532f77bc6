-- Lists that are walked through, one element after another.
use Rattle.std.proofs.Common.{◌≡◌, ℕ, ◌+◌, List, [], ◌∷◌, ◌++◌, length, Option, Some, SomeIff, refl, ap, sym, ◌∙◌, subst, arith, append-nil, append_assoc, length-append}
use Rattle.std.specs.Prelude.{slice_get}

-- the next element is behind those that are done
next-here : {A : Type 0} (done : List A) (x : A) (rest : List A) → slice_get (done ++ x ∷ rest) (length done) ≡ Some x
next-here [] x rest = refl
next-here (y ∷ done) x rest = next-here done x rest

pub next-at : {A : Type 0} (all done : List A) (x : A) (rest rest' : List A) (n : ℕ) → done ++ rest ≡ all → rest ≡ x ∷ rest' → n ≡ length done → slice_get all n ≡ Some x
next-at {A} all done x rest rest' n whole next number =
    subst (λ (l : List A). slice_get l n ≡ Some x) (ap (λ l. done ++ l) (sym next) ∙ whole)
    (subst (λ m. slice_get (done ++ x ∷ rest') m ≡ Some x) (sym number) (next-here done x rest'))

pub goes-on : {A : Type 0} (all done : List A) (x : A) (rest rest' : List A) → done ++ rest ≡ all → rest ≡ x ∷ rest' → (done ++ x ∷ []) ++ rest' ≡ all
goes-on all done x rest rest' whole next = append_assoc done (x ∷ []) rest' ∙ ap (λ l. done ++ l) (sym next) ∙ whole

none-left : {A : Type 0} (xs : List A) → length xs ≡ 0 → xs ≡ []
none-left [] e = refl
none-left (x ∷ xs) e = absurd (omega (arith, e))

-- all are done if none is left
pub all-done : {A : Type 0} (all done rest : List A) → done ++ rest ≡ all → length rest ≡ 0 → done ≡ all
all-done all done rest whole none = sym (append-nil done) ∙ ap (λ l. done ++ l) (sym (none-left rest none)) ∙ whole

-- a counter of those that are done goes up
pub place-on : {A : Type 0} (o : Option ℕ) (place place' : ℕ) (P : Type 0) (done : List A) (x : A) → SomeIff o P (place + 1) → o ≡ Some place' → place ≡ length done
    → place' ≡ length (done ++ x ∷ [])
place-on o place place' P done x h is at =
    let got : P × (place' ≡ place + 1) = subst (λ q. SomeIff q P (place + 1)) is h in
    let more = got.1 in
    let size = length-append done (x ∷ []) in omega (arith, more, at, size)
