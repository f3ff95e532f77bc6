-- What holds of each journal of a written-out run holds of the journal at each place.
use Rattle.std.proofs.Common.{◌≡◌, ℕ, zero, suc, List, [], ◌∷◌, Some, subst}
use Rattle.std.specs.Prelude.{slice_get}
use Rattle.std.proofs.lemmas.Option.{none-some, same_Some}
use Rattle.node_kit.specs.declared.journal.Entry.{Entry}

-- this holds of each journal and its place
abbrev pub EachAt : (ℕ → List Entry → Type 0) → List (List Entry) → Type 0
EachAt P [] = Unit {0}
EachAt P (j ∷ js) = P zero j × EachAt (λ n. P (suc n)) js

pub each_place : (P : ℕ → List Entry → Type 0) (js : List (List Entry)) → EachAt P js → (n : ℕ) (j : List Entry) → slice_get js n ≡ Some j → P n j
each_place P [] each n j at = absurd (none-some j at)
each_place P (i ∷ js) each zero j at = subst (P zero) (same_Some i j at) each.0
each_place P (i ∷ js) each (suc n) j at = each_place (λ m. P (suc m)) js each.1 n j at
