-- The order in which starts are hashed.
use Rattle.std.specs.Prelude.{◌≡◌, ℕ, suc, List, [], ◌∷◌, map, slice_get, IsPermutation, if◌then◌else◌}
use Rattle.std.specs.List.{All, range_with_len}
use Rattle.run_report.specs.declared.outcome.BlockOut.{BlockOut}
use Rattle.run_report.specs.declared.turns.Turn.{Turn}
use Rattle.run_report.specs.Digests.{is_got}

-- of blocks from place n on the places of those that were not got, and at last the place behind them
abbrev pub gaps_of : ℕ → List BlockOut → List ℕ
gaps_of n [] = n ∷ []
gaps_of n (b ∷ bs) = if is_got b.kind then gaps_of (suc n) bs else n ∷ gaps_of (suc n) bs

-- the turns of so many starts: each start has one
abbrev pub AreTurns : ℕ → List Turn → Type 0
AreTurns n turns = IsPermutation (range_with_len 0 n) (map (λ (t : Turn). t.place) turns)

-- each of these turns has at its place what stands there in the list that is to be filled in
abbrev pub AreFilled : {X : Type 0} → List X → List X → List Turn → Type 0
AreFilled wanted there turns = All (λ (t : Turn). slice_get there t.place ≡ slice_get wanted t.place) turns
