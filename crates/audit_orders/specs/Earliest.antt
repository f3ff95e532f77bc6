-- Where something is so first: at an entry of the journals, by nodes and then by places, or at a place of a row.
use Rattle.std.specs.Prelude.{◌≡◌, ℕ, ◌<◌, ◌⊎◌}

-- an entry of a node comes before another one: its node is lower, or it stands further up in the same journal
abbrev pub IsEarlier : ℕ → ℕ → ℕ → ℕ → Type 0
IsEarlier m j n i = (m < n) ⊎ ((m ≡ n) × (j < i))

-- this is so at an entry of a node, and at none that comes before it
pub record IsFirstEntry (Holds : ℕ → ℕ → Type 0) (n i : ℕ) : Type 0 where
  pub here : Holds n i
  pub none_before : (m j : ℕ) → IsEarlier m j n i → Holds m j → ⊥

-- it is so at no entry of any node
abbrev pub IsAtNoEntry : (ℕ → ℕ → Type 0) → Type 0
IsAtNoEntry Holds = (n i : ℕ) → Holds n i → ⊥

-- this is so at a place of a row, and at none before it
pub record IsFirstInRow (Holds : ℕ → Type 0) (i : ℕ) : Type 0 where
  pub here : Holds i
  pub none_before : (j : ℕ) → j < i → Holds j → ⊥
