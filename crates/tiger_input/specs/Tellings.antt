-- Whether a source tells something of every name, and whether it tells more bytes than may be.
use Rattle.std.specs.Prelude.{◌≡◌, ℕ, ◌<◌, List, length}
use Rattle.outside.specs.Told.{Told, bytes, untold}

-- of every name something is told: its bytes, or that there is no such file
abbrev pub TellsAll : (List ℕ → Told) → Type 0
TellsAll told = (name : List ℕ) → told name ≡ untold → ⊥

-- more bytes are told than may be
abbrev pub AreMoreThan : ℕ → Told → Type 0
AreMoreThan most told = (content : List ℕ) × (told ≡ bytes content) × (most < length content)
