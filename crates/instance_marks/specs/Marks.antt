-- What a row of marks tells of instances.
use Rattle.std.specs.Prelude.{◌≡◌, ℕ, ◌<◌, Bool, true, false, List, get_or}
use Rattle.tiger_base.specs.declared.number.Instance.{Instance}

-- only instances with lower numbers have marks
abbrev pub most_marked : ℕ
most_marked = 4096

-- the mark of each instance that has one is what a test of it gives
abbrev pub AreMarked : List Bool → (Instance → Bool) → Type 0
AreMarked marks test = (v : Instance) → v.0 < most_marked → get_or marks v.0 false ≡ test v

-- an instance is noted: if it is one that has a mark, this is set
abbrev pub IsNoted : List Bool → Instance → Type 0
IsNoted marks v = v.0 < most_marked → get_or marks v.0 false ≡ true
