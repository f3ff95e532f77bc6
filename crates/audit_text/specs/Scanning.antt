-- What numbers a line is read as, whatever it is: whether it is the line that has them is another question.
use Rattle.std.specs.Prelude.{ℕ, ◌+◌, ◌-◌, ◌*◌, ◌%◌, ◌^◌, ◌==◌, Bool, true, false, List, [], ◌∷◌, ◌++◌, if◌then◌else◌}
use Rattle.std.specs.List.{fold}
use Rattle.audit_text.specs.declared.scan.Number.{Number}

-- the numbers so far, whether a space came, and the number that is being read
pub record Scanned : Type 0 where
  pub numbers : List ℕ
  pub begun : Bool
  pub current : ℕ

-- the numbers before the one that is being read, and that one
abbrev pub scanned_to : List ℕ → Number → Scanned
scanned_to ns n = record { numbers = ns; begun = n.begun; current = n.current }

abbrev pub nothing : Scanned
nothing = record { numbers = []; begun = false; current = 0 }

-- the numbers, with the one that is being read
abbrev pub closed : Scanned → List ℕ
closed s = if s.begun then s.numbers ++ s.current ∷ [] else s.numbers

-- a space ends a number and begins one, and any other byte counts as a digit
unfoldable pub scanned : Scanned → ℕ → Scanned
scanned s b =
    if b == 32 then record { numbers = closed s; begun = true; current = 0 }
    else record { numbers = s.numbers; begun = s.begun; current = (s.current * 10 + (b - 48)) % 2 ^ 64 }

unfoldable pub numbers_in : List ℕ → List ℕ
numbers_in line = closed (fold scanned nothing line)
