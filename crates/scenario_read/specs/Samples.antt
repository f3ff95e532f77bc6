-- A death of which the worked rows speak.
use Rattle.std.specs.Prelude.{ℕ, codes}
use Rattle.serde_json.specs.Data.{Data, number, unsigned, object, no_members, member}

-- an object of which one number is told
abbrev pub told : ℕ → Data
told back = object (member (codes "back") (number (unsigned back)) no_members)

-- and one of which nothing is
abbrev pub untold : Data
untold = object no_members
