-- How a text is cut into puts.
use Rattle.std.specs.Prelude.{ℕ, ◌+◌, ◌==◌, nat_le, Bool, if◌then◌else◌, List, [], ◌∷◌, length, take, Option, Some, None}
use Rattle.std.specs.List.{position}
use Rattle.std.specs.Option.{option_or}

-- up to the place of a line feed, with it, or all bytes if there is none
abbrev up_to_feed : List ℕ → Option ℕ → ℕ
up_to_feed text None = length text
up_to_feed text (Some place) = place + 1

-- how many bytes the first line of a text has, with its line feed if it has one
abbrev pub first_line : List ℕ → ℕ
first_line text = up_to_feed text (position (λ byte. byte == 10) text)

-- one place further, if there is a place
abbrev pub one_further : Option ℕ → Option ℕ
one_further None = None
one_further (Some place) = Some (place + 1)

-- the place of the last element that passes a test
unfoldable pub last_position : (ℕ → Bool) → List ℕ → Option ℕ
last_position test [] = None
last_position test (x ∷ xs) =
    option_or (one_further (last_position test xs)) (if test x then Some 0 else None)

-- the most bytes that a put carries, unless the first line has more
abbrev pub most_put : ℕ
most_put = 65536

-- whole lines up to this place, or the first line
abbrev lines_up_to : List ℕ → Option ℕ → ℕ
lines_up_to text None = first_line text
lines_up_to text (Some place) = place + 1

-- How many bytes the next put carries of what is left: all, if they fit, or else whole lines from
-- the front, as many as fit, and at least one.
abbrev pub next_put : List ℕ → ℕ
next_put text =
    if nat_le (length text) most_put
    then length text
    else lines_up_to text (last_position (λ byte. byte == 10) (take most_put text))
