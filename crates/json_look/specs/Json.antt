-- What is asked of a JSON value.
use Rattle.std.specs.Prelude.{ℕ, Bool, true, false, ◌&&◌, nat_le, nat_lt, length, if◌then◌else◌, List, [], ◌∷◌, Option, Some, None, option_and_then, option_map}
use Rattle.std.specs.List.{list_any}
use Rattle.std.specs.Str.{is_utf8, bytes_eq}
use Rattle.serde_json.specs.Data.{Data, Items, no_items, item, Members, no_members, member}
use Rattle.serde_json.specs.Read.{read}
use Rattle.serde_json.specs.Find.{get, as_number, as_u64, as_object, as_array}

-- the value that bytes are, where they are JSON text
unfoldable pub json_of : List ℕ → Option Data
json_of bytes = if is_utf8 bytes then read bytes else None

-- the whole number of 64 bits under a name
unfoldable pub whole_at : List ℕ → Data → Option ℕ
whole_at name d = option_and_then as_u64 (option_and_then as_number (get name d))

-- the same, from low to high
unfoldable pub ranged_at : List ℕ → ℕ → ℕ → Data → Option ℕ
ranged_at name low high d =
    option_and_then (λ n. if nat_le low n && nat_le n high then Some n else None) (whole_at name d)

-- the same, below a limit
unfoldable pub below_at : List ℕ → ℕ → Data → Option ℕ
below_at name limit d = option_and_then (λ n. if nat_lt n limit then Some n else None) (whole_at name d)

-- one of these names
abbrev pub is_one_of : List (List ℕ) → List ℕ → Bool
is_one_of names name = list_any (bytes_eq name) names

-- each member's name passes the test
abbrev pub all_named : (List ℕ → Bool) → Members → Bool
all_named test no_members = true
all_named test (member k d ms) = test k && all_named test ms

abbrev pub passes : (List ℕ → Bool) → Option Members → Bool
passes test None = false
passes test (Some ms) = all_named test ms

-- an object whose names all pass the test
unfoldable pub has_only : (List ℕ → Bool) → Data → Bool
has_only test d = passes test (as_object d)

abbrev pub list_of : Items → List Data
list_of no_items = []
list_of (item d ds) = d ∷ list_of ds

-- the items of an array
unfoldable pub array_of : Data → Option (List Data)
array_of d = option_map list_of (as_array d)

-- the items of an array with from least to most of them
unfoldable pub sized_array : ℕ → ℕ → Data → Option (List Data)
sized_array least most d =
    option_and_then (λ ds. if nat_le least (length ds) && nat_le (length ds) most then Some ds else None) (array_of d)
