-- What the viewers keep of the messages that they have taken: the first part under each key.
use Rattle.std.specs.Prelude.{◌≡◌, ◌==◌, ◌&&◌, Bool, List, [], ◌∷◌, Option, Some, None, if◌then◌else◌}
use Rattle.std.specs.Option.{option_or}
use Rattle.std.specs.List.{fold}
use Rattle.tiger_base.specs.Span.{LibraryPart}
use Rattle.tiger_base.specs.declared.message.Msg.{Msg}
use Rattle.tiger_base.specs.declared.message.Msg.TheVariants as msg
use Rattle.viewer_core.specs.declared.viewers.Key.{Key}
use Rattle.viewer_core.specs.Parts.{KeptParts, key_of, part_under}
use Rattle.viewer_core.specs.Rules.{keeping}

abbrev pub is_same : Key → Key → Bool
is_same a b = a.instance.0 == b.instance.0 && a.visit == b.visit && a.piece == b.piece

-- the part that a message brings for a key: a whole block or a piece of that instance, visit and piece
abbrev pub part_in : Key → Msg → Option LibraryPart
part_in k (msg.Whole want sent part) = if is_same k (key_of want) then Some part else None
part_in k (msg.Piece want sent part) = if is_same k (key_of want) then Some part else None
part_in k other = None

-- the first part that several messages bring for a key, the oldest message standing first
abbrev pub first_part : Key → List Msg → Option LibraryPart
first_part k [] = None
first_part k (m ∷ ms) = option_or (part_in k m) (first_part k ms)

-- what is kept after several messages
abbrev pub kept_after : List Msg → KeptParts
kept_after ms = fold (λ kept m. keeping m kept) [] ms

-- the part that is kept under a key is the first one that came for it, and there is none where none came
abbrev pub FirstPartsAreKept : Type 0
FirstPartsAreKept = (k : Key) (ms : List Msg) → part_under k (kept_after ms) ≡ first_part k ms
