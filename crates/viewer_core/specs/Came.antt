-- What is kept of the parts that came.
use Rattle.std.specs.Prelude.{List, [], ◌∷◌, Option, Some, None, if◌then◌else◌}
use Rattle.std.specs.Option.{option_or}
use Rattle.std.specs.List.{fold}
use Rattle.tiger_base.specs.Span.{LibraryPart}
use Rattle.viewer_core.specs.declared.viewers.Key.{Key}
use Rattle.viewer_core.specs.Parts.{KeptParts, with_part}
use Rattle.viewer_core.specs.Taken.{is_same}

-- the parts that came, each under its key, in the order in which they came
abbrev pub CameParts : Type 0
CameParts = List (Key × LibraryPart)

-- what is kept of them: under each key the first
abbrev pub kept_of : CameParts → KeptParts
kept_of came = fold (λ kept e. with_part e.0 e.1 kept) [] came

-- the first of them under a key
abbrev pub first_came : Key → CameParts → Option LibraryPart
first_came k [] = None
first_came k (e ∷ es) = option_or (if is_same k e.0 then Some e.1 else None) (first_came k es)
