-- The rule of the viewers: they keep the part of each whole block and of each piece.
use Rattle.tiger_base.specs.declared.message.Msg.{Msg}
use Rattle.tiger_base.specs.declared.message.Msg.TheVariants as msg
use Rattle.node_kit.specs.Steps.{Deed, Input}
use Rattle.node_kit.specs.Steps.Input.{Take, Tick}
use Rattle.node_kit.specs.Deeds.{nothing}
use Rattle.viewer_core.specs.Parts.{KeptParts, key_of, with_part}

-- what is kept after a message, whether it is in form or not
unfoldable pub keeping : Msg → KeptParts → KeptParts
keeping (msg.Whole want sent part) kept = with_part (key_of want) part kept
keeping (msg.Piece want sent part) kept = with_part (key_of want) part kept
keeping other kept = kept

-- the step of the viewers: they put nothing out
abbrev pub viewers_step : KeptParts → Input Msg → Deed Msg KeptParts
viewers_step kept (Take stamp link m) = nothing (keeping m kept)
viewers_step kept (Tick stamp) = nothing kept
