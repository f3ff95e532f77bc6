-- What the cubs send to the viewers, and what the viewers get: the wants of whole blocks and of pieces, with their beats.
use Rattle.std.specs.Prelude.{ℕ, ◌==◌, List, [], ◌∷◌, if◌then◌else◌}
use Rattle.std.specs.List.{flat_map}
use Rattle.tiger_base.specs.declared.tenancy.Want.{Want}
use Rattle.tiger_base.specs.declared.message.Note.{Note}
use Rattle.tiger_base.specs.declared.message.Note.TheVariants as note
use Rattle.slot_plan.specs.declared.params.Params.{Params}
use Rattle.node_kit.specs.declared.journal.What.{What}
use Rattle.node_kit.specs.declared.journal.What.TheVariants as what
use Rattle.node_kit.specs.Links.{links_of, viewers_of}
use Rattle.run_facts.specs.Events.{Dated}
use Rattle.run_facts.specs.Order.{Noted, beat_of}

-- what is wanted by a note that carries a whole block or a piece, dated with a beat; no other note carries any
abbrev pub carried_by : ℕ → Note → List (Dated Want)
carried_by beat (note.Whole want sent part) = (record { beat = beat; item = want }) ∷ []
carried_by beat (note.Piece want sent part) = (record { beat = beat; item = want }) ∷ []
carried_by beat other = []

-- what an entry sends, and what it gets
abbrev pub sent_by : ℕ → What → List (Dated Want)
sent_by beat (what.Sent link n) = carried_by beat n
sent_by beat other = []

abbrev pub got_by : ℕ → What → List (Dated Want)
got_by beat (what.Got link n) = carried_by beat n
got_by beat other = []

-- all that a log sends, by any node
abbrev pub sent_in : List Noted → List (Dated Want)
sent_in log = flat_map (λ x. sent_by (beat_of x) x.entry.what) log

-- and all that the viewers get
abbrev pub got_in : Params → List Noted → List (Dated Want)
got_in p log =
    flat_map (λ x. if x.node == viewers_of (links_of p) then got_by (beat_of x) x.entry.what else []) log
