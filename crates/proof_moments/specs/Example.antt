-- A run of the small plan in which one viewer is put, with the journal that tells it.
use Rattle.std.specs.Prelude.{false, List, [], ◌∷◌}
use Rattle.tiger_base.specs.declared.tenancy.Kind.TheVariants.{Own}
use Rattle.tiger_base.specs.declared.tenancy.Rec.{Rec}
use Rattle.tiger_base.specs.declared.message.Note.TheVariants as note
use Rattle.slot_plan.specs.Samples.{small}
use Rattle.node_kit.specs.declared.course.Order.{Order}
use Rattle.node_kit.specs.declared.course.OrderKind.TheVariants as kind
use Rattle.node_kit.specs.declared.journal.Entry.{Entry}
use Rattle.node_kit.specs.declared.journal.What.{What}
use Rattle.node_kit.specs.declared.journal.What.TheVariants as what
use Rattle.proof_schedule.specs.Example.{order, viewer, one_put}
use Rattle.proof_schedule.specs.Logs.{facts_in}
use Rattle.proof_moments.specs.Recorded.{IsRecorded, ParcelsAreInTime}
use Rattle.proof_moments.specs.Ties.{Locals}

-- The controller is to start the viewer in beat 0.
abbrev pub orders : List Order
orders = record { beat = 0; what = kind.Begin order } ∷ []

-- An entry of beat 1, at the true time of its beat.
abbrev pub in_beat_one : What → Entry
in_beat_one w = record { stamp = record { beat = 1; reading = 10000 }; what = w }

-- The own record of the viewer's one visit.
abbrev pub own_record : Rec
own_record = record { tenancy = viewer; visit = 0; kind = Own }

-- Cub 0 gets the plain start on link 8. At its tick it puts the viewer, and takes the record.
abbrev pub got : Entry
got = in_beat_one (what.Got (record { 0 = 8 }) (note.Start false order))

abbrev pub put : Entry
put = in_beat_one (what.Put viewer)

abbrev pub took : Entry
took = in_beat_one (what.Took own_record)

-- The journal of cub 0.
abbrev pub journal : List Entry
journal = got ∷ put ∷ took ∷ []

abbrev pub journals : List (List Entry)
journals = journal ∷ []

-- The ties can be met, in a run in which a Put is made and its record is taken.
abbrev pub TiesCanBeMet : Type 0
TiesCanBeMet = IsRecorded small (facts_in one_put) orders journals × Locals small journals
    × ParcelsAreInTime small (facts_in one_put) journals
