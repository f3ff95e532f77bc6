-- The worked run of blocks, with journals that tell it: one block comes whole, and one in pieces.
use Rattle.std.specs.Prelude.{◌≡◌, ℕ, ◌*◌, List, [], ◌∷◌}
use Rattle.tiger_base.specs.declared.message.Note.TheVariants as note
use Rattle.stripe_layout.specs.declared.catalogue.Catalogue.{Catalogue}
use Rattle.node_kit.specs.declared.course.Order.{Order}
use Rattle.node_kit.specs.declared.course.OrderKind.TheVariants as kind
use Rattle.node_kit.specs.declared.journal.Entry.{Entry}
use Rattle.node_kit.specs.declared.journal.What.{What}
use Rattle.node_kit.specs.declared.journal.What.TheVariants as what
use Rattle.run_model.specs.Served.{want_of_visit}
use Rattle.proof_schedule.specs.Logs.{facts_in}
use Rattle.proof_pieces.specs.PieceLogs.{pieces_in}
use Rattle.proof_service.specs.Example.{plan, order, viewer, bytes, one_run, its_pieces, its_blocks}
use Rattle.proof_service.specs.ServiceLogs.{service_in}
use Rattle.proof_service.specs.PlacesExample.{two_blocks}
use Rattle.proof_moments.specs.RecordedParcels.{Evidence, AreParcelsRecorded}

-- An entry of a beat, at the true time of its beat.
abbrev pub in_beat : ℕ → What → Entry
in_beat b w = record { stamp = record { beat = b; reading = b * 10000 }; what = w }

-- The whole block, and each piece of the other one, as it is sent on the link from a cub to the
-- viewers, and got a beat later. Link 16 + c leads there from cub c.
abbrev pub sent_whole : Entry
sent_whole = in_beat 50
    (what.Sent (record { 0 = 16 }) (note.Whole (want_of_visit viewer 0 0) 50 (bytes 0 4)))

abbrev pub got_whole : Entry
got_whole = in_beat 51
    (what.Got (record { 0 = 16 }) (note.Whole (want_of_visit viewer 0 0) 50 (bytes 0 4)))

abbrev pub sent_first : Entry
sent_first = in_beat 150
    (what.Sent (record { 0 = 18 }) (note.Piece (want_of_visit viewer 1 1) 150 (bytes 4 2)))

abbrev pub got_first : Entry
got_first = in_beat 151
    (what.Got (record { 0 = 18 }) (note.Piece (want_of_visit viewer 1 1) 150 (bytes 4 2)))

abbrev pub sent_second : Entry
sent_second = in_beat 200
    (what.Sent (record { 0 = 19 }) (note.Piece (want_of_visit viewer 1 2) 200 (bytes 6 2)))

abbrev pub got_second : Entry
got_second = in_beat 201
    (what.Got (record { 0 = 19 }) (note.Piece (want_of_visit viewer 1 2) 200 (bytes 6 2)))

-- The Put of the viewer, the death of cub 1, and the belief of cub 2 that it died.
abbrev pub put : Entry
put = in_beat 1 (what.Put viewer)

abbrev pub died : Entry
died = in_beat 20 what.Died

abbrev pub believed : Entry
believed = in_beat 121 (what.Believed (record { 0 = 1 }))

-- The journals of the cubs 0 to 3, and of the viewers, who are node 17; the others are empty.
abbrev pub journals : List (List Entry)
journals =
    (put ∷ sent_whole ∷ [])
    ∷ (died ∷ [])
    ∷ (believed ∷ sent_first ∷ [])
    ∷ (sent_second ∷ [])
    ∷ [] ∷ [] ∷ [] ∷ []
    ∷ [] ∷ [] ∷ [] ∷ [] ∷ [] ∷ [] ∷ [] ∷ []
    ∷ []
    ∷ (got_whole ∷ got_first ∷ got_second ∷ [])
    ∷ []

-- The controller is to start the viewer in beat 0.
abbrev pub orders : List Order
orders = record { beat = 0; what = kind.Begin order } ∷ []

-- The evidence of the run, over a catalogue.
abbrev pub evidence : Catalogue → Evidence
evidence c = record { catalogue = c; faults = []; orders = orders; journals = journals }

-- The ties can be met, in a run in which a block comes whole and another in pieces, over a
-- catalogue with the viewer's one file.
pub record ParcelTiesCanBeMet : Type 0 where
  pub catalogue : Catalogue
  pub files : catalogue.files ≡ two_blocks ∷ []
  pub recorded : AreParcelsRecorded plan (evidence catalogue) (facts_in one_run)
      (pieces_in its_pieces) (service_in its_blocks) 349
