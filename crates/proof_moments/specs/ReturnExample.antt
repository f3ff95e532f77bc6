-- The worked run in which a cub comes back, with journals that tell it.
use Rattle.std.specs.Prelude.{List, [], ◌∷◌}
use Rattle.node_kit.specs.declared.course.Order.{Order}
use Rattle.node_kit.specs.declared.course.OrderKind.TheVariants as kind
use Rattle.node_kit.specs.declared.journal.Entry.{Entry}
use Rattle.node_kit.specs.declared.journal.What.TheVariants as what
use Rattle.proof_schedule.specs.Logs.{facts_in}
use Rattle.proof_service.specs.Example.{plan, order}
use Rattle.proof_service.specs.ReturnExample.{viewer, one_run}
use Rattle.proof_moments.specs.DeliveryExample.{in_beat}
use Rattle.proof_moments.specs.Recorded.{IsRecorded}

-- The Put of the viewer, the death of cub 1 and its return, and the belief of cub 2 that it died.
abbrev pub put : Entry
put = in_beat 1601 (what.Put viewer)

abbrev pub died : Entry
died = in_beat 20 what.Died

abbrev pub came_back : Entry
came_back = in_beat 60 what.Returned

abbrev pub believed : Entry
believed = in_beat 121 (what.Believed (record { 0 = 1 }))

-- The journals of the cubs 0 to 2.
abbrev pub journals : List (List Entry)
journals = (put ∷ []) ∷ (died ∷ came_back ∷ []) ∷ (believed ∷ []) ∷ []

-- The controller is to start the viewer in beat 1600.
abbrev pub orders : List Order
orders = record { beat = 1600; what = kind.Begin order } ∷ []

-- The ties can be met in a run in which a cub comes back.
pub record ReturnTiesCanBeMet : Type 0 where
  pub returned : (facts_in one_run).Returned 1 60
  pub recorded : IsRecorded plan (facts_in one_run) orders journals
