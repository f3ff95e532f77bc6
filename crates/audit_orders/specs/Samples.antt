-- Short words for worked journals: of cub 0, and of the controller.
use Rattle.std.specs.Prelude.{ℕ, ◌*◌, Bool, List, [], ◌∷◌}
use Rattle.tiger_base.specs.declared.message.Note.TheVariants as note
use Rattle.node_kit.specs.declared.course.Order.{Order}
use Rattle.node_kit.specs.declared.course.OrderKind.TheVariants as kind
use Rattle.node_kit.specs.declared.journal.Entry.{Entry}
use Rattle.node_kit.specs.declared.journal.What.TheVariants as what
use Rattle.run_facts.specs.Order.{Noted}
use Rattle.run_model.specs.Samples.{at, at_reading, ask}

-- cub 0 writes what changes nothing, at a reading
abbrev pub writes : ℕ → ℕ → Noted
writes beat reading = at_reading 0 beat reading (what.Unqueued (record { 0 = 9 }))

-- the controller sends the start of instance 0 on the link to a cub, and it stops the instance
abbrev pub start_to : ℕ → ℕ → Bool → Entry
start_to beat cub redundant = record {
  stamp = record { beat = beat; reading = beat * 10000 };
  what = what.Sent (record { 0 = cub }) (note.Start redundant ask);
}

abbrev pub stops_first : ℕ → Entry
stops_first beat = record { stamp = record { beat = beat; reading = beat * 10000 }; what = what.Gone (record { 0 = 0 }) }

-- instance 0 is to be stopped in beat 5; the controller's clock shows the true time
abbrev pub stop_in_five : List Order
stop_in_five = (record { beat = 5; what = kind.Finish (record { 0 = 0 }) }) ∷ []

abbrev pub true_time : ℕ → ℕ
true_time beat = beat * 10000

-- a cub stops the instance, which only the controller may
abbrev pub stops_at : ℕ → Noted
stops_at cub = at cub 4 (what.Gone (record { 0 = 0 }))
