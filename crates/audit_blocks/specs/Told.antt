-- What tables tell of entries: each table, of each of its keys.
use Rattle.std.specs.Prelude.{◌≡◌, ℕ, Bool, false, not, ◌==◌, ◌&&◌, nat_lt, List, Option, Some, None, is_some, if◌then◌else◌}
use Rattle.std.specs.List.{list_any, flat_map}
use Rattle.slot_plan.specs.declared.params.Params.{Params}
use Rattle.slot_plan.specs.Times.{time_of}
use Rattle.node_kit.specs.declared.course.Kept.{Kept}
use Rattle.run_facts.specs.Order.{Noted, beat_of}
use Rattle.run_model.specs.declared.parcels.Parcel.{Parcel}
use Rattle.run_model.specs.Tests.{only, is_empty}
use Rattle.audit_frame.specs.Tables.{mark_under}
use Rattle.audit_blocks.specs.declared.receipts.Receipt.{Receipt}
use Rattle.audit_blocks.specs.declared.receipts.Came.{Came}
use Rattle.audit_blocks.specs.declared.receipts.Came.TheVariants.{Once, Again}
use Rattle.audit_blocks.specs.declared.cargo.Cargo.{Cargo}
use Rattle.audit_blocks.specs.declared.tables.Tables.{Tables}
use Rattle.audit_blocks.specs.Entries.{journals_noted, puts_for, death_of_node, return_of_node, stops_below, fails_reading, fails_at_cub}
use Rattle.audit_blocks.specs.Cargo.{cargo_sent, cargo_got, parcel_of, is_for, whole_for, numbered_for}
use Rattle.audit_blocks.specs.Groups.{group_under}
use Rattle.audit_blocks.specs.Parts.{has_part}
use Rattle.audit_blocks.specs.Receipts.{came_under}
use Rattle.audit_blocks.specs.Dispatches.{has_dispatch, is_dispatch}

-- whether the beat of a stop, if there is one, begins below a time; and the earlier of two such beats
abbrev pub is_stop_below : Params → ℕ → Option ℕ → Bool
is_stop_below p time None = false
is_stop_below p time (Some beat) = nat_lt (time_of p beat) time

abbrev pub earlier_stop : Option ℕ → ℕ → ℕ
earlier_stop None beat = beat
earlier_stop (Some other) beat = if nat_lt beat other then beat else other

-- the parcel that came, if just one did
abbrev pub only_came : Option Came → Option Parcel
only_came None = None
only_came (Some (Once r)) = Some (parcel_of r)
only_came (Some Again) = None

-- a message that came as a parcel, if one did
abbrev pub as_parcel : Option Receipt → Option Parcel
as_parcel None = None
as_parcel (Some r) = Some (parcel_of r)

-- a table tells of these parcels whether there is any, and which one if there is just one
pub record TellsCame (came : Option Came) (parcels : List Parcel) : Type 0 where
  pub any : is_some came ≡ not (is_empty parcels)
  pub one : only_came came ≡ only parcels

-- whether what is got is a piece of a visit
abbrev pub is_some_piece : ℕ → ℕ → Option Cargo → Bool
is_some_piece v visit None = false
is_some_piece v visit (Some c) = not c.whole && is_for v visit c.receipt

-- whether a cub sends a message in an entry, in the beat that it names
abbrev pub is_cargo : ℕ → ℕ → ℕ → Bool → Receipt → Option Cargo → Bool
is_cargo node beat cub whole r None = false
is_cargo node beat cub whole r (Some c) = (c.receipt.sent == beat) && is_dispatch node c.whole c.receipt cub whole r

abbrev pub sends_cargo : ℕ → Bool → Receipt → Noted → Bool
sends_cargo cub whole r x = is_cargo x.node (beat_of x) cub whole r (cargo_sent x.entry.what)

-- tables tell of these entries
pub record AreToldBy (p : Params) (log : List Noted) (t : Tables) : Type 0 where
  pub put : (v : ℕ) → group_under v t.puts ≡ flat_map (puts_for v) log
  pub died : (n : ℕ) → group_under n t.deaths ≡ flat_map (death_of_node n) log
  pub returned : (n : ℕ) → group_under n t.returns ≡ flat_map (return_of_node n) log
  pub stopped : (v time : ℕ) → is_stop_below p time (mark_under v t.stops) ≡ list_any (stops_below p v time) log
  pub failed : (v n k : ℕ) → has_part v n k t.failed ≡ list_any (fails_reading v n k) log
  pub failed_whole : (v n : ℕ) → has_part v n 0 t.failed_whole ≡ list_any (fails_at_cub p v n) log
  pub sent : (c : ℕ) (w : Bool) (r : Receipt) → has_dispatch c w r t.sent ≡ list_any (sends_cargo c w r) log
  pub whole : (v n : ℕ) → TellsCame (came_under v n 0 t.wholes) (flat_map (λ x. whole_for v n (cargo_got p x)) log)
  pub piece : (v n k : ℕ) → TellsCame (came_under v n k t.pieces) (flat_map (λ x. numbered_for v n k (cargo_got p x)) log)
  pub pieces : (v n : ℕ) → has_part v n 0 t.visits ≡ list_any (λ x. is_some_piece v n (cargo_got p x)) log

-- and tell of the entries of all journals of a kept run
abbrev pub AreTablesOf : Kept → Tables → Type 0
AreTablesOf k t = AreToldBy k.course.plan.params (journals_noted 0 k.journals) t
