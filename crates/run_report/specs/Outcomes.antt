-- What the journals of a run tell of its starts.
use Rattle.std.specs.Prelude.{◌≡◌, ℕ, ◌+◌, ◌-◌, ◌≤◌, Bool, false, ◌&&◌, ◌==◌, nat_lt, nat_le, List, [], ◌∷◌, map, find, Option, Some, None, option_map, option_to_list, if◌then◌else◌}
use Rattle.std.specs.Option.{option_or}
use Rattle.std.specs.List.{flat_map, list_any, range_with_len}
use Rattle.std.proofs.Common.{refl}
use Rattle.tiger_base.specs.declared.number.FileNo.{FileNo}
use Rattle.tiger_base.specs.declared.part.Span.{Span}
use Rattle.tiger_base.specs.declared.tenancy.Ask.{Ask}
use Rattle.tiger_base.specs.declared.tenancy.Tenancy.{Tenancy}
use Rattle.slot_plan.specs.declared.params.Params.{Params}
use Rattle.slot_plan.specs.Times.{due, time_of}
use Rattle.stripe_layout.specs.Places.{place_of}
use Rattle.stripe_layout.specs.declared.catalogue.Catalogue.{Catalogue}
use Rattle.stripe_layout.specs.declared.place.Place.{Place}
use Rattle.node_kit.specs.Form.{is_tenancy}
use Rattle.node_kit.specs.Links.{links_of, controller_of}
use Rattle.node_kit.specs.declared.course.Course.{Course}
use Rattle.node_kit.specs.declared.course.Order.{Order}
use Rattle.node_kit.specs.declared.course.OrderKind.{OrderKind}
use Rattle.node_kit.specs.declared.course.OrderKind.TheVariants as order
use Rattle.node_kit.specs.declared.journal.Entry.{Entry}
use Rattle.node_kit.specs.declared.journal.What.{What}
use Rattle.node_kit.specs.declared.journal.What.TheVariants as what
use Rattle.run_facts.specs.Commanded.{is_gone_of}
use Rattle.run_model.specs.declared.parcels.Parcel.{Parcel}
use Rattle.run_model.specs.Served.{journal_at, wholes_got, pieces_got, pieces_numbered, IsSettled}
use Rattle.run_model.specs.Tests.{read_failed, lost_in_death}
use Rattle.run_report.specs.declared.outcome.BlockKind.{BlockKind}
use Rattle.run_report.specs.declared.outcome.BlockKind.TheVariants as kind
use Rattle.run_report.specs.declared.outcome.BlockOut.{BlockOut}
use Rattle.run_report.specs.declared.outcome.Outcome.{Outcome}
use Rattle.run_report.specs.declared.outcome.Reason.{Reason}
use Rattle.run_report.specs.declared.outcome.Reason.TheVariants as reason
use Rattle.run_report.specs.declared.placed.Placed.{Placed}

-- the tenancy that an entry puts an instance into, if it does and the tenancy is in form
abbrev pub put_by : Params → ℕ → ℕ → What → List Placed
put_by p v beat (what.Put t) = if t.instance.0 == v && is_tenancy p t then (record { beat = beat; tenancy = t }) ∷ [] else []
put_by p v beat other = []

-- all of an instance, by node and then by place in the journal
unfoldable pub puts_of : Params → List (List Entry) → ℕ → List Placed
puts_of p journals v = flat_map (λ journal. flat_map (λ e. put_by p v e.stamp.beat e.what) journal) journals

-- of these the first one that has the least beat
abbrev pub sooner : Placed → Option Placed → Placed
sooner x None = x
sooner x (Some y) = if nat_lt y.beat x.beat then y else x

abbrev pub earliest : List Placed → Option Placed
earliest [] = None
earliest (x ∷ xs) = Some (sooner x (earliest xs))

-- where an instance was put: its first Put, by beat, then node, then place in the journal
unfoldable pub placed_of : Params → List (List Entry) → ℕ → Option Tenancy
placed_of p journals v = option_map (λ x. x.tenancy) (earliest (puts_of p journals v))

-- when it was stopped: the beat of its first Gone in the controller's journal
unfoldable pub stop_of : Params → List (List Entry) → ℕ → Option ℕ
stop_of p journals v =
    option_map (λ e. e.stamp.beat) (find (λ e. is_gone_of v e.what) (journal_at journals (controller_of (links_of p))))

-- whether it was stopped below a time
abbrev pub is_stopped_below : Params → ℕ → Option ℕ → Bool
is_stopped_below p time None = false
is_stopped_below p time (Some beat) = nat_lt (time_of p beat) time

-- the beat in which the first of these parcels was sent
abbrev pub first_sent : List Parcel → Option ℕ
first_sent [] = None
first_sent (x ∷ xs) = Some x.sent

-- the beat in which the first whole block, or the first piece of a number, was sent of those that the viewers got
unfoldable pub whole_sent : Params → List (List Entry) → ℕ → ℕ → Option ℕ
whole_sent p journals v visit = first_sent (wholes_got p journals v visit)

unfoldable pub piece_sent : Params → List (List Entry) → ℕ → ℕ → ℕ → Option ℕ
piece_sent p journals v visit k = first_sent (pieces_numbered k (pieces_got p journals v visit))

-- all of these, if none is missing
abbrev pub all_there : List (Option ℕ) → Option (List ℕ)
all_there [] = Some []
all_there (None ∷ os) = None
all_there (Some x ∷ os) = option_map (λ xs. x ∷ xs) (all_there os)

-- the beats in which the pieces of a block were sent, in the order of the pieces, if each was got
unfoldable pub pieces_sent : Params → List (List Entry) → ℕ → ℕ → Option (List ℕ)
pieces_sent p journals v visit = all_there (map (piece_sent p journals v visit) (range_with_len 1 p.pieces))

-- which bytes of a file a block has: none, where the file has no such block
abbrev pub span_in : FileNo → Option Place → Span
span_in file None = record { file = file; from = 0; len = 0 }
span_in file (Some place) = place.span

unfoldable pub span_at : Catalogue → Tenancy → ℕ → Span
span_at l t visit = span_in t.file (place_of l t.file (visit - t.first))

-- why a block is missing: its read failed, wherever that was written, or its cub died about that time, or a piece is missing
unfoldable pub reason_of : Params → List (List Entry) → Tenancy → ℕ → Reason
reason_of p journals t visit =
    if list_any (read_failed t.instance.0 visit 0) journals then reason.Read
    else if lost_in_death p journals t visit then reason.Dead
    else reason.Piece

-- a block is missing, unless its instance was stopped before its visit was over
unfoldable pub missing_of : Params → List (List Entry) → Tenancy → ℕ → Option BlockKind
missing_of p journals t visit =
    if is_stopped_below p (due p t.slot.0 visit + p.play) (stop_of p journals t.instance.0) then None
    else Some (kind.Missing (reason_of p journals t visit))

-- a block was got whole, or else in all its pieces, or else it is missing
unfoldable pub kind_of : Params → Catalogue → List (List Entry) → Tenancy → ℕ → Option BlockKind
kind_of p l journals t visit =
    option_or (option_map (λ sent. kind.Whole (span_at l t visit).len sent) (whole_sent p journals t.instance.0 visit))
    (option_or (option_map (λ sent. kind.Pieces (span_at l t visit).len sent) (pieces_sent p journals t.instance.0 visit))
    (missing_of p journals t visit))

abbrev pub block_at : Params → Catalogue → Tenancy → ℕ → BlockKind → BlockOut
block_at p l t visit kind =
    record { block = visit - t.first; due = due p t.slot.0 visit; span = span_at l t visit; kind = kind }

-- the test of a fact, if what the fact says is that one number is at most another
abbrev pub test_of : (Fact : Type 0) {m n : ℕ} → Fact ≡ (m ≤ n) → Bool
test_of Fact {m} {n} says = nat_le m n

-- whether a visit of a slot is settled at the end of the run
unfoldable pub is_settled : Course → ℕ → ℕ → Bool
is_settled c slot visit =
    test_of (IsSettled c.plan.params (time_of c.plan.params c.beats) slot visit) refl

-- the block of a visit, if the visit is settled and anything is to be told of it
unfoldable pub settled_block : Course → Catalogue → List (List Entry) → Tenancy → ℕ → List BlockOut
settled_block c l journals t visit =
    if is_settled c t.slot.0 visit
    then option_to_list (option_map (block_at c.plan.params l t visit) (kind_of c.plan.params l journals t visit))
    else []

-- the visits of a tenancy
abbrev pub visits_of : Tenancy → List ℕ
visits_of t = range_with_len t.first (t.last + 1 - t.first)

-- the blocks of a tenancy that are settled, in the order of the visits
unfoldable pub blocks_of : Course → Catalogue → List (List Entry) → Option Tenancy → List BlockOut
blocks_of c l journals None = []
blocks_of c l journals (Some t) = flat_map (settled_block c l journals t) (visits_of t)

-- what became of a start
unfoldable pub outcome_of : Course → Catalogue → List (List Entry) → Ask → Outcome
outcome_of c l journals ask =
    record {
      ask = ask;
      placed = placed_of c.plan.params journals ask.instance.0;
      stop = stop_of c.plan.params journals ask.instance.0;
      blocks = blocks_of c l journals (placed_of c.plan.params journals ask.instance.0);
    }

-- what became of the start of an order, if it is one
abbrev pub order_outcomes : Course → Catalogue → List (List Entry) → OrderKind → List Outcome
order_outcomes c l journals (order.Begin ask) = outcome_of c l journals ask ∷ []
order_outcomes c l journals (order.Finish instance) = []

-- what became of all starts, in the order of their orders
unfoldable pub outcomes_of : Course → Catalogue → List Order → List (List Entry) → List Outcome
outcomes_of c l orders journals = flat_map (λ o. order_outcomes c l journals o.what) orders
