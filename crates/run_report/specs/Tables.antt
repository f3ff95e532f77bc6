-- Tables of what the journals tell, by instance and visit.
use Rattle.std.specs.Prelude.{◌≡◌, ℕ, Bool, ◌&&◌, ◌==◌, nat_lt, List, [], ◌∷◌, Option, Some, None, is_some, map, slice_get, unwrap_or, if◌then◌else◌}
use Rattle.std.specs.Ordering.{is_eq, nat_cmp}
use Rattle.std.specs.Option.{option_or}
use Rattle.std.specs.List.{flat_map, list_any, range_with_len}
use Rattle.std.specs.Map.{lookup}
use Rattle.slot_plan.specs.declared.params.Params.{Params}
use Rattle.node_kit.specs.declared.course.Course.{Course}
use Rattle.node_kit.specs.declared.journal.Entry.{Entry}
use Rattle.run_facts.specs.Timed.{is_died}
use Rattle.run_model.specs.Served.{journal_at}
use Rattle.run_model.specs.Tests.{read_failed}
use Rattle.visit_rows.specs.Rows.{Position, is_position, RowOf, thing_at}
use Rattle.run_report.specs.declared.firsts.Key.{Key}
use Rattle.run_report.specs.declared.placed.Placed.{Placed}
use Rattle.run_report.specs.Outcomes.{puts_of, earliest, stop_of, whole_sent, piece_sent}

-- beats, each at a visit and a piece
abbrev pub RowBeats : Type 0
RowBeats = RowOf ℕ

-- the row of each instance, and Puts in the order of their instances
abbrev pub Beats : Type 0
Beats = List RowBeats

abbrev pub Placings : Type 0
Placings = List (ℕ × Placed)

abbrev pub is_same : Key → Key → Bool
is_same a b = a.instance.0 == b.instance.0 && a.visit == b.visit && a.piece == b.piece

abbrev pub key_at : ℕ → ℕ → ℕ → Key
key_at v visit piece = record { instance = record { 0 = v }; visit = visit; piece = piece }

-- the row of an instance: that of one that has none is empty
abbrev pub row_of : Beats → ℕ → RowBeats
row_of rows v = unwrap_or (slice_get rows v) []

-- what stands under a key
abbrev pub beat_under : Key → Beats → Option ℕ
beat_under k rows = thing_at (k.visit, k.piece) (row_of rows k.instance.0)

-- once a beat is kept at a position of a row: what stands there stays, and so does all else
abbrev pub HasKeptAt : ℕ → Position → ℕ → Beats → Beats → Type 0
HasKeptAt place p beat old new =
    (v : ℕ) (q : Position) → thing_at q (row_of new v)
    ≡ option_or (thing_at q (row_of old v)) (if (place == v) && is_position p q then Some beat else None)

abbrev pub put_under : ℕ → Placings → Option Placed
put_under v puts = lookup (λ q. is_eq (nat_cmp v q)) puts

-- of two Puts the first, unless the second has a lower beat
abbrev pub both : Option Placed → Option Placed → Option Placed
both None y = y
both (Some x) None = Some x
both (Some x) (Some y) = if nat_lt y.beat x.beat then Some y else Some x

-- the beats in which a journal says that its node died, and those of so many nodes
abbrev pub death_by : Entry → List ℕ
death_by e = if is_died e.what then e.stamp.beat ∷ [] else []

unfoldable pub deaths_in : List Entry → List ℕ
deaths_in journal = flat_map death_by journal

unfoldable pub deaths_of : List (List Entry) → ℕ → List (List ℕ)
deaths_of journals nodes = map (λ n. deaths_in (journal_at journals n)) (range_with_len 0 nodes)

-- a run, as far as a report reads it
pub record Run : Type 0 where
  pub course : Course
  pub journals : List (List Entry)

-- the tables tell what the journals do
pub record AreTables (p : Params) (journals : List (List Entry)) (puts : Placings) (stops wholes pieces failed : Beats) (deaths : List (List ℕ)) : Type 0 where
  pub put : (v : ℕ) → put_under v puts ≡ earliest (puts_of p journals v)
  pub stop : (v : ℕ) → beat_under (key_at v 0 0) stops ≡ stop_of p journals v
  pub whole : (v visit : ℕ) → beat_under (key_at v visit 0) wholes ≡ whole_sent p journals v visit
  pub piece : (v visit k : ℕ) → beat_under (key_at v visit k) pieces ≡ piece_sent p journals v visit k
  pub read : (v visit : ℕ) → is_some (beat_under (key_at v visit 0) failed) ≡ list_any (read_failed v visit 0) journals
  pub death : deaths ≡ deaths_of journals p.cubs
