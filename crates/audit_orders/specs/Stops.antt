-- What walks along the controller's journal and the orders know of stops.
use Rattle.std.specs.Prelude.{◌≡◌, ℕ, Bool, true, false, not, ◌&&◌, ◌||◌, ◌==◌, nat_lt, nat_le, List, [], ◌∷◌, length, filter, take, Option, Some, None, is_some, slice_get, if◌then◌else◌}
use Rattle.std.specs.List.{list_any}
use Rattle.std.specs.Map.{lookup}
use Rattle.std.specs.Option.{option_or}
use Rattle.std.specs.Ordering.{is_eq, nat_cmp}
use Rattle.tiger_base.specs.declared.message.Note.{Note}
use Rattle.tiger_base.specs.declared.message.Note.TheVariants as note
use Rattle.tiger_base.specs.declared.tenancy.Tenancy.{Tenancy}
use Rattle.slot_plan.specs.declared.params.Params.{Params}
use Rattle.node_kit.specs.declared.course.Course.{Course}
use Rattle.node_kit.specs.declared.course.Order.{Order}
use Rattle.node_kit.specs.declared.course.OrderKind.{OrderKind}
use Rattle.node_kit.specs.declared.course.OrderKind.TheVariants as kind
use Rattle.node_kit.specs.declared.journal.Entry.{Entry}
use Rattle.node_kit.specs.declared.journal.What.{What}
use Rattle.node_kit.specs.declared.journal.What.TheVariants as what
use Rattle.node_kit.specs.Form.{is_in_form}
use Rattle.run_facts.specs.Commanded.{is_gone_of, gone_in, gone_before, stop_ordered, is_over}
use Rattle.audit_frame.specs.Tables.{MarkNumbers, mark_under, has_pair}
use Rattle.audit_orders.specs.Commanding.{clock_of}
use Rattle.audit_orders.specs.declared.tables.Known.{Known}

-- ---- where instances were put

abbrev pub KnownPlaces : Type 0
KnownPlaces = List (ℕ × Known)

-- the tenancy of an instance
abbrev pub place_under : ℕ → KnownPlaces → Option Known
place_under v places = lookup (λ k. is_eq (nat_cmp v k)) places

-- the tenancy in form that an entry says was got for an instance
abbrev pub place_in_note : Params → ℕ → ℕ → Tenancy → Option Known
place_in_note p v beat t =
    if is_in_form p (note.Placed t) && (t.instance.0 == v) then Some (record { beat = beat; tenancy = t }) else None

abbrev pub place_of_note : Params → ℕ → ℕ → Note → Option Known
place_of_note p v beat (note.Placed t) = place_in_note p v beat t
place_of_note p v beat other = None

abbrev pub place_entry_has : Params → ℕ → ℕ → What → Option Known
place_entry_has p v beat (what.Got link k) = place_of_note p v beat k
place_entry_has p v beat other = None

-- the first that a journal has
abbrev pub first_known : Params → ℕ → List Entry → Option Known
first_known p v [] = None
first_known p v (e ∷ es) = option_or (place_entry_has p v e.stamp.beat e.what) (first_known p v es)

-- the table of a journal
abbrev pub TellsPlaces : Params → KnownPlaces → List Entry → Type 0
TellsPlaces p places journal = (v : ℕ) → place_under v places ≡ first_known p v journal

-- what is known by a beat
abbrev pub by_then : ℕ → Option Known → Option Tenancy
by_then beat None = None
by_then beat (Some k) = if nat_le k.beat beat then Some k.tenancy else None

-- ---- which stops were ordered

abbrev pub TellsFinishes : List (ℕ × ℕ) → List Order → Type 0
TellsFinishes finishes orders = (v beat : ℕ) → has_pair v beat finishes ≡ stop_ordered orders v beat

-- ---- which were written

-- what the beat of an instance's only stop says of another beat
abbrev pub is_mark : ℕ → Option ℕ → Bool
is_mark beat None = false
is_mark beat (Some b) = b == beat

abbrev pub is_marked_before : ℕ → Option ℕ → Bool
is_marked_before beat None = false
is_marked_before beat (Some b) = nat_lt b beat

abbrev pub is_marked_by : ℕ → Option ℕ → Bool
is_marked_by beat None = false
is_marked_by beat (Some b) = nat_le b beat

abbrev pub mark_count : Option ℕ → ℕ
mark_count None = 0
mark_count (Some b) = 1

-- a journal has no stop of an instance, or one, which is in this beat
pub record HasStop (v : ℕ) (journal : List Entry) (mark : Option ℕ) : Type 0 where
  pub any : list_any (λ e. is_gone_of v e.what) journal ≡ is_some mark
  pub in_beat : (beat : ℕ) → gone_in journal v beat ≡ is_mark beat mark
  pub before : (beat : ℕ) → gone_before journal v beat ≡ is_marked_before beat mark
  pub count : length (filter (λ e. is_gone_of v e.what) journal) ≡ mark_count mark

-- the marks are the beats of the stops of a journal, of which each instance has one at most
abbrev pub TellsGone : MarkNumbers → List Entry → Type 0
TellsGone marks journal = (v : ℕ) → HasStop v journal (mark_under v marks)

-- the mark of an instance after an entry
abbrev pub mark_after : ℕ → ℕ → What → Option ℕ → Option ℕ
mark_after v beat (what.Gone instance) mark = if instance.0 == v then Some beat else mark
mark_after v beat other mark = mark

-- ---- the tests of the walks

-- whether the stop of an instance was ordered in a beat of the run, and its tenancy is not over there
abbrev pub may_by : Course → List (ℕ × ℕ) → KnownPlaces → ℕ → ℕ → Bool
may_by c finishes places v beat =
    nat_lt beat c.beats
    && (has_pair v beat finishes && not (is_over c.plan.params (clock_of c beat) (by_then beat (place_under v places))))

-- whether an entry stops an instance once more, or where this is not so
abbrev pub wrong_by : Course → List (ℕ × ℕ) → KnownPlaces → MarkNumbers → ℕ → What → Bool
wrong_by c finishes places gone beat (what.Gone v) = is_some (mark_under v.0 gone) || not (may_by c finishes places v.0 beat)
wrong_by c finishes places gone beat other = false

-- whether a stop that is ordered in a beat is in time there and not written by then, and whether an order has such a stop
abbrev pub missed_stop : Course → KnownPlaces → MarkNumbers → ℕ → ℕ → Bool
missed_stop c places gone v beat =
    nat_lt beat c.beats
    && (not (is_over c.plan.params (clock_of c beat) (by_then beat (place_under v places)))
    && not (is_marked_by beat (mark_under v gone)))

abbrev pub missed_by : Course → KnownPlaces → MarkNumbers → ℕ → OrderKind → Bool
missed_by c places gone beat (kind.Finish v) = missed_stop c places gone v.0 beat
missed_by c places gone beat (kind.Begin ask) = false

-- none of these orders has such a stop, and an order is the first that has one
abbrev pub NoneIsMissed : Course → KnownPlaces → MarkNumbers → List Order → Type 0
NoneIsMissed c places gone orders =
    (v beat : ℕ) → stop_ordered orders v beat ≡ true → missed_stop c places gone v beat ≡ false

abbrev pub IsFirstMissed : Course → KnownPlaces → MarkNumbers → List Order → ℕ → Type 0
IsFirstMissed c places gone orders j =
    (o : Order) × (slice_get orders j ≡ Some o) × (missed_by c places gone o.beat o.what ≡ true)
    × NoneIsMissed c places gone (take j orders)
