-- A cub whose own disks may die: it does what a cub does, and splits the visits of a disk that is dead.
use Rattle.std.specs.Prelude.{◌≡◌, ℕ, ◌+◌, ◌*◌, ◌/◌, List, [], ◌∷◌, ◌++◌, Bool, false, ◌&&◌, nat_le, map, get_or, IsTrue, Option, Some, None, if◌then◌else◌}
use Rattle.std.specs.List.{AllByRecursion, flat_map, range_with_len}
use Rattle.tiger_base.specs.declared.number.Instance.{Instance}
use Rattle.tiger_base.specs.declared.number.Stamp.{Stamp}
use Rattle.tiger_base.specs.declared.tenancy.PieceState.{PieceState}
use Rattle.tiger_base.specs.declared.tenancy.Rec.{Rec}
use Rattle.tiger_base.specs.declared.message.Msg.{Msg}
use Rattle.tiger_base.specs.declared.message.Msg.TheVariants as msg
use Rattle.tiger_base.specs.Kinds.{is_own}
use Rattle.tiger_base.specs.Notes.{noted}
use Rattle.slot_plan.specs.declared.params.Params.{Params}
use Rattle.slot_plan.specs.Times.{disk_of}
use Rattle.slot_plan.specs.Keys.{due_of}
use Rattle.partial_view.specs.declared.line.Line.{Line}
use Rattle.partial_view.specs.Lines.{key_of}
use Rattle.mirror_schedule.specs.Pieces.{Pieces, leaving_of, is_in, is_of}
use Rattle.node_kit.specs.declared.outbox.Out.{Out}
use Rattle.node_kit.specs.declared.outbox.Out.TheVariants as out
use Rattle.node_kit.specs.Form.{is_in_form, is_piece}
use Rattle.node_kit.specs.Steps.{Deed, Input}
use Rattle.node_kit.specs.Steps.Input.{Take, Tick}
use Rattle.node_kit.specs.Deeds.{nothing, each_in_turn}
use Rattle.node_kit.specs.Ways.{way_ahead}
use Rattle.cub_rules.specs.Records.{pieces_with, pieces_but}
use Rattle.cub_rules.specs.State.{CubState, IsCub}
use Rattle.cub_rules.specs.Cubs.{cub_step}

-- What such a cub keeps: what any cub keeps; for each of its disks, in their order, from which beat on it is dead, if it
-- dies; and of each visit that it split and has not forgotten the first piece.
pub record SpareState : Type 0 where
  pub inner : CubState
  pub deaths : List (Option ℕ)
  pub remembered : Pieces

-- ---- dead disks

-- whether a disk is dead in a beat: it is from its death on, if it dies
abbrev pub is_dead_from : Option ℕ → ℕ → Bool
is_dead_from None beat = false
is_dead_from (Some from) beat = nat_le from beat

-- Whether the disk of a visit is dead in a beat, of the cub of that visit whose disks die so. The disks of a cub lie as far
-- apart as there are cubs.
abbrev pub is_on_dead : Params → List (Option ℕ) → ℕ → ℕ → Bool
is_on_dead p deaths visit beat = is_dead_from (get_or deaths (disk_of p visit / p.cubs) None) beat

-- ---- splitting

-- the time from which on visits are due late enough to be split at a reading: their pieces can be read and leave in time
unfoldable pub soonest_split : Params → ℕ → ℕ
soonest_split p reading = reading + p.read_lead + p.skew + p.delay * p.beat + p.beat

-- whether a line is an own record of a visit on a dead disk, which is due late enough to be split
unfoldable pub must_split_own : Params → List (Option ℕ) → Stamp → Line → Bool
must_split_own p deaths stamp x =
    is_on_dead p deaths x.rec.visit stamp.beat && is_own x.rec.kind && nat_le (soonest_split p stamp.reading) (due_of p (key_of x))

-- a piece of a record's visit, and the one by which a visit that was split is remembered
abbrev pub piece_numbered : Rec → ℕ → PieceState
piece_numbered r k = record { tenancy = r.tenancy; visit = r.visit; piece = k }

abbrev pub first_of_visit : Rec → PieceState
first_of_visit r = piece_numbered r 1

-- the mirror state of a piece goes as many cubs ahead as its number says
abbrev pub sent_to_mirror : Params → ℕ → Rec → ℕ → Out Msg
sent_to_mirror p cub r k = out.Send (way_ahead p cub k) (msg.MirrorState (piece_numbered r k))

-- A visit is split, unless it was and is remembered: the mirror state of each of its pieces goes out.
unfoldable pub splitting_own : Params → ℕ → Rec → Pieces → Deed Msg Pieces
splitting_own p cub r ps =
    if is_in (first_of_visit r) ps.items then nothing ps
    else record { outs = map (sent_to_mirror p cub r) (range_with_len 1 p.pieces); state = pieces_with (first_of_visit r) ps }

-- of a line whose turn it is the visit is split
unfoldable pub splitting_line : Params → ℕ → List (Option ℕ) → Stamp → Line → Pieces → Deed Msg Pieces
splitting_line p cub deaths stamp x ps =
    if must_split_own p deaths stamp x then splitting_own p cub x.rec ps else nothing ps

-- whether a split visit is to be forgotten: its first piece, which leaves when the visit is due, left a block play time ago
unfoldable pub is_forgotten_at : Params → ℕ → PieceState → Bool
is_forgotten_at p reading x = nat_le (leaving_of p x + p.play) reading

-- At a tick split visits are forgotten whose time has come; then the visits of dead disks are split, in their order.
unfoldable pub sparing : Params → ℕ → List (Option ℕ) → Stamp → List Line → Pieces → Deed Msg Pieces
sparing p cub deaths stamp lines ps =
    each_in_turn (splitting_line p cub deaths stamp) lines (pieces_but (is_forgotten_at p stamp.reading) ps)

-- ---- killing

-- a cub of a piece of a split visit is told to drop it
abbrev pub killed_ahead : Params → ℕ → PieceState → ℕ → Out Msg
killed_ahead p cub x steps = out.Send (way_ahead p cub steps) (msg.Kill x.tenancy.instance x.tenancy.slot x.visit)

-- if a split visit is of an instance, the cubs of all of its pieces are told
unfoldable pub kills_if_of : Params → ℕ → Instance → PieceState → List (Out Msg)
kills_if_of p cub v x = if is_of v x then map (killed_ahead p cub x) (range_with_len 1 p.pieces) else []

-- the split visits of an instance that are remembered are killed and forgotten
unfoldable pub killing_own : Params → ℕ → Instance → Pieces → Deed Msg Pieces
killing_own p cub v ps = record { outs = flat_map (kills_if_of p cub v) ps.items; state = pieces_but (is_of v) ps }

-- the instance that a message stops, if it is a deschedule in form
abbrev pub stopped_by : Msg → Option Instance
stopped_by (msg.Deschedule v tag) = Some v
stopped_by other = None

unfoldable pub stopped_in_form : Params → Msg → Option Instance
stopped_in_form p m = if is_in_form p (noted m) then stopped_by m else None

-- its split visits are killed, if there is one
abbrev pub killing_stopped : Params → ℕ → Option Instance → Pieces → Deed Msg Pieces
killing_stopped p cub None ps = nothing ps
killing_stopped p cub (Some v) ps = killing_own p cub v ps

-- ---- the step

-- what is added in an event, behind which the cub's view has these lines
abbrev pub adding : Params → ℕ → List (Option ℕ) → Input Msg → List Line → Pieces → Deed Msg Pieces
adding p cub deaths (Take stamp link m) lines ps = killing_stopped p cub (stopped_in_form p m) ps
adding p cub deaths (Tick stamp) lines ps = sparing p cub deaths stamp lines ps

-- the outputs of the cub, and then what is added
abbrev pub with_added : SpareState → Deed Msg CubState → Deed Msg Pieces → Deed Msg SpareState
with_added s d more = record {
  outs = d.outs ++ more.outs;
  state = record { inner = d.state; deaths = s.deaths; remembered = more.state };
}

-- in each event it does what a cub does, and then adds what is its own
abbrev pub spare_step : SpareState → Input Msg → Deed Msg SpareState
spare_step s i =
    with_added s (cub_step s.inner i)
    (adding s.inner.params s.inner.cub s.deaths i (cub_step s.inner i).state.store.view.lines s.remembered)

-- ---- what always holds

-- between events it stands at its place; during one, or behind one that was broken off, nothing is known of it
abbrev pub IsSpareAt : Params → ℕ → Bool → CubState → Pieces → Type 0
IsSpareAt p n spoilt cub ps = spoilt ≡ false → IsCub cub p n × ps.params ≡ p

-- it is the cub of that number in a ring with these numbers, and what it remembers are pieces in form
pub record IsSpareCub (s : SpareState) (p : Params) (n : ℕ) : Type 0 where
  pub cub : IsCub s.inner p n
  pub plan : s.remembered.params ≡ p
  pub pieces : AllByRecursion (λ x. IsTrue (is_piece p x)) s.remembered.items
