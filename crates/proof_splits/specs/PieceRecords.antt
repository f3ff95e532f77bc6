-- What becomes of a cub's piece records: how they enter, why they go, and which were asked for.
use Rattle.std.specs.Prelude.{◌≡◌, ℕ, suc, ◌+◌, ◌<◌, ◌≤◌, true, false, ◌⊎◌}
use Rattle.tiger_base.specs.declared.number.Stamp.{Stamp}
use Rattle.tiger_base.specs.declared.tenancy.PieceState.{PieceState}
use Rattle.tiger_base.specs.declared.message.Msg.{Msg}
use Rattle.tiger_base.specs.declared.message.Msg.TheVariants as msg
use Rattle.slot_plan.specs.declared.params.Params.{Params}
use Rattle.slot_plan.specs.Conditions.{IsPlan}
use Rattle.slot_plan.specs.Times.{cub_of}
use Rattle.partial_view.specs.declared.line.Line.{Line}
use Rattle.deschedule.specs.Holds.{is_held}
use Rattle.mirror_schedule.specs.Pieces.{is_in, leaving_of}
use Rattle.node_kit.specs.Steps.{Input}
use Rattle.node_kit.specs.Steps.Input.{Take, Tick}
use Rattle.cub_rules.specs.declared.store.Store.{Store}
use Rattle.cub_rules.specs.Ticks.{must_split, leaves_by}
use Rattle.proof_lives.specs.Lives.{Lives, store_at}
use Rattle.lists.specs.Elements.{In}
use Rattle.proof_lives.specs.HoldsHere.{AreAllFormed}
use Rattle.proof_facts.specs.Pieces.{before_splitting, before_reading, before_serving, HasBackup}
use Rattle.cub_rules.specs.Comebacks.{is_handed_back, lets_in}

-- ---- one input

-- A cub that keeps h and gets a mirror state may take the piece record: the state is for this cub,
-- and the instance is not held.
pub record IsMirrored (p : Params) (c : ℕ) (m : Msg) (h : Store) (x : PieceState) : Type 0 where
  pub is : m ≡ msg.MirrorState x
  pub free : is_held h.held x.tenancy.instance ≡ false
  pub here : cub_of p (x.visit + x.piece) ≡ c
  pub lets : lets_in h.comeback (leaving_of p x) ≡ true

-- At a tick that begins with h the cub believes its predecessor dead, splits the backup record of
-- the visit, which is not left to that one, and the piece is the visit's first.
pub record IsSplitOff (p : Params) (c : ℕ) (stamp : Stamp) (h : Store)
    (x : PieceState) : Type 0 where
  pub believes : (before_splitting p c stamp h).believes ≡ true
  pub line : Line
  pub there : HasBackup (before_splitting p c stamp h) x.tenancy x.visit line
  pub must : must_split p stamp line ≡ true
  pub left : is_handed_back p (before_splitting p c stamp h).handback line.rec ≡ false
  pub first : x.piece ≡ 1

-- Why a piece record enters at an input: of a message, or of a tick.
abbrev pub Enters : Params → ℕ → Input Msg → Store → PieceState → Type 0
Enters p c (Take stamp link m) h x = IsMirrored p c m h x
Enters p c (Tick stamp) h x = IsSplitOff p c stamp h x

-- The input is a deschedule of the piece's instance, or a kill of its visit.
abbrev pub CutsOff : Input Msg → PieceState → Type 0
CutsOff (Take stamp link (msg.Deschedule v tag)) x = v.0 ≡ x.tenancy.instance.0
CutsOff (Take stamp link (msg.Kill v slot n)) x = (v.0 ≡ x.tenancy.instance.0) × (n ≡ x.visit)
CutsOff other x = ⊥

-- Why a piece record goes at an input: it is cut off, or the piece leaves at a tick.
abbrev pub MayGo : Params → Input Msg → PieceState → Type 0
MayGo p (Take stamp link m) x = CutsOff (Take stamp link m) x
MayGo p (Tick stamp) x = leaves_by p stamp.reading x ≡ true

-- ---- a life

-- A piece record entered at an input before number i, when the cub had none of that piece. It came
-- behind each input before i that cuts it off, and it stands after each input since then.
pub record StandsSince (p : Params) (c : ℕ) (inputs : ℕ → Input Msg) (x : PieceState)
    (i : ℕ) : Type 0 where
  pub at : ℕ
  pub before : at < i
  pub enters : Enters p c (inputs at) (store_at p c inputs at) x
  pub new : is_in x (store_at p c inputs at).pieces.items ≡ false
  pub behind : (j : ℕ) → j < i → CutsOff (inputs j) x → j < at
  pub stands : (k : ℕ) → at < k → k ≤ i → In x (store_at p c inputs k).pieces.items

-- A piece record may have gone at an input from number j on and before number i.
pub record MightGo (p : Params) (inputs : ℕ → Input Msg) (x : PieceState) (j i : ℕ) : Type 0 where
  pub at : ℕ
  pub from : j ≤ at
  pub before : at < i
  pub may : MayGo p (inputs at) x

-- At a tick that begins with h the disk is asked for the piece: the record is still to be asked
-- for, and the piece leaves within the read lead.
pub record IsAsked (p : Params) (c : ℕ) (stamp : Stamp) (h : Store) (x : PieceState) : Type 0 where
  pub unasked : In x (before_reading p c stamp h).unasked.items
  pub soon : leaves_by p (stamp.reading + p.read_lead) x ≡ true

-- The piece was asked for at a tick before number i.
pub record WasAskedFor (p : Params) (c : ℕ) (inputs : ℕ → Input Msg) (x : PieceState)
    (i : ℕ) : Type 0 where
  pub at : ℕ
  pub before : at < i
  pub stamp : Stamp
  pub is : inputs at ≡ Tick stamp
  pub asked : IsAsked p c stamp (store_at p c inputs at) x

-- ---- what holds of every life

-- What holds within a tick that begins with h, before the cub asks the disks and before it serves.
pub record KeepsInTick (p : Params) (c : ℕ) (stamp : Stamp) (h : Store)
    (x : PieceState) : Type 0 where
  -- Nothing goes before the cub serves.
  pub to_reading : In x h.pieces.items → In x (before_reading p c stamp h).pieces.items
  pub to_serving : In x h.pieces.items → In x (before_serving p c stamp h).pieces.items
  -- A record that stands then stood before the tick, or is split off in it.
  pub at_reading : In x (before_reading p c stamp h).pieces.items
      → In x h.pieces.items ⊎ IsSplitOff p c stamp h x
  pub at_serving : In x (before_serving p c stamp h).pieces.items
      → In x h.pieces.items ⊎ IsSplitOff p c stamp h x
  -- What is split off stands from then on.
  pub split_off : IsSplitOff p c stamp h x → In x (before_reading p c stamp h).pieces.items
  -- What is to be asked for before the reading was so before the tick, or is split off in it.
  pub unasked : In x (before_reading p c stamp h).unasked.items
      → In x h.unasked.items ⊎ IsSplitOff p c stamp h x

-- What holds of a cub's life.
pub record KeepsPieces (p : Params) (c count : ℕ) (inputs : ℕ → Input Msg) : Type 0 where
  -- A piece record that stands entered before, and stands since.
  pub entered : (i : ℕ) (x : PieceState)
      → i ≤ count → In x (store_at p c inputs i).pieces.items → StandsSince p c inputs x i
  -- What enters stands afterwards, unless it leaves at that very tick.
  pub enters : (i : ℕ) (x : PieceState)
      → i < count → Enters p c (inputs i) (store_at p c inputs i) x
      → In x (store_at p c inputs (suc i)).pieces.items ⊎ MayGo p (inputs i) x
  -- A piece record stays until it may go.
  pub stays : (j i : ℕ) (x : PieceState)
      → j ≤ i → In x (store_at p c inputs j).pieces.items
      → In x (store_at p c inputs i).pieces.items ⊎ MightGo p inputs x j i
  -- After a tick no record stands of a piece that leaves by then.
  pub left : (i : ℕ) (stamp : Stamp) (x : PieceState)
      → inputs i ≡ Tick stamp → In x (store_at p c inputs (suc i)).pieces.items
      → leaves_by p stamp.reading x ≡ false
  -- What is to be asked for stands.
  pub within : (i : ℕ) (x : PieceState)
      → In x (store_at p c inputs i).unasked.items → In x (store_at p c inputs i).pieces.items
  -- What stands is to be asked for until it has been asked for.
  pub unasked : (i : ℕ) (x : PieceState)
      → In x (store_at p c inputs i).pieces.items
      → In x (store_at p c inputs i).unasked.items ⊎ WasAskedFor p c inputs x i
  -- What is to be asked for was so since it entered.
  pub unasked_since : (i : ℕ) (x : PieceState)
      → i ≤ count → In x (store_at p c inputs i).unasked.items → (s : StandsSince p c inputs x i)
      → (k : ℕ) → s.at < k → k ≤ i → In x (store_at p c inputs k).unasked.items
  -- After a tick nothing is to be asked for that leaves within the read lead.
  pub asked : (i : ℕ) (stamp : Stamp) (x : PieceState)
      → inputs i ≡ Tick stamp → In x (store_at p c inputs (suc i)).unasked.items
      → leaves_by p (stamp.reading + p.read_lead) x ≡ false
  -- What holds within a tick.
  pub in_tick : (i : ℕ) (stamp : Stamp) (x : PieceState)
      → KeepsInTick p c stamp (store_at p c inputs i) x
  -- Before the reading what stands is to be asked for, unless it was asked for at an earlier tick.
  pub at_reading : (i : ℕ) (stamp : Stamp) (x : PieceState)
      → In x (before_reading p c stamp (store_at p c inputs i)).pieces.items
      → In x (before_reading p c stamp (store_at p c inputs i)).unasked.items
      ⊎ WasAskedFor p c inputs x i

-- Whatever befalls cubs whose messages are in form, each keeps its piece records so.
abbrev pub CubsKeepPieces : Type 0
CubsKeepPieces = (p : Params) (lives : Lives) (c : ℕ)
    → IsPlan p → AreAllFormed p lives → c < p.cubs
    → KeepsPieces p c (lives.count c) (lives.input c)
