-- What holds of every event of a cub. Within the time of a run it stays the cub of its number, and it stops nothing. And
-- whatever it keeps, if it does not come back by the event: each output comes of a change that has a cause, it writes down
-- whom it believes dead, it puts starts that wait, it keeps starts until they are put or told of, and it stays one that came
-- back, or one that did not.
use Rattle.std.specs.Prelude.{◌≡◌, ℕ, ◌≤◌, ◌⊎◌, true, false, List, [], None}
use Rattle.std.specs.List.{AllByRecursion}
use Rattle.tiger_base.specs.declared.number.CubNo.{CubNo}
use Rattle.tiger_base.specs.declared.number.Instance.{Instance}
use Rattle.tiger_base.specs.declared.tenancy.Ask.{Ask}
use Rattle.tiger_base.specs.declared.tenancy.Tenancy.{Tenancy}
use Rattle.tiger_base.specs.declared.message.Msg.{Msg}
use Rattle.tiger_base.specs.declared.message.Msg.TheVariants as msg
use Rattle.tiger_base.specs.Notes.{noted}
use Rattle.tiger_base.specs.Limits.{most_reading}
use Rattle.slot_plan.specs.declared.params.Params.{Params}
use Rattle.slot_plan.specs.Keys.{Key}
use Rattle.node_kit.specs.declared.journal.What.TheVariants as what
use Rattle.node_kit.specs.declared.outbox.Out.{Out}
use Rattle.node_kit.specs.declared.outbox.Out.TheVariants as out
use Rattle.node_kit.specs.Steps.{Deed, Input, IsAllowed, stamp_of}
use Rattle.node_kit.specs.Steps.Input.{Take, Tick}
use Rattle.node_kit.specs.Ways.{predecessor}
use Rattle.deadman.specs.Silence.{is_silent}
use Rattle.cub_rules.specs.declared.store.Store.{Store}
use Rattle.cub_rules.specs.State.{CubState, IsCub}
use Rattle.cub_rules.specs.Ticks.{number, tenancy_from, is_for, disks_at}
use Rattle.cub_rules.specs.Cubs.{cub_step, deed_of}
use Rattle.cub_changes.specs.Changes.{Change}
use Rattle.cub_changes.specs.Causes.{Stage, IsStageOf, Cause}
use Rattle.lists.specs.Elements.{In}
use Rattle.cub_changes.specs.Outputs.{Output, output, ComesOf}

-- ---- its place

-- a cub stays the cub of its number, and keeps only what such a cub may keep
abbrev pub CubsStay : Type 0
CubsStay = (s : CubState) (i : Input Msg) (p : Params) (n : ℕ) → (stamp_of i).reading ≤ most_reading → IsCub s p n → IsCub (cub_step s i).state p n

-- each output is a message in form on a link that leads from the cub, or an entry of a cub's own
abbrev pub CubsPutOutWhatTheyMay : Type 0
CubsPutOutWhatTheyMay = (s : CubState) (i : Input Msg) (p : Params) (n : ℕ) → (stamp_of i).reading ≤ most_reading → IsCub s p n
    → AllByRecursion (IsAllowed noted p n) (cub_step s i).outs

-- ---- stops

-- an output does not say that an instance is stopped
abbrev pub IsNotGone : Out Msg → Type 0
IsNotGone (out.Act (what.Gone v)) = ⊥
IsNotGone other = Unit {0}

abbrev pub CubsStopNothing : Type 0
CubsStopNothing = (s : CubState) (i : Input Msg) → AllByRecursion IsNotGone (cub_step s i).outs

-- ---- outputs

-- An output is of a form and comes of a change, which is made for a cause in a stage of this event. The stores that a cause
-- names are some stores: but for what the cub kept when a message came, they are not said to be those in between.
pub record HasCause (p : Params) (c : ℕ) (i : Input Msg) (old : Store) (o : Out Msg) : Type 0 where
  pub stage : Stage
  pub from : Store
  pub of_event : IsStageOf i old stage from
  pub before : Store
  pub change : Change
  pub cause : Cause p c (stamp_of i) stage from change before
  pub form : Output
  pub comes : ComesOf p c (stamp_of i) change before form
  pub is : o ≡ output p c (stamp_of i) form

abbrev pub OutputsHaveCauses : Type 0
OutputsHaveCauses = (p : Params) (c : ℕ) (i : Input Msg) (h : Store) → AllByRecursion (HasCause p c i h) (deed_of p c i h).outs

-- ---- belief

-- the input is a tick
abbrev pub IsTick : Input Msg → Type 0
IsTick (Take stamp link m) = ⊥
IsTick (Tick stamp) = Unit {0}

-- the entry that a cub believes its predecessor dead
abbrev pub believed_out : Params → ℕ → Out Msg
believed_out p c = out.Act (what.Believed (number (predecessor p c)))

-- What an event makes of belief. A cub that believes its predecessor dead goes on to, and one that comes to believe it writes
-- it down. The entry is written in a tick, of the predecessor, by a cub that did not believe it dead and heard nothing of it
-- for too long. If a cub has no redundant start whenever it believes so, that stays.
pub record KeepsBelief (p : Params) (c : ℕ) (i : Input Msg) (old : Store) (d : Deed Msg Store) : Type 0 where
  pub stays : old.believes ≡ true → d.state.believes ≡ true
  pub written : d.state.believes ≡ true → (old.believes ≡ true) ⊎ In (believed_out p c) d.outs
  pub entry : (who : CubNo) → In (out.Act (what.Believed who)) d.outs
      → IsTick i
      × (who ≡ number (predecessor p c))
      × (old.believes ≡ false)
      × (is_silent old.watch (stamp_of i).reading ≡ true)
      × (d.state.believes ≡ true)
  pub none_apart : (old.believes ≡ true → old.starts.redundant ≡ []) → d.state.believes ≡ true → d.state.starts.redundant ≡ []

abbrev pub CubsKeepBelief : Type 0
CubsKeepBelief = (p : Params) (c : ℕ) (i : Input Msg) (h : Store) → KeepsBelief p c i h (deed_of p c i h)

-- ---- Puts

-- A Put is of a start that waited for a disk of the cub, or of its predecessor if the cub believes that one dead. A start
-- that was redundant when the event began waits only if the cub comes to believe so in this tick.
pub record IsPutOfStart (p : Params) (c : ℕ) (i : Input Msg) (old new : Store) (t : Tenancy) : Type 0 where
  pub tick : IsTick i
  pub ask : Ask
  pub key : Key
  pub disk : ℕ
  pub is : t ≡ tenancy_from ask key
  pub on : is_for disk ask ≡ true
  pub waits : In ask old.starts.waiting ⊎ (In ask old.starts.redundant × (old.believes ≡ false) × (new.believes ≡ true))
  pub here : In disk (disks_at p c) ⊎ (In disk (disks_at p (predecessor p c)) × (new.believes ≡ true))

abbrev pub CubsPutStarts : Type 0
CubsPutStarts = (p : Params) (c : ℕ) (i : Input Msg) (h : Store) (t : Tenancy)
    → In (out.Act (what.Put t)) (deed_of p c i h).outs
    → IsPutOfStart p c i h (deed_of p c i h).state t

-- ---- starts

-- a start stands in a cub's lists: it waits, or is redundant
abbrev pub IsListed : Ask → Store → Type 0
IsListed a h = In a h.starts.waiting ⊎ In a h.starts.redundant

-- the input is this start, plain or redundant
abbrev pub IsStartOf : Input Msg → Ask → Type 0
IsStartOf (Take stamp link (msg.Start redundant b)) a = a ≡ b
IsStartOf other a = ⊥

-- the input is a state or a deschedule of this instance
abbrev pub TellsOf : Input Msg → Instance → Type 0
TellsOf (Take stamp link (msg.ViewerState s)) v = v.0 ≡ s.tenancy.instance.0
TellsOf (Take stamp link (msg.Deschedule w tag)) v = v.0 ≡ w.0
TellsOf other v = ⊥

-- one of the outputs is a Put of this instance
abbrev pub HasPutOf : Instance → List (Out Msg) → Type 0
HasPutOf v outs = (t : Tenancy) × In (out.Act (what.Put t)) outs × (v.0 ≡ t.instance.0)

-- A start stands in the lists until its instance is put here, or a state or a deschedule tells of it, and one that waits
-- goes on to wait; and each start that stands there came as a start.
pub record KeepsStart (i : Input Msg) (a : Ask) (old : Store) (d : Deed Msg Store) : Type 0 where
  pub stays : IsListed a old → IsListed a d.state ⊎ (TellsOf i a.instance ⊎ HasPutOf a.instance d.outs)
  pub waits : In a old.starts.waiting → In a d.state.starts.waiting ⊎ (TellsOf i a.instance ⊎ HasPutOf a.instance d.outs)
  pub came : IsListed a d.state → IsListed a old ⊎ IsStartOf i a

abbrev pub CubsKeepStarts : Type 0
CubsKeepStarts = (p : Params) (c : ℕ) (i : Input Msg) (a : Ask) (h : Store) → KeepsStart i a h (deed_of p c i h)

-- ---- returns

-- One that came back stays so, and puts nobody; and so does one that did not.
pub record KeepsComeback (h : Store) (d : Deed Msg Store) : Type 0 where
  pub same : d.state.comeback ≡ h.comeback
  pub first_life : (t : Tenancy) → In (out.Act (what.Put t)) d.outs → h.comeback ≡ None

abbrev pub CubsKeepComeback : Type 0
CubsKeepComeback = (p : Params) (c : ℕ) (i : Input Msg) (h : Store) → KeepsComeback h (deed_of p c i h)
