-- The life of a cub, from its opening or from a return on: what it keeps, and what it puts out.
use Rattle.std.specs.Prelude.{◌≡◌, ℕ, zero, suc, ◌+◌, ◌<◌, ◌≤◌, ◌==◌, true, List, Option, Some, None, ◌⊎◌, if◌then◌else◌}
use Rattle.tiger_base.specs.declared.number.Stamp.{Stamp}
use Rattle.tiger_base.specs.declared.message.Msg.{Msg}
use Rattle.tiger_base.specs.Limits.{most_reading}
use Rattle.slot_plan.specs.declared.params.Params.{Params}
use Rattle.slot_plan.specs.Times.{time_of}
use Rattle.node_kit.specs.declared.outbox.Out.{Out}
use Rattle.node_kit.specs.Outputs.{cut_at}
use Rattle.node_kit.specs.Steps.{Input, stamp_of}
use Rattle.run_facts.specs.Events.{is_tick_input}
use Rattle.cub_rules.specs.declared.store.Store.{Store}
use Rattle.cub_rules.specs.declared.comeback.Comeback.{Comeback}
use Rattle.cub_rules.specs.Comebacks.{comeback_at}
use Rattle.cub_rules.specs.State.{opening_store}
pub use Rattle.cub_rules.specs.Cubs.{deed_of}
pub use Rattle.lists.specs.Elements.{In}

-- A life begins in beat 0; or the cub comes back, and then it begins with the tick by which it does. So the stamp of the
-- first input tells when the predecessor counts as heard, and whether and how the cub has come back.
abbrev pub heard_first : Stamp → ℕ
heard_first stamp = if stamp.beat == 0 then 0 else stamp.reading

abbrev pub comeback_by : Params → Stamp → Option Comeback
comeback_by p stamp = if stamp.beat == 0 then None else Some (comeback_at p stamp.reading)

-- what a cub keeps when its life begins
abbrev pub beginning : Params → Stamp → Store
beginning p stamp = record (opening_store p (heard_first stamp)) { comeback = comeback_by p stamp }

-- what it keeps before its input of number i, and what it puts out at that, beside what tells of a return
abbrev pub store_at : Params → ℕ → (ℕ → Input Msg) → ℕ → Store
store_at p c inputs zero = beginning p (stamp_of (inputs 0))
store_at p c inputs (suc i) = (deed_of p c (inputs i) (store_at p c inputs i)).state

abbrev pub outs_at : Params → ℕ → (ℕ → Input Msg) → ℕ → List (Out Msg)
outs_at p c inputs i = (deed_of p c (inputs i) (store_at p c inputs i)).outs

-- how many of the first i inputs are ticks
abbrev pub ticks_at : (ℕ → Input Msg) → ℕ → ℕ
ticks_at inputs zero = 0
ticks_at inputs (suc i) = if is_tick_input (inputs i) then suc (ticks_at inputs i) else ticks_at inputs i

-- when an input comes
abbrev pub beat_at : (ℕ → Input Msg) → ℕ → ℕ
beat_at inputs i = (stamp_of (inputs i)).beat

abbrev pub reading_at : (ℕ → Input Msg) → ℕ → ℕ
reading_at inputs i = (stamp_of (inputs i)).reading

-- a life of a cub of a run: it begins in beat 0 or with a tick, a tick ends each beat from then on, and its readings are
-- within the skew, never fall and are not too large
pub record IsLife (p : Params) (count : ℕ) (inputs : ℕ → Input Msg) : Type 0 where
  pub begins : 0 < count → (beat_at inputs 0 ≡ 0) ⊎ (is_tick_input (inputs 0) ≡ true)
  pub in_beat : (i : ℕ) → i < count → beat_at inputs i ≡ beat_at inputs 0 + ticks_at inputs i
  pub reads : (i : ℕ) → i < count
      → (time_of p (beat_at inputs i) ≤ reading_at inputs i)
      × (reading_at inputs i ≤ time_of p (beat_at inputs i) + p.skew)
  pub rising : (j i : ℕ) → j ≤ i → i < count → reading_at inputs j ≤ reading_at inputs i
  pub short : (i : ℕ) → i < count → reading_at inputs i ≤ most_reading

-- for each cub how many inputs it has, and which; and to how many messages its death cuts off what it puts out at the
-- last of them, if it comes there
pub record Lives : Type 0 where
  pub count : ℕ → ℕ
  pub input : ℕ → ℕ → Input Msg
  pub cut : ℕ → Option ℕ

-- to how many messages the outputs of an input are cut off: only those of the last one may be
abbrev pub cut_in : Lives → ℕ → ℕ → Option ℕ
cut_in lives c i = if suc i == lives.count c then lives.cut c else None

-- what is left of outputs that are cut off to so many messages, or are not
abbrev pub cut_outs : {M : Type 0} → Option ℕ → List (Out M) → List (Out M)
cut_outs None outs = outs
cut_outs (Some sends) outs = cut_at sends outs

-- what a cub puts out at its input of number i, as far as its death lets it
abbrev pub outs_in : Params → Lives → ℕ → ℕ → List (Out Msg)
outs_in p lives c i = cut_outs (cut_in lives c i) (outs_at p c (lives.input c) i)

-- an output of that input goes out: the death does not come there, or comes after it
abbrev pub GoesOut : Params → Lives → ℕ → ℕ → Out Msg → Type 0
GoesOut p lives c i o = (cut_in lives c i ≡ None) ⊎ In o (outs_in p lives c i)

-- The life of a cub began with its return, in this beat.
pub record BeganLate (p : Params) (lives : Lives) (c w : ℕ) : Type 0 where
  pub small : c < p.cubs
  pub done : 0 < lives.count c
  pub in_beat : beat_at (lives.input c) 0 ≡ w
  pub later : 0 < w

-- each cub of a run has a life
abbrev pub AreLives : Params → Lives → Type 0
AreLives p lives = (c : ℕ) → c < p.cubs → IsLife p (lives.count c) (lives.input c)
