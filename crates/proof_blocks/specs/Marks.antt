-- What the mark of a line tells: whether it had its turn to have the block of its visit asked for.
use Rattle.std.specs.Prelude.{◌≡◌, ℕ, ◌+◌, ◌<◌, ◌≤◌, true, false, ◌⊎◌}
use Rattle.tiger_base.specs.declared.number.Stamp.{Stamp}
use Rattle.tiger_base.specs.declared.message.Msg.{Msg}
use Rattle.tiger_base.specs.Kinds.{is_own}
use Rattle.slot_plan.specs.declared.params.Params.{Params}
use Rattle.slot_plan.specs.Times.{due}
use Rattle.node_kit.specs.declared.journal.What.TheVariants as what
use Rattle.node_kit.specs.declared.outbox.Out.TheVariants as out
use Rattle.node_kit.specs.Steps.{Input}
use Rattle.node_kit.specs.Steps.Input.{Tick}
use Rattle.partial_view.specs.declared.line.Line.{Line}
use Rattle.cub_rules.specs.Ticks.{must_read}
use Rattle.proof_lives.specs.Lives.{store_at, outs_at}
use Rattle.lists.specs.Elements.{In}
use Rattle.proof_facts.specs.Pieces.{before_reading}

-- At a tick before its input of number i it was the turn of a line's record to have its block asked for by cub c.
pub record AskedBefore (p : Params) (c : ℕ) (inputs : ℕ → Input Msg) (i : ℕ)
    (y : Line) : Type 0 where
  pub at : ℕ
  pub before : at < i
  pub stamp : Stamp
  pub is : inputs at ≡ Tick stamp
  pub line : Line
  pub there : In line (before_reading p c stamp (store_at p c inputs at)).view.lines
  pub same : y.rec ≡ line.rec
  pub must : must_read p stamp line ≡ true

-- A line's record was taken before input i, and at no tick since was it due within the read lead.
pub record WasEarly (p : Params) (c : ℕ) (inputs : ℕ → Input Msg) (i : ℕ) (y : Line) : Type 0 where
  pub at : ℕ
  pub before : at < i
  pub taken : In (out.Act (what.Took y.rec)) (outs_at p c inputs at)
  pub early : (k : ℕ) (stamp : Stamp) → at ≤ k → k < i → inputs k ≡ Tick stamp
      → stamp.reading + p.read_lead < due p y.rec.tenancy.slot.0 y.rec.visit

-- Whatever befalls a cub, a line of an own record has its mark if it had its turn, and else it was too early
-- for that.
abbrev pub MarksTellOfAsks : Type 0
MarksTellOfAsks = (p : Params) (c : ℕ) (inputs : ℕ → Input Msg) (i : ℕ) (y : Line)
    → In y (store_at p c inputs i).view.lines → is_own y.rec.kind ≡ true
    → ((y.asked ≡ true) × AskedBefore p c inputs i y)
    ⊎ ((y.asked ≡ false) × WasEarly p c inputs i y)
