-- A visit of a slot is of one instance, each read is asked for once, and a piece only after the death of the block's cub.
use Rattle.std.specs.Prelude.{◌≡◌, ◌≤◌, Bool, true, false, ◌&&◌, ◌==◌, List, length, filter}
use Rattle.std.specs.List.{AllByRecursion}
use Rattle.tiger_base.specs.declared.tenancy.Want.{Want}
use Rattle.tiger_base.specs.declared.message.Note.TheVariants as note
use Rattle.slot_plan.specs.declared.params.Params.{Params}
use Rattle.slot_plan.specs.Times.{cub_of}
use Rattle.node_kit.specs.declared.journal.What.{What}
use Rattle.node_kit.specs.declared.journal.What.TheVariants as what
use Rattle.run_facts.specs.Events.{Dated}
use Rattle.run_facts.specs.Order.{Noted}
use Rattle.run_model.specs.Moments.{Moment, HoldsAtEach}
use Rattle.run_claims.specs.Deliveries.{sent_in}

-- two wants of one slot and visit are of one instance
abbrev pub AreOfOne : Dated Want → Dated Want → Type 0
AreOfOne a b =
    a.item.slot ≡ b.item.slot → a.item.visit ≡ b.item.visit → a.item.instance ≡ b.item.instance

-- whether an entry asks a disk for the same piece of the same visit of the same slot, for whatever instance
abbrev pub asks_same : Want → What → Bool
asks_same want (what.Sent link (note.ReadAsk w)) =
    (w.slot.0 == want.slot.0) && (w.visit == want.visit) && (w.piece == want.piece)
asks_same want other = false

-- if an entry asks a disk, no other entry of the log asks for the same
abbrev pub IsOnlyAsk : List Noted → What → Type 0
IsOnlyAsk log (what.Sent link (note.ReadAsk want)) =
    length (filter (λ x. asks_same want x.entry.what) log) ≤ 1
IsOnlyAsk log other = Unit {0}

-- if an entry asks a disk for a piece, the cub of the block's visit died before it
abbrev pub IsAskForDead : Params → Moment → What → Type 0
IsAskForDead p m (what.Sent link (note.ReadAsk want)) =
    1 ≤ want.piece → m.dead (cub_of p want.visit) ≡ true
IsAskForDead p m other = Unit {0}

-- over a log: what leaves for the viewers of one slot and visit is of one instance; each piece of each visit, and each
-- whole block, is asked of a disk at most once; and pieces are asked for only after the death of the block's cub
pub record AreServedOnce (p : Params) (log : List Noted) : Type 0 where
  pub instance : AllByRecursion (λ a. AllByRecursion (AreOfOne a) (sent_in log)) (sent_in log)
  pub ask : AllByRecursion (λ x. IsOnlyAsk log x.entry.what) log
  pub dead : HoldsAtEach (λ m x. IsAskForDead p m x.entry.what) log
