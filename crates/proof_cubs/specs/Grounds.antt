-- What the laws rest on: what holds along a cub's life, of its starts, its belief and its watch.
use Rattle.std.specs.Prelude.{◌≡◌, ℕ, ◌+◌, ◌<◌, ◌≤◌, Bool, true, false, List, [], Option, ◌⊎◌}
use Rattle.tiger_base.specs.declared.number.LinkNo.{LinkNo}
use Rattle.tiger_base.specs.declared.number.Stamp.{Stamp}
use Rattle.tiger_base.specs.declared.tenancy.Ask.{Ask}
use Rattle.tiger_base.specs.declared.tenancy.Kind.{Kind}
use Rattle.tiger_base.specs.declared.tenancy.Rec.{Rec}
use Rattle.tiger_base.specs.declared.tenancy.Tenancy.{Tenancy}
use Rattle.tiger_base.specs.declared.message.Msg.{Msg}
use Rattle.tiger_base.specs.declared.message.Msg.TheVariants as msg
use Rattle.slot_plan.specs.declared.params.Params.{Params}
use Rattle.slot_plan.specs.Conditions.{IsPlan}
use Rattle.slot_plan.specs.Times.{cub_of}
use Rattle.node_kit.specs.declared.journal.What.TheVariants as what
use Rattle.node_kit.specs.declared.outbox.Out.{Out}
use Rattle.node_kit.specs.declared.outbox.Out.TheVariants as out
use Rattle.node_kit.specs.Steps.{Input, stamp_of}
use Rattle.node_kit.specs.Steps.Input.{Take}
use Rattle.node_kit.specs.Ways.{way_ahead, predecessor}
use Rattle.partial_view.specs.declared.line.Line.{Line}
use Rattle.insert_queue.specs.Queues.{Queues}
use Rattle.deschedule.specs.Holds.{is_held}
use Rattle.cub_rules.specs.declared.store.Store.{Store}
use Rattle.cub_rules.specs.State.{is_ask}
use Rattle.cub_rules.specs.Messages.{shows}
use Rattle.cub_rules.specs.Ticks.{ticking}
use Rattle.cub_changes.specs.Laws.{believed_out}
use Rattle.proof_lives.specs.Lives.{heard_first, cut_outs, store_at, outs_at}
use Rattle.lists.specs.Elements.{In}

-- ---- starts

-- A start stands in one of the two lists.
abbrev pub IsListed : Ask → Queues → Type 0
IsListed a q = In a q.waiting ⊎ In a q.redundant

-- A start that stands in the lists before input i was let in at an input below: its instance was
-- then neither held nor shown. It has stood there since.
pub record IsLetIn (p : Params) (c : ℕ) (inputs : ℕ → Input Msg) (a : Ask)
    (i : ℕ) : Type 0 where
  pub at : ℕ
  pub before : at < i
  pub stamp : Stamp
  pub link : LinkNo
  pub redundant : Bool
  pub is : inputs at ≡ Take stamp link (msg.Start redundant a)
  pub counted : is_ask a ≡ true
  pub free : is_held (store_at p c inputs at).held a.instance ≡ false
  pub unshown : shows (store_at p c inputs at).view.lines a.instance ≡ false
  pub waits : (k : ℕ) → at < k → k ≤ i → IsListed a (store_at p c inputs k).starts

abbrev pub StartsAreLetIn : Type 0
StartsAreLetIn = (p : Params) (c : ℕ) (inputs : ℕ → Input Msg) (i : ℕ) (a : Ask)
    → IsListed a (store_at p c inputs i).starts → IsLetIn p c inputs a i

-- ---- Puts

-- A record stands at the second visit of t: a line of what the cub keeps has it, or it is taken by
-- these outputs.
pub record StandsSecond (t : Tenancy) (h : Store) (outs : List (Out Msg)) : Type 0 where
  pub rec : Rec
  pub slot : rec.tenancy.slot.0 ≡ t.slot.0
  pub visit : rec.visit ≡ t.first + 1
  pub how : ((x : Line) × In x h.view.lines × (x.rec ≡ rec)) ⊎ In (out.Act (what.Took rec)) outs

-- Of outputs of a tick that begins with h the record of a Put's first visit goes out with it. If
-- the visit is the cub's own, so does its state to the next cub; else it is the predecessor's, and
-- a record stands at the second visit, if there is one.
pub record GoesWhole (p : Params) (c : ℕ) (h : Store) (outs : List (Out Msg))
    (t : Tenancy) : Type 0 where
  pub kind : Kind
  pub taken : In (out.Act (what.Took (record { tenancy = t; visit = t.first; kind = kind }))) outs
  pub who : ((c ≡ cub_of p t.first)
      × In (out.Send (way_ahead p c 1)
      (msg.ViewerState (record { tenancy = t; visit = t.first }))) outs)
      ⊎ ((c ≡ cub_of p (t.first + 1)) × (t.first < t.last → StandsSecond t h outs))

-- Whether or not a death cuts off a tick, a Put goes out with all that belongs to it.
abbrev pub PutsGoWhole : Type 0
PutsGoWhole = (p : Params) (c : ℕ) (stamp : Stamp) (h : Store) (cut : Option ℕ) (t : Tenancy)
    → IsPlan p → c < p.cubs → In (out.Act (what.Put t)) (cut_outs cut (ticking p c stamp h).outs)
    → GoesWhole p c h (cut_outs cut (ticking p c stamp h).outs) t

-- ---- belief

-- Before input i the cub wrote that it believes its predecessor dead.
pub record HasWritten (p : Params) (c : ℕ) (inputs : ℕ → Input Msg) (i : ℕ) : Type 0 where
  pub at : ℕ
  pub before : at < i
  pub wrote : In (believed_out p c) (outs_at p c inputs at)

-- A cub that believes its predecessor dead wrote so, and has no redundant start.
pub record IsBelief (p : Params) (c : ℕ) (inputs : ℕ → Input Msg) (i : ℕ) : Type 0 where
  pub written : HasWritten p c inputs i
  pub none_apart : (store_at p c inputs i).starts.redundant ≡ []

abbrev pub BeliefIsWritten : Type 0
BeliefIsWritten = (p : Params) (c : ℕ) (inputs : ℕ → Input Msg) (i : ℕ)
    → (store_at p c inputs i).believes ≡ true → IsBelief p c inputs i

-- ---- the watch

-- Before input i the cub took a heartbeat of its predecessor, whose reading its watch shows.
pub record HasHeard (p : Params) (c : ℕ) (inputs : ℕ → Input Msg) (i : ℕ) : Type 0 where
  pub at : ℕ
  pub before : at < i
  pub stamp : Stamp
  pub link : LinkNo
  pub is : inputs at ≡ Take stamp link msg.Heartbeat
  pub from : link.0 ≡ (way_ahead p (predecessor p c) 1).0
  pub reading : (store_at p c inputs i).watch.heard ≡ stamp.reading

-- A watch shows what it showed when the life began, which is 0 or the reading of a return, or the
-- reading of a heartbeat.
abbrev pub WatchesShowHeartbeats : Type 0
WatchesShowHeartbeats = (p : Params) (c : ℕ) (inputs : ℕ → Input Msg) (i : ℕ)
    → ((store_at p c inputs i).watch.heard ≡ heard_first (stamp_of (inputs 0)))
    ⊎ HasHeard p c inputs i
