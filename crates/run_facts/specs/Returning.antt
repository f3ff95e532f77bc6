-- A worked history of two nodes, in which the death of one comes in the middle of a step and the other returns after
-- its death, and histories that differ from it in one event each. Messages and states are numbers.
use Rattle.std.specs.Prelude.{◌≡◌, ℕ, zero, suc, ◌+◌, ◌==◌, false, List, [], ◌∷◌, Some, None, if◌then◌else◌}
use Rattle.tiger_base.specs.declared.number.Stamp.{Stamp}
use Rattle.tiger_base.specs.declared.number.LinkNo.{LinkNo}
use Rattle.tiger_base.specs.declared.message.Note.{Note}
use Rattle.tiger_base.specs.declared.message.Note.TheVariants.{Heartbeat}
use Rattle.slot_plan.specs.declared.params.Params.{Params}
use Rattle.slot_plan.specs.Times.{time_of}
use Rattle.node_kit.specs.declared.outbox.Out.TheVariants.{Send}
use Rattle.node_kit.specs.Life.{Lifetime}
use Rattle.node_kit.specs.Links.{links_of, ends_of}
use Rattle.node_kit.specs.Steps.{Input, Deed}
use Rattle.node_kit.specs.Steps.Input.{Take, Tick}
use Rattle.run_facts.specs.Accounts.{history_of}
use Rattle.run_facts.specs.Events.{NodeEvent}
use Rattle.run_facts.specs.Events.NodeEvent.{Does, Ends, Dies, Returns}
use Rattle.run_facts.specs.Histories.{History, IsRun, IsComplete}

-- link 24 leads from node 0 to node 1, as from a cub to the next one of 8, and each message takes one beat
pub record IsPair (p : Params) : Type 0 where
  pub ends : ends_of (links_of p) 24 ≡ Some (0, 1)
  pub delay : p.delay ≡ 1

abbrev pub told : ℕ → Note
told msg = Heartbeat

abbrev pub way : LinkNo
way = record { 0 = 24 }

-- at each tick a node in state 1 sends two messages, the beat and 10 more than that; a node in state 0 sends nothing
abbrev pub sends_two : ℕ → Input ℕ → Deed ℕ ℕ
sends_two state (Take stamp link msg) = record { outs = []; state = state }
sends_two state (Tick stamp) = record {
  outs = if state == 0 then [] else Send way stamp.beat ∷ Send way (stamp.beat + 10) ∷ [];
  state = state;
}

-- events at the readings of a clock that shows the true time
abbrev pub at : Params → ℕ → Stamp
at p beat = record { beat = beat; reading = time_of p beat }

abbrev pub ticks_at : Params → ℕ → NodeEvent ℕ
ticks_at p beat = Does (Tick (at p beat))

abbrev pub takes_at : Params → ℕ → ℕ → NodeEvent ℕ
takes_at p beat msg = Does (Take (at p beat) way msg)

-- node 0 dies in beat 4, in which it may send one message more; node 1 dies in beat 1 and returns in beat 3
abbrev pub lives : ℕ → Lifetime
lives zero = record { death = Some 4; left = Some 1; back = None; over = false }
lives (suc n) = record { death = Some 1; left = None; back = Some 3; over = false }

-- node 0 begins in state 1, and node 1 in state 0
abbrev pub firsts : ℕ → ℕ
firsts zero = 1
firsts (suc n) = 0

-- six messages are sent on link 24 in the beats below the return
abbrev pub lost : ℕ → ℕ
lost l = if 24 == l then 6 else 0

-- the events of both nodes
abbrev pub events_of : List (NodeEvent ℕ) → List (NodeEvent ℕ) → ℕ → List (NodeEvent ℕ)
events_of one other zero = one
events_of one other (suc n) = other

abbrev pub history : List (NodeEvent ℕ) → List (NodeEvent ℕ) → History ℕ ℕ
history one other = history_of firsts lives lost (events_of one other)

-- the first sends in four beats and ends in its tick of the fifth, of which one message goes out
abbrev pub ender : Params → NodeEvent ℕ → NodeEvent ℕ → List (NodeEvent ℕ)
ender p fourth last = ticks_at p 0 ∷ ticks_at p 1 ∷ ticks_at p 2 ∷ fourth ∷ last ∷ []

-- the second ticks once, dies and returns, and in its last beat it takes what was sent to it in the beat of its return
abbrev pub returner : Params → NodeEvent ℕ → NodeEvent ℕ → List (NodeEvent ℕ)
returner p back taken =
    ticks_at p 0 ∷ Dies (at p 1) ∷ back ∷ ticks_at p 3 ∷ taken ∷ takes_at p 4 13 ∷ ticks_at p 4 ∷ []

abbrev pub ends_and_returns : Params → History ℕ ℕ
ends_and_returns p =
    history (ender p (ticks_at p 3) (Ends (Tick (at p 4)) 1)) (returner p (Returns (at p 3)) (takes_at p 4 3))

-- the return comes one beat behind the death
abbrev pub returns_at_once : Params → History ℕ ℕ
returns_at_once p =
    history (ender p (ticks_at p 3) (Ends (Tick (at p 4)) 1)) (returner p (Returns (at p 2)) (takes_at p 4 3))

-- what was sent in a beat below the return is taken behind it
abbrev pub takes_what_was_lost : Params → History ℕ ℕ
takes_what_was_lost p =
    history (ender p (ticks_at p 3) (Ends (Tick (at p 4)) 1)) (returner p (Returns (at p 3)) (takes_at p 4 2))

-- the death cuts nothing off
abbrev pub ends_whole : Params → History ℕ ℕ
ends_whole p =
    history (ender p (ticks_at p 3) (ticks_at p 4)) (returner p (Returns (at p 3)) (takes_at p 4 3))

-- one message more goes out of the step in which the death comes
abbrev pub sends_one_more : Params → History ℕ ℕ
sends_one_more p =
    history (ender p (ticks_at p 3) (Ends (Tick (at p 4)) 2)) (returner p (Returns (at p 3)) (takes_at p 4 3))

-- the death comes in an event too early, and the node goes on
abbrev pub goes_on_behind_its_end : Params → History ℕ ℕ
goes_on_behind_its_end p =
    history (ender p (Ends (Tick (at p 3)) 1) (Ends (Tick (at p 4)) 1)) (returner p (Returns (at p 3)) (takes_at p 4 3))

-- a history of both nodes that is a run, complete in five beats
abbrev pub IsCompleteRun : Params → History ℕ ℕ → Type 0
IsCompleteRun p h = IsRun told sends_two p 2 h × IsComplete told sends_two 2 5 h
