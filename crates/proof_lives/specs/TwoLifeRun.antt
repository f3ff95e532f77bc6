-- Runs whose nodes may die and return once: which events are the inputs of which life, and what a run gives of each life.
use Rattle.std.specs.Prelude.{◌≡◌, ℕ, ◌+◌, ◌<◌, ◌≤◌, true}
use Rattle.tiger_base.specs.declared.message.Msg.{Msg}
use Rattle.tiger_base.specs.Limits.{most_reading}
use Rattle.tiger_base.specs.Notes.{noted}
use Rattle.slot_plan.specs.declared.params.Params.{Params}
use Rattle.node_kit.specs.Steps.{Input, Deed}
use Rattle.run_facts.specs.Events.{is_return, is_tick_input}
use Rattle.run_facts.specs.Histories.{History, IsRun, beat, reading}
use Rattle.proof_lives.specs.Lives.{Lives, IsLife, beat_at, cut_in}
use Rattle.proof_lives.specs.Histories.{cut_of_event, first_events, has_input, later_from, later_lives_of, lives_of}

-- A node's life up to its death, or the one from its return on.
pub data WhichLife : Type 0 where
  First : WhichLife
  Later : WhichLife

abbrev pub life_in : {S : Type 0} → History Msg S → WhichLife → Lives
life_in h First = lives_of h
life_in h Later = later_lives_of h

-- The number of the event that is input i of node n in that life; that of the event with which the life opens, and that of
-- the first event behind it.
abbrev pub event_in : {S : Type 0} → History Msg S → WhichLife → ℕ → ℕ → ℕ
event_in h First n i = i
event_in h Later n i = later_from h n + i

abbrev pub opens_with : {S : Type 0} → History Msg S → WhichLife → ℕ → ℕ
opens_with h First n = 0
opens_with h Later n = later_from h n

abbrev pub closes_before : {S : Type 0} → History Msg S → WhichLife → ℕ → ℕ
closes_before h First n = first_events h n
closes_before h Later n = h.count n

-- Event e of node n is an input of one of its lives.
pub record IsOfLife {S : Type 0} (h : History Msg S) (n e : ℕ) : Type 0 where
  pub which : WhichLife
  pub at : ℕ
  pub done : at < (life_in h which).count n
  pub is : e ≡ event_in h which n at

-- The later life of node n begins with a tick in the beat of its return, and its first one ended two beats below that or more.
pub record BeginsAnew {S : Type 0} (h : History Msg S) (n : ℕ) : Type 0 where
  pub returns : is_return (h.event n (first_events h n)) ≡ true
  pub tick : is_tick_input ((later_lives_of h).input n 0) ≡ true
  pub in_beat : beat_at ((later_lives_of h).input n) 0 ≡ beat h n (first_events h n)
  pub apart : (i : ℕ) → i < first_events h n → beat h n i + 2 ≤ beat h n (first_events h n)

-- What a run gives of the lives of its nodes: each input of a life is an event that has one, and the other way round; a life is
-- cut off where its node's death comes in an event; and each is a life of a run.
pub record IsTwoLifeRun {S : Type 0} (p : Params) (nodes : ℕ) (h : History Msg S) : Type 0 where
  pub within : (w : WhichLife) (n i : ℕ) → n < nodes → i < (life_in h w).count n → event_in h w n i < h.count n
  pub acts : (w : WhichLife) (n i : ℕ) → n < nodes → i < (life_in h w).count n
      → has_input (h.event n (event_in h w n i)) ≡ true
  pub others : (n e : ℕ) → n < nodes → e < h.count n → has_input (h.event n e) ≡ true → IsOfLife h n e
  pub cut : (w : WhichLife) (n i : ℕ) → n < nodes → i < (life_in h w).count n
      → cut_in (life_in h w) n i ≡ cut_of_event (h.event n (event_in h w n i))
  pub lived : (w : WhichLife) (n : ℕ) → n < nodes → IsLife p ((life_in h w).count n) ((life_in h w).input n)
  pub anew : (n : ℕ) → n < nodes → 0 < (later_lives_of h).count n → BeginsAnew h n

-- A run whose readings are not too large is such a run.
abbrev pub RunsOfTwoLives : (S : Type 0) → Type 0
RunsOfTwoLives S =
    (step : S → Input Msg → Deed Msg S) (p : Params) (nodes : ℕ) (h : History Msg S)
    → IsRun noted step p nodes h
    → ((n i : ℕ) → n < nodes → i < h.count n → reading h n i ≤ most_reading)
    → IsTwoLifeRun p nodes h
