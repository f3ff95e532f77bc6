-- What holds of the events that a machine accepts.
use Rattle.std.specs.Prelude.{◌≡◌, ℕ, ◌+◌, ◌<◌, ◌≤◌, ◌⊎◌, Bool, true, false, List, length, Option, Some, None, slice_get}
use Rattle.std.specs.List.{AllByRecursion}
use Rattle.tiger_base.specs.Limits.{most_reading, most_beats}
use Rattle.tiger_base.specs.declared.message.Note.{Note}
use Rattle.slot_plan.specs.declared.params.Params.{Params}
use Rattle.slot_plan.specs.Conditions.{IsPlan}
use Rattle.slot_plan.specs.Times.{time_of}
use Rattle.node_kit.specs.Links.{links_of, ends_of, viewers_of, IsInLink}
use Rattle.node_kit.specs.Rows.{AllStand}
use Rattle.node_kit.specs.Steps.{Input, Deed, IsAllowed}
use Rattle.node_kit.specs.Steps.Input.{Take, Tick}
use Rattle.run_facts.specs.Events.{is_death}
use Rattle.run_facts.specs.Histories.{History, IsHistoryOf, IsRun, IsUp, beat, reading, open_beat}
use Rattle.run_facts.specs.Plain.{IsPlainRun}
use Rattle.ring_world.specs.declared.event.Act.{Act}
use Rattle.ring_world.specs.declared.event.Act.TheVariants as act
use Rattle.ring_world.specs.declared.event.Event.{Event}
use Rattle.ring_world.specs.Machine.{Machine, Being, opening_machine, journals_of, states_of, undying}
use Rattle.ring_world.specs.Faults.{Accepts, cub_after}
use Rattle.ring_world.specs.Merging.{IsMerged}

-- an input that may come to node n: its reading is within the limit, and a message comes on a link that leads to it
abbrev pub MayCome : {M : Type 0} → Params → ℕ → Input M → Type 0
MayCome p n (Take stamp link msg) = (stamp.reading ≤ most_reading) × IsInLink p n link.0
MayCome p n (Tick stamp) = stamp.reading ≤ most_reading

-- Nodes are lawful if, by its step, a node stays where it stands and puts out only what it may put out there.
abbrev pub AreLawful : {M S : Type 0} → (M → Note) → (S → Input M → Deed M S) → (S → Params → ℕ → Type 0) → Params → Type 0
AreLawful {M} {S} note step stands p =
    (n : ℕ) (s : S) (i : Input M) → MayCome p n i → stands s p n
    → stands (step s i).state p n × AllByRecursion (IsAllowed note p n) (step s i).outs

-- A place for so many nodes and beats: each link leads from one of the nodes to one of them, the cubs are at least two
-- and are the first of the nodes, a message takes a beat or more, and each reading is within the limit.
pub record IsPlace (p : Params) (nodes beats : ℕ) : Type 0 where
  pub linked : (l from to : ℕ) → ends_of (links_of p) l ≡ Some (from, to) → (from < nodes) × (to < nodes)
  pub two_cubs : 2 ≤ p.cubs
  pub cubs : p.cubs ≤ nodes
  pub delay : 1 ≤ p.delay
  pub short : (b : ℕ) → b < beats → time_of p b + p.skew ≤ most_reading

-- The nodes of a plan, up to the viewers, have such a place for as many beats as a run may have.
abbrev pub PlansArePlaces : Type 0
PlansArePlaces =
    (p : Params) (beats : ℕ) → IsPlan p → beats ≤ most_beats
    → IsPlace p (viewers_of (links_of p) + 1) beats

abbrev pub is_die : Act → Bool
is_die (act.Get link number) = false
is_die (act.Tick node) = false
is_die (act.Die cub) = true
is_die (act.DieIn final sends) = true
is_die (act.Return cub) = false

-- it is no death in the middle of another event, and no return
abbrev pub is_whole : Act → Bool
is_whole (act.Get link number) = true
is_whole (act.Tick node) = true
is_whole (act.Die cub) = true
is_whole (act.DieIn final sends) = false
is_whole (act.Return cub) = false

-- whoever dies in these events dies apart from any other event, and for good
abbrev pub HaveWholeDeaths : List Event → Type 0
HaveWholeDeaths events = AllByRecursion (λ e. is_whole e.act ≡ true) events

-- node n is dead at the end of a history or up, as its being is dead or not: its last event is a death, or behind each
-- death comes more
pub record IsDeadBy {M S : Type 0} (h : History M S) (n : ℕ) (dead : Bool) : Type 0 where
  pub died : dead ≡ true → (i : ℕ) × (i + 1 ≡ h.count n) × (is_death (h.event n i) ≡ true)
  pub up : dead ≡ false → IsUp h n

-- node n died in a history in this beat, or lived through it
abbrev pub HasDiedIn : {M S : Type 0} → History M S → ℕ → Option ℕ → Type 0
HasDiedIn h n None = (i : ℕ) → i < h.count n → is_death (h.event n i) ≡ false
HasDiedIn h n (Some death) =
    (i : ℕ) × (i < h.count n) × (is_death (h.event n i) ≡ true) × (beat h n i ≡ death)

-- The machine has come through a history by these events: the history begins with the nodes given, has the machine's
-- journals, and ends with its nodes; the record of a run holds of it, and that of a plain run if all deaths among the
-- events are whole; the machine remembers the events, and they are the history's in one order of beats; none is in a
-- later beat than the machine's, and who is up has ended each beat before; readings are within the limit; a node is dead
-- exactly if its death is its last event, and has died in the beat in which it died in the history, if it did; nobody
-- did if none of the events is a death; and of two neighbours in the ring at most one has ever died.
pub record HasCome {M S : Type 0} (note : M → Note) (step : S → Input M → Deed M S) (p : Params)
    (given : List S) (events : List Event) (m : Machine M S) : Type 0 where
  pub history : History M S
  pub theirs : IsHistoryOf note step (λ _. undying) given (states_of m) (journals_of m) history
  pub run : IsRun note step p (length given) history
  pub plain : HaveWholeDeaths events → IsPlainRun note step p (length given) history
  pub happened : m.events ≡ events
  pub merged : IsMerged history (length given) events
  pub each_has_being : length m.beings ≡ length given
  pub early : (n i : ℕ) → n < length given → i < history.count n → beat history n i ≤ m.beat
  pub ticked : (n : ℕ) → n < length given → IsUp history n → m.beat ≤ open_beat history n (history.count n)
  pub short : (n i : ℕ) → n < length given → i < history.count n → reading history n i ≤ most_reading
  pub dead : (n : ℕ) (b : Being S) → n < length given → slice_get m.beings n ≡ Some b → IsDeadBy history n b.dead
  pub died : (n : ℕ) (b : Being S) → n < length given → slice_get m.beings n ≡ Some b → HasDiedIn history n b.died
  pub calm : AllByRecursion (λ e. is_die e.act ≡ false) events
      → (n i : ℕ) → n < length given → i < history.count n → is_death (history.event n i) ≡ false
  pub apart : (cub : ℕ) (a b : Being S) → cub < p.cubs → slice_get m.beings cub ≡ Some a
      → slice_get m.beings (cub_after p cub) ≡ Some b → (a.died ≡ None) ⊎ (b.died ≡ None)

-- If nodes are lawful and stand at their places, then a machine that begins with them comes through a history by each
-- list of events that it accepts.
abbrev pub AcceptedListsAreRuns : {M S : Type 0} → (M → Note) → (S → Input M → Deed M S) → (S → Params → ℕ → Type 0) → Type 0
AcceptedListsAreRuns {M} {S} note step stands =
    (p : Params) (beats : ℕ) (given : List S) (events : List Event) (m : Machine M S)
    → AreLawful note step stands p → IsPlace p (length given) beats → AllStand stands p given
    → Accepts note step p (length given) beats (opening_machine p given) events m
    → HasCome note step p given events m
