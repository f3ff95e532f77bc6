-- What is kept of a run as events of a machine: what its journals and its course say of each node
-- and beat.
use Rattle.std.specs.Prelude.{ℕ, zero, suc, ◌+◌, List, [], ◌∷◌, ◌++◌, ◌==◌, ◌&&◌, nat_le, Bool, true, false, not, map, filter, length}
use Rattle.std.specs.Prelude.{Option, Some, None, is_some, ◌||◌, if◌then◌else◌}
use Rattle.tiger_base.specs.declared.message.Note.{Note}
use Rattle.tiger_base.specs.declared.number.LinkNo.{LinkNo}
use Rattle.node_kit.specs.declared.course.Course.{Course}
use Rattle.node_kit.specs.declared.course.Kept.{Kept}
use Rattle.node_kit.specs.declared.journal.Entry.{Entry}
use Rattle.node_kit.specs.declared.journal.What.{What}
use Rattle.node_kit.specs.declared.journal.What.TheVariants as what
use Rattle.node_kit.specs.Courses.{stamp_in}
use Rattle.node_kit.specs.Life.{acts, back_of, dies, ends_in, lifetime_of, returns}
use Rattle.run_facts.specs.Carried.{got_on, sent_on, since, until}
use Rattle.run_facts.specs.Events.{Dated}
use Rattle.run_facts.specs.Histories.{below}
use Rattle.run_facts.specs.Timed.{is_died}
use Rattle.ring_world.specs.declared.event.Act.{Act}
use Rattle.ring_world.specs.declared.event.Act.TheVariants as act
use Rattle.ring_world.specs.declared.event.Last.TheVariants as last
use Rattle.ring_world.specs.declared.event.Event.{Event}
use Rattle.proof_turns.specs.Turns.{is_of_take}

-- what entries of a beat say, but for the death
abbrev pub said_in : ℕ → List Entry → List What
said_in b [] = []
said_in b (e ∷ es) = if e.stamp.beat == b && not (is_died e.what) then e.what ∷ said_in b es else said_in b es

-- how many messages they say were sent
abbrev pub is_sent : What → Bool
is_sent (what.Sent link message) = true
is_sent other = false

abbrev pub sends_said : List What → ℕ
sends_said [] = 0
sends_said (w ∷ ws) = if is_sent w then suc (sends_said ws) else sends_said ws

-- what is left of them behind the front that may come of the take of a message
abbrev pub behind_take : Note → List What → List What
behind_take message [] = []
behind_take message (w ∷ ws) = if is_of_take message w then behind_take message ws else w ∷ ws

abbrev pub is_none : List What → Bool
is_none [] = true
is_none (w ∷ ws) = false

-- Whether the death comes in the take of a message, if these entries stand behind it: it comes in an event of that beat,
-- and all that the node wrote in the beat behind the message may come of the take.
abbrev pub is_last_take : Course → ℕ → ℕ → Note → List Entry → Bool
is_last_take c n b message es = ends_in (lifetime_of c n) b && is_none (behind_take message (said_in b es))

-- of messages got, those of that life of a node in which a beat lies, if the node returns in this beat or in none
abbrev pub in_life : Option ℕ → ℕ → List (Dated Note) → List (Dated Note)
in_life None b got = got
in_life (Some back) b got = if nat_le back b then since back got else until back got

-- how many were lost before that life: none before the first
abbrev pub lost_in : Option ℕ → ℕ → ℕ → ℕ
lost_in None b lost = 0
lost_in (Some back) b lost = if nat_le back b then lost else 0

-- The number of a message that node n gets on link l in a beat, if these entries stand before it and so many messages of each
-- link are lost by its return: those that are lost come first, if it has returned, and then those that it got in this life.
abbrev pub number_told : Course → ℕ → (ℕ → ℕ) → ℕ → ℕ → List Entry → ℕ
number_told c n lost b l before = lost_in (back_of c n) b (lost l) + length (in_life (back_of c n) b (got_on l before))

-- how many messages the journals say were sent on a link in beats below one, and how many of each link node n has lost by
-- its return, whether it took them before or not
abbrev pub sent_below : ℕ → ℕ → List (List Entry) → ℕ
sent_below back l [] = 0
sent_below back l (journal ∷ rest) = below back (sent_on l journal) + sent_below back l rest

abbrev pub sent_before : Option ℕ → ℕ → List (List Entry) → ℕ
sent_before None l journals = 0
sent_before (Some back) l journals = sent_below back l journals

abbrev pub lost_told : Course → List (List Entry) → ℕ → ℕ → ℕ
lost_told c journals n l = sent_before (back_of c n) l journals

-- a message that node n got, as one of this number
abbrev pub get_told : Course → ℕ → ℕ → LinkNo → Note → ℕ → List Entry → Act
get_told c n b link message number es =
    if is_last_take c n b message es then act.DieIn (last.Get link number) (sends_said (said_in b es))
    else act.Get link number

-- what an entry of a beat says was got, if these entries stand before it and those behind
abbrev pub get_of : Course → ℕ → (ℕ → ℕ) → ℕ → List Entry → What → List Entry → List Act
get_of c n lost b before (what.Got link message) es =
    get_told c n b link message (number_told c n lost b link.0 before) es ∷ []
get_of c n lost b before other es = []

-- the messages that entries say were got, each with its beat, if others stand before these entries
abbrev pub gets_behind : Course → ℕ → (ℕ → ℕ) → List Entry → List Entry → List (Dated Act)
gets_behind c n lost before [] = []
gets_behind c n lost before (e ∷ es) =
    map (λ a. record { beat = e.stamp.beat; item = a }) (get_of c n lost e.stamp.beat before e.what es)
    ++ gets_behind c n lost (before ++ e ∷ []) es

-- the message that an entry says was got
abbrev pub message_got : What → Option Note
message_got (what.Got link message) = Some message
message_got other = None

-- Of what was said in a beat what its tick said: what stands behind the last message got, without the front that may come
-- of its take, or all, if none was got. The first list is what the tick said if no message is got in the other one.
abbrev pub left_to_tick : List What → Option Note → List What → List What
left_to_tick kept None ws = kept
left_to_tick kept (Some message) ws = behind_take message ws

abbrev pub tick_part : List What → List What → List What
tick_part kept [] = kept
tick_part kept (w ∷ ws) = tick_part (left_to_tick kept (message_got w) ws) ws

-- some message was got
abbrev pub has_got : List What → Bool
has_got [] = false
has_got (w ∷ ws) = is_some (message_got w) || has_got ws

-- the tick said nothing behind a message that was got, so that the death comes in the take of that
abbrev pub is_in_take : List What → Bool
is_in_take ws = has_got ws && is_none (tick_part ws ws)

-- how a beat ends in which the death comes in an event and this was said: in the tick, if not in a take
abbrev pub cut_end : ℕ → List What → List Act
cut_end n ws =
    if is_in_take ws then [] else act.DieIn (last.Tick (record { 0 = n })) (sends_said (tick_part ws ws)) ∷ []

-- what node n does at the end of a beat in which it said this: it ticks as long as it lives, it dies in the beat of its
-- death, and nothing comes behind that
abbrev pub end_of_beat : Course → ℕ → ℕ → List What → List Act
end_of_beat c n b ws =
    if ends_in (lifetime_of c n) b then cut_end n ws
    else if acts (lifetime_of c n) b then act.Tick (record { 0 = n }) ∷ []
    else if dies (lifetime_of c n) b then act.Die (record { 0 = n }) ∷ []
    else []

-- what node n does before all else in a beat: it returns, if the beat is that of its return
abbrev pub begin_of_beat : Course → ℕ → ℕ → List Act
begin_of_beat c n b = if returns (lifetime_of c n) b then act.Return (record { 0 = n }) ∷ [] else []

-- what happens to node n in a beat, if it has lost so many messages of each link by its return: it returns, it gets what its
-- journal says it got, in the journal's order, and it ends the beat
abbrev pub acts_in : Course → ℕ → (ℕ → ℕ) → ℕ → List Entry → List Act
acts_in c n lost b journal =
    begin_of_beat c n b
    ++ (map (λ g. g.item) (filter (λ g. g.beat == b) (gets_behind c n lost [] journal))
    ++ end_of_beat c n b (said_in b journal))

-- at what its clock shows in the beat
abbrev pub event_in : Course → ℕ → ℕ → Act → Event
event_in c n b a = record { stamp = stamp_in c n b; act = a }

abbrev pub events_in : Course → ℕ → (ℕ → ℕ) → ℕ → List Entry → List Event
events_in c n lost b journal = map (event_in c n b) (acts_in c n lost b journal)

-- the events of a beat, node for node, if the first journal is that of node n, and each node has lost so many messages of
-- each link by its return
abbrev pub events_of_beat : Course → (ℕ → ℕ → ℕ) → ℕ → ℕ → List (List Entry) → List Event
events_of_beat c lost b n [] = []
events_of_beat c lost b n (journal ∷ rest) = events_in c n (lost n) b journal ++ events_of_beat c lost b (n + 1) rest

-- the events of so many beats, beat for beat, from beat b on
abbrev pub events_from : Course → (ℕ → ℕ → ℕ) → ℕ → ℕ → List (List Entry) → List Event
events_from c lost b zero journals = []
events_from c lost b (suc k) journals = events_of_beat c lost b 0 journals ++ events_from c lost (b + 1) k journals

-- the events of all beats of a course, by its journals
abbrev pub events_by : Course → List (List Entry) → List Event
events_by c journals = events_from c (lost_told c journals) 0 c.beats journals

-- what is kept of a run as such events
abbrev pub world_events_of : Kept → List Event
world_events_of k = events_by k.course k.journals
