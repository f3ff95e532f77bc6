-- The same events node for node: for each its returns, what its journal tells, and the ends of its beats; and how they are
-- counted.
use Rattle.std.specs.Prelude.{ℕ, zero, suc, ◌+◌, nat_le, nat_lt, List, [], ◌∷◌, ◌++◌, map, Option, Some, None, if◌then◌else◌}
use Rattle.std.specs.Map.{lookup}
use Rattle.std.specs.Ordering.{is_eq, nat_cmp}
use Rattle.tiger_base.specs.declared.number.LinkNo.{LinkNo}
use Rattle.node_kit.specs.declared.course.Course.{Course}
use Rattle.node_kit.specs.declared.journal.Entry.{Entry}
use Rattle.node_kit.specs.declared.journal.What.{What}
use Rattle.node_kit.specs.declared.journal.What.TheVariants as what
use Rattle.ring_world.specs.declared.event.Act.{Act}
use Rattle.ring_world.specs.declared.event.Event.{Event}
use Rattle.kept_worlds.specs.Events.{begin_of_beat, get_of, said_in, end_of_beat, event_in}

-- an act, or none, as a list
abbrev pub listed_act : Option Act → List Act
listed_act None = []
listed_act (Some a) = a ∷ []

-- numbers by link, in the order of the links
abbrev pub Numbers : Type 0
Numbers = List (ℕ × ℕ)

abbrev pub or_none : Option ℕ → ℕ
or_none None = 0
or_none (Some n) = n

-- how many are counted under a link
abbrev pub counted_on : ℕ → Numbers → ℕ
counted_on l counts = or_none (lookup (λ q. is_eq (nat_cmp l q)) counts)

-- the link on which an entry says that a message was sent, if that was in a beat below this one
abbrev pub link_sent : What → Option LinkNo
link_sent (what.Sent link message) = Some link
link_sent other = None

abbrev pub early_send : ℕ → Entry → Option LinkNo
early_send back e = if nat_le back e.stamp.beat then None else link_sent e.what

-- an act in a beat, if the course has the beat
abbrev pub told_in : Course → ℕ → ℕ → List Act → List Event
told_in c n b acts = if nat_lt b c.beats then map (event_in c n b) acts else []

-- the messages that entries say were got, if others stand before them
abbrev pub gets_told : Course → ℕ → (ℕ → ℕ) → List Entry → List Entry → List Event
gets_told c n lost before [] = []
gets_told c n lost before (e ∷ es) =
    told_in c n e.stamp.beat (get_of c n lost e.stamp.beat before e.what es) ++ gets_told c n lost (before ++ e ∷ []) es

-- the returns of so many beats from beat b on
abbrev pub backs_told : Course → ℕ → ℕ → ℕ → List Event
backs_told c n b zero = []
backs_told c n b (suc k) = map (event_in c n b) (begin_of_beat c n b) ++ backs_told c n (b + 1) k

-- the ends of so many beats from beat b on, by a journal
abbrev pub ends_told : Course → ℕ → List Entry → ℕ → ℕ → List Event
ends_told c n journal b zero = []
ends_told c n journal b (suc k) =
    map (event_in c n b) (end_of_beat c n b (said_in b journal)) ++ ends_told c n journal (b + 1) k

-- a node that has lost so many messages of each link by its return
abbrev pub node_told : Course → ℕ → (ℕ → ℕ) → List Entry → List Event
node_told c n lost journal =
    backs_told c n 0 c.beats ++ (gets_told c n lost [] journal ++ ends_told c n journal 0 c.beats)

-- all nodes, if the first journal is that of node n
abbrev pub nodes_told : Course → (ℕ → ℕ → ℕ) → ℕ → List (List Entry) → List Event
nodes_told c lost n [] = []
nodes_told c lost n (journal ∷ rest) = node_told c n (lost n) journal ++ nodes_told c lost (n + 1) rest
