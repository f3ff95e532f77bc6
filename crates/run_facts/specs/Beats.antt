-- What a link brings in a beat, and what the letters that are brought to a node make of its beat.
use Rattle.std.specs.Prelude.{ℕ, ◌+◌, List, [], ◌∷◌, ◌++◌, Bool, ◌&&◌, nat_le, ◌==◌, if◌then◌else◌}
use Rattle.tiger_base.specs.declared.number.Stamp.{Stamp}
use Rattle.tiger_base.specs.declared.number.LinkNo.{LinkNo}
use Rattle.tiger_base.specs.declared.message.Note.{Note}
use Rattle.node_kit.specs.Life.{Lifetime, acts, dies, returns, hears, lifetime_of}
use Rattle.node_kit.specs.Steps.{Input, Deed}
use Rattle.node_kit.specs.Steps.Input.{Take, Tick}
use Rattle.run_facts.specs.Events.{NodeEvent, Past, after, after_all, event_of, opening}
use Rattle.run_facts.specs.Events.NodeEvent.{Dies, Returns}
use Rattle.run_facts.specs.Paced.{Passage}
use Rattle.run_facts.specs.declared.mail.Flight.{Flight}
use Rattle.run_facts.specs.declared.mail.Letter.{Letter}
use Rattle.node_kit.specs.declared.course.Course.{Course}
use Rattle.node_kit.specs.Courses.{stamp_in}

-- a message under way
abbrev pub pass : {M : Type 0} → Flight M → Passage M
pass f = record { sent = f.sent; arrival = f.arrival; item = f.msg }

-- the messages of a link that have arrived by a beat, and what is under way still
abbrev pub arrived : {M : Type 0} → LinkNo → ℕ → List (Flight M) → List (Letter M)
arrived link beat [] = []
arrived link beat (f ∷ fs) =
    if nat_le f.arrival beat then (record { link = link; sent = f.sent; msg = f.msg }) ∷ arrived link beat fs else []

abbrev pub under_way : {M : Type 0} → ℕ → List (Flight M) → List (Flight M)
under_way beat [] = []
under_way beat (f ∷ fs) = if nat_le f.arrival beat then under_way beat fs else f ∷ fs

-- a letter as what its link brings in a beat
abbrev pub bring : {M : Type 0} → ℕ → Letter M → Passage M
bring beat letter = record { sent = letter.sent; arrival = beat; item = letter.msg }

abbrev pub on_link : {M : Type 0} → ℕ → Letter M → Bool
on_link l letter = letter.link.0 == l

-- whether a node with this life takes in a beat what was sent in another
abbrev pub is_taken : Lifetime → ℕ → ℕ → Bool
is_taken life sent now = acts life now && hears life sent now

-- the events that letters bring: those that the node takes
abbrev pub letter_events : {M S : Type 0} → (M → Note) → (S → Input M → Deed M S) → Stamp → List (Letter M) → Past S
    → List (NodeEvent M)
letter_events note step stamp [] past = []
letter_events note step stamp (l ∷ ls) past =
    if is_taken past.life l.sent stamp.beat then
    event_of step (Take stamp l.link l.msg) past
    ∷ letter_events note step stamp ls (after note step (event_of step (Take stamp l.link l.msg) past) past)
    else letter_events note step stamp ls past

-- the event that ends a node's beat: it ticks where it acts, and where it dies it writes that it does
unfoldable pub end_events : {M S : Type 0} → (S → Input M → Deed M S) → Stamp → Past S → List (NodeEvent M)
end_events step stamp past =
    if acts past.life stamp.beat then event_of step (Tick stamp) past ∷ []
    else if dies past.life stamp.beat then Dies stamp ∷ [] else []

-- the event that begins the beat in which a node returns
abbrev pub return_events : {M S : Type 0} → Stamp → Past S → List (NodeEvent M)
return_events stamp past = if returns past.life stamp.beat then Returns stamp ∷ [] else []

-- the events of a node's beat to which letters come
unfoldable pub beat_events : {M S : Type 0} → (M → Note) → (S → Input M → Deed M S) → Stamp → List (Letter M) → Past S
    → List (NodeEvent M)
beat_events note step stamp letters past =
    return_events stamp past ++ (letter_events note step stamp letters past
    ++ end_events step stamp (after_all note step (letter_events note step stamp letters past) past))

-- a node after a beat in which these letters are brought to it: it returns in the beat of its return, it takes those
-- that it hears and ticks where it acts, and where it dies it writes that it does
abbrev pub after_beat : {M S : Type 0} → (M → Note) → (S → Input M → Deed M S) → Stamp → List (Letter M) → Past S
    → Past S
after_beat note step stamp letters past = after_all note step (beat_events note step stamp letters past) past

-- node n before the first beat
abbrev pub opening_of : {S : Type 0} → Course → ℕ → S → Past S
opening_of c n first = opening first (lifetime_of c n)

-- node n after beats from a first one on, in each of which it is brought these letters
abbrev pub after_beats : {M S : Type 0} → (M → Note) → (S → Input M → Deed M S) → Course → ℕ → ℕ
    → List (List (Letter M)) → Past S → Past S
after_beats note step c n beat [] past = past
after_beats note step c n beat (letters ∷ rest) past =
    after_beats note step c n (beat + 1) rest (after_beat note step (stamp_in c n beat) letters past)
