-- A share of all nodes before the first beat, and some that are not; and a link within a share. Messages and states are
-- numbers.
use Rattle.std.specs.Prelude.{ℕ, ◌+◌, ◌==◌, List, [], ◌∷◌, if◌then◌else◌}
use Rattle.tiger_base.specs.declared.number.NodeNo.{NodeNo}
use Rattle.tiger_base.specs.declared.message.Note.{Note}
use Rattle.link_timing.specs.Clock.{arrival_at, after_send}
use Rattle.node_kit.specs.declared.course.Course.{Course}
use Rattle.node_kit.specs.Courses.{IsCourse}
use Rattle.node_kit.specs.Life.{lifetime_of}
use Rattle.node_kit.specs.Links.{links_of, link_count, viewers_of}
use Rattle.node_kit.specs.Rows.{each_below}
use Rattle.node_kit.specs.Steps.{Input, Deed}
use Rattle.run_facts.specs.Events.{NodeEvent}
use Rattle.run_facts.specs.Rings.{Ring, Traffic}
use Rattle.ring_engine.specs.Places.{new_channel}
use Rattle.ring_links.specs.Ends.{LineId}
use Rattle.ring_cells.specs.Samples.{five, fresh_clock, sends_five}
use Rattle.ring_cells.specs.Shares.{IsInner, IsShare}

abbrev pub node_count : Course → ℕ
node_count c = viewers_of (links_of c.plan.params) + 1

abbrev pub numbers_below : ℕ → List NodeNo
numbers_below n = each_below (λ k. record { 0 = k }) n

-- node k is in state k
abbrev pub at_rest : Course → Ring ℕ ℕ
at_rest c = record {
  nodes = each_below (λ k. k) (node_count c);
  lives = each_below (lifetime_of c) (node_count c);
  journals = each_below (λ k. []) (node_count c);
  channels = each_below (new_channel c) (link_count (links_of c.plan.params));
}

-- message 5 is under way on each link
abbrev pub with_five : Course → ℕ → Traffic ℕ
with_five c l = record { clock = (new_channel {M = ℕ} c l).clock; flights = five ∷ [] }

abbrev pub made_up : Course → Ring ℕ ℕ
made_up c = let r = at_rest c in record r { channels = each_below (with_five c) (link_count (links_of c.plan.params)) }

-- no node is there
abbrev pub left_out : Course → Ring ℕ ℕ
left_out c = let r = at_rest c in record r { nodes = [] }

-- nothing has happened, and these members are a share that has no port, or are none
abbrev pub AreShare : (Course → Ring ℕ ℕ) → (Course → ℕ) → ℕ → Type 0
AreShare ring members come =
    (c : Course) (line_of : ℕ → LineId) (note : ℕ → Note) (step : ℕ → Input ℕ → Deed ℕ ℕ) → IsCourse c
    → IsShare note step c (λ k. k) line_of (numbers_below (members c)) 0 (λ k. come) (λ k. []) (ring c) [] []

abbrev pub AreNoShare : (Course → Ring ℕ ℕ) → (Course → ℕ) → ℕ → Type 0
AreNoShare ring members come =
    (c : Course) (line_of : ℕ → LineId) (note : ℕ → Note) (step : ℕ → Input ℕ → Deed ℕ ℕ) → IsCourse c
    → IsShare note step c (λ k. k) line_of (numbers_below (members c)) 0 (λ k. come) (λ k. []) (ring c) [] [] → ⊥

-- link 16 with nothing under way, and with message 5, which was sent in beat 0
abbrev pub idle_wire : Course → Traffic ℕ
idle_wire c = record { clock = fresh_clock c; flights = [] }

abbrev pub busy_wire : Course → Traffic ℕ
busy_wire c = record {
  clock = after_send (fresh_clock c) 0;
  flights = (record { sent = 0; arrival = arrival_at (fresh_clock c) 0; msg = 5 }) ∷ [];
}

-- link 16 leads from node 0, to which these events happened, to node 1, to which nothing has happened
abbrev pub LeadsWithin : List (NodeEvent ℕ) → (Course → Traffic ℕ) → Type 0
LeadsWithin events wire =
    (note : ℕ → Note) (c : Course) → IsCourse c
    → IsInner note sends_five c (λ k. 7) 0 (λ k. 0) (λ k. if k == 0 then events else []) (each_below (λ l. wire c) 17) 16 0 1

abbrev pub CannotLead : List (NodeEvent ℕ) → (Course → Traffic ℕ) → Type 0
CannotLead events wire =
    (note : ℕ → Note) (c : Course) → IsCourse c
    → IsInner note sends_five c (λ k. 7) 0 (λ k. 0) (λ k. if k == 0 then events else []) (each_below (λ l. wire c) 17) 16 0 1 → ⊥
