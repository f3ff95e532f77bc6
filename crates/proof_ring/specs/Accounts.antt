-- The account of a ring's history, and that it meets all claims.
use Rattle.std.specs.Prelude.{◌≡◌, ℕ, ◌+◌, ◌<◌, ◌≤◌, true, List}
use Rattle.tiger_base.specs.declared.message.Msg.{Msg}
use Rattle.slot_plan.specs.declared.params.Params.{Params}
use Rattle.stripe_layout.specs.declared.catalogue.Catalogue.{Catalogue}
use Rattle.node_kit.specs.declared.course.Order.{Order}
use Rattle.node_kit.specs.declared.course.ReadFault.{ReadFault}
use Rattle.node_kit.specs.declared.journal.Entry.{Entry}
use Rattle.run_facts.specs.Events.{is_tick}
use Rattle.run_facts.specs.Histories.{History, beat, reading, ticks}
use Rattle.run_claims.specs.Accounts.{Account}
use Rattle.run_claims.specs.Claims.{MeetsClaims}
use Rattle.disk_core.specs.State.{DiskState}
use Rattle.ring_nodes.specs.declared.nodes.AnyNode.{AnyNode}
use Rattle.proof_controller.specs.Controllers.{controller}
use Rattle.proof_moments.specs.Ties.{IsTickBelow}
use Rattle.proof_facts.specs.Facts.{facts_of}
use Rattle.proof_facts.specs.Rings.{IsUpTo}
use Rattle.proof_ring.specs.ClaimsOfRings.{IsStoredRing}

-- The controller of a history ticked in so many beats, in each at the reading that a clock shows. One tick ends each beat,
-- so these are the first beats.
pub record IsControllersClock {S : Type 0} (p : Params) (h : History Msg S) (commands : ℕ)
    (clock : ℕ → ℕ) : Type 0 where
  pub beats : ticks h (controller p) (h.count (controller p)) ≡ commands
  pub shows : (i : ℕ)
      → i < h.count (controller p) → is_tick (h.event (controller p) i) ≡ true
      → reading h (controller p) i ≡ clock (beat h (controller p) i)

-- The account of a history over the beats below a number: the ticks are its own. The journals are whole.
abbrev pub account_in : {S : Type 0} → Params → Catalogue → List ReadFault → List Order → History Msg S
    → List (List Entry) → ℕ → ℕ → (ℕ → ℕ) → Account
account_in p catalogue faults orders h journals beats commands clock = record {
  plan = p;
  catalogue = catalogue;
  faults = faults;
  orders = orders;
  journals = journals;
  beats = beats;
  ticked = IsTickBelow (facts_of p orders h) beats;
  commands = commands;
  clock = clock;
}

-- The account of every history of a ring, up to a beat below which each node that is up has ended all beats, meets all claims.
abbrev pub RingsMeetTheClaims : (G : Type 0) → Type 0
RingsMeetTheClaims G =
    (p : Params) (catalogue : Catalogue) (faults : List ReadFault) (orders : List Order)
    (disk_at : ℕ → DiskState) (h : History Msg (AnyNode G)) (journals : List (List Entry))
    (end beats commands : ℕ) (clock : ℕ → ℕ)
    → IsStoredRing p catalogue faults orders disk_at h journals
    → IsUpTo p end h → beats ≤ end + 1 → IsControllersClock p h commands clock
    → MeetsClaims (account_in p catalogue faults orders h journals beats commands clock)
