-- A ring's history is recorded by its journals, whatever its cubs add, and so there is one schedule at each of its moments.
use Rattle.std.proofs.Common.{ℕ, List}
use Rattle.tiger_base.specs.declared.message.Msg.{Msg}
use Rattle.slot_plan.specs.declared.params.Params.{Params}
use Rattle.slot_plan.specs.Conditions.{IsPlan}
use Rattle.node_kit.specs.declared.course.Order.{Order}
use Rattle.node_kit.specs.declared.journal.Entry.{Entry}
use Rattle.node_kit.specs.Steps.{Deed, Input}
use Rattle.run_facts.specs.Histories.{History}
use Rattle.disk_core.specs.State.{DiskState}
use Rattle.ring_nodes.specs.declared.nodes.AnyNode.{AnyNode}
use Rattle.ring_nodes.specs.AllNodes.{any_step}
use Rattle.proof_moments.specs.Ties.{Locals}
use Rattle.proof_moments.specs.Recorded.{IsRecorded}
use Rattle.proof_moments.proofs.Free.{puts_are_fair}
use Rattle.proof_moments.proofs.Truths.{beliefs_are_true}
use Rattle.proof_moments.proofs.Parts.{views_are_part}
use Rattle.proof_moments.proofs.Passing.{nobody_is_passed_over}
use Rattle.proof_moments.proofs.Local.{entries_are_local}
use Rattle.proof_facts.specs.Beside.{Additions, nothing_added}
use Rattle.proof_facts.specs.Facts.{facts_of}
use Rattle.proof_facts.specs.Rings.{IsRingWith}
use Rattle.proof_lives.specs.TwoLifeRun.WhichLife.{First, Later}
use Rattle.proof_ring.proofs.Histories.{in_order, laws, cubs_laws}
use Rattle.proof_journals.specs.Journals.{AreJournalsOf}
use Rattle.proof_journals.proofs.Recorded.{rings_are_recorded}
use Rattle.proof_journals.proofs.Local.{journals_are_local}
use Rattle.proof_ring.proofs.CubLives.{rings_are_histories}
use Rattle.proof_ring.specs.ClaimsOfHistories.{AddingRingsHaveOneSchedule}
use Rattle.proof_ring.specs.ClaimsOfRings.{RingsHaveOneSchedule}

module _ {S : Type 0} (step : S → Input Msg → Deed Msg S) (p : Params) (orders : List Order) (disk_at : ℕ → DiskState) (added : Additions)
    (h : History Msg S) (journals : List (List Entry)) (plan : IsPlan p) (ring : IsRingWith step p orders disk_at added h)
    (are : AreJournalsOf step p h journals) where
  pub recorded : IsRecorded p (facts_of p orders h) orders journals
  recorded =
      rings_are_recorded S step p orders disk_at added h journals plan ring are
      (in_order step p orders disk_at added h plan ring First).started.ordered
      (in_order step p orders disk_at added h plan ring Later).started.ordered
      (laws step p orders disk_at added h plan ring) (cubs_laws step p orders disk_at added h plan ring)

  pub locals : Locals p journals
  locals = journals_are_local S step p orders disk_at added h journals plan ring are

pub adding_rings_have_one_schedule : (S : Type 0) → AddingRingsHaveOneSchedule S
adding_rings_have_one_schedule S step p orders disk_at added h journals beats plan ring are =
    let r = facts_of p orders h in
    let w = recorded step p orders disk_at added h journals plan ring are in
    record {
      free = puts_are_fair p r orders journals beats w;
      part = views_are_part p r orders journals beats w;
      local = entries_are_local p r orders journals beats w (locals step p orders disk_at added h journals plan ring are);
      belief = beliefs_are_true p r orders journals beats w;
      patient = nobody_is_passed_over p r orders journals beats w;
    }

pub rings_have_one_schedule : (G : Type 0) → RingsHaveOneSchedule G
rings_have_one_schedule G p orders disk_at h journals beats plan is_ring are =
    adding_rings_have_one_schedule (AnyNode G) any_step p orders disk_at nothing_added h journals beats plan
    (rings_are_histories G p orders disk_at h plan is_ring) are
