-- The account of a ring's history meets all claims, and so it does with fewer ticks.
use Rattle.std.proofs.Common.{ℕ, ◌<◌}
use Rattle.run_claims.specs.Accounts.{Account}
use Rattle.run_claims.specs.Claims.{MeetsClaims}
use Rattle.proof_ring.specs.Accounts.{RingsMeetTheClaims}
use Rattle.proof_ring.proofs.Commanded.{commanded}
use Rattle.proof_ring.proofs.Recorded.{rings_have_one_schedule}
use Rattle.proof_ring.proofs.Served.{rings_are_never_wrongly_served, rings_are_rightly_served}

pub rings_meet_the_claims : (G : Type 0) → RingsMeetTheClaims G
rings_meet_the_claims G p catalogue faults orders disk_at h journals end beats commands clock stored up low shown =
    let one = rings_have_one_schedule G p orders disk_at h journals beats stored.plan stored.ring stored.written in
    let right = rings_are_never_wrongly_served G p catalogue faults orders disk_at h journals beats stored in
    record {
      free = one.free;
      part = record { always = one.part; local = one.local };
      no_return = right.return;
      one_per_visit = right.once;
      true_belief = one.belief;
      true_faults = right.fault;
      delivery = rings_are_rightly_served G p catalogue faults orders disk_at h journals end beats stored up low;
      in_order = right.turn;
      starts = record {
        patient = one.patient;
        commanded = commanded G p orders disk_at h journals stored.plan stored.ring stored.written commands clock shown;
      };
    }

-- Only one claim speaks of ticks, and it asks something of each.
pub with_ticks : (a : Account) (ticked : ℕ → ℕ → ℕ → Type 0)
    → ((cub beat reading : ℕ) → cub < a.plan.cubs → ticked cub beat reading → a.ticked cub beat reading)
    → MeetsClaims a → MeetsClaims (record a { ticked = ticked })
with_ticks a ticked of_its all = record {
  free = all.free;
  part = record { always = all.part.always; local = all.part.local };
  no_return = all.no_return;
  one_per_visit = all.one_per_visit;
  true_belief = all.true_belief;
  true_faults = all.true_faults;
  delivery = all.delivery;
  in_order = all.in_order;
  starts = record {
    patient = λ cub beat reading small tick. all.starts.patient cub beat reading small (of_its cub beat reading small tick);
    commanded = all.starts.commanded;
  };
}
