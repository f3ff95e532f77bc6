-- All Puts of a tick, on the cub's own disks and, if it believes its predecessor dead, on that one's.
use Rattle.std.proofs.Common.{ℕ, ◌<◌}
use Rattle.tiger_base.specs.declared.number.Stamp.{Stamp}
use Rattle.slot_plan.specs.declared.params.Params.{Params}
use Rattle.slot_plan.specs.Conditions.{IsPlan}
use Rattle.cub_rules.specs.declared.store.Store.{Store}
use Rattle.cub_rules.specs.Ticks.{inserting}
use Rattle.cub_changes.proofs.Puts.{puts_by}
use Rattle.proof_lives.proofs.Inserting.{Puts, puts_closed}
use Rattle.proof_lives.proofs.Putting.{own_puts, dead_puts}

pub inserting_puts : (p : Params) (c : ℕ) (stamp : Stamp) → IsPlan p → c < p.cubs → (h : Store) → Puts p c stamp.reading h h (inserting p c stamp h)
inserting_puts p c stamp plan here h =
    puts_by (Puts p c stamp.reading h) (puts_closed p c stamp.reading h) p c stamp h (λ t g o i. own_puts p c stamp plan here h t g o i)
    (λ t g o believes i. dead_puts p c stamp plan here h t g o believes i)
