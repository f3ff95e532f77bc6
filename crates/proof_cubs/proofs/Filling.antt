-- A start that waits for a disk of a predecessor that is believed dead is put, or all visits of the disk in the window
-- have lines.
use Rattle.std.proofs.Common.{◌≡◌, ℕ, ◌+◌, ◌-◌, ◌%◌, true, ap, ◌∙◌, arith, None}
use Rattle.std.specs.Prelude.{◌⊎◌}
use Rattle.std.proofs.Math.Nat.{mod-add-mod, add-mod_right}
use Rattle.tiger_base.specs.declared.number.Stamp.{Stamp}
use Rattle.tiger_base.specs.declared.tenancy.Ask.{Ask}
use Rattle.slot_plan.specs.declared.params.Params.{Params}
use Rattle.slot_plan.specs.Conditions.{IsPlan}
use Rattle.slot_plan.specs.Times.{cub_of, disk_of}
use Rattle.node_kit.specs.Ways.{predecessor}
use Rattle.cub_rules.specs.declared.store.Store.{Store}
use Rattle.cub_rules.specs.Ticks.{inserting}
use Rattle.lists.specs.Elements.{In}
use Rattle.proof_lives.proofs.Seating.{PutOf, IsFull}
use Rattle.proof_lives.proofs.Filling.{served_there, disk_there}

-- The visit before one of the cub's own is its predecessor's.
before_own : (p : Params) (c n : ℕ) → IsPlan p → c ≡ cub_of p (n + 1) → predecessor p c ≡ cub_of p n
unfolding predecessor cub_of
before_own p c n plan e =
    let round : (n + 1 + (p.cubs - 1)) ≡ n + p.cubs = omega (arith, plan.ranges.cubs) in
    ap (λ (k : ℕ). (k + (p.cubs - 1)) % p.cubs) e ∙
    (mod-add-mod (n + 1) p.cubs (p.cubs - 1) ∙ (ap (λ (k : ℕ). k % p.cubs) round ∙ add-mod_right n p.cubs))

-- A start that waits for such a disk is put by insertion, or the disk is full when insertion ends.
pub inserting_full_apart : (p : Params) (c : ℕ) (stamp : Stamp) → IsPlan p
    → (n : ℕ) (a : Ask) (h : Store) → h.comeback ≡ None → c ≡ cub_of p (n + 1) → h.believes ≡ true → In a h.starts.waiting
    → a.disk.0 ≡ disk_of p n
    → PutOf a (inserting p c stamp h).outs
    ⊎ IsFull p stamp.reading (disk_of p n) (inserting p c stamp h).state.view.lines
inserting_full_apart p c stamp plan n a h first here believes i e =
    served_there p c stamp plan (disk_of p n) a h i e first believes (disk_there p (predecessor p c) n plan (before_own p c n plan here))
