-- The first disk of eight cubs with a disk each: it is node 8, and link 40 leads there from cub 0.
use Rattle.std.proofs.Common.{◌≡◌, ℕ, Some, arith, refl, sym, subst}
use Rattle.slot_plan.specs.declared.params.Params.{Params}
use Rattle.slot_plan.specs.Conditions.{IsPlan}
use Rattle.node_kit.specs.Links.{Links, links_of, ends_of, IsInLink}
use Rattle.disk_core.specs.State.{DiskState, IsDisk}

to_first_disk : (p : Params) → p.cubs ≡ 8 → p.disks ≡ 1 → p.pieces ≡ 2 → IsInLink p 8 40
to_first_disk p cubs disks pieces =
    let e : links_of p ≡ record { cubs = 8; disks = 8; reach = 2 } = rw (cubs, disks, pieces) refl in
    (0, subst (λ (t : Links). ends_of t 40 ≡ Some (0, 8)) (sym e) refl)

first_disk : (s : DiskState) → IsPlan s.params → s.params.cubs ≡ 8 → s.params.disks ≡ 1 → s.disk ≡ 0 → IsDisk s s.params 8
first_disk s plan cubs disks number = record {
  params = refl;
  number = rw (cubs, number) refl;
  plan = plan;
  inside = rw (cubs, disks, number) (omega arith);
}

pub told_first_disk : (s : DiskState) → IsPlan s.params → s.params.cubs ≡ 8 → s.params.disks ≡ 1 → s.params.pieces ≡ 2 → s.disk ≡ 0
    → (p : Params) × (n : ℕ) × IsDisk s p n × IsInLink p n 40
told_first_disk s plan cubs disks pieces number = (s.params, 8, first_disk s plan cubs disks number, to_first_disk s.params cubs disks pieces)
