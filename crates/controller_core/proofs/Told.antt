-- The controller of eight cubs with a disk each: it is node 16, and link 8 leads there from cub 0.
use Rattle.std.proofs.Common.{◌≡◌, ℕ, [], Some, IsTrue, max, refl, sym, subst}
use Rattle.std.proofs.lemmas.List.Elements.{All-nil, All-same}
use Rattle.tiger_base.specs.declared.tenancy.Tenancy.{Tenancy}
use Rattle.slot_plan.specs.declared.params.Params.{Params}
use Rattle.slot_plan.specs.Conditions.{IsPlan}
use Rattle.node_kit.specs.Form.{is_tenancy}
use Rattle.node_kit.specs.Links.{Links, links_of, ends_of, IsInLink}
use Rattle.controller_core.specs.State.{ControllerState, IsController}

to_controller : (p : Params) → p.cubs ≡ 8 → p.disks ≡ 1 → IsInLink p 16 8
to_controller p cubs disks =
    let e : links_of p ≡ record { cubs = 8; disks = 8; reach = max 2 p.pieces } = rw (cubs, disks) refl in
    (0, subst (λ (t : Links). ends_of t 8 ≡ Some (0, 16)) (sym e) refl)

the_controller : (s : ControllerState) → IsPlan s.params → s.params.cubs ≡ 8 → s.params.disks ≡ 1 → s.known.placed ≡ [] → IsController s s.params 16
the_controller s plan cubs disks none = record {
  params = refl;
  number = rw (cubs, disks) refl;
  plan = plan;
  in_form = All-same (λ (t : Tenancy). IsTrue (is_tenancy s.params t)) s.known.placed [] none (All-nil (λ (t : Tenancy). IsTrue (is_tenancy s.params t)));
}

pub told_controller : (s : ControllerState) → IsPlan s.params → s.params.cubs ≡ 8 → s.params.disks ≡ 1 → s.known.placed ≡ []
    → (p : Params) × (n : ℕ) × IsController s p n × IsInLink p n 8
told_controller s plan cubs disks none = (s.params, 16, the_controller s plan cubs disks none, to_controller s.params cubs disks)
