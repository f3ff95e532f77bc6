-- The nodes of a kept run as they open, by their numbers.
use Rattle.std.proofs.Common.{◌≡◌, ℕ, zero, suc, ◌+◌, ◌<◌, List, [], ◌∷◌, ◌++◌, length, Some, refl, subst, ◌∙◌, arith}
use Rattle.std.specs.Prelude.{slice_get}
use Rattle.slot_plan.specs.declared.params.Params.{Params}
use Rattle.slot_plan.specs.Times.{disk_count}
use Rattle.stripe_layout.specs.declared.catalogue.Catalogue.{Catalogue}
use Rattle.disk_image.specs.Image.{Image}
use Rattle.node_kit.specs.declared.course.Order.{Order}
use Rattle.node_kit.specs.declared.course.ReadFault.{ReadFault}
use Rattle.ring_nodes.specs.declared.nodes.AnyNode.{AnyNode}
use Rattle.ring_nodes.specs.declared.nodes.AnyNode.TheVariants as node
use Rattle.ring_nodes.specs.AllNodes.{numbered, each_numbered, opening_cub, opening_disk, opening_controller, opening_nodes, image_at, images_of}
use Rattle.ring_nodes.proofs.Numbered.{length-numbered}
use Rattle.proof_ring.proofs.Opened.{get_front, get_back, numbered_at}
use Rattle.proof_facts.specs.Rings.{node_of_disk}
use Rattle.proof_ring.specs.Runs.{disk_of_run}

-- What a rule gives for the element at a place, and its number.
pub each_at : {A B : Type 0} (f : ℕ → A → B) (first : ℕ) (xs : List A) (k : ℕ) (x : A) → slice_get xs k ≡ Some x
    → slice_get (each_numbered f first xs) k ≡ Some (f (first + k) x)
each_at f first [] k x e = absurd (cc)
each_at f first (y ∷ ys) zero x e =
    let same : y ≡ x = cc in
    let at : first + 0 ≡ first = omega arith in
    rw (at, same) refl
each_at f first (y ∷ ys) (suc k) x e =
    let at : first + suc k ≡ first + 1 + k = omega arith in
    rw at (each_at f (first + 1) ys k x e)

module _ (G : Type 0) (p : Params) (faults : List ReadFault) (catalogue : Catalogue) (library : List (List ℕ)) (orders : List Order) where
  abbrev pub images : List Image
  images = images_of p catalogue library

  abbrev pub cubs : List (AnyNode G)
  cubs = numbered (opening_cub p) p.cubs

  abbrev pub disks : List (AnyNode G)
  disks = each_numbered (opening_disk p faults) 0 images

  abbrev pub others : List (AnyNode G)
  others = opening_controller p orders ∷ node.Viewers [] ∷ []

  pub disk_opens : (d : ℕ) → d < disk_count p
      → slice_get (opening_nodes {G = G} p faults images orders) (node_of_disk p d) ≡ Some (node.Disk (disk_of_run p faults catalogue library d))
  disk_opens d low =
      let at : p.cubs + d ≡ length cubs + d = omega (arith, length-numbered (opening_cub {G = G} p) p.cubs) in
      let image = numbered_at (image_at p catalogue library) (disk_count p) d low in
      let there : slice_get disks d ≡ Some (opening_disk p faults (0 + d) (image_at p catalogue library d)) =
      each_at (opening_disk {G = G} p faults) 0 images d (image_at p catalogue library d) image in
      let number : 0 + d ≡ d = omega arith in
      let made : slice_get disks d ≡ Some (opening_disk p faults d (image_at p catalogue library d)) =
      subst (λ (x : ℕ). slice_get disks d ≡ Some (opening_disk p faults x (image_at p catalogue library d))) number there in
      get_front (cubs ++ disks) others (node_of_disk p d) (node.Disk (disk_of_run p faults catalogue library d))
      (get_back cubs disks d (node_of_disk p d) at ∙ made)
