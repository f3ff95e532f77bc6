-- The nodes of a ring as they open, by their numbers, and that they stand there.
use Rattle.std.proofs.Common.{◌≡◌, ℕ, ◌+◌, ◌-◌, ◌<◌, ◌≤◌, List, [], ◌∷◌, ◌++◌, length, length-append, Some, refl, sym, ap, subst, ◌∙◌, arith, ⊎_elim}
use Rattle.std.specs.Prelude.{slice_get}
use Rattle.std.proofs.lemmas.Bool.{cases_lt}
use Rattle.slot_plan.specs.declared.params.Params.{Params}
use Rattle.slot_plan.specs.Conditions.{IsPlan}
use Rattle.slot_plan.specs.Times.{disk_count}
use Rattle.disk_image.specs.Image.{Image}
use Rattle.node_kit.specs.declared.course.Order.{Order}
use Rattle.node_kit.specs.Rows.{AllStand}
use Rattle.node_kit.proofs.Rows.{get-below}
use Rattle.run_facts.proofs.Rows.{same-element}
use Rattle.disk_core.specs.State.{DiskState}
use Rattle.ring_nodes.specs.declared.nodes.AnyNode.{AnyNode}
use Rattle.ring_nodes.specs.declared.nodes.AnyNode.TheVariants as node
use Rattle.ring_nodes.specs.AllNodes.{StandsAny, numbered, opening_cub, opening_controller, opening_nodes}
use Rattle.ring_nodes.proofs.Numbered.{length-numbered, opening_stand}
use Rattle.proof_ring.proofs.Opened.{get_front, get_back, numbered_at}
use Rattle.proof_ring.proofs.Opened as kept
use Rattle.proof_controller.specs.Controllers.{controller}
use Rattle.proof_facts.specs.Rings.{node_count, node_of_disk, viewers, IsDiskOf}
use Rattle.proof_worlds.specs.Accepted.{opening_ring}

module _ (G : Type 0) (p : Params) (orders : List Order) (disk_at : ℕ → DiskState) where
  abbrev pub given : List (AnyNode G)
  given = opening_ring p orders disk_at

  abbrev pub disk_node : ℕ → AnyNode G
  disk_node d = node.Disk (disk_at d)

  abbrev pub cubs : List (AnyNode G)
  cubs = numbered (opening_cub p) p.cubs

  abbrev pub disks : List (AnyNode G)
  disks = numbered disk_node (disk_count p)

  abbrev pub others : List (AnyNode G)
  others = opening_controller p orders ∷ node.Viewers [] ∷ []

  pub before : length (cubs ++ disks) ≡ p.cubs + disk_count p
  before =
      let one = length-numbered (opening_cub {G = G} p) p.cubs in
      let two = length-numbered disk_node (disk_count p) in
      length-append cubs disks ∙ rw (one, two) refl

  pub size : length given ≡ node_count p
  size = length-append (cubs ++ disks) others ∙ ap (λ n. n + 2) before

  pub cub_opens : (c : ℕ) → c < p.cubs → slice_get given c ≡ Some (opening_cub p c)
  cub_opens c low =
      get_front (cubs ++ disks) others c (opening_cub p c)
      (get_front cubs disks c (opening_cub p c) (numbered_at (opening_cub {G = G} p) p.cubs c low))

  pub disk_opens : (d : ℕ) → d < disk_count p → slice_get given (node_of_disk p d) ≡ Some (disk_node d)
  disk_opens d low =
      let at : p.cubs + d ≡ length cubs + d = omega (arith, length-numbered (opening_cub {G = G} p) p.cubs) in
      get_front (cubs ++ disks) others (node_of_disk p d) (disk_node d)
      (get_back cubs disks d (node_of_disk p d) at ∙ numbered_at disk_node (disk_count p) d low)

  pub controller_opens : slice_get given (controller p) ≡ Some (opening_controller p orders)
  controller_opens = get_back (cubs ++ disks) others 0 (controller p) (omega (arith, before))

  pub viewers_open : slice_get given (viewers p) ≡ Some (node.Viewers [])
  viewers_open = get_back (cubs ++ disks) others 1 (viewers p) (omega (arith, before))

  -- The same ring with each disk's image alone, of which it is known that its nodes stand at their numbers.
  abbrev images : List Image
  images = numbered (λ d. (disk_at d).image) (disk_count p)

  pub all : length images ≡ disk_count p
  all = length-numbered (λ d. (disk_at d).image) (disk_count p)

  stands_kept : IsPlan p → (n : ℕ) (s : AnyNode G) → slice_get (opening_nodes {G = G} p [] images orders) n ≡ Some s → StandsAny s p n
  stands_kept plan n s at = opening_stand {G = G} p [] images orders _ plan all refl n s at

  pub all_stand : IsPlan p → ((d : ℕ) → d < disk_count p → IsDiskOf p d (disk_at d)) → AllStand StandsAny p given
  all_stand plan are n s at =
      let within : n < length given = get-below given n s at in
      let inside : n < node_count p = subst (λ k. n < k) size within in
      ⊎_elim
      (λ (cub : n < p.cubs).
      by_opening n s at (opening_cub p n) (cub_opens n cub)
      (stands_kept plan n (opening_cub p n) (kept.cubs_open G p [] images orders all n cub)))
      (λ (past_cubs : p.cubs ≤ n). ⊎_elim
      (λ (disk : n < controller p).
      let d = n - p.cubs in
      let low : d < disk_count p = omega (arith, disk, past_cubs) in
      let number : node_of_disk p d ≡ n = omega (arith, past_cubs) in
      by_opening n s at (disk_node d) (ap (λ k. slice_get given k) (sym number) ∙ disk_opens d low)
      (is_disk plan n d low number (are d low)))
      (λ (past_disks : controller p ≤ n). ⊎_elim
      (λ (last : n < viewers p).
      let number : controller p ≡ n = omega (arith, past_disks, last) in
      by_opening n s at (opening_controller p orders) (ap (λ k. slice_get given k) (sym number) ∙ controller_opens)
      (subst (λ k. StandsAny {G = G} (opening_controller p orders) p k) number
      (stands_kept plan (controller p) (opening_controller p orders) (kept.controller_opens G p [] images orders all))))
      (λ (beyond : viewers p ≤ n).
      let number : viewers p ≡ n = omega (arith, beyond, inside) in
      by_opening n s at (node.Viewers []) (ap (λ k. slice_get given k) (sym number) ∙ viewers_open) number)
      (cases_lt n (viewers p)))
      (cases_lt n (controller p)))
      (cases_lt n p.cubs)
    where
      by_opening : (n : ℕ) (s : AnyNode G) → slice_get given n ≡ Some s → (t : AnyNode G) → slice_get given n ≡ Some t
          → StandsAny t p n → StandsAny s p n
      by_opening n s at t opens stands =
          subst (λ (x : AnyNode G). StandsAny x p n) (same-element given n t s opens at) stands

      is_disk : IsPlan p → (n d : ℕ) → d < disk_count p → node_of_disk p d ≡ n → IsDiskOf p d (disk_at d) → StandsAny (disk_node d) p n
      is_disk plan n d low number is = record {
        params = is.params;
        number = ap (λ (q : Params). q.cubs + (disk_at d).disk) is.params ∙ ap (λ k. p.cubs + k) is.number ∙ number;
        plan = subst IsPlan (sym is.params) plan;
        inside = subst (λ (q : Params). (disk_at d).disk < disk_count q) (sym is.params) (subst (λ k. k < disk_count p) (sym is.number) low);
      }
