-- The nodes of a ring as they open: each is steady, the cubs come first and have not ticked, and the readings of a run are those
-- of its time.
use Rattle.std.proofs.Common.{◌≡◌, ℕ, zero, suc, ◌+◌, ◌*◌, ◌<◌, ◌≤◌, List, [], ◌∷◌, ◌++◌, length, Some, None, refl, ap, arith}
use Rattle.std.specs.Prelude.{slice_get}
use Rattle.std.specs.List.{AllByRecursion}
use Rattle.std.proofs.Math.Nat.{mul-le-mul}
use Rattle.tiger_base.specs.Limits.{most_beats, most_reading}
use Rattle.slot_plan.specs.declared.params.Params.{Params}
use Rattle.slot_plan.specs.Conditions.{IsPlan}
use Rattle.slot_plan.specs.Times.{disk_count, time_of}
use Rattle.disk_image.specs.Image.{Image}
use Rattle.node_kit.specs.declared.course.Course.{Course}
use Rattle.node_kit.specs.declared.course.Order.{Order}
use Rattle.node_kit.specs.declared.course.ReadFault.{ReadFault}
use Rattle.node_kit.specs.Courses.{IsCourse}
use Rattle.ring_nodes.specs.declared.nodes.AnyNode.{AnyNode}
use Rattle.ring_nodes.specs.declared.nodes.AnyNode.TheVariants as node
use Rattle.ring_nodes.specs.AllNodes.{StandsAny, numbered, each_numbered, opening_cub, opening_disk, opening_controller, opening_nodes}
use Rattle.ring_nodes.proofs.Numbered.{opening_stand}
use Rattle.lists.proofs.Each.{all_append}
use Rattle.journal_promises.proofs.Nodes.{AreOrdersWithin, IsACub, IsSteady, TickedLast}
use Rattle.journal_promises.proofs.Written.{all_at}

module _ (G : Type 0) (p : Params) (faults : List ReadFault) (images : List Image) (orders : List Order) (within : AreOrdersWithin orders) where
  -- a controller has good orders
  abbrev HasOrders : AnyNode G → Type 0
  HasOrders (node.Controller s) = AreOrdersWithin s.orders
  HasOrders other = Unit {0}

  cubs_have : (n : ℕ) → AllByRecursion HasOrders (numbered (opening_cub p) n)
  cubs_have zero = tt
  cubs_have (suc n) = all_append HasOrders (numbered (opening_cub p) n) (opening_cub p n ∷ []) (cubs_have n) (tt, tt)

  disks_have : (first : ℕ) (some : List Image) → AllByRecursion HasOrders (each_numbered (opening_disk p faults) first some)
  disks_have first [] = tt
  disks_have first (m ∷ ms) = (tt, disks_have (first + 1) ms)

  all_have : AllByRecursion HasOrders (opening_nodes p faults images orders)
  all_have =
      let cubs : List (AnyNode G) = numbered (opening_cub p) p.cubs in
      let disks : List (AnyNode G) = each_numbered (opening_disk p faults) 0 images in
      all_append HasOrders (cubs ++ disks) (opening_controller p orders ∷ node.Viewers [] ∷ [])
      (all_append HasOrders cubs disks (cubs_have p.cubs) (disks_have 0 images)) (within, (tt, tt))

  steady_by : (n : ℕ) (s : AnyNode G) → StandsAny s p n → HasOrders s → IsSteady p n s
  steady_by n (node.Cub s) stands has = stands
  steady_by n (node.Disk s) stands has = tt
  steady_by n (node.Controller s) stands has = (stands.params, has)
  steady_by n (node.Viewers s) stands has = tt

  pub opens_steady : IsPlan p → length images ≡ disk_count p → (n : ℕ) (s : AnyNode G)
      → slice_get (opening_nodes p faults images orders) n ≡ Some s → IsSteady p n s
  opens_steady plan count n s at =
      steady_by n s (opening_stand p faults images orders (opening_nodes p faults images orders) plan count refl n s at)
      (all_at HasOrders (opening_nodes p faults images orders) n s all_have at)

  -- no cub has ticked yet
  cubs_fresh : (n : ℕ) → AllByRecursion (TickedLast None) (numbered (opening_cub {G = G} p) n)
  cubs_fresh zero = tt
  cubs_fresh (suc n) = all_append (TickedLast None) (numbered (opening_cub p) n) (opening_cub p n ∷ []) (cubs_fresh n) (refl, tt)

  disks_fresh : (first : ℕ) (some : List Image) → AllByRecursion (TickedLast None) (each_numbered (opening_disk {G = G} p faults) first some)
  disks_fresh first [] = tt
  disks_fresh first (m ∷ ms) = (tt, disks_fresh (first + 1) ms)

  all_fresh : AllByRecursion (TickedLast None) (opening_nodes {G = G} p faults images orders)
  all_fresh =
      let cubs : List (AnyNode G) = numbered (opening_cub p) p.cubs in
      let disks : List (AnyNode G) = each_numbered (opening_disk p faults) 0 images in
      all_append (TickedLast None) (cubs ++ disks) (opening_controller p orders ∷ node.Viewers [] ∷ [])
      (all_append (TickedLast None) cubs disks (cubs_fresh p.cubs) (disks_fresh 0 images)) (tt, (tt, tt))

  pub opens_fresh : (n : ℕ) (s : AnyNode G) → slice_get (opening_nodes p faults images orders) n ≡ Some s → TickedLast None s
  opens_fresh n s at = all_at (TickedLast None) (opening_nodes p faults images orders) n s all_fresh at

  -- the nodes with the numbers of cubs are cubs
  cub_by : (n : ℕ) (s : AnyNode G) → StandsAny s p n → n < p.cubs → IsACub s
  cub_by n (node.Cub s) stands low = tt
  cub_by n (node.Disk s) stands low =
      let number = stands.number in
      let same : s.params.cubs ≡ p.cubs = ap (λ (q : Params). q.cubs) stands.params in
      absurd (omega (arith, number, same, low))
  cub_by n (node.Controller s) stands low =
      let number = stands.number in
      let same : s.params.cubs ≡ p.cubs = ap (λ (q : Params). q.cubs) stands.params in
      absurd (omega (arith, number, same, low))
  cub_by n (node.Viewers s) stands low = absurd (omega (arith, stands, low))

  pub opens_cubs : IsPlan p → length images ≡ disk_count p → (n : ℕ) (s : AnyNode G)
      → slice_get (opening_nodes p faults images orders) n ≡ Some s → n < p.cubs → IsACub s
  opens_cubs plan count n s at low =
      cub_by n s (opening_stand p faults images orders (opening_nodes p faults images orders) plan count refl n s at) low

-- the readings of a run are not too large
pub reading_low : (c : Course) (b r : ℕ) → IsCourse c → b < c.beats → r ≤ time_of c.plan.params b + c.plan.params.skew → r ≤ most_reading
unfolding time_of
reading_low c b r course early high =
    let ranges = c.plan.sound.ranges in
    let many = course.beats in
    let few : b ≤ most_beats = omega (arith, early, many) in
    let product : b * c.plan.params.beat ≤ 100000 * 1000000 = mul-le-mul few ranges.beat.1 in
    let skew = ranges.skew in
    omega (arith, product, skew, high)
