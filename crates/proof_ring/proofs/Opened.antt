-- The nodes of a ring as they open, by number; and that the readings of a run are not too large.
use Rattle.std.proofs.Common.{◌≡◌, ℕ, zero, suc, ◌+◌, ◌*◌, ◌<◌, ◌≤◌, List, [], ◌∷◌, ◌++◌, length, length-append, Some, refl, ap, ◌∙◌, arith, ⊎_elim}
use Rattle.std.specs.Prelude.{slice_get}
use Rattle.std.proofs.lemmas.Bool.{cases_lt}
use Rattle.std.proofs.lemmas.Option.{none-some}
use Rattle.std.proofs.Math.Nat.{mul-le-mul}
use Rattle.tiger_base.specs.Limits.{most_beats, most_reading}
use Rattle.slot_plan.specs.declared.params.Params.{Params}
use Rattle.slot_plan.specs.Times.{time_of, disk_count}
use Rattle.disk_image.specs.Image.{Image}
use Rattle.node_kit.specs.declared.course.Course.{Course}
use Rattle.node_kit.specs.declared.course.Order.{Order}
use Rattle.node_kit.specs.declared.course.ReadFault.{ReadFault}
use Rattle.node_kit.specs.Courses.{IsCourse}
use Rattle.ring_nodes.specs.declared.nodes.AnyNode.{AnyNode}
use Rattle.ring_nodes.specs.declared.nodes.AnyNode.TheVariants as node
use Rattle.ring_nodes.specs.AllNodes.{numbered, each_numbered, opening_cub, opening_disk, opening_controller, opening_nodes}
use Rattle.ring_nodes.proofs.Numbered.{length-numbered, length-each_numbered}

-- places of two lists, one behind the other
pub get_front : {X : Type 0} (xs ys : List X) (k : ℕ) (x : X) → slice_get xs k ≡ Some x → slice_get (xs ++ ys) k ≡ Some x
get_front [] ys k x e = absurd (none-some x e)
get_front (z ∷ zs) ys zero x e = e
get_front (z ∷ zs) ys (suc k) x e = get_front zs ys k x e

pub get_back : {X : Type 0} (xs ys : List X) (k j : ℕ) → j ≡ length xs + k → slice_get (xs ++ ys) j ≡ slice_get ys k
get_back [] ys k j e = let q : j ≡ k = omega (arith, e) in ap (λ n. slice_get ys n) q
get_back (z ∷ zs) ys k zero e = absurd (omega (arith, e))
get_back (z ∷ zs) ys k (suc j) e = get_back zs ys k j (omega (arith, e))

pub get_some : {X : Type 0} (xs : List X) (k : ℕ) → k < length xs → (x : X) × (slice_get xs k ≡ Some x)
get_some [] k low = absurd (omega (arith, low))
get_some (x ∷ xs) zero low = (x, refl)
get_some (x ∷ xs) (suc k) low = get_some xs k (omega (arith, low))

pub numbered_at : {X : Type 0} (f : ℕ → X) (n k : ℕ) → k < n → slice_get (numbered f n) k ≡ Some (f k)
numbered_at f zero k low = absurd (omega (arith, low))
numbered_at f (suc n) k low = ⊎_elim
    (λ (less : k < n). get_front (numbered f n) (f n ∷ []) k (f k) (numbered_at f n k less))
    (λ (last : n ≤ k).
    let same : n ≡ k = omega (arith, low, last) in
    let at : k ≡ length (numbered f n) + 0 = omega (arith, same, length-numbered f n) in
    get_back (numbered f n) (f n ∷ []) 0 k at ∙ ap (λ j. Some (f j)) same)
    (cases_lt k n)

-- the nodes as they open, by number
module _ (G : Type 0) (p : Params) (faults : List ReadFault) (images : List Image) (os : List Order) (all : length images ≡ disk_count p) where
  abbrev pub cubs : List (AnyNode G)
  cubs = numbered (opening_cub p) p.cubs

  abbrev pub disks : List (AnyNode G)
  disks = each_numbered (opening_disk p faults) 0 images

  abbrev pub others : List (AnyNode G)
  others = opening_controller p os ∷ node.Viewers [] ∷ []

  pub before : length (cubs ++ disks) ≡ p.cubs + disk_count p
  before =
      let one = length-numbered (opening_cub {G = G} p) p.cubs in
      let two = length-each_numbered (opening_disk {G = G} p faults) 0 images in
      length-append cubs disks ∙ rw (one, two, all) refl

  pub cubs_open : (c : ℕ) → c < p.cubs → slice_get (opening_nodes {G = G} p faults images os) c ≡ Some (opening_cub p c)
  cubs_open c low = get_front (cubs ++ disks) others c (opening_cub p c) (get_front cubs disks c (opening_cub p c) (numbered_at (opening_cub {G = G} p) p.cubs c low))

  pub controller_opens : slice_get (opening_nodes {G = G} p faults images os) (p.cubs + disk_count p) ≡ Some (opening_controller p os)
  controller_opens = get_back (cubs ++ disks) others 0 (p.cubs + disk_count p) (omega (arith, before))

  pub viewers_open : slice_get (opening_nodes {G = G} p faults images os) (p.cubs + disk_count p + 1) ≡ Some (node.Viewers [])
  viewers_open = get_back (cubs ++ disks) others 1 (p.cubs + disk_count p + 1) (omega (arith, before))

-- the readings of a run are not too large
pub read_low : (c : Course) (b r : ℕ) → IsCourse c → b < c.beats → r ≤ time_of c.plan.params b + c.plan.params.skew → r ≤ most_reading
unfolding time_of
read_low c b r course early high =
    let ranges = c.plan.sound.ranges in
    let many = course.beats in
    let few : b ≤ most_beats = omega (arith, early, many) in
    let product : b * c.plan.params.beat ≤ 100000 * 1000000 = mul-le-mul few ranges.beat.1 in
    let skew = ranges.skew in
    omega (arith, product, skew, high)
