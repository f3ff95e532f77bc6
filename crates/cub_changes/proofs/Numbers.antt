-- What the numbers of tenancies, visits, disks and pieces in form are.
use Rattle.std.proofs.Common.{◌≡◌, ℕ, ◌+◌, ◌-◌, ◌*◌, ◌%◌, ◌<◌, ◌≤◌, ◌&&◌, nat_lt, nat_le, zero, suc, IsTrue, arith, ap, sym, ◌∙◌, ⊎_elim}
use Rattle.std.specs.List.{AllByRecursion, range_with_len}
use Rattle.std.proofs.Math.Nat.{mod-mod_of_dvd, dvd-mul_right, mod-add-mod, add-mod_right, mod-eq_of_lt, add-mul-mod_self_right}
use Rattle.std.proofs.lemmas.Bool.{and_parts, and_from, ltb-true, leb-true, lt-ltb, le-leb}
use Rattle.tiger_base.specs.declared.tenancy.PieceState.{PieceState}
use Rattle.tiger_base.specs.declared.tenancy.Tenancy.{Tenancy}
use Rattle.tiger_base.specs.Limits.{most_visit}
use Rattle.slot_plan.specs.declared.params.Params.{Params}
use Rattle.slot_plan.specs.Conditions.{IsPlan, IsInRange}
use Rattle.slot_plan.specs.Times.{due, cub_of, disk_of, disk_count}
use Rattle.slot_plan.proofs.Times.{product_le, due_first, cub_below, disk_below}
use Rattle.mirror_pieces.specs.Pieces.{piece_disk}
use Rattle.node_kit.specs.Form.{is_tenancy, is_place, is_piece}
use Rattle.node_kit.specs.Ways.{predecessor}
use Rattle.cub_rules.specs.Ticks.{disks_at}
use Rattle.lists.specs.Elements.{In}
use Rattle.lists.proofs.Each.{all_map}

-- what a number in a range is
pub in_range : (n low count : ℕ) → In n (range_with_len low count) → (low ≤ n) × (n < low + count)
in_range n low zero i = absurd i
in_range n low (suc count) i = ⊎_elim
    (λ e. (omega (arith, e), omega (arith, e)))
    (λ k. let r = in_range n (low + 1) count k in (omega (arith, r.0), omega (arith, r.1)))
    i

pub tenancy_parts : (p : Params) (t : Tenancy) → IsTrue (is_tenancy p t) → (t.slot.0 < p.slots) × (t.first ≤ t.last) × (t.last ≤ most_visit)
tenancy_parts p t form =
    let outer = and_parts (nat_lt t.slot.0 p.slots && nat_le t.first t.last) (nat_le t.last most_visit) form in
    let inner = and_parts (nat_lt t.slot.0 p.slots) (nat_le t.first t.last) outer.0 in
    (ltb-true _ _ inner.0, leb-true _ _ inner.1, leb-true _ _ outer.1)

pub tenancy_from_parts : (p : Params) (t : Tenancy) → t.slot.0 < p.slots → t.first ≤ t.last → t.last ≤ most_visit → IsTrue (is_tenancy p t)
tenancy_from_parts p t slot order last = and_from _ _ (and_from _ _ (lt-ltb _ _ slot) (le-leb _ _ order)) (le-leb _ _ last)

pub place_parts : (p : Params) (slot visit : ℕ) → IsTrue (is_place p slot visit) → (slot < p.slots) × (visit ≤ most_visit)
place_parts p slot visit form =
    let both = and_parts (nat_lt slot p.slots) (nat_le visit most_visit) form in
    (ltb-true _ _ both.0, leb-true _ _ both.1)

pub place_from_parts : (p : Params) (slot visit : ℕ) → slot < p.slots → visit ≤ most_visit → IsTrue (is_place p slot visit)
place_from_parts p slot visit inside small = and_from _ _ (lt-ltb _ _ inside) (le-leb _ _ small)

-- a visit of a tenancy in form is in form
pub visit_in_form : (p : Params) (t : Tenancy) (visit : ℕ) → IsTrue (is_tenancy p t) → visit ≤ t.last → IsTrue (is_place p t.slot.0 visit)
visit_in_form p t visit form high =
    let parts = tenancy_parts p t form in
    place_from_parts p t.slot.0 visit parts.0 (omega (arith, parts.2))

pub state_in_form : (p : Params) (t : Tenancy) (visit : ℕ) → IsTrue (is_tenancy p t) → visit ≤ t.last → IsTrue (is_tenancy p t && nat_le visit most_visit)
state_in_form p t visit form high = and_from _ _ form (le-leb _ _ (let parts = tenancy_parts p t form in omega (arith, parts.2)))

-- the parts of a piece record in form
pub record PieceParts (p : Params) (x : PieceState) : Type 0 where
  pub tenancy : IsTrue (is_tenancy p x.tenancy)
  pub begun : x.tenancy.first ≤ x.visit
  pub not_over : x.visit ≤ x.tenancy.last
  pub low : 1 ≤ x.piece
  pub high : x.piece ≤ p.pieces

pub piece_parts : (p : Params) (x : PieceState) → IsTrue (is_piece p x) → PieceParts p x
piece_parts p x form =
    let visits = nat_le x.tenancy.first x.visit && nat_le x.visit x.tenancy.last in
    let pieces = nat_le 1 x.piece && nat_le x.piece p.pieces in
    let outer = and_parts (is_tenancy p x.tenancy && visits) pieces form in
    let inner = and_parts (is_tenancy p x.tenancy) visits outer.0 in
    let visit = and_parts (nat_le x.tenancy.first x.visit) (nat_le x.visit x.tenancy.last) inner.1 in
    let piece = and_parts (nat_le 1 x.piece) (nat_le x.piece p.pieces) outer.1 in
    record { tenancy = inner.0; begun = leb-true _ _ visit.0; not_over = leb-true _ _ visit.1; low = leb-true _ _ piece.0; high = leb-true _ _ piece.1 }

pub piece_from_parts : (p : Params) (x : PieceState) → PieceParts p x → IsTrue (is_piece p x)
piece_from_parts p x parts =
    and_from _ _ (and_from _ _ parts.tenancy (and_from _ _ (le-leb _ _ parts.begun) (le-leb _ _ parts.not_over)))
    (and_from _ _ (le-leb _ _ parts.low) (le-leb _ _ parts.high))

-- visits that are due in a run's time are few
pub visit_small : (p : Params) (slot visit time : ℕ) → IsInRange p → due p slot visit ≤ time → time ≤ 1020000000000 → visit ≤ 102000000
visit_small p slot visit time ranges early short =
    omega (arith, due_first p slot visit, product_le visit 10000 visit p.play (omega arith) ranges.play.0)

-- a cub's visit is on a disk of the cub
pub disk_own : (p : Params) (c visit : ℕ) → IsPlan p → cub_of p visit ≡ c → (disk_of p visit < disk_count p) × (disk_of p visit % p.cubs ≡ c)
unfolding cub_of disk_of
disk_own p c visit plan here = (disk_below p visit plan.ranges, mod-mod_of_dvd p.cubs visit (dvd-mul_right p.cubs p.disks) ∙ here)

-- and what is on a disk of the cub is the cub's
pub visit_own : (p : Params) (c d visit : ℕ) → disk_of p visit ≡ d → d % p.cubs ≡ c → cub_of p visit ≡ c
unfolding cub_of disk_of
visit_own p c d visit on own = sym (mod-mod_of_dvd p.cubs visit (dvd-mul_right p.cubs p.disks)) ∙ (ap (λ (n : ℕ). n % p.cubs) on ∙ own)

pub disks_own : (p : Params) (c : ℕ) → c < p.cubs → AllByRecursion (λ d. d % p.cubs ≡ c) (disks_at p c)
disks_own p c here =
    all_map (λ d. d % p.cubs ≡ c) (λ row. c + row * p.cubs) (range_with_len 0 p.disks)
    (λ row _. add-mul-mod_self_right c row p.cubs ∙ mod-eq_of_lt here)

-- a piece on the cub of its number is on a disk of the cub
pub piece_disk_own : (p : Params) (c visit piece : ℕ) → IsPlan p → cub_of p (visit + piece) ≡ c
    → (piece_disk (disk_of p visit) piece (disk_count p) < disk_count p) × (piece_disk (disk_of p visit) piece (disk_count p) % p.cubs ≡ c)
unfolding piece_disk disk_of
piece_disk_own p c visit piece plan here =
    let same : (visit % disk_count p + piece) % disk_count p ≡ (visit + piece) % disk_count p = mod-add-mod visit (disk_count p) piece in
    rw same (disk_own p c (visit + piece) plan here)

pub predecessor_below : (p : Params) (c : ℕ) → IsPlan p → predecessor p c < p.cubs
unfolding predecessor cub_of
predecessor_below p c plan = cub_below p (c + (p.cubs - 1)) plan.ranges

-- behind a visit of the predecessor stands one of the cub
pub next_own : (p : Params) (c visit : ℕ) → IsPlan p → c < p.cubs → cub_of p visit ≡ predecessor p c → cub_of p (visit + 1) ≡ c
unfolding predecessor cub_of
next_own p c visit plan here e =
    let round : (c + (p.cubs - 1) + 1) ≡ c + p.cubs = omega (arith, plan.ranges.cubs) in
    let back : ((c + (p.cubs - 1)) % p.cubs + 1) % p.cubs ≡ c =
    mod-add-mod (c + (p.cubs - 1)) p.cubs 1 ∙ (ap (λ (n : ℕ). n % p.cubs) round ∙ (add-mod_right c p.cubs ∙ mod-eq_of_lt here))
    in
    sym (mod-add-mod visit p.cubs 1) ∙ (ap (λ (n : ℕ). (n + 1) % p.cubs) e ∙ back)
