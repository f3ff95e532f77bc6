-- Due times of any slots and visits leave room in 128 bits.
use Rattle.std.proofs.Common.{ℕ, ◌*◌, ◌/◌, ◌<◌, ◌≤◌, ◌^◌, arith}
use Rattle.std.proofs.Math.Nat.{div-le_self}
use Rattle.slot_plan.specs.declared.params.Params.{Params}
use Rattle.slot_plan.specs.Conditions.{IsInRange}
use Rattle.slot_plan.specs.Times.{first_due, due}
use Rattle.slot_plan.proofs.Times.{product_le}

first_due_small : (p : Params) (s : ℕ) → IsInRange p → s < 2 ^ 32 → first_due p s ≤ 4294967296 * 512 * 100000000
unfolding first_due
first_due_small p s r hs =
    let m : p.cubs * p.disks ≤ 64 * 8 = product_le _ _ 64 8 r.cubs.1 r.disks.1 in
    let a : s * (p.cubs * p.disks) ≤ 4294967296 * 512 = product_le _ _ 4294967296 512 (omega arith) m in
    let b : s * (p.cubs * p.disks) * p.play ≤ 2199023255552 * 100000000 = product_le _ _ 2199023255552 100000000 a r.play.1 in
    let d : s * (p.cubs * p.disks) * p.play / p.slots ≤ s * (p.cubs * p.disks) * p.play = div-le_self _ _ in
    omega arith

visits_small : (p : Params) (n : ℕ) → IsInRange p → n < 2 ^ 64 → n * p.play ≤ 18446744073709551616 * 100000000
visits_small p n r h = product_le n p.play 18446744073709551616 100000000 (omega arith) r.play.1

pub due_small : (p : Params) (s n : ℕ) → IsInRange p → s < 2 ^ 32 → n < 2 ^ 64 → due p s n < 2 ^ 100
unfolding due
due_small p s n r hs hn = omega (arith, first_due_small p s r hs, visits_small p n r hn)
