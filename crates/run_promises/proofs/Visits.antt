-- When a slot comes by a disk: each slot within a turn, and some slot within one part of a turn.
use Rattle.std.proofs.Common.{◌≡◌, ℕ, ◌+◌, ◌*◌, ◌/◌, ◌%◌, ◌-◌, ◌<◌, ◌≤◌, refl, ap, ◌∙◌, arith, ⊎_elim, inl, inr}
use Rattle.std.specs.Prelude.{◌⊎◌}
use Rattle.std.specs.Int.{div_ceil}
use Rattle.std.proofs.Math.Nat.{div-add-mod}
use Rattle.std.proofs.lemmas.Nat.{mod_below, mod-mul-add}
use Rattle.std.proofs.lemmas.Bool.{cases_lt}
use Rattle.slot_plan.specs.declared.params.Params.{Params}
use Rattle.slot_plan.specs.Conditions.{IsInRange}
use Rattle.slot_plan.specs.Times.{first_due, due, disk_of, disk_count}
use Rattle.slot_plan.proofs.Times.{product_le}
use Rattle.slot_plan.proofs.Turns.{first_due_below, first_from_slot, first_from_turn}
use Rattle.run_promises.specs.Waits.{turn_of}
use Rattle.run_promises.specs.Placing.{SomeSlotComesSoon}
use Rattle.run_promises.proofs.Windows.{up, up_is_first}

-- the visit of a slot on a disk in each turn
due_in_turn : (p : Params) (slot disk t : ℕ) → due p slot (disk + t * disk_count p) ≡ first_due p slot + disk * p.play + t * turn_of p
unfolding due
due_in_turn p slot disk t = omega arith

disk_in_turn : (p : Params) (disk t : ℕ) → disk < disk_count p → disk_of p (disk + t * disk_count p) ≡ disk
unfolding disk_of
disk_in_turn p disk t h =
    let turned : disk + t * disk_count p ≡ t * disk_count p + disk = omega arith in
    ap (λ (n : ℕ). n % disk_count p) turned ∙ mod-mul-add t (disk_count p) disk h

pub turn_is_long : (p : Params) → IsInRange p → 0 < turn_of p
turn_is_long p r =
    let disks = product_le 3 1 p.cubs p.disks r.cubs.0 r.disks.0 in
    omega (arith, product_le 3 10000 (disk_count p) p.play disks r.play.0)

-- the next visit of a slot on a disk from a time on is due within a turn, or in the first two turns of the run
pub record IsNext (p : Params) (slot disk time : ℕ) : Type 0 where
  pub visit : ℕ
  pub on_disk : disk_of p visit ≡ disk
  pub low : time ≤ due p slot visit
  pub high : (due p slot visit < time + turn_of p) ⊎ (due p slot visit < 2 * turn_of p)

pub next : (p : Params) (slot disk time : ℕ) → IsInRange p → slot < p.slots → disk < disk_count p → IsNext p slot disk time
next p slot disk time r in_plan small = ⊎_elim
    (λ (l : first_due p slot + disk * p.play < time).
    let gap : ℕ = time - (first_due p slot + disk * p.play) in
    let t : ℕ = up gap (turn_of p) in
    let is = due_in_turn p slot disk t in
    let first = up_is_first gap (turn_of p) (turn_is_long p r) in
    let soon : due p slot (disk + t * disk_count p) < time + turn_of p = omega (arith, is, first.1, l) in
    record { visit = disk + t * disk_count p; on_disk = disk_in_turn p disk t small; low = omega (arith, is, first.0); high = inl soon })
    (λ (g : time ≤ first_due p slot + disk * p.play).
    let is = due_in_turn p slot disk 0 in
    let low = first_due_below p slot r in_plan in
    let room = product_le (disk + 1) p.play (disk_count p) p.play (omega arith) (omega arith) in
    let soon : due p slot (disk + 0 * disk_count p) < 2 * turn_of p = omega (arith, is, low, room) in
    record { visit = disk + 0 * disk_count p; on_disk = disk_in_turn p disk 0 small; low = omega (arith, is, g); high = inr soon })
    (cases_lt (first_due p slot + disk * p.play) time)

-- ---- some slot

times_first_due : (p : Params) (slot : ℕ) → 0 < p.slots → p.slots * first_due p slot ≤ slot * turn_of p
unfolding first_due
times_first_due p slot h = omega (arith, div-add-mod (slot * disk_count p * p.play) p.slots)

ceil_is_close : (n b c : ℕ) → 0 < b → c ≡ div_ceil n b → c * b < n + b
ceil_is_close n b c h is =
    let whole = div-add-mod n b in
    let rest = mod_below n b h in
    ⊎_elim
    (λ (l : 0 < n % b). omega (arith, whole, rest, product_le c b (n / b + 1) b (omega arith) (omega arith)))
    (λ (g : n % b ≤ 0). omega (arith, whole, rest, h, product_le c b (n / b) b (omega arith) (omega arith)))
    (cases_lt 0 (n % b))

sum_times : (k a b c : ℕ) → k * (a + b + c) ≡ k * a + k * b + k * c
sum_times k a b c = omega arith

pair_times : (k a b : ℕ) → k * (a + b) ≡ k * a + k * b
pair_times k a b = omega arith

pub some_slot_comes_soon : SomeSlotComesSoon
some_slot_comes_soon p disk time ok small begun =
    let r = ok.ranges in
    let u : ℕ = turn_of p in
    let long = turn_is_long p r in
    let since : ℕ = time - disk * p.play in
    let rest : ℕ = since % u in
    let t : ℕ = since / u in
    let slot : ℕ = div_ceil (rest * p.slots) u in
    let whole : u * t + rest ≡ since = div-add-mod since u in
    let close : slot * u < rest * p.slots + u = ceil_is_close (rest * p.slots) u slot long refl in
    let is : time ≡ disk * p.play + t * u + rest = omega (arith, whole, begun) in
    let time_times : p.slots * time ≡ p.slots * (disk * p.play) + p.slots * (t * u) + p.slots * rest =
    ap (λ (n : ℕ). p.slots * n) is ∙ sum_times p.slots (disk * p.play) (t * u) rest in
    let times : (s m : ℕ) → p.slots * due p s (disk + m * disk_count p) ≡ p.slots * first_due p s + p.slots * (disk * p.play) + p.slots * (m * u) =
    λ s m. ap (λ (n : ℕ). p.slots * n) (due_in_turn p s disk m) ∙ sum_times p.slots (first_due p s) (disk * p.play) (m * u) in
    let some : 0 < p.slots = omega (arith, r.slots) in
    ⊎_elim
    (λ (l : slot < p.slots).
    let f = first_from_slot p disk disk time since slot r small refl refl refl l in
    record {
      slot = slot;
      visit = disk + t * disk_count p;
      in_plan = f.in_plan;
      on_disk = f.on_disk;
      low = f.from;
      high = omega (arith, time_times, times slot t, times_first_due p slot some, close);
    })
    (λ (g : p.slots ≤ slot).
    let f = first_from_turn p disk disk time since slot r small refl refl refl g in
    let more : (t + 1) * u ≡ t * u + u = omega arith in
    let next_turn : p.slots * ((t + 1) * u) ≡ p.slots * (t * u) + p.slots * u = ap (λ (n : ℕ). p.slots * n) more ∙ pair_times p.slots (t * u) u in
    record {
      slot = 0;
      visit = disk + (t + 1) * disk_count p;
      in_plan = f.in_plan;
      on_disk = f.on_disk;
      low = f.from;
      high = omega (arith, time_times, times 0 (t + 1), times_first_due p 0 some, close, next_turn, product_le p.slots u slot u g (omega arith));
    })
    (cases_lt slot p.slots)
