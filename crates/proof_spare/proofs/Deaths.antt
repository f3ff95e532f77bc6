-- The cubs of a kept run know the deaths of their disks, and a disk that is dead fails each read to the end of the run.
use Rattle.std.proofs.Common.{◌≡◌, ℕ, zero, suc, ◌+◌, ◌*◌, ◌/◌, ◌%◌, ◌<◌, ◌≤◌, ◌==◌, Bool, true, false, cond, get_or, map, min, List, [], ◌∷◌, Option, Some, None, refl, ap, subst, ◌∙◌, arith, ⊎_elim, inl, inr}
use Rattle.std.specs.Prelude.{◌⊎◌}
use Rattle.std.specs.List.{list_any, range_with_len}
use Rattle.std.proofs.Math.Nat.{div-lt_iff_lt-mul, dvd-mul_right, mod-mod_of_dvd, mul_comm}
use Rattle.std.proofs.lemmas.Nat.{div-add-mod'}
use Rattle.std.proofs.lemmas.Bool.{and_from, and_parts, cases_Bool, cases_lt, eqb-true, le-leb, lt-ltb}
use Rattle.slot_plan.specs.declared.params.Params.{Params}
use Rattle.slot_plan.specs.Conditions.{IsInRange}
use Rattle.slot_plan.specs.Times.{cub_of, disk_of}
use Rattle.slot_plan.proofs.Times.{disk_below}
use Rattle.node_kit.specs.declared.course.ReadFault.{ReadFault}
use Rattle.disk_core.specs.Rules.{is_faulty, strikes}
use Rattle.ring_nodes.specs.AllNodes.{faults_of}
use Rattle.disk_death.specs.Deaths.{death_of_disk, deaths_at, earlier_death, kills_disk}
use Rattle.lists.specs.Elements.{In}
use Rattle.lists.proofs.Elements.{in_filter}

-- ---- a disk that is dead fails each read

-- A fault that kills a disk, and begins in a beat or before it.
record KillsBy (faults : List ReadFault) (beats disk b : ℕ) : Type 0 where
  fault : ReadFault
  there : In fault faults
  kills : kills_disk beats disk fault ≡ true
  by : fault.from ≤ b

later_kills : (x : ReadFault) (faults : List ReadFault) (beats disk b : ℕ) → KillsBy faults beats disk b
    → KillsBy (x ∷ faults) beats disk b
later_kills x faults beats disk b k = record { fault = k.fault; there = inr k.there; kills = k.kills; by = k.by }

-- The least of two beats is one of them.
one_of : (from : ℕ) (other : Option ℕ) (b d : ℕ) → earlier_death from other ≡ Some d → d ≤ b
    → (from ≤ b) ⊎ ((e : ℕ) × (other ≡ Some e) × (e ≤ b))
one_of from None b d is le = let same : from ≡ d = cc in inl (omega arith)
one_of from (Some e) b d is le =
    let same : min from e ≡ d = cc in
    ⊎_elim
    (λ (l : b < from). inr (e, refl, omega arith))
    (λ (l : from ≤ b). inl l)
    (cases_lt b from)

killer : (faults : List ReadFault) (beats disk b d : ℕ) → death_of_disk faults beats disk ≡ Some d → d ≤ b
    → KillsBy faults beats disk b
unfolding death_of_disk
killer [] beats disk b d is le = absurd (cc)
killer (x ∷ faults) beats disk b d is le = ⊎_elim
    (λ (t : kills_disk beats disk x ≡ true).
    let first : earlier_death x.from (death_of_disk faults beats disk) ≡ Some d =
    subst
    (λ (k : Bool). cond k (earlier_death x.from (death_of_disk faults beats disk)) (death_of_disk faults beats disk) ≡ Some d)
    t is in
    ⊎_elim
    (λ (l : x.from ≤ b). record { fault = x; there = inl refl; kills = t; by = l })
    (λ o. later_kills x faults beats disk b (killer faults beats disk b o.0 o.1 o.2))
    (one_of x.from (death_of_disk faults beats disk) b d first le))
    (λ (f : kills_disk beats disk x ≡ false).
    let rest : death_of_disk faults beats disk ≡ Some d =
    subst
    (λ (k : Bool). cond k (earlier_death x.from (death_of_disk faults beats disk)) (death_of_disk faults beats disk) ≡ Some d)
    f is in
    later_kills x faults beats disk b (killer faults beats disk b d rest le))
    (cases_Bool (kills_disk beats disk x))

any_there : {X : Type 0} (test : X → Bool) (x : X) (xs : List X) → In x xs → test x ≡ true → list_any test xs ≡ true
any_there test x [] i t = absurd i
any_there {X} test x (y ∷ ys) i t = ⊎_elim
    (λ (e : x ≡ y). let here : test y ≡ true = subst (λ (z : X). test z ≡ true) e t in rw here refl)
    (λ k. ⊎_elim
    (λ (here : test y ≡ true). rw here refl)
    (λ (none : test y ≡ false). rw none (any_there test x ys k t))
    (cases_Bool (test y)))
    i

-- From its death on a disk is in a fault of its own, up to the end.
pub dead_fails : (faults : List ReadFault) (beats disk b d : ℕ) → death_of_disk faults beats disk ≡ Some d → d ≤ b → b < beats
    → is_faulty (faults_of disk faults) disk b ≡ true
unfolding is_faulty
dead_fails faults beats disk b d is le low =
    let k = killer faults beats disk b d is le in
    let parts = and_parts (k.fault.disk.0 == disk) (k.fault.until == beats) k.kills in
    let until : k.fault.until ≡ beats = eqb-true _ _ parts.1 in
    let below : b < k.fault.until = omega arith in
    any_there (strikes disk b) k.fault (faults_of disk faults)
    (in_filter (λ (x : ReadFault). x.disk.0 == disk) k.fault faults k.there parts.0)
    (and_from _ _ (and_from _ _ parts.0 (le-leb _ _ k.by)) (lt-ltb _ _ below))

-- ---- a cub knows the deaths of its disks

-- The element of a row that is mapped twice.
mapped : {X : Type 0} (f : ℕ → X) (g : ℕ → ℕ) (or : X) (first count row : ℕ) → row < count
    → get_or (map f (map g (range_with_len first count))) row or ≡ f (g (first + row))
mapped f g or first zero row low = absurd (omega arith)
mapped f g or first (suc count) zero low = ap (λ n. f (g n)) (let e : first ≡ first + 0 = omega arith in e)
mapped f g or first (suc count) (suc row) low =
    mapped f g or (first + 1) count row (omega arith)
    ∙ ap (λ n. f (g n)) (let e : first + 1 + row ≡ first + suc row = omega arith in e)

row_below : (d rows width : ℕ) → d < rows * width → 0 < width → d / width < rows
row_below d rows width low some = (div-lt_iff_lt-mul some).1 low

turned : (d cubs disks : ℕ) → d < cubs * disks → d < disks * cubs
turned d cubs disks low = subst (λ n. d < n) (mul_comm cubs disks) low

-- A disk lies on its cub, so many rows on.
row_is : (p : Params) (n : ℕ) → cub_of p n + disk_of p n / p.cubs * p.cubs ≡ disk_of p n
unfolding cub_of disk_of
row_is p n =
    let same : (n % (p.cubs * p.disks)) % p.cubs ≡ n % p.cubs = mod-mod_of_dvd p.cubs n (dvd-mul_right p.cubs p.disks) in
    let parts = div-add-mod' (n % (p.cubs * p.disks)) p.cubs in
    omega arith

pub deaths_known : (p : Params) (faults : List ReadFault) (beats n : ℕ) → IsInRange p
    → get_or (deaths_at p faults beats (cub_of p n)) (disk_of p n / p.cubs) None ≡ death_of_disk faults beats (disk_of p n)
deaths_known p faults beats n ranges =
    let few = ranges.cubs in
    let low : disk_of p n < p.cubs * p.disks = disk_below p n ranges in
    mapped (death_of_disk faults beats) (λ row. cub_of p n + row * p.cubs) None 0 p.disks (disk_of p n / p.cubs)
    (row_below (disk_of p n) p.disks p.cubs (turned (disk_of p n) p.cubs p.disks low) (omega arith))
    ∙ ap (λ row. death_of_disk faults beats (cub_of p n + row * p.cubs))
    (let e : 0 + disk_of p n / p.cubs ≡ disk_of p n / p.cubs = omega arith in e)
    ∙ ap (death_of_disk faults beats) (row_is p n)
