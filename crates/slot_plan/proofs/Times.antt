-- Laws of times, of due times and of the visits' cubs.
use Rattle.std.proofs.Common.{◌≡◌, ◌≢◌, ℕ, ◌+◌, ◌*◌, ◌/◌, ◌-◌, ◌<◌, ◌≤◌, ◌^◌, IsTrue, nat_lt, nat_le, Option, Some, MatchOption, sym, ap, ◌∙◌, ⊎_elim, arith}
use Rattle.std.proofs.Math.Nat.{mul-le-mul, div-le_self}
use Rattle.std.proofs.lemmas.Nat.{le-div, mod_below}
use Rattle.std.proofs.Math.Nat.{mod-add-mod, div-add-mod, add-mod_right}
use Rattle.std.proofs.lemmas.Bool.{and_parts, ltb-true, leb-true, lt-ltb, le-ltb, cases_lt}
use Rattle.slot_plan.specs.declared.params.Params.{Params}
use Rattle.slot_plan.specs.Conditions.{IsPlan, IsInRange, longest_way}
use Rattle.slot_plan.specs.Times.{first_due, due, time_of, cub_of, disk_of, disk_count, in_window, visit_by, IsLatest, WindowsApart}

-- a product is within the product of its bounds
pub product_le : (a b low high : ℕ) → a ≤ low → b ≤ high → a * b ≤ low * high
product_le a b low high g h = mul-le-mul g h

-- true times of beats
pub time_zero : (p : Params) → time_of p 0 ≡ 0
unfolding time_of
time_zero p = omega arith

pub time_one : (p : Params) → time_of p 1 ≡ p.beat
unfolding time_of
time_one p = omega arith

-- a message's longest way in beats, some times over
pub time_times : (p : Params) (d : ℕ) → time_of p (d * p.delay) ≡ d * longest_way p
unfolding time_of
time_times p d = omega arith

pub time_add : (p : Params) (b k : ℕ) → time_of p (b + k) ≡ time_of p b + time_of p k
unfolding time_of
time_add p b k = omega arith

pub time_next : (p : Params) (b : ℕ) → time_of p (b + 1) ≡ time_of p b + p.beat
unfolding time_of
time_next p b = omega arith

pub time_mono : (p : Params) (b c : ℕ) → b ≤ c → time_of p b ≤ time_of p c
unfolding time_of
time_mono p b c h = product_le b p.beat c p.beat h (omega arith)

pub time_below : (p : Params) (b c : ℕ) → time_of p b < time_of p c → b < c
time_below p b c h = ⊎_elim (λ l. l) (λ g. absurd (omega (arith, time_mono p c b g))) (cases_lt b c)

-- a first due time leaves room in 64 bits
pub first_due_fits : (p : Params) (s : ℕ) → IsInRange p → s < p.slots → first_due p s ≤ 209715200000000
unfolding first_due
first_due_fits p s r hs =
    let m : p.cubs * p.disks ≤ 64 * 8 = product_le _ _ 64 8 r.cubs.1 r.disks.1 in
    let a : s * (p.cubs * p.disks) ≤ 4096 * 512 = product_le _ _ 4096 512 (omega (arith, r.slots)) m in
    let b : s * (p.cubs * p.disks) * p.play ≤ 2097152 * 100000000 = product_le _ _ 2097152 100000000 a r.play.1 in
    let d : s * (p.cubs * p.disks) * p.play / p.slots ≤ s * (p.cubs * p.disks) * p.play = div-le_self _ _ in
    omega arith

pub visits_fit : (p : Params) (n : ℕ) → IsInRange p → n ≤ 4294967296 → n * p.play ≤ 429496729600000000
visits_fit p n r h = product_le n p.play 4294967296 100000000 h r.play.1

-- a due time leaves room in 64 bits
pub due_fits : (p : Params) (s n : ℕ) → IsInRange p → s < p.slots → n ≤ 4294967296 → due p s n ≤ 2 ^ 63
unfolding due
due_fits p s n r hs hn = omega (arith, first_due_fits p s r hs, visits_fit p n r hn)

-- visits of a slot are a block play time apart
pub due_first : (p : Params) (s n : ℕ) → due p s n ≡ due p s 0 + n * p.play
unfolding due
due_first p s n = omega arith

pub due_next : (p : Params) (s n : ℕ) → due p s (n + 1) ≡ due p s n + p.play
unfolding due
due_next p s n = omega arith

pub due_add : (p : Params) (s n k : ℕ) → due p s (n + k) ≡ due p s n + k * p.play
unfolding due
due_add p s n k = omega arith

pub due_mono : (p : Params) (s n m : ℕ) → n ≤ m → due p s n ≤ due p s m
due_mono p s n m h =
    omega (arith, product_le n p.play m p.play h (omega arith), due_first p s n, due_first p s m)

pub due_later : (p : Params) (s n m : ℕ) → n < m → due p s n + p.play ≤ due p s m
due_later p s n m h = omega (arith, due_mono p s (n + 1) m (omega arith), due_next p s n)

-- a visit that is not a slot's first is due a block play time after the start
pub due_pos : (p : Params) (s n : ℕ) → 1 ≤ n → p.play ≤ due p s n
due_pos p s n h = omega (arith, due_later p s 0 n (omega arith))

-- the whole play times since a slot's first visit give its last one
pub latest : (p : Params) (s time : ℕ) → 0 < p.play → due p s 0 ≤ time → IsLatest p s time ((time - due p s 0) / p.play)
latest p s time h b =
    record { begun = omega (arith, due_first p s ((time - due p s 0) / p.play)); latest = λ m e. le-div m _ _ h (omega (arith, due_first p s m)) }

pub visit_by_latest : (p : Params) (s time : ℕ) (o : Option ℕ) → IsInRange p → o ≡ visit_by p s time → MatchOption o (time < due p s 0) (λ n. IsLatest p s time n)
unfolding visit_by
visit_by_latest p s time o r e =
    ⊎_elim
    (λ l. let t = lt-ltb time (due p s 0) l in rw (e, t) l)
    (λ g. let t = le-ltb time (due p s 0) g in rw (e, t) (latest p s time (omega (arith, r.play)) g))
    (cases_lt time (due p s 0))

-- what a visit's window is
pub window_parts : (p : Params) (reading s n : ℕ) → IsTrue (in_window p reading s n) → (due p s n ≤ reading + p.window_a) × (reading + p.window_b < due p s n)
unfolding in_window
window_parts p reading s n h =
    let both = and_parts (nat_le (due p s n) (reading + p.window_a)) (nat_lt (reading + p.window_b) (due p s n)) h in
    (leb-true _ _ both.0, ltb-true _ _ both.1)

-- the windows of a slot's visits never overlap
pub windows_apart : (p : Params) → IsPlan p → WindowsApart p
windows_apart p ok =
    record {
      apart = λ s n t later reading later_reading h g w v.
          omega (arith, ok, window_parts p reading s n w, window_parts p later_reading s (n + 1) v, due_next p s n);
    }

-- a visit in the window is the last of its slot that is due when the window opens
pub in_window_visit_by : (p : Params) (reading s n : ℕ) → IsPlan p → IsTrue (in_window p reading s n) → visit_by p s (reading + p.window_a) ≡ Some n
unfolding visit_by
in_window_visit_by p reading s n ok w =
    let parts = window_parts p reading s n w in
    let least = due_mono p s 0 n (omega arith) in
    let last = latest p s (reading + p.window_a) (omega (arith, ok.ranges.play)) (omega arith) in
    let m : ℕ = (reading + p.window_a - due p s 0) / p.play in
    let low : n ≤ m = last.latest n parts.0 in
    let high : m ≤ n = ⊎_elim (λ l. absurd (omega (arith, ok.c2, ok.ranges.play, due_later p s n m l, last.begun))) (λ g. g) (cases_lt n m) in
    let same : m ≡ n = omega arith in
    rw (le-ltb (reading + p.window_a) (due p s 0) (omega arith), same)

-- a cub's number is below the number of cubs, and a disk's below that of disks
pub cub_below : (p : Params) (n : ℕ) → IsInRange p → cub_of p n < p.cubs
unfolding cub_of
cub_below p n r = mod_below n p.cubs (omega (arith, r.cubs))

-- a plan has seven cubs or more
pub seven_cubs : (p : Params) → IsPlan p → 7 ≤ p.cubs
seven_cubs p ok =
    ⊎_elim
    (λ l. absurd (omega (arith, ok.c5, ok.c6, ok.c7, ok.ranges.play, product_le p.cubs p.play 6 p.play (omega arith) (omega arith))))
    (λ g. g)
    (cases_lt p.cubs 7)

pub disk_below : (p : Params) (n : ℕ) → IsInRange p → disk_of p n < disk_count p
unfolding disk_of
disk_below p n r = mod_below n (p.cubs * p.disks) (omega (arith, r.cubs, product_le 3 1 p.cubs p.disks r.cubs.0 r.disks.0))

-- the cubs follow one another round the ring
pub cub_ahead : (p : Params) (n k : ℕ) → cub_of p (cub_of p n + k) ≡ cub_of p (n + k)
unfolding cub_of
cub_ahead p n k = mod-add-mod n p.cubs k

-- two visits less than a round apart are on different cubs
pub cub_apart : (p : Params) (n k : ℕ) → 0 < k → k < p.cubs → cub_of p n ≢ cub_of p (n + k)
unfolding cub_of
cub_apart p n k low high e =
    let a = div-add-mod n p.cubs in
    let b = div-add-mod (n + k) p.cubs in
    ⊎_elim
    (λ l. omega (arith, product_le p.cubs (n / p.cubs + 1) p.cubs ((n + k) / p.cubs) (omega arith) (omega (arith, l))))
    (λ g. omega (arith, product_le p.cubs ((n + k) / p.cubs) p.cubs (n / p.cubs) (omega arith) g))
    (cases_lt (n / p.cubs) ((n + k) / p.cubs))

-- of two visits less than a round apart on one cub there is one
pub same_cub : (p : Params) (n m : ℕ) → cub_of p n ≡ cub_of p m → n ≤ m → m < n + p.cubs → n ≡ m
same_cub p n m e low high =
    ⊎_elim
    (λ l.
    let far : n + (m - n) ≡ m = omega arith in
    absurd (cub_apart p n (m - n) (omega arith) (omega arith) (e ∙ ap (λ (x : ℕ). cub_of p x) (sym far))))
    (λ g. omega arith)
    (cases_lt n m)

-- a round later the cub is the same
pub cub_round : (p : Params) (n : ℕ) → cub_of p n ≡ cub_of p (n + p.cubs)
unfolding cub_of
cub_round p n = sym (add-mod_right n p.cubs)
