-- The visits of one disk, turn by turn and slot by slot, come in the order of their due times.
use Rattle.std.proofs.Common.{◌≡◌, ℕ, ◌+◌, ◌*◌, ◌/◌, ◌%◌, ◌-◌, ◌<◌, ◌≤◌, sym, ap, ◌∙◌, ◌⊎◌, subst, inl, inr, ⊎_elim, arith}
use Rattle.std.proofs.Math.Nat.{div-le_self, div-add-mod}
use Rattle.std.proofs.lemmas.Nat.{mod_below, mod-mul-add}
use Rattle.std.proofs.lemmas.Bool.{cases_lt, cases_order}
use Rattle.std.specs.Int.{div_ceil}
use Rattle.slot_plan.specs.declared.params.Params.{Params}
use Rattle.slot_plan.specs.Conditions.{IsInRange}
use Rattle.slot_plan.specs.Times.{first_due, due, disk_of, disk_count}
use Rattle.slot_plan.specs.Keys.{Key, due_of}
use Rattle.slot_plan.specs.Searches.{IsFirstFrom}
use Rattle.slot_plan.proofs.Times.{product_le}

-- the time in which a slot passes all disks
abbrev pub turn_of : Params → ℕ
turn_of p = disk_count p * p.play

turn_holds_slots : (p : Params) → IsInRange p → p.slots ≤ turn_of p
turn_holds_slots p r =
    let m = product_le 3 1 p.cubs p.disks r.cubs.0 r.disks.0 in
    omega (arith, r.slots, product_le 3 10000 (disk_count p) p.play m r.play.0)

first_due_zero : (p : Params) → first_due p 0 ≡ 0
unfolding first_due
first_due_zero p = omega (arith, div-le_self (0 * disk_count p * p.play) p.slots)

first_due_times : (p : Params) (s : ℕ) → 0 < p.slots → (p.slots * first_due p s ≤ s * turn_of p) × (s * turn_of p < p.slots * first_due p s + p.slots)
unfolding first_due
first_due_times p s h =
    let n : ℕ = s * disk_count p * p.play in
    let whole = div-add-mod n p.slots in
    let rest = mod_below n p.slots h in
    (omega arith, omega arith)

-- what is below one more is at most
less_of_product : (k a b : ℕ) → k * a < k * b + k → a ≤ b
less_of_product k a b h = ⊎_elim (λ l. absurd (omega (arith, product_le k (b + 1) k a (omega arith) (omega arith)))) (λ g. g) (cases_lt b a)

below_of_product : (k a b : ℕ) → k * a < k * b → a < b
below_of_product k a b h = ⊎_elim (λ l. l) (λ g. absurd (omega (arith, product_le k b k a (omega arith) g))) (cases_lt a b)

first_due_mono : (p : Params) (s t : ℕ) → IsInRange p → s ≤ t → first_due p s ≤ first_due p t
first_due_mono p s t r h =
    let a = first_due_times p s (omega (arith, r.slots)) in
    let b = first_due_times p t (omega (arith, r.slots)) in
    less_of_product p.slots _ _ (omega (arith, a.0, b.1, product_le s (turn_of p) t (turn_of p) h (omega arith)))

-- of two slots the later one is due later
pub first_due_rising : (p : Params) (s t : ℕ) → IsInRange p → s < t → first_due p s < first_due p t
first_due_rising p s t r h =
    let a = first_due_times p s (omega (arith, r.slots)) in
    let b = first_due_times p t (omega (arith, r.slots)) in
    let room = turn_holds_slots p r in
    below_of_product p.slots _ _ (omega (arith, a.0, b.1, product_le (s + 1) (turn_of p) t (turn_of p) (omega arith) (omega arith)))

-- a slot's first visit is due within the first turn
pub first_due_below : (p : Params) (s : ℕ) → IsInRange p → s < p.slots → first_due p s < turn_of p
first_due_below p s r h =
    let a = first_due_times p s (omega (arith, r.slots)) in
    let room = turn_holds_slots p r in
    below_of_product p.slots _ _ (omega (arith, a.0, r.slots, product_le (s + 1) (turn_of p) p.slots (turn_of p) (omega arith) (omega arith)))

ceil_covers : (x t slot : ℕ) → 0 < t → slot ≡ div_ceil x t → x ≤ slot * t
ceil_covers x t slot h e =
    let whole = div-add-mod x t in
    let part = mod_below x t h in
    ⊎_elim
    (λ l. omega (arith, product_le (x / t + 1) t slot t (omega arith) (omega arith)))
    (λ g. omega (arith, product_le (x / t) t slot t (omega arith) (omega arith)))
    (cases_lt 0 (x % t))

ceil_least : (x t slot s : ℕ) → 0 < t → slot ≡ div_ceil x t → s < slot → s * t < x
ceil_least x t slot s h e less =
    let whole = div-add-mod x t in
    let part = mod_below x t h in
    ⊎_elim
    (λ l. omega (arith, product_le s t (x / t) t (omega arith) (omega arith)))
    (λ g. omega (arith, product_le (s + 1) t (x / t) t (omega arith) (omega arith)))
    (cases_lt 0 (x % t))

-- the first slot whose first visit is due at a time of the turn or after it
slot_from : (p : Params) (rest slot s : ℕ) → IsInRange p → slot ≡ div_ceil (rest * p.slots) (turn_of p) → slot ≤ s → rest ≤ first_due p s
slot_from p rest slot s r e h =
    let room = turn_holds_slots p r in
    let enough = ceil_covers (rest * p.slots) (turn_of p) slot (omega (arith, r.slots)) e in
    let a = first_due_times p s (omega (arith, r.slots)) in
    less_of_product p.slots _ _ (omega (arith, a.1, product_le slot (turn_of p) s (turn_of p) h (omega arith)))

slot_before : (p : Params) (rest slot s : ℕ) → IsInRange p → slot ≡ div_ceil (rest * p.slots) (turn_of p) → s < slot → first_due p s < rest
slot_before p rest slot s r e h =
    let room = turn_holds_slots p r in
    let less = ceil_least (rest * p.slots) (turn_of p) slot s (omega (arith, r.slots)) e h in
    let a = first_due_times p s (omega (arith, r.slots)) in
    below_of_product p.slots _ _ (omega (arith, a.0, less))

-- when the visits of a disk are due
due_turn : (p : Params) (s d t : ℕ) → due p s (d + t * disk_count p) ≡ first_due p s + d * p.play + t * turn_of p
unfolding due
due_turn p s d t = omega arith

due_on_disk : (p : Params) (d : ℕ) (j : Key) → disk_of p j.1 ≡ d → due_of p j ≡ first_due p j.0.0 + d * p.play + (j.1 / disk_count p) * turn_of p
unfolding disk_of
due_on_disk p d j e =
    let same : d + (j.1 / disk_count p) * disk_count p ≡ j.1 = omega (arith, div-add-mod j.1 (disk_count p)) in
    subst (λ (n : ℕ). due p j.0.0 n ≡ first_due p j.0.0 + d * p.play + (j.1 / disk_count p) * turn_of p) same (due_turn p j.0.0 d (j.1 / disk_count p))

disk_of_turn : (p : Params) (d t : ℕ) → d < disk_count p → disk_of p (d + t * disk_count p) ≡ d
unfolding disk_of
disk_of_turn p d t h =
    let turned : d + t * disk_count p ≡ t * disk_count p + d = omega arith in
    ap (λ (n : ℕ). n % disk_count p) turned ∙ mod-mul-add t (disk_count p) d h

-- a time as the turns and the rest of a turn since a disk's first visit, and the first slot from that rest on
pub record IsSince (p : Params) (d time turns rest slot : ℕ) : Type 0 where
  pub disk : d < disk_count p
  pub whole : turns * turn_of p + rest ≡ time - d * p.play
  pub part : rest < turn_of p
  pub ceiling : slot ≡ div_ceil (rest * p.slots) (turn_of p)

-- a visit of the disk at the time or after it is in a later turn, or in this one and not in an earlier slot
not_before : (p : Params) (d time turns rest slot : ℕ) (j : Key) → IsInRange p → IsSince p d time turns rest slot → j.0.0 < p.slots → disk_of p j.1 ≡ d → time ≤ due_of p j
    → (turns < j.1 / disk_count p) ⊎ ((turns ≡ j.1 / disk_count p) × (slot ≤ j.0.0))
not_before p d time turns rest slot j r since in_plan on_disk late =
    let q : ℕ = j.1 / disk_count p in
    let d1 = due_on_disk p d j on_disk in
    let low = first_due_below p j.0.0 r in_plan in
    ⊎_elim
    (λ e. ⊎_elim
    (λ l. absurd (omega (arith, slot_before p rest slot j.0.0 r since.ceiling l, product_le turns (turn_of p) q (turn_of p) (omega arith) (omega arith), product_le q (turn_of p) turns (turn_of p) (omega arith) (omega arith), since.whole)))
    (λ g. inr (e, g))
    (cases_lt j.0.0 slot))
    (λ o. ⊎_elim
    (λ l. inl l)
    (λ g. absurd (omega (arith, product_le (q + 1) (turn_of p) turns (turn_of p) (omega arith) (omega arith), since.whole)))
    o)
    (cases_order turns q)

pub first_in_turn : (p : Params) (d time turns rest slot : ℕ) → IsInRange p → IsSince p d time turns rest slot → slot < p.slots
    → IsFirstFrom p d time (record { 0 = slot }, d + turns * disk_count p)
first_in_turn p d time turns rest slot r since h =
    let d0 = due_turn p slot d turns in
    let low = first_due_below p slot r h in
    record {
      in_plan = h;
      on_disk = disk_of_turn p d turns since.disk;
      from = omega (arith, since.whole, slot_from p rest slot slot r since.ceiling (omega arith));
      first = λ j in_plan on_disk late.
          let d1 = due_on_disk p d j on_disk in
          ⊎_elim
          (λ l. omega (arith, product_le (turns + 1) (turn_of p) (j.1 / disk_count p) (turn_of p) (omega arith) (omega arith)))
          (λ w. omega (arith, first_due_mono p slot j.0.0 r w.1, product_le turns (turn_of p) (j.1 / disk_count p) (turn_of p) (omega (arith, w.0)) (omega arith)))
          (not_before p d time turns rest slot j r since in_plan on_disk late);
    }

pub first_in_next_turn : (p : Params) (d time turns rest slot : ℕ) → IsInRange p → IsSince p d time turns rest slot → p.slots ≤ slot
    → IsFirstFrom p d time (record { 0 = 0 }, d + (turns + 1) * disk_count p)
first_in_next_turn p d time turns rest slot r since h =
    let d0 = due_turn p 0 d (turns + 1) in
    let none = first_due_zero p in
    record {
      in_plan = omega (arith, r.slots);
      on_disk = disk_of_turn p d (turns + 1) since.disk;
      from = omega (arith, since.whole, since.part);
      first = λ j in_plan on_disk late.
          let d1 = due_on_disk p d j on_disk in
          ⊎_elim
          (λ l. omega (arith, product_le (turns + 1) (turn_of p) (j.1 / disk_count p) (turn_of p) (omega arith) (omega arith)))
          (λ w. absurd (omega (arith, w.1)))
          (not_before p d time turns rest slot j r since in_plan on_disk late);
    }

-- two visits of a disk in one turn are one visit
same_visit : (p : Params) (d n m : ℕ) → disk_of p n ≡ d → disk_of p m ≡ d → n / disk_count p ≡ m / disk_count p → n ≡ m
unfolding disk_of
same_visit p d n m e f g =
    let a = div-add-mod n (disk_count p) in
    let b = div-add-mod m (disk_count p) in
    let c : disk_count p * (n / disk_count p) ≡ disk_count p * (m / disk_count p) = ap (λ (x : ℕ). disk_count p * x) g in
    omega arith

-- two visits of a disk that are due at one time are one visit
pub one_due : (p : Params) (d : ℕ) (a b : Key) → IsInRange p → a.0.0 < p.slots → b.0.0 < p.slots → disk_of p a.1 ≡ d → disk_of p b.1 ≡ d
    → due_of p a ≡ due_of p b → (a.0.0 ≡ b.0.0) × (a.1 ≡ b.1)
one_due p d a b r in_a in_b on_a on_b e =
    let da = due_on_disk p d a on_a in
    let db = due_on_disk p d b on_b in
    let low_a = first_due_below p a.0.0 r in_a in
    let low_b = first_due_below p b.0.0 r in_b in
    let qa : ℕ = a.1 / disk_count p in
    let qb : ℕ = b.1 / disk_count p in
    let turns : qa ≡ qb = ⊎_elim (λ s. s)
    (λ o. ⊎_elim
    (λ l. absurd (omega (arith, product_le (qa + 1) (turn_of p) qb (turn_of p) (omega arith) (omega arith))))
    (λ l. absurd (omega (arith, product_le (qb + 1) (turn_of p) qa (turn_of p) (omega arith) (omega arith))))
    o)
    (cases_order qa qb) in
    let same_first : first_due p a.0.0 ≡ first_due p b.0.0 =
    omega (arith, product_le qa (turn_of p) qb (turn_of p) (omega arith) (omega arith), product_le qb (turn_of p) qa (turn_of p) (omega arith) (omega arith)) in (
      ⊎_elim (λ s. s)
          (λ o. ⊎_elim
          (λ l. absurd (omega (arith, first_due_rising p a.0.0 b.0.0 r l)))
          (λ l. absurd (omega (arith, first_due_rising p b.0.0 a.0.0 r l)))
          o)
          (cases_order a.0.0 b.0.0),
      same_visit p d a.1 b.1 on_a on_b turns,
    )

-- the parts of a time as they are computed
since_is : (p : Params) (d time since slot : ℕ) → IsInRange p → d < disk_count p → since ≡ time - d * p.play → slot ≡ div_ceil (since % turn_of p * p.slots) (turn_of p)
    → IsSince p d time (since / turn_of p) (since % turn_of p) slot
since_is p d time since slot r h e f =
    let room = turn_holds_slots p r in
    record {
      disk = h;
      whole = omega (arith, div-add-mod since (turn_of p));
      part = mod_below since (turn_of p) (omega (arith, r.slots));
      ceiling = f;
    }

pub first_from_slot : (p : Params) (d e time since slot : ℕ) → IsInRange p → d < disk_count p → e ≡ d → since ≡ time - e * p.play → slot ≡ div_ceil (since % turn_of p * p.slots) (turn_of p)
    → slot < p.slots → IsFirstFrom p d time (record { 0 = slot }, e + since / turn_of p * disk_count p)
first_from_slot p d e time since slot r h same g f l =
    let g' : since ≡ time - d * p.play = rw (← same) g in
    subst (λ (x : ℕ). IsFirstFrom p d time (record { 0 = slot }, x + since / turn_of p * disk_count p)) (sym same)
    (first_in_turn p d time (since / turn_of p) (since % turn_of p) slot r (since_is p d time since slot r h g' f) l)

pub first_from_turn : (p : Params) (d e time since slot : ℕ) → IsInRange p → d < disk_count p → e ≡ d → since ≡ time - e * p.play → slot ≡ div_ceil (since % turn_of p * p.slots) (turn_of p)
    → p.slots ≤ slot → IsFirstFrom p d time (record { 0 = 0 }, e + (since / turn_of p + 1) * disk_count p)
first_from_turn p d e time since slot r h same g f l =
    let g' : since ≡ time - d * p.play = rw (← same) g in
    subst (λ (x : ℕ). IsFirstFrom p d time (record { 0 = 0 }, x + (since / turn_of p + 1) * disk_count p)) (sym same)
    (first_in_next_turn p d time (since / turn_of p) (since % turn_of p) slot r (since_is p d time since slot r h g' f) l)

-- the visits that are due soon after any reading have small numbers
pub turns_small : (p : Params) (d since : ℕ) → IsInRange p → d < disk_count p → since ≤ 2000000000000 → d + (since / turn_of p + 1) * disk_count p ≤ 4294967296
turns_small p d since r h l =
    omega (
      arith,
      div-add-mod since (turn_of p),
      product_le p.cubs p.disks 64 8 r.cubs.1 r.disks.1,
      product_le (since / turn_of p * disk_count p) 10000 (since / turn_of p * disk_count p) p.play (omega arith) r.play.0,
    )
