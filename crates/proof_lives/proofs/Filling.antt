-- A start that waits for a disk on which insertion puts is put, or all visits of the disk in the window have lines.
use Rattle.std.proofs.Common.{◌≡◌, ℕ, zero, suc, ◌+◌, ◌*◌, ◌<◌, ◌≤◌, ◌/◌, true, None, sym, subst, arith, ⊎_elim, inl, inr, eq-or-lt_of_le}
use Rattle.std.specs.Prelude.{◌⊎◌}
use Rattle.std.specs.List.{range_with_len}
use Rattle.std.proofs.Math.Nat.{div-add-mod}
use Rattle.std.proofs.lemmas.Bool.{cases_lt, eq-eqb}
use Rattle.tiger_base.specs.declared.number.Stamp.{Stamp}
use Rattle.tiger_base.specs.declared.tenancy.Ask.{Ask}
use Rattle.slot_plan.specs.declared.params.Params.{Params}
use Rattle.slot_plan.specs.Conditions.{IsPlan}
use Rattle.slot_plan.specs.Times.{cub_of, disk_of}
use Rattle.slot_plan.proofs.Times.{product_le}
use Rattle.node_kit.specs.Ways.{predecessor}
use Rattle.cub_rules.specs.declared.store.Store.{Store}
use Rattle.cub_rules.specs.Ticks.{disks_at, inserting}
use Rattle.cub_changes.proofs.Numbers.{disk_own}
use Rattle.lists.specs.Elements.{In}
use Rattle.lists.proofs.Elements.{in_map}
use Rattle.proof_lives.proofs.Moves.{Never, moves_closed, MovesOn}
use Rattle.proof_lives.proofs.Putting.{own_fresh, dead_fresh}
use Rattle.proof_lives.proofs.Seating.{PutOf, IsFull, full_where, full_on}
use Rattle.cub_changes.proofs.Turns.{insertion_serves}

-- the disk of a visit of the cub's own is one of its disks
in_range : (low count k : ℕ) → low ≤ k → k < low + count → In k (range_with_len low count)
in_range low zero k h l = absurd (omega arith)
in_range low (suc n) k h l = ⊎_elim (λ (e : low ≡ k). inl (sym e)) (λ (g : low < k). inr (in_range (low + 1) n k (omega arith) (omega arith))) (eq-or-lt_of_le h)

pub disk_there : (p : Params) (c n : ℕ) → IsPlan p → c ≡ cub_of p n → In (disk_of p n) (disks_at p c)
disk_there p c n plan here =
    let own = disk_own p c n plan (sym here) in
    let own0 = own.0 in
    let own1 = own.1 in
    let d : ℕ = disk_of p n in
    let row : ℕ = d / p.cubs in
    let parts = div-add-mod d p.cubs in
    let low : row < p.disks = ⊎_elim (λ l. l) (λ g. let m = product_le p.cubs p.disks p.cubs row (omega arith) g in absurd (omega arith)) (cases_lt row p.disks) in
    let e : c + row * p.cubs ≡ d = omega arith in
    subst (λ k. In k (disks_at p c)) e (in_map (λ (r : ℕ). c + r * p.cubs) row (range_with_len 0 p.disks) (in_range 0 p.disks row (omega arith) (omega arith)))

module _ (p : Params) (c : ℕ) (stamp : Stamp) (plan : IsPlan p) (disk : ℕ) (a : Ask) (h : Store) (waits : In a h.starts.waiting) (for : a.disk.0 ≡ disk) where
  abbrev pub IsServed : Type 0
  IsServed = PutOf a (inserting p c stamp h).outs ⊎ IsFull p stamp.reading disk (inserting p c stamp h).state.view.lines

  served : h.comeback ≡ None → In disk (disks_at p c) ⊎ ((h.believes ≡ true) × In disk (disks_at p (predecessor p c))) → IsServed
  served first there = ⊎_elim
      (λ w. inl (w.0, w.1, sym w.2))
      (λ w. inr (subst (λ (g : Store). IsFull p stamp.reading disk g.view.lines) w.4
      (full_on p stamp.reading disk c w.0.view.lines w.2 w.3 (full_where p stamp.reading disk w.0 plan w.1))))
      (insertion_serves (MovesOn p c Never) (moves_closed p c Never) p c stamp disk a (λ t g. (own_fresh p c stamp t g).moves)
      (λ t g. (dead_fresh p c stamp t g).moves) (eq-eqb _ _ for) h first waits there)

  pub served_here : h.comeback ≡ None → In disk (disks_at p c) → IsServed
  served_here first there = served first (inl there)

  pub served_there : h.comeback ≡ None → h.believes ≡ true → In disk (disks_at p (predecessor p c)) → IsServed
  served_there first believes there = served first (inr (believes, there))

-- insertion: a start that waits for a visit of the cub's own is put, or all such visits in the window have lines
pub inserting_full : (p : Params) (c : ℕ) (stamp : Stamp) → IsPlan p → (n : ℕ) (a : Ask) (h : Store) → h.comeback ≡ None → c ≡ cub_of p n → In a h.starts.waiting → a.disk.0 ≡ disk_of p n
    → PutOf a (inserting p c stamp h).outs ⊎ IsFull p stamp.reading (disk_of p n) (inserting p c stamp h).state.view.lines
inserting_full p c stamp plan n a h first here i e =
    served_here p c stamp plan (disk_of p n) a h i e first (disk_there p c n plan here)
