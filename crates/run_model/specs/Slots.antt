-- The schedule as a list of tenancies, by slot.
use Rattle.std.specs.Prelude.{◌≡◌, ℕ, suc, ◌<◌, ◌-◌, ◌==◌, nat_lt, Bool, false, List, [], ◌∷◌, length, take, map, filter, find, Option, Some, None, if◌then◌else◌}
use Rattle.std.specs.List.{AllByRecursion, fold, list_any}
use Rattle.tiger_base.specs.declared.tenancy.Tenancy.{Tenancy}
use Rattle.node_kit.specs.declared.journal.Entry.{Entry}
use Rattle.run_facts.specs.Order.{Noted}
use Rattle.run_model.specs.declared.slots.Walk.{Walk}
use Rattle.run_model.specs.Schedule.{Schedule, after_entry, is_stopped}

-- one tenancy a slot, in the order of the slots
abbrev pub AreBySlot : List Tenancy → Type 0
AreBySlot [] = Unit {0}
AreBySlot (t ∷ ts) = AllByRecursion (λ u. t.slot.0 < u.slot.0) ts × AreBySlot ts

-- the tenancy of a slot
abbrev pub tenancy_at : ℕ → List Tenancy → Option Tenancy
tenancy_at slot ts = find (λ t. t.slot.0 == slot) ts

-- the list has exactly the tenancies that a map from slot to tenancy has
pub record AreSlotsOf (holder : ℕ → Option Tenancy) (ts : List Tenancy) : Type 0 where
  pub by_slot : AreBySlot ts
  pub same : (slot : ℕ) → tenancy_at slot ts ≡ holder slot

-- how many tenancies stand before the first one whose slot is not lower
abbrev pub lower_slots : ℕ → List Tenancy → ℕ
lower_slots slot [] = 0
lower_slots slot (u ∷ us) = if nat_lt u.slot.0 slot then suc (lower_slots slot us) else 0

-- whether the tenancy at an index has a slot
abbrev pub is_of_slot : ℕ → Option Tenancy → Bool
is_of_slot slot None = false
is_of_slot slot (Some u) = u.slot.0 == slot

-- a list by slot, with one more tenancy in its place, in place of the slot's own where it has one
abbrev pub seated : Tenancy → List Tenancy → List Tenancy
seated t [] = t ∷ []
seated t (u ∷ us) =
    if u.slot.0 == t.slot.0 then t ∷ us
    else if nat_lt t.slot.0 u.slot.0 then t ∷ u ∷ us
    else u ∷ seated t us

-- what a walk along the order knows is the schedule: the tenancies by slot, and who was stopped
pub record Shows (w : Walk) (s : Schedule) : Type 0 where
  pub slots : AreSlotsOf s.holder w.slots.items
  pub stopped : (v : ℕ) → list_any (λ instance. instance.0 == v) w.stopped.items ≡ is_stopped v s.stops

-- a walk went past these entries, or past as many of them as were left
pub record Walks (old new : Walk) (xs : List Noted) : Type 0 where
  pub shows : (s : Schedule) → Shows old s → Shows new (fold after_entry s (take old.left xs))
  pub left : new.left ≡ old.left - length xs

-- the entries of one node in a beat
abbrev pub beat_entries : ℕ → ℕ → List Entry → List Noted
beat_entries beat n journal = map (λ e. record { node = n; entry = e }) (filter (λ e. e.stamp.beat == beat) journal)
