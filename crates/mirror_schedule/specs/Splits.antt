-- Visits that were split: whose, their slots and their numbers.
use Rattle.std.specs.Prelude.{◌≡◌, ℕ, ◌+◌, ◌^◌, ◌≤◌, ◌<◌, ◌&&◌, ◌==◌, nat_le, nat_lt, Bool, true, false, List, [], ◌∷◌, length, take, get_or, Option, Some, None, if◌then◌else◌}
use Rattle.std.specs.List.{AllByRecursion, filter}
use Rattle.tiger_base.specs.declared.number.Instance.{Instance}
use Rattle.tiger_base.specs.declared.number.SlotNo.{SlotNo}
use Rattle.instance_marks.specs.Marks.{IsNoted}
use Rattle.slot_plan.specs.declared.params.Params.{Params}
use Rattle.slot_plan.specs.Keys.{Key, IsKey, due_of}
use Rattle.mirror_schedule.specs.Sorted.{is_less, IsSorted, with_one, in_order}
use Rattle.mirror_schedule.specs.Timed.{end_of}

-- an instance, a slot and a visit
abbrev pub Split : Type 0
Split = Instance × SlotNo × ℕ

-- the slot and the visit
abbrev pub key_of : Split → Key
key_of x = (x.1, x.2)

-- the slot is one of the plan's, and the visit is in reach of the calls
abbrev pub IsSplitOf : Params → Split → Type 0
IsSplitOf p x = IsKey p (key_of x)

-- whether it is of an instance
abbrev pub is_of : Instance → Split → Bool
is_of instance x = x.0.0 == instance.0

-- whether its play time is over at a reading
unfoldable pub is_over : Params → ℕ → Split → Bool
is_over p reading x = nat_le (due_of p (key_of x) + p.play) reading

-- whether it comes before another one: by slot, then visit, then instance
unfoldable pub split_before : Split → Split → Bool
split_before a b = is_less (a.1.0 ∷ a.2 ∷ a.0.0 ∷ []) (b.1.0 ∷ b.2 ∷ b.0.0 ∷ [])

-- some split visits with one more at its place in the order; one that is there stays as it is
unfoldable pub with_split : Split → List Split → List Split
with_split x items = with_one split_before x items

-- split visits of any order, put in this order
abbrev pub by_slot : List Split → List Split
by_slot items = in_order split_before items

-- the end that stands beside a visit: of its play time, if it may be one of the plan's
abbrev pub kept_end : Params → Key → ℕ
kept_end p k = if nat_lt k.0.0 p.slots && nat_le k.1 (2 ^ 32) then end_of p k else 0

-- whether a visit ends before another one, or at the same time and comes before it
unfoldable pub ends_before : Split × ℕ → Split × ℕ → Bool
ends_before a b = is_less (a.1 ∷ a.0.1.0 ∷ a.0.2 ∷ a.0.0.0 ∷ []) (b.1 ∷ b.0.1.0 ∷ b.0.2 ∷ b.0.0.0 ∷ [])

-- split visits beside their ends, in the order of these, each once
pub record AreKept (p : Params) (items : List (Split × ℕ)) : Type 0 where
  pub order : IsSorted ends_before items
  pub ends : AllByRecursion (λ x. x.1 ≡ kept_end p (key_of x.0)) items

-- each instance that one of them is of is noted
abbrev pub AreNoted : List Bool → List (Split × ℕ) → Type 0
AreNoted marks items = AllByRecursion (λ x. IsNoted marks x.0.0) items

-- split visits that are kept so, and whose instances are noted
pub record AreKeptNoted (p : Params) (marks : List Bool) (items : List (Split × ℕ)) : Type 0 where
  pub kept : AreKept p items
  pub noted : AreNoted marks items

-- whether a visit comes before one that was found, if one was
abbrev pub is_sooner : Split → Option (Split × ℕ) → Bool
is_sooner x None = true
is_sooner x (Some found) = split_before x found.0

-- one of some is of an instance, or none
abbrev pub HasOneOf : Instance → List (Split × ℕ) → Type 0
HasOneOf instance items = length (filter (λ x. is_of instance x.0) items) ≤ 1

-- a visit of an instance, and its place among some; none of the instance comes before it, of as many as were looked at
pub record IsFoundFor (instance : Instance) (items : List (Split × ℕ)) (many : ℕ) (found : Split × ℕ) : Type 0 where
  pub inside : found.1 < length items
  pub at : (get_or items found.1 found).0 ≡ found.0
  pub own : is_of instance found.0 ≡ true
  pub first : AllByRecursion (λ x. is_of instance x.0 ≡ true → split_before x.0 found.0 ≡ false) (take many items)

-- what was found if there was one
abbrev pub IsSoonestOf : Instance → List (Split × ℕ) → ℕ → Option (Split × ℕ) → Type 0
IsSoonestOf instance items many None = AllByRecursion (λ x. is_of instance x.0 ≡ false) (take many items)
IsSoonestOf instance items many (Some found) = IsFoundFor instance items many found
