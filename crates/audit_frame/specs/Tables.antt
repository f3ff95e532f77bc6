-- What tables have under a key.
use Rattle.std.specs.Prelude.{ℕ, Bool, ◌&&◌, ◌==◌, List, Option, Some, None, if◌then◌else◌}
use Rattle.std.specs.List.{list_any}
use Rattle.std.specs.Map.{lookup}
use Rattle.std.specs.Ordering.{is_eq, nat_cmp, ordering_then}
use Rattle.tiger_base.specs.declared.tenancy.Ask.{Ask}
use Rattle.tiger_base.specs.declared.tenancy.Tenancy.{Tenancy}

abbrev pub AskNumbers : Type 0
AskNumbers = List ((ℕ × ℕ) × (ℕ × ℕ))

abbrev pub MarkNumbers : Type 0
MarkNumbers = List (ℕ × ℕ)

abbrev pub Tenancies : Type 0
Tenancies = List (ℕ × Tenancy)

-- whether a number is in a set
abbrev pub has_number : ℕ → List ℕ → Bool
has_number n numbers = list_any (λ k. is_eq (nat_cmp n k)) numbers

-- whether a pair is
abbrev pub has_pair : ℕ → ℕ → List (ℕ × ℕ) → Bool
has_pair m n pairs = list_any (λ k. is_eq (ordering_then (nat_cmp m k.0) (nat_cmp n k.1))) pairs

-- whether two asks are one
abbrev pub same_ask : Ask → Ask → Bool
same_ask a b =
    ((a.instance.0 == b.instance.0) && (a.file.0 == b.file.0)) && ((a.count == b.count) && (a.disk.0 == b.disk.0))

-- whether an ask is in a set
abbrev pub has_ask : Ask → AskNumbers → Bool
has_ask a asks =
    list_any (λ k. is_eq (ordering_then
    (ordering_then (nat_cmp a.instance.0 k.0.0) (nat_cmp a.file.0 k.0.1))
    (ordering_then (nat_cmp a.count k.1.0) (nat_cmp a.disk.0 k.1.1)))) asks

-- the mark of a number
abbrev pub mark_under : ℕ → MarkNumbers → Option ℕ
mark_under n marks = lookup (λ k. is_eq (nat_cmp n k)) marks

-- the tenancy of a slot
abbrev pub seat_under : ℕ → Tenancies → Option Tenancy
seat_under slot seats = lookup (λ k. is_eq (nat_cmp slot k)) seats

-- a tenancy, unless a test holds of its instance
abbrev pub unless_by : (ℕ → Bool) → Option Tenancy → Option Tenancy
unless_by test None = None
unless_by test (Some t) = if test t.instance.0 then None else Some t

-- the tenancy of a slot after a Put: an instance of which the test holds gets no seat
abbrev pub seat_by : (ℕ → Bool) → Tenancies → Tenancy → ℕ → Option Tenancy
seat_by test seats t slot =
    if test t.instance.0 then seat_under slot seats
    else if t.slot.0 == slot then Some t else seat_under slot seats
