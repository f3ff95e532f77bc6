-- Up to which time the states of a view are forwarded, before which time its blocks are asked for,
-- and from which time on its visits are split.
use Rattle.std.specs.Prelude.{◌≡◌, ℕ, ◌<◌, ◌≤◌, Bool, true, ◌&&◌, not, nat_lt, nat_le, List}
use Rattle.std.specs.List.{AllByRecursion}
use Rattle.tiger_base.specs.Kinds.{is_own}
use Rattle.slot_plan.specs.declared.params.Params.{Params}
use Rattle.slot_plan.specs.Keys.{due_of}
use Rattle.state_forward.specs.Forwards.{next_due}
use Rattle.partial_view.specs.declared.line.Line.{Line}
use Rattle.partial_view.specs.Lines.{key_of}

-- whether the state of the next visit is still to be forwarded: of an own record below its
-- tenancy's last visit
abbrev pub is_pending : Line → Bool
is_pending x = is_own x.rec.kind && nat_lt x.rec.visit x.rec.tenancy.last && not x.forwarded

-- no state that is still to be forwarded is of a visit that is due at the limit or before it
abbrev pub IsForwardedTo : Params → ℕ → List Line → Type 0
IsForwardedTo p limit lines =
    AllByRecursion (λ x. is_pending x ≡ true → limit < next_due p x.rec) lines

-- no state that is still to be forwarded is of a visit that is due at one time or later, and at
-- another or before it
abbrev pub IsForwardedBetween : Params → ℕ → ℕ → List Line → Type 0
IsForwardedBetween p from to lines =
    AllByRecursion
    (λ x. is_pending x ≡ true → from ≤ next_due p x.rec → to < next_due p x.rec) lines

-- whether the block of a line is still to be asked for, once it is late enough: of an own record
-- that was not asked for
abbrev pub is_unasked : Line → Bool
is_unasked x = is_own x.rec.kind && not x.asked

-- no visit whose block is still to be asked for is due before the limit
abbrev pub IsAskedBefore : Params → ℕ → List Line → Type 0
IsAskedBefore p limit lines =
    AllByRecursion (λ x. is_unasked x ≡ true → limit ≤ due_of p (key_of x)) lines

-- whether the visit of a line is still to be split, once it is late enough: of a backup record that
-- was not split
abbrev pub is_unsplit : Line → Bool
is_unsplit x = not (is_own x.rec.kind) && not x.split

-- no visit that is still to be split is due at the limit or later
abbrev pub IsSplitFrom : Params → ℕ → List Line → Type 0
IsSplitFrom p limit lines =
    AllByRecursion (λ x. is_unsplit x ≡ true → due_of p (key_of x) < limit) lines

-- no visit that is still to be split is due at one time or later, and before another
abbrev pub IsSplitBetween : Params → ℕ → ℕ → List Line → Type 0
IsSplitBetween p from to lines =
    AllByRecursion
    (λ x. is_unsplit x ≡ true → from ≤ due_of p (key_of x) → to ≤ due_of p (key_of x)) lines

-- whether the visit of a line is still to be split and is due at the limit or later
abbrev pub is_unsplit_from : Params → ℕ → Line → Bool
is_unsplit_from p limit x = is_unsplit x && nat_le limit (due_of p (key_of x))
