-- Deschedules of which none ends before the one that came before it, and the first of them.
use Rattle.std.specs.Prelude.{◌≡◌, ℕ, Bool, true, List, [], ◌∷◌, Option, Some, None, if◌then◌else◌}
use Rattle.std.specs.List.Sorted.{IsNonDecreasingBy}
use Rattle.deschedule.specs.declared.held.Holding.{Holding}
use Rattle.deschedule.specs.Holds.{AreHeld, is_kept}

-- none ends before the one that came before it
abbrev pub EndInOrder : List Holding → Type 0
EndInOrder holds = IsNonDecreasingBy (λ h. h.until) holds

-- what is held, with its marks; and if it is in order, none ends before the one that came before it
pub record AreHeldInOrder (in_order : Bool) (time : ℕ) (held_marks unpassed_marks : List Bool) (holds : List Holding) : Type 0 where
  pub held : AreHeld time held_marks unpassed_marks holds
  pub order : in_order ≡ true → EndInOrder holds

-- the first one, if it ends by a reading, and those that are left without it
abbrev pub first_ended : ℕ → List Holding → Option Holding
first_ended reading [] = None
first_ended reading (h ∷ hs) = if is_kept reading h then None else Some h

abbrev pub but_first_ended : ℕ → List Holding → List Holding
but_first_ended reading [] = []
but_first_ended reading (h ∷ hs) = if is_kept reading h then h ∷ hs else hs
