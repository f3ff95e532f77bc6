-- The deschedules that are held, as a map from instances.
use Rattle.std.specs.Prelude.{◌≡◌, ℕ, ◌≤◌, Bool, true, false, ◌==◌, ◌&&◌, not, nat_lt, List, [], ◌∷◌, ◌++◌, map, filter, if◌then◌else◌}
use Rattle.std.specs.List.{AllByRecursion, list_any}
use Rattle.tiger_base.specs.declared.number.Instance.{Instance}
use Rattle.deschedule.specs.declared.held.Holding.{Holding}
use Rattle.instance_marks.specs.Marks.{AreMarked}

abbrev pub is_of : Instance → Holding → Bool
is_of v h = h.instance.0 == v.0

-- whether the instance is held
abbrev pub is_held : List Holding → Instance → Bool
is_held holds v = list_any (is_of v) holds

-- at most one deschedule of an instance is held
abbrev pub IsOnce : List Holding → Type 0
IsOnce [] = Unit {0}
IsOnce (h ∷ hs) = (is_held hs h.instance ≡ false) × IsOnce hs

-- none ends before a given time
abbrev pub AreFrom : ℕ → List Holding → Type 0
AreFrom time holds = AllByRecursion (λ h. time ≤ h.until) holds

-- all that is held, with a further instance until a reading, unless it is held already
abbrev pub with_hold : List Holding → Instance → ℕ → List Holding
with_hold holds v until =
    if is_held holds v then holds
    else holds ++ record { instance = v; until = until; passed = false } ∷ []

-- whether the instance is held, and was not passed on
abbrev pub must_pass : List Holding → Instance → Bool
must_pass holds v = list_any (λ h. is_of v h && not h.passed) holds

-- at most one deschedule of an instance is held, none ends before a given time, and two rows of
-- marks tell which instances are held and which are to be passed on
pub record AreHeld (time : ℕ) (held_marks unpassed_marks : List Bool) (holds : List Holding) : Type 0 where
  pub once : IsOnce holds
  pub from : AreFrom time holds
  pub held : AreMarked held_marks (is_held holds)
  pub unpassed : AreMarked unpassed_marks (must_pass holds)

-- what is held, passed on if it is of the instance
abbrev pub once_passed : Instance → Holding → Holding
once_passed v h = if is_of v h then record h { passed = true } else h

-- all that is held, with the instance passed on
abbrev pub with_pass : List Holding → Instance → List Holding
with_pass holds v = map (once_passed v) holds

-- whether it is held still at a reading
abbrev pub is_kept : ℕ → Holding → Bool
is_kept reading h = nat_lt reading h.until

-- whether a deschedule of the instance ends by a reading
abbrev pub has_ended : List Holding → ℕ → Instance → Bool
has_ended holds reading v = list_any (λ h. is_of v h && not (is_kept reading h)) holds

-- what is held still at a reading
abbrev pub holds_at : List Holding → ℕ → List Holding
holds_at holds reading = filter (is_kept reading) holds
