-- A plan whose window is a beat long or longer, so that some tick falls into it.
use Rattle.std.specs.Prelude.{ℕ, ◌+◌, ◌≤◌, IsTrue}
use Rattle.slot_plan.specs.declared.params.Params.{Params}
use Rattle.slot_plan.specs.Conditions.{IsPlan}
use Rattle.slot_plan.specs.Times.{due, in_window, time_of}

-- the window is a beat long or longer
abbrev pub IsWide : Params → Type 0
IsWide p = p.window_b + p.beat ≤ p.window_a

-- by a clock that is ahead by an offset, a visit is in the window at the beginning of a beat
pub record IsMet (p : Params) (offset slot visit : ℕ) : Type 0 where
  pub beat : ℕ
  pub window : IsTrue (in_window p (time_of p beat + offset) slot visit)

-- each visit whose window opens at the clock's first reading or later is in the window at the beginning of a beat
abbrev pub WideWindowsAreMet : Type 0
WideWindowsAreMet = (p : Params) (offset slot visit : ℕ) → IsPlan p → IsWide p
    → offset + p.window_a ≤ due p slot visit → IsMet p offset slot visit
