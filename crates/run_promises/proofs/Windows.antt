-- The first beat that begins when a window has opened.
use Rattle.std.proofs.Common.{ℕ, ◌+◌, ◌*◌, ◌/◌, ◌-◌, ◌<◌, ◌≤◌, IsTrue, arith}
use Rattle.std.proofs.Math.Nat.{div-add-mod}
use Rattle.std.proofs.lemmas.Nat.{mod_below}
use Rattle.std.proofs.lemmas.Bool.{le-leb, lt-ltb}
use Rattle.slot_plan.specs.declared.params.Params.{Params}
use Rattle.slot_plan.specs.Conditions.{IsPlan}
use Rattle.slot_plan.specs.Times.{due, in_window, time_of}
use Rattle.run_model.proofs.Reflects.{and_both}
use Rattle.run_promises.specs.Windows.{IsWide, WideWindowsAreMet}

pub within : (p : Params) (slot visit reading : ℕ) → due p slot visit ≤ reading + p.window_a → reading + p.window_b < due p slot visit
    → IsTrue (in_window p reading slot visit)
unfolding in_window
within p slot visit reading opened not_closed =
    and_both _ _ (le-leb (due p slot visit) (reading + p.window_a) opened) (lt-ltb (reading + p.window_b) (due p slot visit) not_closed)

-- n divided by b, upwards: the first multiple of b that is n or more
abbrev pub up : ℕ → ℕ → ℕ
up n b = (n + b - 1) / b

pub up_is_first : (n b : ℕ) → 0 < b → (n ≤ up n b * b) × (up n b * b < n + b)
up_is_first n b h =
    let whole = div-add-mod (n + b - 1) b in
    let rest = mod_below (n + b - 1) b h in
    (omega (arith, whole, rest, h), omega (arith, whole, rest, h))

-- the first beat at whose beginning a visit's window has opened
abbrev pub opening : Params → ℕ → ℕ → ℕ → ℕ
opening p offset slot visit = up (due p slot visit - p.window_a - offset) p.beat

pub opens : (p : Params) (offset slot visit : ℕ) → IsPlan p → offset + p.window_a ≤ due p slot visit
    → (due p slot visit ≤ time_of p (opening p offset slot visit) + offset + p.window_a)
    × (time_of p (opening p offset slot visit) + offset + p.window_a < due p slot visit + p.beat)
unfolding time_of
opens p offset slot visit ok late =
    let h = up_is_first (due p slot visit - p.window_a - offset) p.beat (omega (arith, ok.ranges.beat)) in
    (omega (arith, h.0, late), omega (arith, h.1, late))

-- it is in the window there, if the window is wide
pub met : (p : Params) (offset slot visit : ℕ) → IsPlan p → IsWide p → offset + p.window_a ≤ due p slot visit
    → IsTrue (in_window p (time_of p (opening p offset slot visit) + offset) slot visit)
met p offset slot visit ok wide late =
    let o = opens p offset slot visit ok late in
    within p slot visit (time_of p (opening p offset slot visit) + offset) o.0 (omega (arith, wide, o.1))

pub wide_windows_are_met : WideWindowsAreMet
wide_windows_are_met p offset slot visit ok wide late =
    record { beat = opening p offset slot visit; window = met p offset slot visit ok wide late }
