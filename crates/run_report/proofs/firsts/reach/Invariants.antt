use Rattle.std.proofs.Common.{◌≡◌, ℕ, ◌+◌, ◌-◌}
use Rattle.std.specs.Prelude.{vec_len}
use Rattle.run_report.specs.Tables.{row_of}
use Rattle.run_report.proofs.firsts.reach.Given as goal

-- the rows are as before, but for empty ones behind them
abbrev pub invariant-loop-alloc : goal.invariant-loop-alloc
invariant-loop-alloc l = (v : ℕ) → row_of l.rows.items v ≡ row_of l.fn.rows.items v

abbrev pub decreases-loop-alloc : goal.decreases-loop-alloc
decreases-loop-alloc l = l.place + 1 - vec_len l.rows
