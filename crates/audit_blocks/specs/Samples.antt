-- A catalogue and a plan by which worked logs are tried.
use Rattle.std.specs.Prelude.{ℕ, List, [], Option}
use Rattle.slot_plan.specs.Samples.{small}
use Rattle.run_facts.specs.Order.{Noted}
use Rattle.run_model.specs.Samples.{IsOfTen, ten, all, kept, of_none}
use Rattle.slot_plan.specs.Conditions.{IsPlan}
use Rattle.node_kit.specs.declared.course.Kept.{Kept}
use Rattle.audit_blocks.specs.Shares.{AreSharesOf}
use Rattle.audit_blocks.specs.Verdicts.{IsServedEntry, FindsFirst}
use Rattle.audit_blocks.specs.declared.shares.Shares.{Shares}

-- by the true time of its end, in micros, this entry of a log over the file of ten bytes is the first that is not as it
-- should be
abbrev pub FindsUnserved : IsOfTen → ℕ → List Noted → Option ℕ → Type 0
FindsUnserved sound end log answer = FindsFirst (IsServedEntry small (ten sound) (all log) end) log answer

-- so many visits are settled, and these many of them have an excuse: a failed read, a lost piece, a dead cub, a stop
abbrev pub shares : ℕ → ℕ → ℕ → ℕ → ℕ → Shares
shares settled read piece dead stopped =
    record { settled = settled; read = read; piece = piece; dead = dead; stopped = stopped }

-- a run of so many beats, with this log and no death in its course, has these
abbrev pub HasShares : ℕ → List Noted → Shares → Type 0
HasShares beats log c = (k : Kept) (p : IsPlan small) → AreSharesOf (kept k p beats of_none [] log) log c

-- and has not
abbrev pub LacksShares : ℕ → List Noted → Shares → Type 0
LacksShares beats log c = (k : Kept) (p : IsPlan small) → AreSharesOf (kept k p beats of_none [] log) log c → ⊥
