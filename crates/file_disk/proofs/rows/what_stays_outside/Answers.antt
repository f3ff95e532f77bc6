use Rattle.std.proofs.Common.{◌≡◌, ℕ, inl, inr, arith}
use Rattle.file_disk.proofs.rows.what_stays_outside.Goals as goal

pub returns-clause-before : goal.returns-clause-before
returns-clause-before c = λ same.
    let e : ◌≡◌ {A = ℕ} 120 49 = same 0 (inl (omega arith)) in omega (arith, e)

pub returns-clause-behind : goal.returns-clause-behind
returns-clause-behind c = λ same.
    let e : ◌≡◌ {A = ℕ} 50 0 = same 1 (inr (omega arith)) in omega (arith, e)
