use Rattle.std.proofs.Common.{◌≡◌, ◌<◌, ◌≤◌, ℕ, length, get_or, []}
use Rattle.audit_frame.specs.Shelves.{HasCleared}
use Rattle.audit_frame.proofs.shelf.clear_rows.Given as goal

-- the rows so far are cleared, and the others as before
abbrev pub invariant-loop-place : goal.invariant-loop-place
invariant-loop-place l = record {
  size : length l.rows.items ≡ length l.fn.rows.items;
  cleared : (n : ℕ) → n < l.place → HasCleared l.cub.0 (get_or l.fn.rows.items n []) (get_or l.rows.items n []);
  rest : (n : ℕ) → l.place ≤ n → get_or l.rows.items n [] ≡ get_or l.fn.rows.items n [];
}
