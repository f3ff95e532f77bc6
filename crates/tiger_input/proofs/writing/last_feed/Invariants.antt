use Rattle.std.proofs.Common.{◌≡◌, ◌==◌, drop, None}
use Rattle.tiger_input.specs.Puts.{last_position}
use Rattle.tiger_input.proofs.writing.last_feed.Given as goal

-- there is no line feed behind
abbrev pub invariant-loop-place : goal.invariant-loop-place
invariant-loop-place l = last_position (λ byte. byte == 10) (drop l.place l.text) ≡ None
