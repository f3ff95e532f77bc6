use Rattle.std.proofs.Common.{◌≡◌, ◌++◌, drop, string_bytes}
use Rattle.scenario_check.specs.Lines.{condition_lines}
use Rattle.scenario_check.proofs.conditions.lines_of.Given as goal

abbrev pub invariant-loop-condition : goal.invariant-loop-condition
invariant-loop-condition l = string_bytes l.text ++ condition_lines (drop l.condition-index l.conditions) ≡ condition_lines l.conditions
