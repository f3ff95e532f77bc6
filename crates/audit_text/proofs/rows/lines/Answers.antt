use Rattle.std.proofs.Common.{◌≡◌, ◌∙◌, ℕ, List, refl, sym, ap, arith, codes}
use Rattle.std.specs.Prelude.{slice_index_or}
use Rattle.std.proofs.lemmas.Fmt.{decimal_digit}
use Rattle.audit_text.specs.Lines.{line_of}
use Rattle.audit_text.specs.Samples.{node}
use Rattle.audit_text.proofs.rows.lines.Goals as goal

pub returns-clause-node : goal.returns-clause-node
unfolding line_of
returns-clause-node c = rw (decimal_digit 3 (omega arith)) refl

pub returns-clause-death : goal.returns-clause-death
unfolding line_of
returns-clause-death c = rw (decimal_digit 2 (omega arith), decimal_digit 7 (omega arith), decimal_digit 0 (omega arith)) refl

pub returns-clause-cut_off : goal.returns-clause-cut_off
unfolding line_of
returns-clause-cut_off c =
    rw (decimal_digit 2 (omega arith), decimal_digit 7 (omega arith), decimal_digit 1 (omega arith), decimal_digit 0 (omega arith)) refl

pub returns-clause-back : goal.returns-clause-back
unfolding line_of
returns-clause-back c =
    rw (decimal_digit 2 (omega arith), decimal_digit 7 (omega arith), decimal_digit 0 (omega arith), decimal_digit 9 (omega arith)) refl

pub returns-clause-fixed : goal.returns-clause-fixed
unfolding line_of
returns-clause-fixed c = rw (decimal_digit 1 (omega arith)) refl

pub returns-clause-drawn : goal.returns-clause-drawn
unfolding line_of
returns-clause-drawn c = rw (decimal_digit 1 (omega arith)) refl

pub returns-clause-offsets : goal.returns-clause-offsets
unfolding line_of
returns-clause-offsets c = rw (decimal_digit 0 (omega arith), decimal_digit 4 (omega arith)) refl

-- the byte at a place, of the line and of another
at_place : (i : ℕ) (other : List ℕ) → line_of (node 3) ≡ other → slice_index_or (codes "node 3") i 0 ≡ slice_index_or other i 0
unfolding line_of
at_place i other same =
    let three : line_of (node 3) ≡ codes "node 3" = rw (decimal_digit 3 (omega arith)) refl in
    ap (λ (q : List ℕ). slice_index_or q i 0) (sym three ∙ same)

pub returns-clause-spaces : goal.returns-clause-spaces
returns-clause-spaces c same = absurd (omega (arith, at_place 5 (codes "node  3") same))

pub returns-clause-zeros : goal.returns-clause-zeros
returns-clause-zeros c same = absurd (omega (arith, at_place 5 (codes "node 03") same))

pub returns-clause-other : goal.returns-clause-other
returns-clause-other c same = absurd (omega (arith, at_place 5 (codes "node 4") same))
