use Rattle.std.proofs.Common.{ℕ, List, [], length, get_or, refl, ap, arith}
use Rattle.std.specs.Prelude.{codes}
use Rattle.tiger_check.proofs.rows.commands.Goals as goal

abbrev letter : List (List ℕ) → ℕ
letter words = get_or (get_or words 1 []) 0 0

abbrev count : List (List ℕ) → ℕ
count words = length words

pub returns-clause-is : goal.returns-clause-is
returns-clause-is c = refl

pub returns-clause-other_name : goal.returns-clause-other_name
returns-clause-other_name c asks = let e = ap letter asks in omega (arith, e)

pub returns-clause-no_name : goal.returns-clause-no_name
returns-clause-no_name c name asks = let e = ap count asks in omega (arith, e)

pub returns-clause-known : goal.returns-clause-known
returns-clause-known c none = none (codes "a") refl
