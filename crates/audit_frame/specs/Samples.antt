-- A claim and two logs, by which the words of this crate are tried.
use Rattle.std.specs.Prelude.{◌≡◌, List, [], ◌∷◌}
use Rattle.std.specs.List.{AllByRecursion}
use Rattle.run_facts.specs.Order.{Noted}
use Rattle.run_model.specs.Samples.{dies}

-- all entries are node 0's
abbrev pub AreOfFirstNode : List Noted → Type 0
AreOfFirstNode log = AllByRecursion (λ x. x.node ≡ 0) log

-- an entry of node 0; and behind it one of node 1
abbrev pub one_line : List Noted
one_line = dies 0 1 ∷ []

abbrev pub two_lines : List Noted
two_lines = dies 0 1 ∷ dies 1 2 ∷ []
