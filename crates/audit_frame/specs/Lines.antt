-- The entries that lines tell, and those of the beats below a number that journals tell, node for node.
use Rattle.std.specs.Prelude.{ℕ, ◌+◌, nat_lt, List, [], ◌∷◌, ◌++◌, map, if◌then◌else◌}
use Rattle.std.specs.List.{flat_map}
use Rattle.node_kit.specs.declared.journal.Entry.{Entry}
use Rattle.run_facts.specs.Order.{Noted}
use Rattle.audit_frame.specs.declared.lines.Line.{Line}

-- an entry of a node
abbrev pub noted_by : ℕ → Entry → Noted
noted_by n e = record { node = n; entry = e }

-- what a line tells, and what all lines of a log do
abbrev pub noted_line : Line → Noted
noted_line line = noted_by line.node.0 line.entry.now

abbrev pub told_by : List Line → List Noted
told_by lines = map noted_line lines

-- an entry, if it is of a beat below a number
abbrev pub entry_told : ℕ → ℕ → Entry → List Noted
entry_told beats n e = if nat_lt e.stamp.beat beats then noted_by n e ∷ [] else []

abbrev pub journal_told : ℕ → ℕ → List Entry → List Noted
journal_told beats n journal = flat_map (entry_told beats n) journal

-- all journals, if the first is that of node n
abbrev pub journals_told : ℕ → ℕ → List (List Entry) → List Noted
journals_told beats n [] = []
journals_told beats n (journal ∷ rest) = journal_told beats n journal ++ journals_told beats (n + 1) rest
