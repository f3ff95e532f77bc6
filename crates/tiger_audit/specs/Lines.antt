-- What is written of a run that meets all clauses.
use Rattle.std.specs.Prelude.{ℕ, List, ◌++◌, codes}
use Rattle.audit_verdict.specs.Counting.{Shares}
use Rattle.audit_verdict.specs.declared.counts.Counts.{Counts}
use Rattle.audit_verdict.specs.declared.counts.EntryCounts.{EntryCounts}
use Rattle.tiger_input.specs.Statuses.{worded}

-- how many entries there are in a run
abbrev pub entries_line : EntryCounts → List ℕ
entries_line c =
    worded (codes "entries ") c.all ++ worded (codes " puts ") c.puts
    ++ worded (codes " stops ") c.stops ++ worded (codes " deaths ") c.deaths
    ++ worded (codes " blocks ") c.blocks ++ worded (codes " pieces ") c.pieces

-- how many of its visits are settled, and how many of them have which excuse
abbrev pub visits_line : Shares → List ℕ
visits_line v =
    worded (codes " settled ") v.settled ++ worded (codes " read ") v.read ++ worded (codes " piece ") v.piece
    ++ worded (codes " dead ") v.dead ++ worded (codes " stopped ") v.stopped

-- that it meets all clauses, and how much there is in it
abbrev pub yes_text : Counts → List ℕ
yes_text c = codes "audit yes\n" ++ entries_line c.entries ++ visits_line c.visits ++ codes "\n"
