-- What is said of how the command ended.
use Rattle.std.specs.Prelude.{ℕ, List, [], ◌++◌, Option, None, Some, codes}
use Rattle.audit_read.specs.declared.read.TextStop.{TextStop}
use Rattle.audit_read.specs.declared.read.TextStop.TheVariants as stops
use Rattle.audit_verdict.specs.Clauses.{number_of_clause}
use Rattle.audit_verdict.specs.declared.clause.Clause.{Clause}
use Rattle.audit_verdict.specs.declared.place.Place.{Place}
use Rattle.audit_verdict.specs.declared.place.Place.TheVariants as places
use Rattle.outside.specs.declared.files.FileFault.{FileFault}
use Rattle.outside.specs.declared.files.FileFault.TheVariants as files
use Rattle.tiger_input.specs.Ending.{IsRefusal}
use Rattle.tiger_input.specs.Statuses.{worded, line_of, exit_of}
use Rattle.tiger_input.specs.declared.status.Status.TheVariants as statuses
use Rattle.tiger_audit.specs.declared.status.AuditStatus.{AuditStatus}
use Rattle.tiger_audit.specs.declared.status.AuditStatus.TheVariants as ends

-- ---- places

-- the line of a place behind a word, if it has one
abbrev pub line_words : List ℕ → Option ℕ → List ℕ
line_words word None = []
line_words word (Some line) = worded word line

-- something numbered, with its line
abbrev pub numbered_words : List ℕ → ℕ → Option ℕ → List ℕ
numbered_words word n line = worded word n ++ line_words (codes ", line ") line

-- a tick, with the line of the last entry up to it
abbrev pub tick_words : ℕ → ℕ → Option ℕ → List ℕ
tick_words cub beat line =
    worded (codes "the tick of cub ") cub ++ worded (codes " in beat ") beat
    ++ line_words (codes ", behind line ") line

-- a place and its line
abbrev pub place_words : Place → Option ℕ → List ℕ
place_words (places.Entry e) line = numbered_words (codes "node ") e.node.0 line ++ codes ""
place_words (places.Order i) line = numbered_words (codes "order ") i line ++ codes ""
place_words (places.Death node) line =
    numbered_words (codes "node ") node.0 line ++ codes ", whose death is missing"
place_words (places.Neighbours cub) line =
    numbered_words (codes "cub ") cub.0 line ++ codes ", whose neighbour dies too"
place_words (places.Tick cub beat last) line = tick_words cub.0 beat line

-- ---- ends

-- a text that is none
abbrev pub text_line : ℕ → List ℕ
text_line line = worded (codes "tiger: journal line ") line ++ codes "\n"

-- a broken clause, and where
abbrev pub verdict_line : Clause → Place → Option ℕ → List ℕ
verdict_line c here line =
    worded (codes "tiger: audit clause ") (number_of_clause c) ++ codes "\ntiger: at "
    ++ place_words here line ++ codes "\n"

-- the lines on standard error; none if the run meets all clauses
abbrev pub audit_line : AuditStatus → List ℕ
audit_line (ends.Run status) = line_of status
audit_line (ends.Journal line) = text_line line
audit_line (ends.Audit c here line) = verdict_line c here line

-- the number that the program ends with
abbrev pub audit_exit : AuditStatus → ℕ
audit_exit (ends.Run status) = exit_of status
audit_exit (ends.Journal line) = 10
audit_exit (ends.Audit c here line) = 9

-- the text was refused, or the run that it keeps
abbrev pub IsAuditRefusal : AuditStatus → Type 0
IsAuditRefusal (ends.Run status) = IsRefusal status
IsAuditRefusal (ends.Journal line) = Unit {0}
IsAuditRefusal (ends.Audit c here line) = Unit {0}

-- ---- what a fault below is here

abbrev pub most_text : ℕ
most_text = 268435456

abbrev pub end_by_file : FileFault → AuditStatus
end_by_file files.Failed = ends.Run (statuses.ReadFault None)
end_by_file files.Absent = ends.Run (statuses.Absent None)
end_by_file (files.TooLong given) = ends.Run (statuses.TooLong None given most_text)
end_by_file files.NoMemory = ends.Run statuses.NoMemory

abbrev pub end_by_text : TextStop → AuditStatus
end_by_text (stops.Fault line) = ends.Journal line
end_by_text stops.NoMemory = ends.Run statuses.NoMemory
