-- The report as text: each line ends with one line feed, and numbers are decimal.
use Rattle.std.specs.Prelude.{ℕ, ◌+◌, ◌<◌, ◌^◌, List, [], ◌∷◌, ◌++◌, length, Option, Some, None, All, slice_get, codes}
use Rattle.std.specs.Fmt.{decimal}
use Rattle.std.specs.List.{flat_map}
use Rattle.hex.specs.Hex.{encode_lower}
use Rattle.sha2.specs.Sha256.{sha256}
use Rattle.tiger_base.specs.declared.tenancy.Tenancy.{Tenancy}
use Rattle.node_kit.specs.declared.course.Digest32.{Digest32}
use Rattle.node_kit.specs.declared.course.Kept.{Kept}
use Rattle.run_report.specs.declared.outcome.BlockKind.{BlockKind}
use Rattle.run_report.specs.declared.outcome.BlockKind.TheVariants as kind
use Rattle.run_report.specs.declared.outcome.BlockOut.{BlockOut}
use Rattle.run_report.specs.declared.outcome.Outcome.{Outcome}
use Rattle.run_report.specs.declared.outcome.Reason.{Reason}
use Rattle.run_report.specs.declared.outcome.Reason.TheVariants as reason
use Rattle.run_report.specs.declared.tally.Tally.{Tally}
use Rattle.run_report.specs.Outcomes.{outcomes_of}

-- a word or words, and a number
abbrev pub worded : List ℕ → ℕ → List ℕ
worded words n = words ++ decimal n

-- a space before each number
abbrev pub spaced : List ℕ → List ℕ
spaced ns = flat_map (λ n. codes " " ++ decimal n) ns

abbrev pub reason_text : Reason → List ℕ
reason_text reason.Read = codes " missing read"
reason_text reason.Dead = codes " missing dead"
reason_text reason.Piece = codes " missing piece"

abbrev pub kind_text : BlockKind → List ℕ
kind_text (kind.Whole len sent) = worded (codes " whole ") len ++ worded (codes " sent ") sent
kind_text (kind.Pieces len sent) = worded (codes " pieces ") len ++ codes " sent" ++ spaced sent
kind_text (kind.Missing reason) = reason_text reason

-- the line of a block
unfoldable pub block_line : BlockOut → List ℕ
block_line b = worded (codes "block ") b.block ++ worded (codes " due ") b.due ++ kind_text b.kind ++ codes "\n"

abbrev pub placed_text : Option Tenancy → List ℕ
placed_text (Some t) = worded (codes " slot ") t.slot.0 ++ worded (codes " first ") t.first
placed_text None = codes " unplaced"

-- the line of a start
unfoldable pub start_line : Outcome → List ℕ
start_line o = worded (codes "start ") o.ask.instance.0 ++ worded (codes " file ") o.ask.file.0 ++ placed_text o.placed ++ codes "\n"

-- the line of a stop, if there was one
abbrev pub stop_line : ℕ → Option ℕ → List ℕ
stop_line v None = []
stop_line v (Some beat) = worded (codes "stop ") v ++ worded (codes " at ") beat ++ codes "\n"

abbrev pub nothing : Tally
nothing = record { whole = 0; pieces = 0; missing = 0 }

abbrev pub plus : Tally → Tally → Tally
plus a b = record { whole = a.whole + b.whole; pieces = a.pieces + b.pieces; missing = a.missing + b.missing }

-- a block counts as whole, as pieces or as missing
abbrev pub kind_tally : BlockKind → Tally
kind_tally (kind.Whole len sent) = record { whole = 1; pieces = 0; missing = 0 }
kind_tally (kind.Pieces len sent) = record { whole = 0; pieces = 1; missing = 0 }
kind_tally (kind.Missing reason) = record { whole = 0; pieces = 0; missing = 1 }

abbrev pub tally_of : List BlockOut → Tally
tally_of [] = nothing
tally_of (b ∷ bs) = plus (kind_tally b.kind) (tally_of bs)

-- how many bytes came of a block: none of one that is missing
abbrev pub kind_bytes : BlockKind → ℕ
kind_bytes (kind.Whole len sent) = len
kind_bytes (kind.Pieces len sent) = len
kind_bytes (kind.Missing reason) = 0

abbrev pub bytes_of : List BlockOut → ℕ
bytes_of [] = 0
bytes_of (b ∷ bs) = kind_bytes b.kind + bytes_of bs

-- the counts of blocks
abbrev pub counts_text : Tally → List ℕ
counts_text t = worded (codes " whole ") t.whole ++ worded (codes " pieces ") t.pieces ++ worded (codes " missing ") t.missing

-- the hexadecimal digits of a digest, where there is one
abbrev pub digest_text : Option Digest32 → List ℕ
digest_text (Some d) = encode_lower d.0
digest_text None = []

-- the last line of a start: its counts, its bytes and their digest
unfoldable pub end_line : ℕ → List BlockOut → Option Digest32 → List ℕ
end_line v blocks digest =
    worded (codes "end ") v ++ counts_text (tally_of blocks)
    ++ worded (codes " bytes ") (bytes_of blocks) ++ codes " sha256 " ++ digest_text digest ++ codes "\n"

-- the last lines of a start: its stop, if there was one, and its counts
abbrev pub ending_lines : List Digest32 → Outcome → List ℕ
ending_lines digests o =
    stop_line o.ask.instance.0 o.stop
    ++ end_line o.ask.instance.0 o.blocks (slice_get digests o.ask.instance.0)

-- the lines of one start
unfoldable pub outcome_lines : List Digest32 → Outcome → List ℕ
outcome_lines digests o = start_line o ++ flat_map block_line o.blocks ++ ending_lines digests o

abbrev pub placed_count : Option Tenancy → ℕ
placed_count (Some t) = 1
placed_count None = 0

abbrev pub all_placed : List Outcome → ℕ
all_placed [] = 0
all_placed (o ∷ os) = placed_count o.placed + all_placed os

abbrev pub total_tally : List Outcome → Tally
total_tally [] = nothing
total_tally (o ∷ os) = plus (tally_of o.blocks) (total_tally os)

-- the last line: the counts of all starts
unfoldable pub total_line : List Outcome → List ℕ
total_line os =
    worded (codes "total starts ") (length os) ++ worded (codes " placed ") (all_placed os) ++ counts_text (total_tally os) ++ codes "\n"

-- the lines of all starts, and the total
unfoldable pub outcomes_text : List Digest32 → List Outcome → List ℕ
outcomes_text digests os = flat_map (outcome_lines digests) os ++ total_line os

-- the outcomes of a kept run
abbrev pub kept_outcomes : Kept → List Outcome
kept_outcomes k = outcomes_of k.course k.catalogue k.orders k.journals

-- the report of a kept run
unfoldable pub report_text : Kept → List ℕ
report_text k = outcomes_text k.digests (kept_outcomes k)

-- how many bytes a text has, and their digest
unfoldable pub size_line : List ℕ → List ℕ
size_line text = worded (codes "report bytes ") (length text) ++ codes " sha256 " ++ encode_lower (sha256 text) ++ codes "\n"

-- the summary of a kept run: the last line of its report, and the report's size and digest
unfoldable pub summary_text : Kept → List ℕ
summary_text k = total_line (kept_outcomes k) ++ size_line (report_text k)

-- counts that fit 64 bits
pub record Fits (t : Tally) : Type 0 where
  pub whole : t.whole < 2 ^ 64
  pub pieces : t.pieces < 2 ^ 64
  pub missing : t.missing < 2 ^ 64

-- the bytes of each start fit 64 bits
abbrev pub BytesFit : List Outcome → Type 0
BytesFit os = All (λ o. bytes_of o.blocks < 2 ^ 64) os
