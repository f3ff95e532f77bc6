-- The digests of what the viewers got.
use Rattle.std.specs.Prelude.{◌≡◌, ℕ, suc, Bool, true, false, List, [], Some, take, drop, map, slice_get, unwrap_or, if◌then◌else◌}
use Rattle.std.specs.List.{flat_map, filter}
use Rattle.sha2.specs.Sha256.{sha256}
use Rattle.sha2.specs.Hashers.{Holds256}
use Rattle.tiger_base.specs.declared.part.Span.{Span}
use Rattle.node_kit.specs.declared.course.Digest32.{Digest32}
use Rattle.run_report.specs.declared.digest.Front.{Front}
use Rattle.run_report.specs.declared.outcome.BlockKind.{BlockKind}
use Rattle.run_report.specs.declared.outcome.BlockKind.TheVariants as kind
use Rattle.run_report.specs.declared.outcome.BlockOut.{BlockOut}
use Rattle.run_report.specs.declared.outcome.Outcome.{Outcome}

-- the library's bytes of a span: those of them that are there
abbrev pub span_bytes : List (List ℕ) → Span → List ℕ
span_bytes library span = take span.len (drop span.from (unwrap_or (slice_get library span.file.0) []))

-- whether a block was got, whole or in pieces
abbrev pub is_got : BlockKind → Bool
is_got (kind.Whole len sent) = true
is_got (kind.Pieces len sent) = true
is_got (kind.Missing reason) = false

-- the library's bytes of a block that was got
abbrev pub block_bytes : List (List ℕ) → BlockOut → List ℕ
block_bytes library b = if is_got b.kind then span_bytes library b.span else []

-- and of all of these that were got, in order
unfoldable pub got_bytes : List (List ℕ) → List BlockOut → List ℕ
got_bytes library blocks = flat_map (block_bytes library) blocks

-- the digest of a start: that of the bytes of its blocks that were got
unfoldable pub digest_of : List (List ℕ) → Outcome → Digest32
digest_of library o = record { 0 = sha256 (got_bytes library o.blocks) }

-- the digests of all starts
unfoldable pub digests_of : List (List ℕ) → List Outcome → List Digest32
digests_of library outcomes = map (digest_of library) outcomes

-- the spans of those blocks that were got, in order
unfoldable pub got_spans : List BlockOut → List Span
got_spans blocks = map (λ (b : BlockOut). b.span) (filter (λ (b : BlockOut). is_got b.kind) blocks)

-- the library's bytes of spans, one after another, and their digest
unfoldable pub spans_bytes : List (List ℕ) → List Span → List ℕ
spans_bytes library spans = flat_map (span_bytes library) spans

unfoldable pub digest_of_spans : List (List ℕ) → List Span → Digest32
digest_of_spans library spans = record { 0 = sha256 (spans_bytes library spans) }

-- spans that were hashed, and the library whose bytes they are
pub record Hashed : Type 0 where
  pub library : List (List ℕ)
  pub spans : List Span

abbrev pub spans_of : List Front → List Span
spans_of fronts = map (λ (f : Front). f.span) fronts

-- the state behind each span has the bytes of this span and of all before it
abbrev pub AreFronts : List (List ℕ) → List Front → Type 0
AreFronts library fronts =
    (i : ℕ) (f : Front) → slice_get fronts i ≡ Some f
    → Holds256 f.state (spans_bytes library (take (suc i) (spans_of fronts)))
