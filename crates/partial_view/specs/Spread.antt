-- Between which buckets of a view the lines of an instance stand.
use Rattle.std.specs.Prelude.{◌≡◌, ℕ, ◌≤◌, true, nat_lt, List, Option, Some, None, IfSome, get_or, if◌then◌else◌}
use Rattle.std.specs.List.{AllByRecursion}
use Rattle.tiger_base.specs.declared.number.Instance.{Instance}
use Rattle.slot_plan.specs.declared.params.Params.{Params}
use Rattle.partial_view.specs.declared.line.Line.{Line}
use Rattle.partial_view.specs.declared.spread.Span.{Span}
use Rattle.partial_view.specs.Lines.{key_of, instance_of, is_of}
use Rattle.partial_view.specs.Wheel.{bucket_of}

-- only instances with lower numbers have spans
abbrev pub most_spans : ℕ
most_spans = 4096

-- a span with no bucket
abbrev pub no_bucket : Span
no_bucket = record { low = 1; high = 0 }

-- the span of an instance, if it is one that has a span
abbrev pub span_of : List Span → ℕ → Option Span
span_of spans n = if nat_lt n most_spans then Some (get_or spans n no_bucket) else None

-- a bucket is in a span, if one is given
abbrev pub IsInSpan : Option Span → ℕ → Type 0
IsInSpan span i = IfSome span (λ s. (s.low ≤ i) × (i ≤ s.high))

-- each line of an instance stands in a bucket of a span
abbrev pub AreInSpan : Params → Instance → Option Span → List Line → Type 0
AreInSpan p v span lines =
    AllByRecursion (λ x. is_of v x ≡ true → IsInSpan span (bucket_of p (key_of x))) lines

-- each line stands in a bucket of its instance's span
abbrev pub AreSpread : Params → List Span → List Line → Type 0
AreSpread p spans lines =
    AllByRecursion (λ x. IsInSpan (span_of spans (instance_of x).0) (bucket_of p (key_of x))) lines
