-- What a part of a file is.
use Rattle.std.specs.Prelude.{◌≡◌, ℕ, ◌+◌, ◌≤◌, List, length, take, drop, Some, slice_get}
use Rattle.tiger_base.specs.declared.part.Span.{Span}

-- a library, and a span of it
pub record LibraryPart : Type 0 where
  pub library : List (List ℕ)
  pub span : Span

-- the library has the span's file, and the span lies inside it
pub record HasSpan (library : List (List ℕ)) (span : Span) : Type 0 where
  pub file : List ℕ
  pub there : slice_get library span.file.0 ≡ Some file
  pub inside : span.from + span.len ≤ length file

-- the library has the span's file, the span lies inside it, and these are its bytes
pub record IsCut (library : List (List ℕ)) (span : Span) (bytes : List ℕ) : Type 0 where
  pub file : List ℕ
  pub there : slice_get library span.file.0 ≡ Some file
  pub inside : span.from + span.len ≤ length file
  pub cut : bytes ≡ take span.len (drop span.from file)
