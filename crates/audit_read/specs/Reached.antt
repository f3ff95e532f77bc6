-- Where the reading of a text stands: behind lines that say what was read so far.
use Rattle.std.specs.Prelude.{◌≡◌, ℕ, ◌+◌, List, ◌++◌, length}
use Rattle.std.specs.List.{AllByRecursion, fold}
use Rattle.audit_text.specs.Fits.{ItemFits}
use Rattle.audit_text.specs.Texts.{text_in}
use Rattle.audit_read.specs.Drafts.{written, after, IsSound}
use Rattle.audit_read.specs.declared.draft.Draft.{Draft}
use Rattle.audit_read.specs.declared.draft.Draft.TheVariants as draft

-- of these bytes the lines are read that make this draft, and the line with this number stands next, in what is left
pub record Reached (bytes : List ℕ) (d : Draft) (line : ℕ) (rest : List ℕ) : Type 0 where
  pub sound : IsSound d
  pub fits : AllByRecursion ItemFits (written d)
  pub same : fold after draft.Empty (written d) ≡ d
  pub text : bytes ≡ text_in (written d) ++ rest
  pub count : line ≡ length (written d) + 1
