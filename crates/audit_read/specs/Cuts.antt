-- A text cut behind its first line.
use Rattle.std.specs.Prelude.{◌≡◌, ℕ, List, ◌∷◌, ◌++◌, Option, IfSome}
use Rattle.node_kit.specs.declared.journal.Entry.{Entry}
use Rattle.audit_text.specs.declared.item.Item.TheVariants as item
use Rattle.audit_text.specs.Fits.{ItemFits}
use Rattle.audit_text.specs.Lines.{line_of}
use Rattle.audit_read.specs.Begun.{HasNoFeed}

-- if an entry is given with a line, this is the line that says it
abbrev pub Says : List ℕ → Option Entry → Type 0
Says line entry = IfSome entry (λ e. (line ≡ line_of (item.Entry e)) × ItemFits (item.Entry e))

-- bytes are a line, its line feed, and what stands behind it
pub record IsLineCut (bytes line : List ℕ) (entry : Option Entry) (behind : List ℕ) : Type 0 where
  pub free : HasNoFeed line
  pub parts : bytes ≡ line ++ 10 ∷ behind
  pub says : Says line entry
