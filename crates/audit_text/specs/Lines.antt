-- The lines of the text, without their line feeds: a word, and numbers with one space before each.
use Rattle.std.specs.Prelude.{ℕ, List, ◌++◌, codes}
use Rattle.std.specs.Fmt.{decimal}
use Rattle.std.specs.List.{flat_map}
use Rattle.hex.specs.Hex.{encode_lower}
use Rattle.audit_text.specs.declared.item.Item.{Item}
use Rattle.audit_text.specs.declared.item.Item.TheVariants as item
use Rattle.audit_text.specs.Fields.{fields_of, word_of}
use Rattle.audit_text.specs.Words.{letters}

-- numbers without leading zeros, each behind a space
abbrev pub spaced : List ℕ → List ℕ
spaced ns = flat_map (λ n. codes " " ++ decimal n) ns

-- what stands behind the word: the digits of a digest, or numbers
abbrev pub behind_word : Item → List ℕ
behind_word (item.Digest d) = codes " " ++ encode_lower d.0
behind_word i = spaced (fields_of i)

-- the line that says this
unfoldable pub line_of : Item → List ℕ
line_of i = letters (word_of i) ++ behind_word i
