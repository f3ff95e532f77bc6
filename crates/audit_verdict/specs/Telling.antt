-- Which line of the text of a kept run tells the entry, the order or the death of a place.
use Rattle.std.specs.Prelude.{◌≡◌, ℕ, ◌+◌, ◌<◌, List, [], ◌∷◌, length, Option, Some, None, slice_get}
use Rattle.node_kit.specs.declared.course.Kept.{Kept}
use Rattle.node_kit.specs.declared.course.Order.{Order}
use Rattle.node_kit.specs.declared.journal.Entry.{Entry}
use Rattle.audit_text.specs.declared.item.Item.{Item}
use Rattle.audit_text.specs.declared.item.Item.TheVariants as item
use Rattle.audit_text.specs.Texts.{parts_of, items_in}
use Rattle.audit_verdict.specs.declared.place.EntryPlace.{EntryPlace}
use Rattle.audit_verdict.specs.declared.place.Place.{Place}
use Rattle.audit_verdict.specs.declared.place.Place.TheVariants as place

-- a line of the text of a kept run, by its number from 1 on, says this
abbrev pub SaysInLine : Kept → ℕ → Item → Type 0
SaysInLine k line said = (i : ℕ) × (line ≡ i + 1) × (slice_get (items_in (parts_of k)) i ≡ Some said)

-- the line of an entry: as many lines behind the one that names its node as its place in the journal says
pub record IsLineOfEntry (k : Kept) (e : EntryPlace) (line : ℕ) : Type 0 where
  pub journal : List Entry
  pub here : slice_get k.journals e.node.0 ≡ Some journal
  pub entry : Entry
  pub at : slice_get journal e.place ≡ Some entry
  pub says : SaysInLine k line (item.Entry entry)
  pub head : ℕ
  pub node : SaysInLine k head (item.Node e.node)
  pub behind : line ≡ head + 1 + e.place

-- the line of an order: the orders stand in the lines from one on, one in each
pub record IsLineOfOrder (k : Kept) (j line : ℕ) : Type 0 where
  pub there : j < length k.orders
  pub first : ℕ
  pub orders : (i : ℕ) (o : Order) → slice_get k.orders i ≡ Some o → SaysInLine k (first + i) (item.Order o)
  pub behind : line ≡ first + j

-- the line of the death of a cub
pub record IsLineOfDeath (k : Kept) (cub line : ℕ) : Type 0 where
  pub beat : ℕ
  pub here : slice_get k.course.deaths cub ≡ Some (Some beat)
  pub left : Option ℕ
  pub back : Option ℕ
  pub says : SaysInLine k line (item.Death (record { 0 = cub }) beat left back)

-- the line of a place
abbrev pub IsLineAt : Kept → Place → ℕ → Type 0
IsLineAt k (place.Entry e) line = IsLineOfEntry k e line
IsLineAt k (place.Order j) line = IsLineOfOrder k j line
IsLineAt k (place.Death node) line = IsLineOfDeath k node.0 line
IsLineAt k (place.Neighbours cub) line = IsLineOfDeath k cub.0 line
IsLineAt k (place.Tick cub beat (Some e)) line = IsLineOfEntry k e line
IsLineAt k (place.Tick cub beat None) line = ⊥

-- an answer names the line of a place, and none only if there is none
abbrev pub IsLineOfPlace : Kept → Place → Option ℕ → Type 0
IsLineOfPlace k here None = (line : ℕ) → IsLineAt k here line → ⊥
IsLineOfPlace k here (Some line) = IsLineAt k here line

-- ---- how many lines there are

-- how many of these cubs die: each has a line
abbrev pub death_lines : List (Option ℕ) → ℕ
death_lines [] = 0
death_lines (None ∷ rest) = death_lines rest
death_lines (Some beat ∷ rest) = death_lines rest + 1

-- how many lines these journals have, with those of their nodes
abbrev pub lines_in : List (List Entry) → ℕ
lines_in [] = 0
lines_in (journal ∷ rest) = length journal + 1 + lines_in rest

-- how many stand before the orders, and before the nodes
abbrev pub before_orders : Kept → ℕ
before_orders k = 5 + (death_lines k.course.deaths + length k.course.faults + length k.catalogue.files)

abbrev pub before_nodes : Kept → ℕ
before_nodes k = before_orders k + length k.orders
