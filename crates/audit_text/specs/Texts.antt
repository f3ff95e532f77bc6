-- The text of what is kept of a run: its lines in order, each with a line feed at its end.
use Rattle.std.specs.Prelude.{ℕ, ◌+◌, List, [], ◌∷◌, ◌++◌, Option, Some, None, map, option_and_then, slice_get}
use Rattle.std.specs.List.{flat_map}
use Rattle.link_timing.specs.declared.Delay.{Delay}
use Rattle.node_kit.specs.declared.course.Digest32.{Digest32}
use Rattle.node_kit.specs.declared.course.Kept.{Kept}
use Rattle.node_kit.specs.declared.course.Order.{Order}
use Rattle.node_kit.specs.declared.course.ReadFault.{ReadFault}
use Rattle.node_kit.specs.declared.journal.Entry.{Entry}
use Rattle.slot_plan.specs.declared.params.Params.{Params}
use Rattle.stripe_layout.specs.declared.catalogue.FileInfo.{FileInfo}
use Rattle.audit_text.specs.declared.item.Item.{Item}
use Rattle.audit_text.specs.declared.item.Item.TheVariants as item
use Rattle.audit_text.specs.Lines.{line_of}

-- what the text tells of a kept value. The catalogue's block and number of disks are the plan's.
pub record Parts : Type 0 where
  pub params : Params
  pub beats : ℕ
  pub delay : Delay
  pub offsets : List ℕ
  pub deaths : List (Option ℕ)
  pub cuts : List (Option ℕ)
  pub backs : List (Option ℕ)
  pub faults : List ReadFault
  pub files : List FileInfo
  pub orders : List Order
  pub journals : List (List Entry)
  pub digests : List Digest32

abbrev pub parts_of : Kept → Parts
parts_of k = record {
  params = k.course.plan.params;
  beats = k.course.beats;
  delay = k.course.delay;
  offsets = k.course.offsets;
  deaths = k.course.deaths;
  cuts = k.course.cuts;
  backs = k.course.backs;
  faults = k.course.faults;
  files = k.catalogue.files;
  orders = k.orders;
  journals = k.journals;
  digests = k.digests;
}

-- what a row with one element for each cub has for a cub
abbrev pub row_at : List (Option ℕ) → ℕ → Option ℕ
row_at row cub = option_and_then (λ o. o) (slice_get row cub)

-- a line for each cub that dies, from this cub on, with what the rows of cuts and of returns have for the cub
abbrev pub death_items : List (Option ℕ) → List (Option ℕ) → ℕ → List (Option ℕ) → List Item
death_items cuts backs cub [] = []
death_items cuts backs cub (None ∷ rest) = death_items cuts backs (cub + 1) rest
death_items cuts backs cub (Some beat ∷ rest) =
    item.Death (record { 0 = cub }) beat (row_at cuts cub) (row_at backs cub) ∷ death_items cuts backs (cub + 1) rest

-- a line for each entry
abbrev pub entry_items : List Entry → List Item
entry_items journal = map (λ e. item.Entry e) journal

-- a line for each node, from this node on, and behind it those of its journal
abbrev pub node_items : ℕ → List (List Entry) → List Item
node_items node [] = []
node_items node (journal ∷ rest) =
    item.Node (record { 0 = node }) ∷ entry_items journal ++ node_items (node + 1) rest

-- the lines that stand in each text
abbrev pub head_items : Parts → List Item
head_items q =
    item.Version ∷ item.Plan q.params ∷ item.Beats q.beats ∷ item.Delay q.delay
    ∷ item.Offsets q.offsets ∷ []

-- and those of which there may be any number
abbrev pub body_items : Parts → List Item
body_items q =
    death_items q.cuts q.backs 0 q.deaths ++ map (λ f. item.Fault f) q.faults ++ map (λ f. item.File f) q.files
    ++ map (λ o. item.Order o) q.orders ++ node_items 0 q.journals
    ++ map (λ d. item.Digest d) q.digests

-- all lines of the text, in order
unfoldable pub items_in : Parts → List Item
items_in q = head_items q ++ body_items q ++ item.End ∷ []

-- lines as a text
abbrev pub text_in : List Item → List ℕ
text_in items = flat_map (λ i. line_of i ++ 10 ∷ []) items

-- the text of a kept value
unfoldable pub text_of : Kept → List ℕ
text_of k = text_in (items_in (parts_of k))
