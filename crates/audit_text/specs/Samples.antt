-- Values of worked lines: their fields are numbered in the order of the text.
use Rattle.std.specs.Prelude.{ℕ, Option, None}
use Rattle.node_kit.specs.declared.course.Order.{Order}
use Rattle.node_kit.specs.declared.course.OrderKind.TheVariants.{Begin, Finish}
use Rattle.tiger_base.specs.declared.message.Note.{Note}
use Rattle.tiger_base.specs.declared.message.Note.TheVariants as note
use Rattle.tiger_base.specs.declared.part.Span.{Span}
use Rattle.tiger_base.specs.declared.tenancy.Ask.{Ask}
use Rattle.tiger_base.specs.declared.tenancy.Kind.{Kind}
use Rattle.tiger_base.specs.declared.tenancy.Rec.{Rec}
use Rattle.tiger_base.specs.declared.tenancy.Tag.{Tag}
use Rattle.tiger_base.specs.declared.tenancy.Tenancy.{Tenancy}
use Rattle.tiger_base.specs.declared.tenancy.Want.{Want}
use Rattle.audit_text.specs.declared.item.Item.{Item}
use Rattle.audit_text.specs.declared.item.Item.TheVariants as item

abbrev pub node : ℕ → Item
node n = item.Node (record { 0 = n })

abbrev pub death_with : ℕ → ℕ → Option ℕ → Option ℕ → Item
death_with cub beat left back = item.Death (record { 0 = cub }) beat left back

abbrev pub death : ℕ → ℕ → Item
death cub beat = death_with cub beat None None

abbrev pub tenancy : Tenancy
tenancy = record {
  instance = record { 0 = 1 };
  file = record { 0 = 2 };
  slot = record { 0 = 3 };
  first = 4;
  last = 5;
}

abbrev pub took : Kind → Rec
took kind = record { tenancy = tenancy; visit = 6; kind = kind }

abbrev pub ask : Ask
ask = record { instance = record { 0 = 1 }; file = record { 0 = 2 }; count = 3; disk = record { 0 = 4 } }

abbrev pub want : Want
want = record {
  visit = 3;
  block = 5;
  instance = record { 0 = 1 };
  slot = record { 0 = 2 };
  file = record { 0 = 4 };
  piece = 6;
}

abbrev pub span : Span
span = record { file = record { 0 = 8 }; from = 9; len = 10 }

abbrev pub whole : Note
whole = note.Whole want 7 span

abbrev pub tag : Tag
tag = record { slot = record { 0 = 2 }; visit = 3 }

abbrev pub start_order : Order
start_order = record { beat = 9; what = Begin ask }

abbrev pub finish : Order
finish = record { beat = 9; what = Finish (record { 0 = 1 }) }
