-- Values of worked rows.
use Rattle.std.specs.Prelude.{ℕ}
use Rattle.tiger_base.specs.declared.tenancy.Ask.{Ask}
use Rattle.tiger_base.specs.declared.tenancy.Tenancy.{Tenancy}
use Rattle.stripe_layout.specs.declared.catalogue.FileInfo.{FileInfo}
use Rattle.node_kit.specs.declared.course.Order.{Order}
use Rattle.node_kit.specs.declared.course.OrderKind.TheVariants.{Begin, Finish}
use Rattle.node_kit.specs.declared.course.ReadFault.{ReadFault}

abbrev pub fault : ℕ → ℕ → ℕ → ReadFault
fault disk from until = record { disk = record { 0 = disk }; from = from; until = until }

abbrev pub file : ℕ → ℕ → FileInfo
file len disk = record { len = len; disk = record { 0 = disk } }

-- a start of file 0 with this number of blocks, from disk 0 on
abbrev pub ask : ℕ → ℕ → Ask
ask instance count = record {
  instance = record { 0 = instance };
  file = record { 0 = 0 };
  count = count;
  disk = record { 0 = 0 };
}

abbrev pub begin : ℕ → ℕ → ℕ → Order
begin beat instance count = record { beat = beat; what = Begin (ask instance count) }

abbrev pub finish : ℕ → ℕ → Order
finish beat instance = record { beat = beat; what = Finish (record { 0 = instance }) }

-- a hold on slot 15 from one visit to another
abbrev pub tenancy : ℕ → ℕ → Tenancy
tenancy first last = record {
  instance = record { 0 = 0 };
  file = record { 0 = 0 };
  slot = record { 0 = 15 };
  first = first;
  last = last;
}
