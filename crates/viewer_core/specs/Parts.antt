-- The parts that the viewers keep.
use Rattle.std.specs.Prelude.{◌≡◌, ℕ, ◌+◌, List, Option, Some, None}
use Rattle.std.specs.declared.cmp.Ordering.{Ordering}
use Rattle.std.specs.Ordering.{is_eq, nat_cmp, ordering_then}
use Rattle.std.specs.Map.{lookup}
use Rattle.std.specs.BTreeMap.{insert_entry}
use Rattle.tiger_base.specs.declared.tenancy.Want.{Want}
use Rattle.tiger_base.specs.Span.{LibraryPart}
use Rattle.slot_plan.specs.declared.params.Params.{Params}
use Rattle.slot_plan.specs.Times.{disk_count}
use Rattle.viewer_core.specs.declared.viewers.Key.{Key}

-- what is kept: a part under each key, in the order of the keys
abbrev pub KeptParts : Type 0
KeptParts = List (Key × LibraryPart)

-- keys are ordered by instance, then visit, then piece
abbrev pub key_order : Key → Key → Ordering
key_order a b = ordering_then (nat_cmp a.instance.0 b.instance.0) (ordering_then (nat_cmp a.visit b.visit) (nat_cmp a.piece b.piece))

-- the key of what was asked: its instance, its visit, and its piece, which is 0 for a whole block
abbrev pub key_of : Want → Key
key_of want = record { instance = want.instance; visit = want.visit; piece = want.piece }

-- the part that is kept under a key, if there is one
abbrev pub part_under : Key → KeptParts → Option LibraryPart
part_under k kept = lookup (λ q. is_eq (key_order k q)) kept

abbrev pub unless_kept : Key → LibraryPart → KeptParts → Option LibraryPart → KeptParts
unless_kept k part kept None = insert_entry key_order kept k part
unless_kept k part kept (Some other) = kept

-- with a further part: the first one under a key stays
unfoldable pub with_part : Key → LibraryPart → KeptParts → KeptParts
with_part k part kept = unless_kept k part kept (part_under k kept)

-- they are the viewers of any ring, the last of its nodes
abbrev pub AreViewers : KeptParts → Params → ℕ → Type 0
AreViewers kept p n = p.cubs + disk_count p + 1 ≡ n
