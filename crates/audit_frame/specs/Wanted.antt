-- What a set of wants has.
use Rattle.std.specs.Prelude.{Bool, List}
use Rattle.std.specs.List.{list_any}
use Rattle.std.specs.declared.cmp.Ordering.{Ordering}
use Rattle.std.specs.Ordering.{is_eq, nat_cmp, ordering_then}
use Rattle.tiger_base.specs.declared.tenancy.Want.{Want}
use Rattle.audit_frame.specs.declared.wants.Key.{Key}

abbrev pub WantNumbers : Type 0
WantNumbers = List Key

abbrev pub want_key : Want → Key
want_key w = record {
  instance = w.instance.0;
  slot = w.slot.0;
  visit = w.visit;
  file = w.file.0;
  block = w.block;
  piece = w.piece;
}

-- the order of the numbers
abbrev pub key_cmp : Key → Key → Ordering
key_cmp a b =
    ordering_then (nat_cmp a.instance b.instance) (ordering_then (nat_cmp a.slot b.slot)
    (ordering_then (nat_cmp a.visit b.visit) (ordering_then (nat_cmp a.file b.file)
    (ordering_then (nat_cmp a.block b.block) (nat_cmp a.piece b.piece)))))

-- whether a want is in a set
abbrev pub has_want : Want → WantNumbers → Bool
has_want w wants = list_any (λ k. is_eq (key_cmp (want_key w) k)) wants
