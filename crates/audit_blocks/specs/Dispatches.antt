-- What a set of messages has that cubs sent.
use Rattle.std.specs.Prelude.{ℕ, Bool, List}
use Rattle.std.specs.List.{list_any}
use Rattle.std.specs.declared.cmp.Ordering.{Ordering}
use Rattle.std.specs.Ordering.{is_eq, nat_cmp, bool_cmp, ordering_then}
use Rattle.audit_blocks.specs.declared.receipts.Receipt.{Receipt}
use Rattle.audit_blocks.specs.declared.dispatches.Dispatch.{Dispatch}

-- the numbers of a message and of its cub
abbrev pub dispatch_of : ℕ → Bool → Receipt → Dispatch
dispatch_of cub whole r = record {
  cub = cub;
  whole = whole;
  link = r.link.0;
  instance = r.want.instance.0;
  slot = r.want.slot.0;
  visit = r.want.visit;
  file = r.want.file.0;
  block = r.want.block;
  piece = r.want.piece;
  sent = r.sent;
  of = r.part.file.0;
  from = r.part.from;
  len = r.part.len;
}

-- their order
abbrev pub dispatch_cmp : Dispatch → Dispatch → Ordering
dispatch_cmp a b =
    ordering_then (nat_cmp a.cub b.cub) (ordering_then (bool_cmp a.whole b.whole)
    (ordering_then (nat_cmp a.link b.link) (ordering_then (nat_cmp a.instance b.instance)
    (ordering_then (nat_cmp a.slot b.slot) (ordering_then (nat_cmp a.visit b.visit)
    (ordering_then (nat_cmp a.file b.file) (ordering_then (nat_cmp a.block b.block)
    (ordering_then (nat_cmp a.piece b.piece) (ordering_then (nat_cmp a.sent b.sent)
    (ordering_then (nat_cmp a.of b.of) (ordering_then (nat_cmp a.from b.from) (nat_cmp a.len b.len))))))))))))

-- whether two messages are one
abbrev pub is_dispatch : ℕ → Bool → Receipt → ℕ → Bool → Receipt → Bool
is_dispatch c w r d x q = is_eq (dispatch_cmp (dispatch_of c w r) (dispatch_of d x q))

-- whether a set has a message
abbrev pub has_dispatch : ℕ → Bool → Receipt → List Dispatch → Bool
has_dispatch c w r sent = list_any (λ k. is_eq (dispatch_cmp (dispatch_of c w r) k)) sent
