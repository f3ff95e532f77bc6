-- The numbers of pieces beside the times at which they leave.
use Rattle.std.specs.Prelude.{ℕ, List, [], ◌∷◌, Option, Some, None}
use Rattle.std.specs.declared.cmp.Ordering.{Ordering}
use Rattle.std.specs.Ordering.{nat_cmp, ordering_then}
use Rattle.tiger_base.specs.declared.tenancy.PieceState.{PieceState}
use Rattle.mirror_schedule.specs.declared.agenda.Rank.{Rank}

-- the numbers of a piece
abbrev pub rank_of : PieceState × ℕ → Rank
rank_of x = record {
  time = x.1;
  slot = x.0.tenancy.slot.0;
  visit = x.0.visit;
  piece = x.0.piece;
  instance = x.0.tenancy.instance.0;
  file = x.0.tenancy.file.0;
  first = x.0.tenancy.first;
  last = x.0.tenancy.last;
}

-- the piece of some numbers
abbrev pub timed_of : Rank → PieceState × ℕ
timed_of r = (
  record {
    tenancy = record {
      instance = record { 0 = r.instance };
      file = record { 0 = r.file };
      slot = record { 0 = r.slot };
      first = r.first;
      last = r.last;
    };
    visit = r.visit;
    piece = r.piece;
  },
  r.time,
)

-- the order of the numbers
abbrev pub rank_cmp : Rank → Rank → Ordering
rank_cmp a b =
    ordering_then (nat_cmp a.time b.time) (ordering_then (nat_cmp a.slot b.slot)
    (ordering_then (nat_cmp a.visit b.visit) (ordering_then (nat_cmp a.piece b.piece)
    (ordering_then (nat_cmp a.instance b.instance) (ordering_then (nat_cmp a.file b.file)
    (ordering_then (nat_cmp a.first b.first) (nat_cmp a.last b.last)))))))

-- the time of the first of some numbers
abbrev pub front_of : List Rank → Option ℕ
front_of [] = None
front_of (r ∷ rs) = Some r.time
