-- Which pieces a choice covers.
use Rattle.std.specs.Prelude.{Bool}
use Rattle.tiger_base.specs.declared.number.Instance.{Instance}
use Rattle.tiger_base.specs.declared.tenancy.PieceState.{PieceState}
use Rattle.mirror_schedule.specs.Pieces.{is_of, is_of_visit, is_same}
use Rattle.mirror_schedule.specs.declared.row.Wanted.{Wanted}
use Rattle.mirror_schedule.specs.declared.row.Wanted.TheVariants.{OfVisit, Of, Just}

abbrev pub covers : Wanted → PieceState → Bool
covers (OfVisit instance visit) x = is_of_visit instance visit x
covers (Of instance) x = is_of instance x
covers (Just piece) x = is_same piece x

-- whose pieces they are
abbrev pub owner_of : Wanted → Instance
owner_of (OfVisit instance visit) = instance
owner_of (Of instance) = instance
owner_of (Just piece) = piece.tenancy.instance
