-- The records of a tenancy, and what is asked of a disk for them.
use Rattle.std.specs.Prelude.{ℕ, ◌-◌, ◌==◌, ◌&&◌, Bool}
use Rattle.tiger_base.specs.declared.tenancy.Kind.TheVariants.{Own, Backup}
use Rattle.tiger_base.specs.declared.tenancy.PieceState.{PieceState}
use Rattle.tiger_base.specs.declared.tenancy.Rec.{Rec}
use Rattle.tiger_base.specs.declared.tenancy.Tenancy.{Tenancy}
use Rattle.tiger_base.specs.declared.tenancy.Want.{Want}

-- the own record, and the backup record, of a visit of a tenancy
abbrev pub own_of : Tenancy → ℕ → Rec
own_of t visit = record { tenancy = t; visit = visit; kind = Own }

abbrev pub backup_of : Tenancy → ℕ → Rec
backup_of t visit = record { tenancy = t; visit = visit; kind = Backup }

-- the block of a record's visit
abbrev pub want_of : Rec → Want
want_of r = record {
  instance = r.tenancy.instance;
  slot = r.tenancy.slot;
  visit = r.visit;
  file = r.tenancy.file;
  block = r.visit - r.tenancy.first;
  piece = 0;
}

-- the piece of a piece record
abbrev pub want_of_piece : PieceState → Want
want_of_piece x = record {
  instance = x.tenancy.instance;
  slot = x.tenancy.slot;
  visit = x.visit;
  file = x.tenancy.file;
  block = x.visit - x.tenancy.first;
  piece = x.piece;
}

-- whether two wants are of the same block or piece
abbrev pub same_want : Want → Want → Bool
same_want a b =
    a.instance.0 == b.instance.0 && a.slot.0 == b.slot.0 && a.visit == b.visit && a.file.0 == b.file.0 && a.block == b.block && a.piece == b.piece
