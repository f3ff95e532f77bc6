-- What a set of records has, each at the cub that has it, under the number of its instance or of its slot.
use Rattle.std.specs.Prelude.{ℕ, Bool, true, false, ◌&&◌, ◌==◌, List}
use Rattle.std.specs.List.{list_any}
use Rattle.std.specs.declared.cmp.Ordering.{Ordering}
use Rattle.std.specs.Ordering.{is_eq, nat_cmp, bool_cmp, ordering_then}
use Rattle.tiger_base.specs.declared.tenancy.Kind.{Kind}
use Rattle.tiger_base.specs.declared.tenancy.Kind.TheVariants.{Own, Backup}
use Rattle.tiger_base.specs.declared.tenancy.Rec.{Rec}
use Rattle.tiger_base.specs.declared.tenancy.Tenancy.{Tenancy}
use Rattle.run_model.specs.Views.{same_record}
use Rattle.audit_frame.specs.declared.records.By.{By}
use Rattle.audit_frame.specs.declared.records.By.TheVariants as way
use Rattle.audit_frame.specs.declared.records.Held.{Held}

-- ---- a record of a cub as its numbers

abbrev pub backs_up : Kind → Bool
backs_up Own = false
backs_up Backup = true

abbrev pub kind_by : Bool → Kind
kind_by false = Own
kind_by true = Backup

-- one number if records stand by instance, and another one if they stand by slot
abbrev pub pick : By → ℕ → ℕ → ℕ
pick way.Instance if_instance if_slot = if_instance
pick way.Slot if_instance if_slot = if_slot

-- the number under which a record stands
abbrev pub number_by : By → Rec → ℕ
number_by w r = pick w r.tenancy.instance.0 r.tenancy.slot.0

abbrev pub held_by : By → ℕ → Rec → Held
held_by w c r = record {
  under = pick w r.tenancy.instance.0 r.tenancy.slot.0;
  cub = c;
  visit = r.visit;
  beside = pick w r.tenancy.slot.0 r.tenancy.instance.0;
  file = r.tenancy.file.0;
  first = r.tenancy.first;
  last = r.tenancy.last;
  backup = backs_up r.kind;
}

-- the record of these numbers, and its tenancy
abbrev pub tenancy_held : By → Held → Tenancy
tenancy_held w h = record {
  instance = record { 0 = pick w h.under h.beside };
  file = record { 0 = h.file };
  slot = record { 0 = pick w h.beside h.under };
  first = h.first;
  last = h.last;
}

abbrev pub record_of : By → Held → Rec
record_of w h = record { tenancy = tenancy_held w h; visit = h.visit; kind = kind_by h.backup }

-- ---- which records a set has

-- the order of the numbers
abbrev pub held_cmp : Held → Held → Ordering
held_cmp a b =
    ordering_then (nat_cmp a.under b.under) (ordering_then (nat_cmp a.cub b.cub)
    (ordering_then (nat_cmp a.visit b.visit) (ordering_then (nat_cmp a.beside b.beside)
    (ordering_then (nat_cmp a.file b.file) (ordering_then (nat_cmp a.first b.first)
    (ordering_then (nat_cmp a.last b.last) (bool_cmp a.backup b.backup)))))))

-- whether two cubs and records are one
abbrev pub is_same : ℕ → Rec → ℕ → Rec → Bool
is_same n r c q = (n == c) && same_record r q

-- whether a cub has a record
abbrev pub has_held : By → ℕ → Rec → List Held → Bool
has_held w c r records = list_any (λ h. is_eq (held_cmp (held_by w c r) h)) records

-- whether a record stands under a number, and is a cub's, of a visit; and the lowest numbers of such a record
abbrev pub is_held_at : ℕ → ℕ → ℕ → Held → Bool
is_held_at number c visit h = (h.cub == c) && ((h.under == number) && (h.visit == visit))

abbrev pub lowest_held : ℕ → ℕ → ℕ → Held
lowest_held number c visit =
    record { under = number; cub = c; visit = visit; beside = 0; file = 0; first = 0; last = 0; backup = false }
