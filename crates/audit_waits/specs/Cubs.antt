-- What a walk keeps of cubs: who has ever died, whom they believe dead, and the records in their views.
use Rattle.std.specs.Prelude.{◌≡◌, ℕ, Bool, ◌&&◌}
use Rattle.std.specs.List.{list_any}
use Rattle.tiger_base.specs.declared.tenancy.Rec.{Rec}
use Rattle.slot_plan.specs.declared.params.Params.{Params}
use Rattle.run_model.specs.Views.{same_record}
use Rattle.run_model.specs.Moments.{Moment}
use Rattle.audit_frame.specs.Records.{has_held, is_held_at}
use Rattle.audit_frame.specs.Tables.{has_number, has_pair, mark_under}
use Rattle.audit_frame.specs.declared.records.By.TheVariants as way
use Rattle.audit_frame.specs.declared.records.Held.{Held}
use Rattle.audit_waits.specs.Holders.{is_latest_recent}
use Rattle.audit_waits.specs.declared.cubs.Cubs.{Cubs}
use Rattle.audit_waits.specs.declared.holders.Holders.{Holders}

-- tables tell the cubs' deaths, beliefs and records
pub record TellsCubs (s : Cubs) (m : Moment) : Type 0 where
  pub dead : (n : ℕ) → m.dead n ≡ has_number n s.dead
  pub believed : (c d : ℕ) → m.believed c d ≡ has_pair c d s.believed
  pub records : (c : ℕ) (r : Rec) → has_held way.Slot c r s.records ≡ list_any (same_record r) (m.records c)

-- whether a record is of an instance that was stopped a block play time before a beat at most
abbrev pub is_excusing : Params → Holders → ℕ → Held → Bool
is_excusing p h beat x = is_latest_recent p beat (mark_under x.beside h.stops)

-- whether a cub has such a record of a visit of a slot
abbrev pub excuses_in : Params → Holders → Cubs → ℕ → ℕ → ℕ → ℕ → Bool
excuses_in p h s c beat slot visit =
    list_any (λ x. is_held_at slot c visit x && is_excusing p h beat x) s.records
