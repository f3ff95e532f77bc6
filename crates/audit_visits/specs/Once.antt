-- That visits are served once, said of an entry and of those before it, and what a walk keeps for that.
use Rattle.std.specs.Prelude.{◌≡◌, ℕ, Bool, false, List, [], ◌∷◌, ◌++◌, Option, Some, None}
use Rattle.std.specs.List.{AllByRecursion, list_any}
use Rattle.tiger_base.specs.declared.number.Instance.{Instance}
use Rattle.tiger_base.specs.declared.message.Note.TheVariants as note
use Rattle.tiger_base.specs.declared.tenancy.Want.{Want}
use Rattle.slot_plan.specs.declared.params.Params.{Params}
use Rattle.node_kit.specs.declared.journal.What.{What}
use Rattle.node_kit.specs.declared.journal.What.TheVariants as what
use Rattle.run_facts.specs.Events.{Dated}
use Rattle.run_facts.specs.Order.{Noted}
use Rattle.run_model.specs.Fronts.{AnyByRecursion}
use Rattle.run_model.specs.Moments.{moment_of}
use Rattle.run_claims.specs.Deliveries.{sent_by, sent_in}
use Rattle.run_claims.specs.Visits.{AreOfOne, asks_same, IsAskForDead}
use Rattle.audit_frame.specs.Tables.{has_number}
use Rattle.audit_frame.specs.Wanted.{WantNumbers, has_want}
use Rattle.audit_visits.specs.Instances.{InstanceRows, instance_under}

-- ---- one entry

-- whether a log asks a disk for a read, for whatever instance
abbrev pub has_asked : Want → List Noted → Bool
has_asked want log = list_any (λ x. asks_same want x.entry.what) log

-- if an entry asks a disk, no entry before it asks for the same
abbrev pub IsFirstAsk : List Noted → What → Type 0
IsFirstAsk front (what.Sent link (note.ReadAsk want)) = has_asked want front ≡ false
IsFirstAsk front other = Unit {0}

-- what an entry sends is of the instance of all that was sent of its slot and visit; what it asks of a disk was not asked
-- before; and if that is a piece, the cub of the block's visit died before
pub record IsOnceBehind (p : Params) (front : List Noted) (beat : ℕ) (w : What) : Type 0 where
  pub instance : AllByRecursion (λ s. AllByRecursion (AreOfOne s) (sent_in front)) (sent_by beat w)
  pub ask : IsFirstAsk front w
  pub death : IsAskForDead p (moment_of front) w

-- a front of a log, with the next entry
abbrev pub front_with : List Noted → Noted → List Noted
front_with front x = front ++ x ∷ []

-- ---- what a walk keeps

-- something that is sent is of a slot and a visit
abbrev pub IsAtVisit : ℕ → ℕ → Dated Want → Type 0
IsAtVisit slot visit s = (s.item.slot.0 ≡ slot) × (s.item.visit ≡ visit)

-- of what was sent of a slot and a visit, the instance: there is none exactly if nothing was sent
abbrev pub IsInstanceAt : ℕ → ℕ → List (Dated Want) → Option Instance → Type 0
IsInstanceAt slot visit sent None = AllByRecursion (λ s. IsAtVisit slot visit s → ⊥) sent
IsInstanceAt slot visit sent (Some v) =
    AllByRecursion (λ s. IsAtVisit slot visit s → s.item.instance ≡ v) sent
    × AnyByRecursion (IsAtVisit slot visit) sent

-- which read a want is for: its slot, visit and piece alone
abbrev pub read_of : Want → Want
read_of want = record {
  instance = record { 0 = 0 };
  slot = want.slot;
  visit = want.visit;
  file = record { 0 = 0 };
  block = 0;
  piece = want.piece;
}

-- three tables tell whose each slot and visit is of which something was sent, which reads were asked for, and who died
pub record TellsServed (sent : InstanceRows) (asked : WantNumbers) (dead : List ℕ) (front : List Noted) : Type 0 where
  pub instance : (slot visit : ℕ) → IsInstanceAt slot visit (sent_in front) (instance_under slot visit sent)
  pub ask : (want : Want) → has_want (read_of want) asked ≡ has_asked want front
  pub death : (n : ℕ) → (moment_of front).dead n ≡ has_number n dead
