-- What worked logs of a run in which disks may die are judged by: read faults, whether a visit is excused, whether all who
-- were put are served, and accounts that break one claim alone.
use Rattle.std.specs.Prelude.{◌≡◌, ℕ, ◌*◌, Bool, true, false, List, [], ◌∷◌}
use Rattle.tiger_base.specs.declared.message.Note.TheVariants as note
use Rattle.tiger_base.specs.declared.tenancy.Ask.{Ask}
use Rattle.slot_plan.specs.Samples.{small}
use Rattle.node_kit.specs.declared.course.Order.{Order}
use Rattle.node_kit.specs.declared.course.OrderKind.TheVariants as kind
use Rattle.node_kit.specs.declared.course.ReadFault.{ReadFault}
use Rattle.node_kit.specs.declared.journal.What.TheVariants as what
use Rattle.run_facts.specs.Order.{Noted}
use Rattle.run_model.specs.Samples.{IsOfTen, ten, all, at, starts, put, three, ask_for}
use Rattle.run_claims.specs.Accounts.{Account, log_of}
use Rattle.run_claims.specs.Claims.{FreePuts, PartViews, NoReturn, TrueBelief, TrueFaults, VisitsInOrder, FairStarts}
use Rattle.run_claims.specs.Samples.{once}
use Rattle.spare_claims.specs.Delivery.{IsSpareExcused, AreSpareServed, disk_deaths}
use Rattle.spare_claims.specs.Claims.{AreAskedOnce, SpareDelivery, MeetsSpareClaims}

-- a read fault of a disk, from a beat on and until another
abbrev pub lasting : ℕ → ℕ → ℕ → ReadFault
lasting disk from until = record { disk = record { 0 = disk }; from = from; until = until }

-- in a run of 600 beats with these faults, in which instance 0 was put and this log follows, visit 1 of it is excused
abbrev pub IsExcusedIn : List ReadFault → List Noted → Type 0
IsExcusedIn faults log = IsSpareExcused small (all (put 0 1 three ∷ log)) (disk_deaths faults 600) 0 1

-- in a run of 250 beats with these faults and this log, over the file of ten bytes, all that were put are served by the
-- true time of its end, in micros, and nobody else
abbrev pub AreServedByEnd : IsOfTen → List ReadFault → ℕ → List Noted → Type 0
AreServedByEnd sound faults end log = AreSpareServed small (ten sound) (all log) (disk_deaths faults 250) end log

-- ---- accounts

-- instance 0 is to play the first block of the file alone
abbrev pub ask_one : Ask
ask_one = ask_for 0 0 1 0

-- the controller sends the start of an ask to a cub in beat 0, the plain one or the redundant one
abbrev pub commands : ℕ → Ask → Bool → Noted
commands cub ask redundant = at 16 0 (what.Sent (record { 0 = cub }) (note.Start redundant ask))

-- the controller sends both starts of an ask, to cubs 0 and 1, and cub 0 gets the plain one in the next beat
abbrev pub started : Ask → List Noted → List Noted
started ask log = commands 0 ask false ∷ commands 1 ask true ∷ starts 0 1 ask false ∷ log

-- instance 0 is to be stopped in beat 10
abbrev pub finished : List Order
finished = (record { beat = 10; what = kind.Finish (record { 0 = 0 }) }) ∷ []

-- what a controller's clock shows in a beat if it is right
abbrev pub right : ℕ → ℕ
right beat = beat * 10000

-- a run over the file of ten bytes, with these faults and orders, of so many beats, with this log; cub 0 ticks in beat 1
-- alone, the controller in each beat, and both clocks are right
abbrev pub run_of : IsOfTen → List ReadFault → List Order → ℕ → List Noted → Account
run_of sound faults orders beats log = record {
  plan = small;
  catalogue = ten sound;
  faults = faults;
  orders = orders;
  journals = all log;
  beats = beats;
  ticked = once 1 10000;
  commands = beats;
  clock = right;
}

-- ---- one claim alone

-- the nine claims by what each of them is of
pub data Nine : Type 0 where
  Puts : Nine
  Views : Nine
  Returns : Nine
  Asks : Nine
  Beliefs : Nine
  Faults : Nine
  Blocks : Nine
  Turns : Nine
  Starts : Nine

-- an account meets one of them
abbrev pub MeetsOneOf : Nine → Account → Type 0
MeetsOneOf Puts a = FreePuts a
MeetsOneOf Views a = PartViews a
MeetsOneOf Returns a = NoReturn a
MeetsOneOf Asks a = AreAskedOnce a.plan (log_of a)
MeetsOneOf Beliefs a = TrueBelief a
MeetsOneOf Faults a = TrueFaults a
MeetsOneOf Blocks a = SpareDelivery a
MeetsOneOf Turns a = VisitsInOrder a
MeetsOneOf Starts a = FairStarts a

-- it does not meet all, though it meets each but this one
abbrev pub BreaksOnly : Nine → Account → Type 0
BreaksOnly one a = (MeetsSpareClaims a → ⊥) × ((other : Nine) → (other ≡ one → ⊥) → MeetsOneOf other a)
