-- At which tick somebody is passed over first, and what a walk along the ticks keeps for that.
use Rattle.std.specs.Prelude.{◌≡◌, ℕ, zero, suc, ◌<◌, ◌≤◌, ◌+◌, ◌*◌, Bool, false, not, ◌||◌, List, [], ◌∷◌, filter, length, take, slice_index_or, Option, Some, None, IsTrue, ◌⊎◌}
use Rattle.std.specs.List.{AllByRecursion, fold}
use Rattle.slot_plan.specs.declared.params.Params.{Params}
use Rattle.slot_plan.specs.Keys.{Key}
use Rattle.slot_plan.specs.Times.{disk_of, in_window}
use Rattle.node_kit.specs.declared.course.Order.{Order}
use Rattle.run_facts.specs.Order.{Noted, IsNotAfter}
use Rattle.run_model.specs.Moments.{Moment, next_moment, opening}
use Rattle.run_model.specs.Orders.{IsNotPassedOver, IsTaken, end_of_tick, is_up_to}
use Rattle.run_claims.specs.Patience.{NobodyIsPassedOver}
use Rattle.audit_frame.specs.Lines.{noted_line, told_by}
use Rattle.audit_frame.specs.declared.lines.Line.{Line}
use Rattle.audit_waits.specs.Cubs.{TellsCubs, excuses_in}
use Rattle.audit_waits.specs.Holders.{TellsHolders, has_its_visit, holder_in}
use Rattle.audit_waits.specs.Starts.{TellsStarts, AreAsked, AreDisksOf, waits_for}
use Rattle.audit_waits.specs.declared.so_far.SoFar.{SoFar}
use Rattle.audit_waits.specs.declared.walk.PassedOver.{PassedOver}
use Rattle.audit_waits.specs.declared.walk.Walk.{Walk}

-- ---- the first tick

-- the tick of a cub in a beat comes before that of another: in a lower beat, or in the same beat at a lower cub
abbrev pub ComesBefore : ℕ → ℕ → ℕ → ℕ → Type 0
ComesBefore cub beat other in_beat = (beat < in_beat) ⊎ ((beat ≡ in_beat) × (cub < other))

-- the last place of a row of so many, if there is one
abbrev pub last_place : ℕ → Option ℕ
last_place zero = None
last_place (suc n) = Some n

-- At a tick somebody is passed over, and at no tick before it; the place is that of the last entry of the log up to it.
pub record IsFirstPassedOver (p : Params) (orders : List Order) (ticked : ℕ → ℕ → ℕ → Type 0) (log : List Noted) (f : PassedOver) : Type 0 where
  pub reading : ℕ
  pub low : f.cub.0 < p.cubs
  pub ticks : ticked f.cub.0 f.beat reading
  pub passed_over : IsNotPassedOver p orders (end_of_tick f.beat f.cub.0 log) f.cub.0 f.beat reading → ⊥
  pub before : (cub beat reading : ℕ) → cub < p.cubs → ticked cub beat reading → ComesBefore cub beat f.cub.0 f.beat
      → IsNotPassedOver p orders (end_of_tick beat cub log) cub beat reading
  pub place : f.place ≡ last_place (length (filter (is_up_to f.beat f.cub.0) log))

-- an answer decides whether nobody is passed over: it names no tick if that is so, and else the first at which somebody is
abbrev pub DecidesPatience : Params → List Order → (ℕ → ℕ → ℕ → Type 0) → List Noted → Option PassedOver → Type 0
DecidesPatience p orders ticked log None = NobodyIsPassedOver p orders ticked log
DecidesPatience p orders ticked log (Some f) = IsFirstPassedOver p orders ticked log f

-- no entry of a log stands behind one of a later beat, or in a beat behind one of a later node
abbrev pub NoneIsBehind : List Noted → Type 0
NoneIsBehind [] = Unit {0}
NoneIsBehind (x ∷ xs) = AllByRecursion (IsNotAfter x) xs × NoneIsBehind xs

-- ---- what is kept

-- tables tell all of a moment by which a tick is judged
pub record TellsWaits (p : Params) (orders : List Order) (s : SoFar) (m : Moment) : Type 0 where
  pub disks : AreDisksOf s.starts.disks orders
  pub asked : AreAsked s.starts.asked.items orders
  pub starts : TellsStarts p s.starts m
  pub holders : TellsHolders p s.holders m.schedule
  pub cubs : TellsCubs s.cubs m

-- ---- how a tick is judged

-- a tick of a cub in a beat, at a reading, and whether a visit of a slot is taken then, by the tables
abbrev pub is_taken_by : Params → SoFar → ℕ → ℕ → Key → Bool
is_taken_by p s c beat k = has_its_visit (holder_in s.holders k.0.0) k.1 || excuses_in p s.holders s.cubs c beat k.0.0 k.1

abbrev pub is_missed_by : Params → SoFar → ℕ → ℕ → Key → Bool
is_missed_by p s c beat k = not (is_taken_by p s c beat k)

-- each visit of a disk in the window is taken
abbrev pub AreVisitsTaken : Params → Moment → ℕ → ℕ → ℕ → ℕ → Type 0
AreVisitsTaken p m c beat reading disk = (slot visit : ℕ) → slot < p.slots → disk_of p visit ≡ disk
    → IsTrue (in_window p reading slot visit) → IsTaken p m c beat slot visit

-- and so it is if a plain or a redundant start waits for the disk
abbrev pub IsDiskServed : Params → List (ℕ × ℕ) → Moment → ℕ → ℕ → ℕ → Bool → ℕ → Type 0
IsDiskServed p disks m c beat reading redundant disk =
    (v : ℕ) → IsTrue (waits_for p disks m redundant disk v) → AreVisitsTaken p m c beat reading disk

-- and at each disk of a cub
abbrev pub AreDisksServed : Params → List (ℕ × ℕ) → Moment → ℕ → ℕ → ℕ → Bool → ℕ → Type 0
AreDisksServed p disks m c beat reading redundant cub =
    (k : ℕ) → k < p.disks → IsDiskServed p disks m c beat reading redundant (cub + k * p.cubs)

-- ---- how a walk goes

-- what an answer says of one tick, at a moment behind so many entries: it names no tick if nobody is passed over, and else
-- this one
abbrev pub JudgesTick : Params → List Order → (ℕ → ℕ → ℕ → Type 0) → Moment → ℕ → ℕ → ℕ → Option PassedOver → Type 0
JudgesTick p orders ticked m cub beat count None =
    (reading : ℕ) → ticked cub beat reading → IsNotPassedOver p orders m cub beat reading
JudgesTick p orders ticked m cub beat count (Some f) =
    (f.cub.0 ≡ cub) × (f.beat ≡ beat) × (f.place ≡ last_place count)
    × ((reading : ℕ) × ticked cub beat reading × (IsNotPassedOver p orders m cub beat reading → ⊥))

abbrev pub SaysTick : Params → List Order → (ℕ → ℕ → ℕ → Type 0) → List Noted → ℕ → ℕ → Option PassedOver → Type 0
SaysTick p orders ticked log cub beat answer =
    JudgesTick p orders ticked (end_of_tick beat cub log) cub beat (length (filter (is_up_to beat cub) log)) answer

-- and of the ticks of a beat: it names the first of them at which somebody is passed over
abbrev pub SaysBeat : Params → List Order → (ℕ → ℕ → ℕ → Type 0) → List Noted → ℕ → Option PassedOver → Type 0
SaysBeat p orders ticked log beat None = (cub : ℕ) → cub < p.cubs → SaysTick p orders ticked log cub beat None
SaysBeat p orders ticked log beat (Some f) =
    (f.cub.0 < p.cubs) × SaysTick p orders ticked log f.cub.0 beat (Some f)
    × ((cub : ℕ) → cub < f.cub.0 → SaysTick p orders ticked log cub beat None)

-- a walk is behind entries that are all of ticks up to this one, and knows what they tell
pub record StandsBefore (p : Params) (orders : List Order) (lines : List Line) (w : Walk) (beat cub : ℕ) : Type 0 where
  pub inside : w.place ≤ length lines
  pub tells : TellsWaits p orders w.so_far (fold next_moment opening (take w.place (told_by lines)))
  pub early : AllByRecursion (λ x. IsTrue (is_up_to beat cub x)) (take w.place (told_by lines))

-- the line at a place is of a tick up to this one; there is none exactly if the log ends there, or its line is of a later tick
abbrev pub IsNextLine : List Line → ℕ → ℕ → ℕ → Option Line → Type 0
IsNextLine lines place beat cub None =
    (length lines ≤ place)
    ⊎ ((place < length lines) × ((x : Line) × ((d : Line) → slice_index_or lines place d ≡ x) × (is_up_to beat cub (noted_line x) ≡ false)))
IsNextLine lines place beat cub (Some x) =
    (place < length lines) × ((d : Line) → slice_index_or lines place d ≡ x) × IsTrue (is_up_to beat cub (noted_line x))
