-- What was read of a text so far, as a front of a value: which line may stand behind it, and what it is then.
use Rattle.std.specs.Prelude.{◌≡◌, ℕ, ◌+◌, ◌-◌, ◌^◌, ◌<◌, ◌≤◌, List, [], ◌∷◌, ◌++◌, Option, Some, None, MatchOption, length, replicate}
use Rattle.std.specs.List.{All, AllByRecursion}
use Rattle.link_timing.specs.Clock.{FixedIsWithin}
use Rattle.link_timing.specs.declared.Delay.{Delay}
use Rattle.slot_plan.specs.Conditions.{IsPlan, IsWithin}
use Rattle.slot_plan.specs.declared.params.Params.{Params}
use Rattle.tiger_base.specs.Limits.{most_beats}
use Rattle.node_kit.specs.Courses.{CutsDeath, ReturnsLater}
use Rattle.node_kit.specs.declared.course.Digest32.{Digest32}
use Rattle.node_kit.specs.declared.journal.Entry.{Entry}
use Rattle.audit_text.specs.declared.item.Item.{Item}
use Rattle.audit_text.specs.declared.item.Item.TheVariants as item
use Rattle.audit_text.specs.Fits.{ItemFits}
use Rattle.audit_text.specs.Lines.{line_of}
use Rattle.audit_text.specs.Texts.{Parts, row_at, head_items, body_items}
use Rattle.audit_read.specs.Writable.{node_count, starts_in, start_in, last_beat, IsDeath, ReturnsIn, IsFault, IsFile, IsOrder, AreOrders, IsEntry, IsJournal}
use Rattle.audit_read.specs.declared.draft.Draft.{Draft}
use Rattle.audit_read.specs.declared.draft.Draft.TheVariants as draft
use Rattle.audit_read.specs.declared.given.Given.{Given}
use Rattle.audit_read.specs.declared.told.Told.{Told}

-- ---- the lines that were read

abbrev pub given_parts : Given → Parts
given_parts g = record {
  params = g.params;
  beats = g.beats;
  delay = g.delay;
  offsets = g.offsets;
  deaths = g.deaths;
  cuts = g.cuts;
  backs = g.backs;
  faults = g.faults;
  files = g.files;
  orders = g.orders;
  journals = [];
  digests = [];
}

-- the last journal is the one that is being read
abbrev pub told_parts : Told → Parts
told_parts t =
    record (given_parts t.given) { journals = t.journals ++ t.current ∷ []; digests = t.digests }

abbrev pub front_items : Parts → List Item
front_items q = head_items q ++ body_items q

abbrev pub written : Draft → List Item
written draft.Empty = []
written draft.Begun = item.Version ∷ []
written (draft.Planned p) = item.Version ∷ item.Plan p ∷ []
written (draft.Lasting p beats) = item.Version ∷ item.Plan p ∷ item.Beats beats ∷ []
written (draft.Paced p beats delay) =
    item.Version ∷ item.Plan p ∷ item.Beats beats ∷ item.Delay delay ∷ []
written (draft.Given g) = front_items (given_parts g)
written (draft.Told t) = front_items (told_parts t)
written (draft.Whole t) = front_items (told_parts t) ++ item.End ∷ []

-- ---- which line may stand next

abbrev pub AreOffsets : Params → List ℕ → Type 0
AreOffsets p offsets = (length offsets ≡ p.cubs + 1) × All (λ o. o ≤ p.skew) offsets

abbrev pub AreBeats : ℕ → Type 0
AreBeats beats = (1 ≤ beats) × (beats ≤ most_beats)

-- a death is told before all faults, files and orders, behind those of cubs with lower numbers; the cub returns late
-- enough and in the run, if it does
pub record AdmitsDeath (g : Given) (cub beat : ℕ) (back : Option ℕ) : Type 0 where
  pub faults : length g.faults ≡ 0
  pub files : length g.files ≡ 0
  pub orders : length g.orders ≡ 0
  pub next : length g.deaths ≤ cub
  pub inside : cub < g.params.cubs
  pub early : beat < g.beats
  pub later : ReturnsLater (Some beat) back
  pub in_run : ReturnsIn g.beats back

abbrev pub FirstAdmits : Item → Type 0
FirstAdmits item.Version = Unit {0}
FirstAdmits i = ⊥

abbrev pub BegunAdmits : Item → Type 0
BegunAdmits (item.Plan p) = IsPlan p
BegunAdmits i = ⊥

abbrev pub PlannedAdmits : Item → Type 0
PlannedAdmits (item.Beats beats) = AreBeats beats
PlannedAdmits i = ⊥

abbrev pub LastingAdmits : Params → Item → Type 0
LastingAdmits p (item.Delay delay) = FixedIsWithin delay p.delay
LastingAdmits p i = ⊥

abbrev pub PacedAdmits : Params → Item → Type 0
PacedAdmits p (item.Offsets offsets) = AreOffsets p offsets
PacedAdmits p i = ⊥

abbrev pub GivenAdmits : Given → Item → Type 0
GivenAdmits g (item.Death cub beat left back) = AdmitsDeath g cub.0 beat back
GivenAdmits g (item.Fault f) =
    (length g.files ≡ 0) × (length g.orders ≡ 0) × IsFault g.params g.beats f
GivenAdmits g (item.File f) =
    (length g.orders ≡ 0) × (length g.files + 1 < 2 ^ 32) × IsFile g.params f
GivenAdmits g (item.Order o) = IsOrder g.params g.beats g.files g.orders o
GivenAdmits g (item.Node n) = n.0 ≡ 0
GivenAdmits g i = ⊥

abbrev pub TellsAll : Told → Type 0
TellsAll t = length t.journals + 1 ≡ node_count t.given.params

abbrev pub ToldAdmits : Told → Item → Type 0
ToldAdmits t (item.Node n) =
    (length t.digests ≡ 0) × (n.0 ≡ length t.journals + 1) × (n.0 < node_count t.given.params)
ToldAdmits t (item.Entry e) = (length t.digests ≡ 0) × IsEntry t.given.params t.given.beats e
ToldAdmits t (item.Digest d) = TellsAll t × (length t.digests < starts_in t.given.orders)
ToldAdmits t item.End = TellsAll t × (length t.digests ≡ starts_in t.given.orders)
ToldAdmits t i = ⊥

abbrev pub Admits : Draft → Item → Type 0
Admits draft.Empty i = FirstAdmits i
Admits draft.Begun i = BegunAdmits i
Admits (draft.Planned p) i = PlannedAdmits i
Admits (draft.Lasting p beats) i = LastingAdmits p i
Admits (draft.Paced p beats delay) i = PacedAdmits p i
Admits (draft.Given g) i = GivenAdmits g i
Admits (draft.Told t) i = ToldAdmits t i
Admits (draft.Whole t) i = ⊥

-- ---- and what is read with it

abbrev pub params_in : Item → Params → Params
params_in (item.Plan p) q = p
params_in i q = q

abbrev pub opened : Params → ℕ → Delay → List ℕ → Given
opened p beats delay offsets = record {
  params = p;
  beats = beats;
  delay = delay;
  offsets = offsets;
  deaths = [];
  cuts = [];
  backs = [];
  faults = [];
  files = [];
  orders = [];
  starts = 0;
  latest = 0;
}

-- a row that says nothing of the cubs up to this number that it did not tell of
abbrev pub padded : List (Option ℕ) → ℕ → List (Option ℕ)
padded row count = row ++ replicate (count - length row) None

-- and then this of the next one
abbrev pub padded_with : List (Option ℕ) → ℕ → Option ℕ → List (Option ℕ)
padded_with row count value = padded row count ++ value ∷ []

abbrev pub given_with : Given → Item → Given
given_with g (item.Death cub beat left back) = record g {
  deaths = padded_with g.deaths cub.0 (Some beat);
  cuts = padded_with g.cuts cub.0 left;
  backs = padded_with g.backs cub.0 back;
}
given_with g (item.Fault f) = record g { faults = g.faults ++ f ∷ [] }
given_with g (item.File f) = record g { files = g.files ++ f ∷ [] }
given_with g (item.Order o) =
    record g { orders = g.orders ++ o ∷ []; starts = g.starts + start_in o.what; latest = o.beat }
given_with g i = g

abbrev pub told_with : Told → Item → Told
told_with t (item.Node n) = record t { journals = t.journals ++ t.current ∷ []; current = [] }
told_with t (item.Entry e) = record t { current = t.current ++ e ∷ [] }
told_with t (item.Digest d) = record t { digests = t.digests ++ d ∷ [] }
told_with t i = t

abbrev pub begun_told : Given → Told
begun_told g = record { given = g; journals = []; current = []; digests = [] }

abbrev pub after_begun : Item → Draft
after_begun (item.Plan p) = draft.Planned p
after_begun i = draft.Begun

abbrev pub after_planned : Params → Item → Draft
after_planned p (item.Beats beats) = draft.Lasting p beats
after_planned p i = draft.Planned p

abbrev pub after_lasting : Params → ℕ → Item → Draft
after_lasting p beats (item.Delay delay) = draft.Paced p beats delay
after_lasting p beats i = draft.Lasting p beats

abbrev pub after_paced : Params → ℕ → Delay → Item → Draft
after_paced p beats delay (item.Offsets offsets) = draft.Given (opened p beats delay offsets)
after_paced p beats delay i = draft.Paced p beats delay

abbrev pub after_given : Given → Item → Draft
after_given g (item.Node n) = draft.Told (begun_told g)
after_given g i = draft.Given (given_with g i)

abbrev pub after_told : Told → Item → Draft
after_told t item.End = draft.Whole t
after_told t i = draft.Told (told_with t i)

abbrev pub after : Draft → Item → Draft
after draft.Empty i = draft.Begun
after draft.Begun i = after_begun i
after (draft.Planned p) i = after_planned p i
after (draft.Lasting p beats) i = after_lasting p beats i
after (draft.Paced p beats delay) i = after_paced p beats delay i
after (draft.Given g) i = after_given g i
after (draft.Told t) i = after_told t i
after (draft.Whole t) i = draft.Whole t

-- ---- what holds of each draft that was read

pub record IsGiven (g : Given) : Type 0 where
  pub plan : IsPlan g.params
  pub beats : AreBeats g.beats
  pub delay : FixedIsWithin g.delay g.params.delay
  pub offsets : AreOffsets g.params g.offsets
  pub cubs : length g.deaths ≤ g.params.cubs
  pub deaths : AllByRecursion (IsDeath g.beats) g.deaths
  pub returns : AllByRecursion (ReturnsIn g.beats) g.backs
  pub cuts : length g.cuts ≡ length g.deaths
  pub backs : length g.backs ≡ length g.deaths
  pub cut_deaths : (n : ℕ) → CutsDeath (row_at g.deaths n) (row_at g.cuts n)
  pub returns_later : (n : ℕ) → ReturnsLater (row_at g.deaths n) (row_at g.backs n)
  pub faults : AllByRecursion (IsFault g.params g.beats) g.faults
  pub files : AllByRecursion (IsFile g.params) g.files
  pub few : length g.files < 2 ^ 32
  pub orders : AreOrders g.params g.beats g.files [] g.orders
  pub starts : g.starts ≡ starts_in g.orders
  pub latest : g.latest ≡ last_beat g.orders

-- no digest is told before all journals are, and none is told of what is no start
pub record IsTold (t : Told) : Type 0 where
  pub given : IsGiven t.given
  pub nodes : length t.journals + 1 ≤ node_count t.given.params
  pub journals : AllByRecursion (IsJournal t.given.params t.given.beats) t.journals
  pub current : IsJournal t.given.params t.given.beats t.current
  pub digests : length t.digests ≤ starts_in t.given.orders
  pub in_order : 1 ≤ length t.digests → TellsAll t

pub record IsWhole (t : Told) : Type 0 where
  pub told : IsTold t
  pub nodes : TellsAll t
  pub digests : length t.digests ≡ starts_in t.given.orders

abbrev pub IsSound : Draft → Type 0
IsSound draft.Empty = Unit {0}
IsSound draft.Begun = Unit {0}
IsSound (draft.Planned p) = IsPlan p
IsSound (draft.Lasting p beats) = IsPlan p × AreBeats beats
IsSound (draft.Paced p beats delay) = IsPlan p × AreBeats beats × FixedIsWithin delay p.delay
IsSound (draft.Given g) = IsGiven g
IsSound (draft.Told t) = IsTold t
IsSound (draft.Whole t) = IsWhole t

-- ---- what a line does

-- the draft with a line that may stand next; none exactly if it may not
abbrev pub IsNext : Draft → Item → Option Draft → Type 0
IsNext d i o = MatchOption o (¬ Admits d i) (λ e. Admits d i × (e ≡ after d i))

-- the draft with the item that a line says; none exactly if it says none that may stand next
abbrev pub IsReadAs : Draft → List ℕ → Draft → Item → Type 0
IsReadAs d line e i = ItemFits i × (line ≡ line_of i) × Admits d i × (e ≡ after d i)

abbrev pub IsRead : Draft → List ℕ → Option Draft → Type 0
IsRead d line o =
    MatchOption o ((i : Item) → ItemFits i → line ≡ line_of i → ¬ Admits d i)
    (λ e. (i : Item) × IsReadAs d line e i)

-- ---- the value

-- what is told of a run that is given this, with these journals and digests
abbrev pub parts_with : Given → List (List Entry) → List Digest32 → Parts
parts_with g journals digests = record (given_parts g) {
  deaths = padded g.deaths g.params.cubs;
  cuts = padded g.cuts g.params.cubs;
  backs = padded g.backs g.params.cubs;
  journals = journals;
  digests = digests;
}

abbrev pub whole_parts : Told → Parts
whole_parts t = parts_with t.given (t.journals ++ t.current ∷ []) t.digests

-- ---- the ranges of a plan's numbers, in three parts

abbrev pub SizesInRange : Params → Type 0
SizesInRange p =
    IsWithin 3 64 p.cubs × IsWithin 1 8 p.disks × IsWithin 1 4096 p.slots × IsWithin 10000 100000000 p.play
    × IsWithin 1 8 p.pieces × IsWithin 1 1048576 p.block

abbrev pub WindowsInRange : Params → Type 0
WindowsInRange p =
    IsWithin 1 1000000 p.beat × IsWithin 1 16 p.delay × (p.skew ≤ 1000000)
    × IsWithin 1 1000000000 p.window_a × IsWithin 1 1000000000 p.window_b × IsWithin 1 1000000000 p.read_lead

abbrev pub LeadsInRange : Params → Type 0
LeadsInRange p =
    IsWithin 1 1000000000 p.min_lead × IsWithin 1 10000000000 p.max_lead × IsWithin 1 100000 p.batch
    × IsWithin 1 100000 p.heart × IsWithin 1 1000000000 p.deadman × IsWithin 1 1000000000 p.hold
