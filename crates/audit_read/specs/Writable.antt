-- Which kept values are writable: those whose parts lie in their ranges and fit one another, so that whoever reads the
-- text of one meets no number outside its range. That a run keeps the value is not asked.
use Rattle.std.specs.Prelude.{◌≡◌, ℕ, ◌+◌, ◌^◌, ◌<◌, ◌≤◌, List, [], ◌∷◌, ◌++◌, Option, Some, None, length, slice_get}
use Rattle.std.specs.Int.{div_ceil}
use Rattle.std.specs.List.{All, AllByRecursion, fold}
use Rattle.tiger_base.specs.Limits.{most_blocks}
use Rattle.tiger_base.specs.declared.message.Note.{Note}
use Rattle.tiger_base.specs.declared.message.Note.TheVariants as note
use Rattle.tiger_base.specs.declared.tenancy.Ask.{Ask}
use Rattle.tiger_base.specs.declared.tenancy.Tag.{Tag}
use Rattle.tiger_base.specs.declared.tenancy.Tenancy.{Tenancy}
use Rattle.slot_plan.specs.declared.params.Params.{Params}
use Rattle.slot_plan.specs.Times.{disk_count}
use Rattle.stripe_layout.specs.declared.catalogue.FileInfo.{FileInfo}
use Rattle.node_kit.specs.Courses.{IsCourse}
use Rattle.node_kit.specs.declared.course.Kept.{Kept}
use Rattle.node_kit.specs.declared.course.Order.{Order}
use Rattle.node_kit.specs.declared.course.OrderKind.{OrderKind}
use Rattle.node_kit.specs.declared.course.OrderKind.TheVariants.{Begin, Finish}
use Rattle.node_kit.specs.declared.course.ReadFault.{ReadFault}
use Rattle.node_kit.specs.declared.journal.Entry.{Entry}
use Rattle.node_kit.specs.declared.journal.What.{What}
use Rattle.node_kit.specs.declared.journal.What.TheVariants as what
use Rattle.audit_text.specs.Fits.{ItemFits}
use Rattle.audit_text.specs.Texts.{parts_of, items_in}

-- the nodes of a plan: the cubs, the disks, the controller and the viewers
abbrev pub node_count : Params → ℕ
node_count p = p.cubs + disk_count p + 2

-- ---- what befalls a run

-- a cub lives, or dies in a beat of the run
abbrev pub IsDeath : ℕ → Option ℕ → Type 0
IsDeath beats None = Unit {0}
IsDeath beats (Some beat) = beat < beats

-- and it does not return, or does in one
abbrev pub ReturnsIn : ℕ → Option ℕ → Type 0
ReturnsIn beats None = Unit {0}
ReturnsIn beats (Some back) = back < beats

-- a fault is of a disk of the plan, in a beat or more of the run
abbrev pub IsFault : Params → ℕ → ReadFault → Type 0
IsFault p beats f = (f.disk.0 < disk_count p) × (f.from < f.until) × (f.until ≤ beats)

-- a file has a byte or more, and begins on a disk of the plan
abbrev pub IsFile : Params → FileInfo → Type 0
IsFile p f = (1 ≤ f.len) × (f.disk.0 < disk_count p)

-- ---- orders

abbrev pub start_in : OrderKind → ℕ
start_in (Begin ask) = 1
start_in (Finish v) = 0

-- how many of the orders are starts
abbrev pub starts_in : List Order → ℕ
starts_in orders = fold (λ n o. n + start_in o.what) 0 orders

-- the beat of the last of these orders, and 0 if there is none
abbrev pub last_beat : List Order → ℕ
last_beat orders = fold (λ n o. o.beat) 0 orders

-- a start may be of this number of blocks
abbrev pub IsAsk : Ask → Type 0
IsAsk ask = (1 ≤ ask.count) × (ask.count ≤ most_blocks)

-- a start names a file that is there, with the file's number of blocks and its first disk
abbrev pub IsAskOf : Params → Ask → Option FileInfo → Type 0
IsAskOf p ask None = ⊥
IsAskOf p ask (Some f) = (ask.count ≡ div_ceil f.len p.block) × (ask.disk ≡ f.disk)

-- what may be ordered behind these orders: the start of the next instance, or the stop of an earlier one
abbrev pub MayBeOrdered : Params → List FileInfo → List Order → OrderKind → Type 0
MayBeOrdered p files before (Begin ask) =
    (ask.instance.0 ≡ starts_in before) × IsAskOf p ask (slice_get files ask.file.0) × IsAsk ask
MayBeOrdered p files before (Finish v) = v.0 < starts_in before

-- an order is in a beat of the run, not before the order in front of it, and what it orders may be ordered there
pub record IsOrder (p : Params) (beats : ℕ) (files : List FileInfo) (before : List Order) (o : Order) : Type 0 where
  pub early : o.beat < beats
  pub in_time : last_beat before ≤ o.beat
  pub orders : MayBeOrdered p files before o.what

-- each of these orders may stand behind those before it
abbrev pub AreOrders : Params → ℕ → List FileInfo → List Order → List Order → Type 0
AreOrders p beats files before [] = Unit {0}
AreOrders p beats files before (o ∷ rest) =
    IsOrder p beats files before o × AreOrders p beats files (before ++ o ∷ []) rest

-- ---- entries

-- a slot is the plan's, and a visit is none that is too late for a time
abbrev pub IsPlace : Params → ℕ → ℕ → Type 0
IsPlace p slot visit = (slot < p.slots) × (visit ≤ 2 ^ 32)

abbrev pub IsTenancy : Params → Tenancy → Type 0
IsTenancy p t = (t.slot.0 < p.slots) × (t.first ≤ t.last) × (t.last ≤ 2 ^ 32)

abbrev pub IsTag : Params → Option Tag → Type 0
IsTag p None = Unit {0}
IsTag p (Some tag) = IsPlace p tag.slot.0 tag.visit

abbrev pub IsNote : Params → Note → Type 0
IsNote p (note.ViewerState state) = IsTenancy p state.tenancy × (state.visit ≤ 2 ^ 32)
IsNote p (note.MirrorState state) = IsTenancy p state.tenancy × (state.visit ≤ 2 ^ 32)
IsNote p (note.Start redundant ask) = IsAsk ask
IsNote p (note.Deschedule instance tag) = IsTag p tag
IsNote p (note.Kill instance slot visit) = IsPlace p slot.0 visit
IsNote p (note.Placed tenancy) = IsTenancy p tenancy
IsNote p note.Heartbeat = Unit {0}
IsNote p (note.ReadAsk want) = IsPlace p want.slot.0 want.visit
IsNote p (note.ReadDone want part) = IsPlace p want.slot.0 want.visit
IsNote p (note.Whole want sent part) = IsPlace p want.slot.0 want.visit
IsNote p (note.Piece want sent part) = IsPlace p want.slot.0 want.visit
IsNote p (note.Back from) = Unit {0}

-- the slots, visits and numbers of blocks that an entry names are in their ranges
abbrev pub IsWhat : Params → What → Type 0
IsWhat p (what.Got link n) = IsNote p n
IsWhat p (what.Sent link n) = IsNote p n
IsWhat p (what.Took r) = IsTenancy p r.tenancy × (r.visit ≤ 2 ^ 32)
IsWhat p (what.Dropped r) = IsTenancy p r.tenancy × (r.visit ≤ 2 ^ 32)
IsWhat p (what.Queued instance disk) = Unit {0}
IsWhat p (what.Unqueued instance) = Unit {0}
IsWhat p (what.Put tenancy) = IsTenancy p tenancy
IsWhat p (what.Gone instance) = Unit {0}
IsWhat p (what.ReadFailed want) = IsPlace p want.slot.0 want.visit
IsWhat p (what.Believed cub) = Unit {0}
IsWhat p what.Died = Unit {0}
IsWhat p what.Returned = Unit {0}

-- and its beat is one of the run
abbrev pub IsEntry : Params → ℕ → Entry → Type 0
IsEntry p beats e = (e.stamp.beat < beats) × IsWhat p e.what

abbrev pub IsJournal : Params → ℕ → List Entry → Type 0
IsJournal p beats journal = AllByRecursion (IsEntry p beats) journal

-- ---- values

-- Its plan is one, as each value of the type has it, and its catalogue too.
pub record IsWritable (k : Kept) : Type 0 where
  pub course : IsCourse k.course
  pub lasting : 1 ≤ k.course.beats
  pub deaths : AllByRecursion (IsDeath k.course.beats) k.course.deaths
  pub returns : AllByRecursion (ReturnsIn k.course.beats) k.course.backs
  pub faults : AllByRecursion (IsFault k.course.plan.params k.course.beats) k.course.faults
  pub block : k.catalogue.block ≡ k.course.plan.params.block
  pub disks : k.catalogue.disks ≡ disk_count k.course.plan.params
  pub files : AllByRecursion (IsFile k.course.plan.params) k.catalogue.files
  pub orders : AreOrders k.course.plan.params k.course.beats k.catalogue.files [] k.orders
  pub nodes : length k.journals ≡ node_count k.course.plan.params
  pub journals : AllByRecursion (IsJournal k.course.plan.params k.course.beats) k.journals
  pub digests : length k.digests ≡ starts_in k.orders
  pub numbers : All ItemFits (items_in (parts_of k))
