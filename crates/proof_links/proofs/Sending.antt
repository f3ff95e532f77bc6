-- Which messages each kind of node sends: cubs, disks and the controller.
use Rattle.std.proofs.Common.{◌≡◌, ℕ, List, true, refl, sym, subst, ⊎_elim}
use Rattle.tiger_base.specs.declared.number.Instance.{Instance}
use Rattle.tiger_base.specs.declared.number.LinkNo.{LinkNo}
use Rattle.tiger_base.specs.declared.number.SlotNo.{SlotNo}
use Rattle.tiger_base.specs.declared.number.Stamp.{Stamp}
use Rattle.tiger_base.specs.declared.tenancy.PieceState.{PieceState}
use Rattle.tiger_base.specs.declared.tenancy.Want.{Want}
use Rattle.tiger_base.specs.declared.message.Msg.{Msg}
use Rattle.tiger_base.specs.declared.message.Msg.TheVariants as msg
use Rattle.tiger_base.specs.Notes.{noted}
use Rattle.slot_plan.specs.declared.params.Params.{Params}
use Rattle.slot_plan.specs.Conditions.{IsPlan}
use Rattle.node_kit.specs.declared.course.Order.{Order}
use Rattle.node_kit.specs.declared.outbox.Out.{Out}
use Rattle.node_kit.specs.declared.outbox.Out.TheVariants as out
use Rattle.node_kit.specs.Form.{is_in_form}
use Rattle.node_kit.specs.Steps.{Deed, Input, stamp_of}
use Rattle.node_kit.specs.Steps.Input.{Take, Tick}
use Rattle.node_kit.specs.Ways.{way_ahead, way_from_disk}
use Rattle.node_kit.specs.Deeds.{nothing}
use Rattle.cub_rules.specs.declared.store.Store.{Store}
use Rattle.cub_changes.specs.Causes.{Cause, IsService}
use Rattle.cub_changes.specs.Changes.{Change}
use Rattle.cub_changes.specs.Outputs.{Output, output, ComesOf}
use Rattle.cub_changes.specs.Outputs.Output.{Took, HeartbeatSent}
use Rattle.cub_changes.specs.Laws.{HasCause}
use Rattle.cub_changes.proofs.Causing.{have_causes}
use Rattle.disk_core.specs.State.{DiskState}
use Rattle.disk_core.specs.Rules.{disk_step, asked, answers, read_part}
use Rattle.controller_core.specs.declared.known.Known.{Known}
use Rattle.proof_lives.specs.Lives.{deed_of}
use Rattle.run_facts.specs.Events.{is_tick_input}
use Rattle.lists.specs.Elements.{In}
use Rattle.lists.proofs.Elements.{chosen}
use Rattle.lists.proofs.Each.{all_in}
use Rattle.proof_controller.specs.Controllers.{command}
use Rattle.proof_controller.proofs.Commands.{IsCommand, commanding_out}
use Rattle.proof_facts.specs.Beside.{GoesAhead, IsAddition}

-- messages that a cub may send in an event by which it does not come back, and a disk and the controller in any
abbrev pub IsOfCub : Msg → Type 0
IsOfCub (msg.Start redundant ask) = ⊥
IsOfCub (msg.ReadDone want part) = ⊥
IsOfCub (msg.Back from) = ⊥
IsOfCub other = Unit {0}

-- and what it sends at a return
abbrev pub IsBack : Msg → Type 0
IsBack (msg.Back from) = Unit {0}
IsBack other = ⊥

-- and what may be added
abbrev pub IsAdded : Msg → Type 0
IsAdded (msg.MirrorState x) = Unit {0}
IsAdded (msg.Kill v s n) = Unit {0}
IsAdded other = ⊥

-- what it may send, though none of its lives tells of that: at a return, or as an addition
abbrev pub IsBesideLives : Msg → Type 0
IsBesideLives (msg.Back from) = Unit {0}
IsBesideLives (msg.MirrorState x) = Unit {0}
IsBesideLives (msg.Kill v s n) = Unit {0}
IsBesideLives other = ⊥

abbrev pub IsOfDisk : Msg → Type 0
IsOfDisk (msg.ReadDone want part) = Unit {0}
IsOfDisk other = ⊥

abbrev pub IsOfController : Msg → Type 0
IsOfController (msg.Start redundant ask) = Unit {0}
IsOfController (msg.Deschedule v tag) = Unit {0}
IsOfController other = ⊥

-- ---- cubs

abbrev IsOutOfCub : Out Msg → Type 0
IsOutOfCub (out.Send link m) = IsOfCub m
IsOutOfCub other = Unit {0}

form_of_cub : (p : Params) (c : ℕ) (stamp : Stamp) (f : Output) → IsOutOfCub (output p c stamp f)
form_of_cub p c stamp (Took r) = tt
form_of_cub p c stamp other = tt

-- Whatever a cub puts out has a cause.
cause_of : (p : Params) (c : ℕ) (i : Input Msg) (h : Store) (o : Out Msg) → In o (deed_of p c i h).outs
    → HasCause p c i h o
cause_of p c i h o k =
    all_in (HasCause p c i h) o (deed_of p c i h).outs (have_causes p c i h) k

-- Whatever a cub sends is such a message.
pub cub_sends : (p : Params) (c : ℕ) (i : Input Msg) (h : Store) (link : LinkNo) (m : Msg)
    → In (out.Send link m) (deed_of p c i h).outs → IsOfCub m
cub_sends p c i h link m k =
    let why = cause_of p c i h (out.Send link m) k in
    subst IsOutOfCub (sym why.is) (form_of_cub p c (stamp_of i) why.form)

-- What is added is sent ahead, and is such a message.
ahead_added : (p : Params) (c : ℕ) (link : LinkNo) (m k : Msg) → GoesAhead p c (out.Send link m) k → IsAdded k → IsAdded m
ahead_added p c link m k g may =
    let goes : out.Send link m ≡ out.Send (way_ahead p c g.ahead) k = g.is in
    let same : m ≡ k = cc in
    subst IsAdded (sym same) may

pub is_added : (p : Params) (c : ℕ) (link : LinkNo) (m : Msg) → IsAddition p c (out.Send link m) → IsAdded m
is_added p c link m a = ⊎_elim
    (λ (q : (x : PieceState) × GoesAhead p c (out.Send link m) (msg.MirrorState x)).
    ahead_added p c link m (msg.MirrorState q.0) q.1 tt)
    (λ (q : (v : Instance) × (s : SlotNo) × (n : ℕ) × GoesAhead p c (out.Send link m) (msg.Kill v s n)).
    ahead_added p c link m (msg.Kill q.0 q.1 q.2) q.3 tt)
    a

-- A cub may send it, and no life need tell of that.
pub of_added : (m : Msg) → IsAdded m → IsOfCub m × IsBesideLives m
of_added (msg.MirrorState x) a = (tt, tt)
of_added (msg.Kill v s n) a = (tt, tt)
of_added other a = absurd a

-- Nor need one tell of what is sent at a return.
pub of_back : (m : Msg) → IsBack m → IsBesideLives m
of_back (msg.Back from) b = tt
of_back other b = absurd b

beat_form : (p : Params) (c : ℕ) (stamp : Stamp) (f : Output) (link : LinkNo)
    → out.Send link msg.Heartbeat ≡ output p c stamp f → f ≡ HeartbeatSent
beat_form p c stamp HeartbeatSent link e = refl
beat_form p c stamp other link e = absurd (cc)

-- A cub sends a heartbeat at a tick.
pub beat_at_tick : (p : Params) (c : ℕ) (i : Input Msg) (h : Store) (link : LinkNo)
    → In (out.Send link msg.Heartbeat) (deed_of p c i h).outs → is_tick_input i ≡ true
beat_at_tick p c (Tick stamp) h link k = refl
beat_at_tick p c (Take stamp way m) h link k =
    let why = cause_of p c (Take stamp way m) h (out.Send link msg.Heartbeat) k in
    let comes = subst (λ (f : Output). ComesOf p c stamp why.change why.before f)
    (beat_form p c stamp why.form link why.is) why.comes in
    let cause = subst (λ (x : Change). Cause p c stamp why.stage why.from x why.before) comes why.cause in
    absurd (subst IsService why.of_event.0 cause.0)

-- ---- disks

-- What a disk sends at an input is its answer to an ask.
pub record IsAnswer (s : DiskState) (i : Input Msg) (way : LinkNo) (m : Msg) : Type 0 where
  pub stamp : Stamp
  pub link : LinkNo
  pub want : Want
  pub ask : i ≡ Take stamp link (msg.ReadAsk want)
  pub way_is : way ≡ way_from_disk s.params s.disk
  pub is : m ≡ msg.ReadDone want (read_part s stamp.beat want)

answer_of : (s : DiskState) (stamp : Stamp) (link : LinkNo) (n : Msg) (way : LinkNo) (m : Msg)
    → In (out.Send way m) (answers stamp n s).outs → IsAnswer s (Take stamp link n) way m
answer_of s stamp link (msg.ReadAsk want) way m k = ⊎_elim
    (λ (e : out.Send way m ≡ out.Send (way_from_disk s.params s.disk)
    (msg.ReadDone want (read_part s stamp.beat want))).
    let way_is : way ≡ way_from_disk s.params s.disk = cc in
    let is : m ≡ msg.ReadDone want (read_part s stamp.beat want) = cc in
    record { stamp = stamp; link = link; want = want; ask = refl; way_is = way_is; is = is })
    (λ i. absurd i)
    k
answer_of s stamp link other way m k = absurd k

pub disk_sends : (s : DiskState) (i : Input Msg) (way : LinkNo) (m : Msg) → In (out.Send way m) (disk_step s i).outs
    → IsAnswer s i way m
unfolding asked
disk_sends s (Take stamp link n) way m k =
    chosen (λ (d : Deed Msg DiskState). In (out.Send way m) d.outs → IsAnswer s (Take stamp link n) way m)
    (is_in_form s.params (noted n)) (answers stamp n s) (nothing s)
    (λ _ i. answer_of s stamp link n way m i) (λ _ i. absurd i) k
disk_sends s (Tick stamp) way m k = absurd k

-- Such an answer is a message that a disk may send.
pub of_answer : (s : DiskState) (i : Input Msg) (way : LinkNo) (m : Msg) → IsAnswer s i way m → IsOfDisk m
of_answer s i way m a = subst IsOfDisk (sym a.is) tt

-- ---- the controller

-- A command of the controller is a message that it may send.
pub of_command : (p : Params) (orders : List Order) (link : LinkNo) (m : Msg) → IsCommand p orders link m
    → IsOfController m
of_command p orders link m k =
    ⊎_elim (λ s. subst IsOfController (sym s.is) tt) (λ d. subst IsOfController (sym d.2) tt) k

-- Whatever it sends is such a message.
pub command_sends : (p : Params) (orders : List Order) (i : Input Msg) (known : Known) (link : LinkNo) (m : Msg)
    → IsPlan p → In (out.Send link m) (command p orders i known).outs → IsOfController m
command_sends p orders (Take stamp way n) known link m plan k = absurd k
command_sends p orders (Tick stamp) known link m plan k =
    of_command p _ link m (commanding_out p orders stamp known link m plan k)
