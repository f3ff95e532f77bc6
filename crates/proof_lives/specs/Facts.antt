-- The facts of a run of cubs, by what befell each of them; and the starts that they get.
use Rattle.std.specs.Prelude.{◌≡◌, ℕ, ◌<◌, Bool, true, false, Option, Some, None, List, ◌⊎◌}
use Rattle.tiger_base.specs.declared.number.Instance.{Instance}
use Rattle.tiger_base.specs.declared.number.LinkNo.{LinkNo}
use Rattle.tiger_base.specs.declared.number.Stamp.{Stamp}
use Rattle.tiger_base.specs.declared.tenancy.Ask.{Ask}
use Rattle.tiger_base.specs.declared.tenancy.Kind.{Kind}
use Rattle.tiger_base.specs.declared.tenancy.Tag.{Tag}
use Rattle.tiger_base.specs.declared.tenancy.Tenancy.{Tenancy}
use Rattle.tiger_base.specs.declared.message.Msg.{Msg}
use Rattle.tiger_base.specs.declared.message.Msg.TheVariants as msg
use Rattle.slot_plan.specs.declared.params.Params.{Params}
use Rattle.node_kit.specs.declared.course.Order.{Order}
use Rattle.node_kit.specs.declared.course.OrderKind.TheVariants as kind
use Rattle.node_kit.specs.declared.journal.What.TheVariants as what
use Rattle.node_kit.specs.declared.outbox.Out.{Out}
use Rattle.node_kit.specs.declared.outbox.Out.TheVariants as out
use Rattle.node_kit.specs.Steps.Input.{Take, Tick}
use Rattle.node_kit.specs.Ways.{way_ahead, predecessor}
use Rattle.cub_rules.specs.State.{IsAsk}
use Rattle.proof_lives.specs.Lives.{Lives, cut_in, outs_in, beat_at}
use Rattle.run_facts.specs.Events.{is_tick_input}
use Rattle.lists.specs.Elements.{In}

-- a cub came to its tick of a beat at a reading, of which its death may have cut off what it puts out
pub record TickAt (p : Params) (lives : Lives) (c b l : ℕ) : Type 0 where
  pub small : c < p.cubs
  pub at : ℕ
  pub done : at < lives.count c
  pub is : lives.input c at ≡ Tick (record { beat = b; reading = l })

-- it ended the beat by a whole tick
pub record TickedAt (p : Params) (lives : Lives) (c b l : ℕ) : Type 0 where
  pub small : c < p.cubs
  pub at : ℕ
  pub done : at < lives.count c
  pub is : lives.input c at ≡ Tick (record { beat = b; reading = l })
  pub whole : cut_in lives c at ≡ None

-- its death came in an input of a beat, and cut off what it put out there
pub record DiedIn (p : Params) (lives : Lives) (c b : ℕ) : Type 0 where
  pub small : c < p.cubs
  pub at : ℕ
  pub done : at < lives.count c
  pub in_beat : beat_at (lives.input c) at ≡ b
  pub sends : ℕ
  pub cut : cut_in lives c at ≡ Some sends

-- it put something out in a beat, which its death did not cut off
pub record DidAt (p : Params) (lives : Lives) (c : ℕ) (o : Out Msg) (b : ℕ) : Type 0 where
  pub small : c < p.cubs
  pub at : ℕ
  pub done : at < lives.count c
  pub in_beat : beat_at (lives.input c) at ≡ b
  pub did : In o (outs_in p lives c at)

-- it took a record in a beat, at a message or at its tick
pub record TookAt (p : Params) (lives : Lives) (c : ℕ) (t : Tenancy) (n b : ℕ) : Type 0 where
  pub kind : Kind
  pub done : DidAt p lives c (out.Act (what.Took (record { tenancy = t; visit = n; kind = kind }))) b
  pub message : is_tick_input (lives.input c done.at) ≡ false

pub record InsertedAt (p : Params) (lives : Lives) (c : ℕ) (t : Tenancy) (n b : ℕ) : Type 0 where
  pub kind : Kind
  pub done : DidAt p lives c (out.Act (what.Took (record { tenancy = t; visit = n; kind = kind }))) b
  pub tick : is_tick_input (lives.input c done.at) ≡ true

-- a record entered its view
abbrev pub EnteredAt : Params → Lives → ℕ → Tenancy → ℕ → ℕ → Type 0
EnteredAt p lives c t n b = TookAt p lives c t n b ⊎ InsertedAt p lives c t n b

-- it sent a state to one of the next two cubs in a beat
pub record SentAt (p : Params) (lives : Lives) (a k : ℕ) (t : Tenancy) (m b : ℕ) : Type 0 where
  pub ahead : (k ≡ 1) ⊎ (k ≡ 2)
  pub did : DidAt p lives a (out.Send (way_ahead p a k) (msg.ViewerState (record { tenancy = t; visit = m }))) b

-- it took a message in a beat
pub record TookMessage (p : Params) (lives : Lives) (c : ℕ) (m : Msg) (b : ℕ) : Type 0 where
  pub small : c < p.cubs
  pub at : ℕ
  pub done : at < lives.count c
  pub reading : ℕ
  pub link : LinkNo
  pub is : lives.input c at ≡ Take (record { beat = b; reading = reading }) link m

pub record ReachedAt (p : Params) (lives : Lives) (c v b : ℕ) : Type 0 where
  pub instance : Instance
  pub tag : Option Tag
  pub same : instance.0 ≡ v
  pub took : TookMessage p lives c (msg.Deschedule instance tag) b

pub record HeardAt (p : Params) (lives : Lives) (c b : ℕ) : Type 0 where
  pub took : TookMessage p lives c msg.Heartbeat b
  pub link : took.link.0 ≡ (way_ahead p (predecessor p c) 1).0

-- ---- the starts that cubs get

-- a start was ordered
abbrev pub IsOrdered : List Order → Ask → Type 0
IsOrdered orders ask = (beat : ℕ) × In (record { beat = beat; what = kind.Begin ask }) orders

-- Each start that a cub gets is ordered, and has blocks; of an instance one is ordered, and a cub gets one.
pub record AreStarts (p : Params) (lives : Lives) (orders : List Order) : Type 0 where
  pub one_start : (c j k : ℕ) (s t : Stamp) (l m : LinkNo) (a b : Ask) (x y : Bool) → c < p.cubs → j < lives.count c → k < lives.count c
      → lives.input c j ≡ Take s l (msg.Start x a) → lives.input c k ≡ Take t m (msg.Start y b) → a.instance.0 ≡ b.instance.0 → j ≡ k
  pub ordered : (c i : ℕ) (s : Stamp) (l : LinkNo) (a : Ask) (x : Bool) → c < p.cubs → i < lives.count c → lives.input c i ≡ Take s l (msg.Start x a) → IsOrdered orders a
  pub one_order : (a b : Ask) → IsOrdered orders a → IsOrdered orders b → a.instance.0 ≡ b.instance.0 → a ≡ b
  pub counted : (a : Ask) → IsOrdered orders a → IsAsk a
