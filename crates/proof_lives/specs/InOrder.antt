-- What the links give cubs whose instances are stopped: what comes is in form and in order; and what a state finds then.
use Rattle.std.specs.Prelude.{◌≡◌, ℕ, ◌+◌, ◌<◌, ◌≤◌, Bool, Some, None, List}
use Rattle.tiger_base.specs.declared.number.Instance.{Instance}
use Rattle.tiger_base.specs.declared.number.LinkNo.{LinkNo}
use Rattle.tiger_base.specs.declared.number.Stamp.{Stamp}
use Rattle.tiger_base.specs.declared.tenancy.Ask.{Ask}
use Rattle.tiger_base.specs.declared.tenancy.Tag.{Tag}
use Rattle.tiger_base.specs.declared.tenancy.Tenancy.{Tenancy}
use Rattle.tiger_base.specs.declared.message.Msg.TheVariants as msg
use Rattle.slot_plan.specs.declared.params.Params.{Params}
use Rattle.slot_plan.specs.Conditions.{IsPlan}
use Rattle.slot_plan.specs.Times.{cub_of}
use Rattle.node_kit.specs.declared.course.Order.{Order}
use Rattle.node_kit.specs.Steps.Input.{Take}
use Rattle.proof_lives.specs.Lives.{Lives, AreLives}
use Rattle.proof_lives.specs.Facts.{TookMessage, AreStarts}
use Rattle.proof_schedule.specs.StateLaws.{Meeting}
use Rattle.proof_lives.specs.FactsBy.{Beyond, IsInOneLife, facts_among, cubs_alone}
use Rattle.proof_lives.specs.HoldsHere.{AreAllFormed}

-- before an input a cub got a deschedule of an instance, with the tag of a visit of a slot
pub record GotTagBefore (lives : Lives) (c i v s q : ℕ) : Type 0 where
  pub at : ℕ
  pub before : at < i
  pub stamp : Stamp
  pub link : LinkNo
  pub instance : Instance
  pub same : instance.0 ≡ v
  pub tag : Tag
  pub slot : tag.slot.0 ≡ s
  pub visit : tag.visit ≡ q
  pub is : lives.input c at ≡ Take stamp link (msg.Deschedule instance (Some tag))

-- A state that a cub took as an input: which cub sent it, and that each deschedule which that cub had sent it by then on
-- the same link was got before, unless the cub came back since that was sent.
pub record CameInOrder (p : Params) (lives : Lives) (beyond : Beyond) (c i : ℕ) (t : Tenancy) (m y : ℕ)
    : Type 0 where
  pub from : ℕ
  pub ahead : ℕ
  pub beat : ℕ
  pub sent : beyond.Sent from ahead t m beat
  pub to : c ≡ cub_of p (from + ahead)
  pub later : beat < y
  pub soon : y ≤ beat + p.delay
  pub behind : (v s q x : ℕ)
      → beyond.Told from ahead v s q x → x ≤ beat → IsInOneLife beyond c x y → GotTagBefore lives c i v s q

-- what cubs get
pub record AreInOrder (p : Params) (lives : Lives) (beyond : Beyond) (orders : List Order) : Type 0 where
  pub lived : AreLives p lives
  pub started : AreStarts p lives orders
  pub formed : AreAllFormed p lives
  -- each state comes behind the deschedules that were sent before it
  pub states : (c i : ℕ) (stamp : Stamp) (link : LinkNo) (t : Tenancy) (m : ℕ)
      → c < p.cubs → i < lives.count c
      → lives.input c i ≡ Take stamp link (msg.ViewerState (record { tenancy = t; visit = m }))
      → CameInOrder p lives beyond c i t m stamp.beat
  -- and a deschedule without a tag behind the start of its instance
  pub starts : (c j k : ℕ) (s t : Stamp) (l m : LinkNo) (v : Instance) (a : Ask) (x : Bool)
      → c < p.cubs → j < lives.count c → k < lives.count c
      → lives.input c j ≡ Take s l (msg.Deschedule v None) → lives.input c k ≡ Take t m (msg.Start x a)
      → a.instance.0 ≡ v.0 → k < j

-- Whatever befalls cubs whose messages are in form and in order, a state of one of its tenancy's visits finds each place
-- that it gives taken, or takes it; or its instance is held, and the cub has passed the deschedule on.
abbrev pub StatesFindTheirPlaces : Type 0
StatesFindTheirPlaces = (p : Params) (lives : Lives) (orders : List Order)
    → IsPlan p → AreInOrder p lives (cubs_alone p lives) orders
    → (c : ℕ) (t : Tenancy) (m y : ℕ)
    → TookMessage p lives c (msg.ViewerState (record { tenancy = t; visit = m })) y
    → t.first ≤ m → m ≤ t.last → Meeting p (facts_among p lives (cubs_alone p lives)) c t m y
