-- What is claimed of every history of a ring in which cubs may die and return, whatever they add.
use Rattle.std.specs.Prelude.{ℕ, List}
use Rattle.tiger_base.specs.declared.message.Msg.{Msg}
use Rattle.slot_plan.specs.declared.params.Params.{Params}
use Rattle.slot_plan.specs.Conditions.{IsPlan}
use Rattle.node_kit.specs.declared.course.Order.{Order}
use Rattle.node_kit.specs.Steps.{Deed, Input}
use Rattle.run_facts.specs.Histories.{History}
use Rattle.disk_core.specs.State.{DiskState}
use Rattle.proof_lives.specs.FactsBy.{CameToTick}
use Rattle.proof_lives.specs.InOrder.{AreInOrder}
use Rattle.proof_lives.specs.TwoLifeRun.{WhichLife, life_in}
use Rattle.proof_facts.specs.Beside.{Additions}
use Rattle.proof_facts.specs.Blocks.{blocks_by}
use Rattle.proof_facts.specs.Carried.{CubsAreTold, DisksAnswer}
use Rattle.proof_facts.specs.Facts.{beyond_with, blocks_of, facts_of, first_facts, later_facts}
use Rattle.proof_facts.specs.Laws.{ReturnLaws, RingLaws}
use Rattle.proof_facts.specs.Lives.{later_lives_of, lives_of}
use Rattle.proof_facts.specs.Pieces.{pieces_by}
use Rattle.proof_facts.specs.Rings.{IsRingWith}
use Rattle.proof_facts.specs.TwoLives.{AreBlocksOfTwoLives, ArePiecesOfTwoLives, AreTwoLives}

-- The laws of the run, of the links and of the controller hold.
abbrev pub LinksMeetTheLaws : (S : Type 0) → Type 0
LinksMeetTheLaws S = (step : S → Input Msg → Deed Msg S) (p : Params) (orders : List Order)
    (disk_at : ℕ → DiskState) (added : Additions) (h : History Msg S)
    → IsPlan p → IsRingWith step p orders disk_at added h
    → RingLaws p (facts_of p orders h)

-- So do those of returns.
abbrev pub ReturnsMeetTheLaws : (S : Type 0) → Type 0
ReturnsMeetTheLaws S = (step : S → Input Msg → Deed Msg S) (p : Params) (orders : List Order)
    (disk_at : ℕ → DiskState) (added : Additions) (h : History Msg S)
    → IsPlan p → IsRingWith step p orders disk_at added h
    → ReturnLaws p (facts_of p orders h) (blocks_of p h disk_at)

-- What cubs take in a life is in form. A viewer state comes behind the deschedules that its sender
-- sent before it, a deschedule without a tag behind the start of its instance, and each start is of
-- an order and comes to a cub once.
abbrev pub MessagesComeInOrder : (S : Type 0) → Type 0
MessagesComeInOrder S = (step : S → Input Msg → Deed Msg S) (p : Params) (orders : List Order)
    (disk_at : ℕ → DiskState) (added : Additions) (h : History Msg S)
    → IsPlan p → IsRingWith step p orders disk_at added h
    → (w : WhichLife) → AreInOrder p (life_in h w) (beyond_with p orders added h) orders

-- What a cub sends another in a life of that, by its rules or as an addition, comes in time, and in
-- the order in which it was sent; what comes from a cub was sent by it.
abbrev pub CubsAreToldInOrder : (S : Type 0) → Type 0
CubsAreToldInOrder S = (step : S → Input Msg → Deed Msg S) (p : Params) (orders : List Order)
    (disk_at : ℕ → DiskState) (added : Additions) (h : History Msg S)
    → IsPlan p → IsRingWith step p orders disk_at added h
    → (w : WhichLife) → CubsAreTold p (life_in h w) (beyond_with p orders added h)

-- A disk answers each ask of a life in time, and nothing that it was not asked.
abbrev pub DisksAnswerAsks : (S : Type 0) → Type 0
DisksAnswerAsks S = (step : S → Input Msg → Deed Msg S) (p : Params) (orders : List Order)
    (disk_at : ℕ → DiskState) (added : Additions) (h : History Msg S)
    → IsPlan p → IsRingWith step p orders disk_at added h
    → (w : WhichLife) → DisksAnswer p (life_in h w) (beyond_with p orders added h) disk_at

-- The facts of a history are those of two lives of each cub.
pub record HasTwoLives {S : Type 0} (p : Params) (orders : List Order) (disk_at : ℕ → DiskState)
    (h : History Msg S) : Type 0 where
  pub facts : AreTwoLives (first_facts p orders h) (later_facts p orders h)
      (CameToTick p (lives_of h)) (CameToTick p (later_lives_of h))
  pub pieces : ArePiecesOfTwoLives (first_facts p orders h) (pieces_by p (lives_of h))
      (pieces_by p (later_lives_of h))
  pub blocks : AreBlocksOfTwoLives (first_facts p orders h) (blocks_by p (lives_of h) disk_at)
      (blocks_by p (later_lives_of h) disk_at)

abbrev pub HistoriesHaveTwoLives : (S : Type 0) → Type 0
HistoriesHaveTwoLives S = (step : S → Input Msg → Deed Msg S) (p : Params) (orders : List Order)
    (disk_at : ℕ → DiskState) (added : Additions) (h : History Msg S)
    → IsPlan p → IsRingWith step p orders disk_at added h
    → HasTwoLives p orders disk_at h
