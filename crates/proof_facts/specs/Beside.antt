-- What cubs put out beside what their rules make of what befell them, and what is told of it.
use Rattle.std.specs.Prelude.{◌≡◌, ℕ, ◌<◌, ◌≤◌, ◌⊎◌, List, []}
use Rattle.tiger_base.specs.declared.number.Instance.{Instance}
use Rattle.tiger_base.specs.declared.number.SlotNo.{SlotNo}
use Rattle.tiger_base.specs.declared.tenancy.PieceState.{PieceState}
use Rattle.tiger_base.specs.declared.tenancy.Tenancy.{Tenancy}
use Rattle.tiger_base.specs.declared.message.Msg.{Msg}
use Rattle.tiger_base.specs.declared.message.Msg.TheVariants as msg
use Rattle.slot_plan.specs.declared.params.Params.{Params}
use Rattle.node_kit.specs.declared.outbox.Out.{Out}
use Rattle.node_kit.specs.declared.outbox.Out.TheVariants as out
use Rattle.node_kit.specs.Ways.{way_ahead}
use Rattle.lists.specs.Elements.{In}
use Rattle.proof_lives.specs.Lives.{Lives, beat_at}
use Rattle.proof_two_lives.specs.TwoLives.{BesideFacts}
use Rattle.proof_facts.specs.Pieces.{piece}

-- What is added at a cub's input of a number.
abbrev pub Additions : Type 0
Additions = ℕ → ℕ → List (Out Msg)

-- Nothing is added.
abbrev pub nothing_added : Additions
nothing_added c i = []

-- An output that may be added goes some way ahead, as far as there are pieces, and is a mirror state or
-- a kill.
pub record GoesAhead (p : Params) (c : ℕ) (o : Out Msg) (m : Msg) : Type 0 where
  pub ahead : ℕ
  pub some : 1 ≤ ahead
  pub few : ahead ≤ p.pieces
  pub is : o ≡ out.Send (way_ahead p c ahead) m

abbrev pub IsAddition : Params → ℕ → Out Msg → Type 0
IsAddition p c o = ((x : PieceState) × GoesAhead p c o (msg.MirrorState x))
    ⊎ ((v : Instance) × (s : SlotNo) × (n : ℕ) × GoesAhead p c o (msg.Kill v s n))

-- In beat b an output of cub c was added at an input of its life.
pub record AddedAt (p : Params) (lives : Lives) (added : Additions) (c : ℕ) (o : Out Msg)
    (b : ℕ) : Type 0 where
  pub small : c < p.cubs
  pub at : ℕ
  pub done : at < lives.count c
  pub in_beat : beat_at (lives.input c) at ≡ b
  pub did : In o (added c at)

-- The facts of what is added: a cub has split a visit of its own if it adds the mirror state of the
-- visit's first piece.
abbrev pub beside_by : Params → Lives → Additions → BesideFacts
beside_by p lives added = record {
  Spared = λ c t n b.
      AddedAt p lives added c (out.Send (way_ahead p c 1) (msg.MirrorState (piece t n 1))) b;
  MirrorSent = λ a k t n j b. (1 ≤ k)
      × AddedAt p lives added a (out.Send (way_ahead p a k) (msg.MirrorState (piece t n j))) b;
  KillSent = λ a k v s n b. (1 ≤ k)
      × AddedAt p lives added a
      (out.Send (way_ahead p a k) (msg.Kill (record { 0 = v }) (record { 0 = s }) n)) b;
}
