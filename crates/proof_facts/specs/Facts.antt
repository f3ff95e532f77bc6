-- The facts of a ring: of the lives of its cubs, and of what its controller did.
use Rattle.std.specs.Prelude.{◌≡◌, ℕ, ◌+◌, ◌<◌, true, false, List, ◌⊎◌}
use Rattle.tiger_base.specs.declared.number.LinkNo.{LinkNo}
use Rattle.tiger_base.specs.declared.tenancy.Ask.{Ask}
use Rattle.tiger_base.specs.declared.message.Msg.{Msg}
use Rattle.tiger_base.specs.declared.message.Msg.TheVariants as msg
use Rattle.slot_plan.specs.declared.params.Params.{Params}
use Rattle.slot_plan.specs.Times.{cub_of}
use Rattle.node_kit.specs.declared.course.Order.{Order}
use Rattle.node_kit.specs.declared.outbox.Out.TheVariants as out
use Rattle.node_kit.specs.Ways.{way_ahead, way_to_cub}
use Rattle.run_facts.specs.Histories.{History}
use Rattle.proof_lives.specs.Lives.{Lives, BeganLate, beat_at, reading_at}
use Rattle.proof_lives.specs.Facts.{DidAt, SentAt}
use Rattle.proof_lives.specs.StopFactsOf.{ToldAt}
use Rattle.lists.specs.Elements.{In}
use Rattle.proof_lives.specs.FactsBy.{Beyond, facts_by}
use Rattle.proof_controller.specs.Controllers.{controller, commands_at, GoneAt, StoppedAt, StoppedWaiting}
use Rattle.proof_schedule.specs.Facts.{Facts}
use Rattle.proof_pieces.specs.PieceFacts.{PieceFacts}
use Rattle.proof_service.specs.ServiceFacts.{ServiceFacts, serves_from}
use Rattle.disk_core.specs.State.{DiskState}
use Rattle.proof_facts.specs.Blocks.{blocks_by}
use Rattle.proof_facts.specs.Lives.{lives_of, later_lives_of, CameAt, DiedAt}
use Rattle.proof_facts.specs.Pieces.{pieces_by}
use Rattle.proof_facts.specs.Beside.{Additions, AddedAt, beside_by, nothing_added}
use Rattle.proof_facts.specs.TwoLives.{joined_facts, joined_pieces, joined_blocks, with_beside}

-- In beat b the controller sent both starts of an order: the plain one to the cub of its disk, the
-- redundant one to the next cub.
pub record BegunAt (p : Params) (orders : List Order) (lives : Lives) (ask : Ask)
    (b : ℕ) : Type 0 where
  pub at : ℕ
  pub done : at < lives.count (controller p)
  pub in_beat : beat_at (lives.input (controller p)) at ≡ b
  pub near : In (out.Send (way_to_cub p (cub_of p ask.disk.0)) (msg.Start false ask))
      (commands_at p orders (lives.input (controller p)) at)
  pub far : In (out.Send (way_to_cub p (cub_of p (ask.disk.0 + 1))) (msg.Start true ask))
      (commands_at p orders (lives.input (controller p)) at)

-- In beat b, by the tick with which its life began, cub a told its successor that it is back.
pub record ToldBack (p : Params) (lives : Lives) (a : ℕ) (link : LinkNo) (m : Msg) (b : ℕ) : Type 0 where
  pub late : BeganLate p lives a b
  pub way : link ≡ way_ahead p a 1
  pub is : m ≡ msg.Back (serves_from p (reading_at (lives.input a) 0))

-- What a history tells beyond one life of each of its cubs: what they send they send in either, or at
-- their return, or it is added.
abbrev pub beyond_with : {S : Type 0} → Params → List Order → Additions → History Msg S → Beyond
beyond_with p orders added h = record {
  Came = CameAt p h;
  Died = DiedAt p h;
  Returned = BeganLate p (later_lives_of h);
  Sends = λ a link m b.
      DidAt p (lives_of h) a (out.Send link m) b
      ⊎ (DidAt p (later_lives_of h) a (out.Send link m) b
      ⊎ (ToldBack p (later_lives_of h) a link m b
      ⊎ AddedAt p (lives_of h) added a (out.Send link m) b));
  Sent = λ a k t m b. SentAt p (lives_of h) a k t m b ⊎ SentAt p (later_lives_of h) a k t m b;
  Told = λ a k v s q b. ToldAt p (lives_of h) a k v s q b ⊎ ToldAt p (later_lives_of h) a k v s q b;
  Begun = BegunAt p orders (lives_of h);
  Gone = GoneAt p orders (lives_of h);
  StoppedAt = StoppedAt p orders (lives_of h);
  StoppedWaiting = StoppedWaiting p orders (lives_of h);
}

abbrev pub beyond_of : {S : Type 0} → Params → List Order → History Msg S → Beyond
beyond_of p orders h = beyond_with p orders nothing_added h

-- The facts of a history whose controller has these orders, in the first life of each cub and in the
-- life from its return on.
abbrev pub first_facts : {S : Type 0} → Params → List Order → History Msg S → Facts
first_facts p orders h = facts_by p (lives_of h) (beyond_of p orders h)

abbrev pub later_facts : {S : Type 0} → Params → List Order → History Msg S → Facts
later_facts p orders h = facts_by p (later_lives_of h) (beyond_of p orders h)

-- The facts of a history.
abbrev pub facts_of : {S : Type 0} → Params → List Order → History Msg S → Facts
facts_of p orders h = joined_facts (first_facts p orders h) (later_facts p orders h)

abbrev pub pieces_beside : {S : Type 0} → Params → Additions → History Msg S → PieceFacts
pieces_beside p added h =
    with_beside (joined_pieces (pieces_by p (lives_of h)) (pieces_by p (later_lives_of h)))
    (beside_by p (lives_of h) added)

abbrev pub pieces_of : {S : Type 0} → Params → History Msg S → PieceFacts
pieces_of p h = pieces_beside p nothing_added h

abbrev pub blocks_of : {S : Type 0} → Params → History Msg S → (ℕ → DiskState) → ServiceFacts
blocks_of p h disk_at =
    joined_blocks (blocks_by p (lives_of h) disk_at) (blocks_by p (later_lives_of h) disk_at)
