-- The facts of cubs' lives, and of whatever is known beyond them, as proof_schedule speaks of a run.
use Rattle.std.specs.Prelude.{◌≡◌, ℕ, suc, ◌≤◌, true, false}
use Rattle.tiger_base.specs.declared.number.CubNo.{CubNo}
use Rattle.tiger_base.specs.declared.number.LinkNo.{LinkNo}
use Rattle.tiger_base.specs.declared.tenancy.Ask.{Ask}
use Rattle.tiger_base.specs.declared.tenancy.Tenancy.{Tenancy}
use Rattle.tiger_base.specs.declared.message.Msg.{Msg}
use Rattle.tiger_base.specs.declared.message.Msg.TheVariants as msg
use Rattle.slot_plan.specs.declared.params.Params.{Params}
use Rattle.partial_view.specs.declared.line.Line.{Line}
use Rattle.node_kit.specs.declared.journal.What.TheVariants as what
use Rattle.node_kit.specs.declared.outbox.Out.TheVariants as out
use Rattle.node_kit.specs.Ways.{way_ahead}
use Rattle.proof_lives.specs.Lives.{Lives, BeganLate, store_at}
use Rattle.lists.specs.Elements.{In}
use Rattle.proof_lives.specs.Facts.{TickAt, TickedAt, DiedIn, DidAt, TookAt, InsertedAt, SentAt, TookMessage, ReachedAt, HeardAt}
use Rattle.proof_schedule.specs.Facts.{Facts}
use Rattle.proof_lives.specs.StopFactsOf.{PassedAt, ToldAt, GotTagAt, GotBareAt}

-- After cub c's tick of beat b a line of its view has a record of visit n of t.
pub record ShowsAt (p : Params) (lives : Lives) (c : ℕ) (t : Tenancy) (n b : ℕ) : Type 0 where
  pub reading : ℕ
  pub ticked : TickedAt p lives c b reading
  pub line : Line
  pub there : In line (store_at p c (lives.input c) (suc ticked.at)).view.lines
  pub tenancy : line.rec.tenancy ≡ t
  pub visit : line.rec.visit ≡ n

-- In beat b cub c wrote that it believes a cub dead.
pub record WroteBelief (p : Params) (lives : Lives) (c b : ℕ) : Type 0 where
  pub cub : CubNo
  pub did : DidAt p lives c (out.Act (what.Believed cub)) b

-- What is not told by one life of each cub: when they came to their ticks, their deaths and their
-- returns, what they sent in whichever of their lives (a message, a state, a deschedule), and what
-- the controller did.
pub record Beyond : Type 1 where
  pub Came : (c b : ℕ) → Type 0
  pub Died : (c b : ℕ) → Type 0
  pub Returned : (c b : ℕ) → Type 0
  pub Sends : (a : ℕ) (link : LinkNo) (m : Msg) (b : ℕ) → Type 0
  pub Sent : (a k : ℕ) (t : Tenancy) (m b : ℕ) → Type 0
  pub Told : (a k v s q b : ℕ) → Type 0
  pub Begun : (ask : Ask) (b : ℕ) → Type 0
  pub Gone : (v b : ℕ) → Type 0
  pub StoppedAt : (v s n b : ℕ) → Type 0
  pub StoppedWaiting : (v d b : ℕ) → Type 0

-- The facts of these lives, and of what is beyond them. What a cub sends is what it sends in its life.
abbrev pub facts_by : Params → Lives → Beyond → Facts
facts_by p lives beyond = record {
  Came = beyond.Came;
  Ticked = TickedAt p lives;
  Put = λ c t b. DidAt p lives c (out.Act (what.Put t)) b;
  Inserted = InsertedAt p lives;
  Took = TookAt p lives;
  Shows = ShowsAt p lives;
  Sent = SentAt p lives;
  Got = λ c t m b. TookMessage p lives c (msg.ViewerState (record { tenancy = t; visit = m })) b;
  Begun = beyond.Begun;
  Asked = λ c ask b. TookMessage p lives c (msg.Start false ask) b;
  AskedApart = λ c ask b. TookMessage p lives c (msg.Start true ask) b;
  Gone = beyond.Gone;
  StoppedAt = beyond.StoppedAt;
  StoppedWaiting = beyond.StoppedWaiting;
  Told = ToldAt p lives;
  Reached = ReachedAt p lives;
  GotTag = GotTagAt p lives;
  GotBare = GotBareAt p lives;
  Passed = PassedAt p lives;
  Died = beyond.Died;
  Returned = beyond.Returned;
  Beat = λ c b. DidAt p lives c (out.Send (way_ahead p c 1) msg.Heartbeat) b;
  Heard = HeardAt p lives;
  Believed = WroteBelief p lives;
}

-- The same, but that what a cub sends is what it sends in any of its lives: of these facts are those
-- that tell where a message came from.
abbrev pub facts_among : Params → Lives → Beyond → Facts
facts_among p lives beyond =
    record (facts_by p lives beyond) { Sent = beyond.Sent; Told = beyond.Told }

-- Beats x and b are of one life of cub c.
abbrev pub IsInOneLife : Beyond → ℕ → ℕ → ℕ → Type 0
IsInOneLife beyond c x b = (w : ℕ) → beyond.Returned c w → w ≤ b → w ≤ x

-- ---- cubs alone

-- In these lives cub c came to its tick of beat b.
pub record CameToTick (p : Params) (lives : Lives) (c b : ℕ) : Type 0 where
  pub reading : ℕ
  pub tick : TickAt p lives c b reading

-- Nothing is known but of one life of each cub: it comes to the ticks of its life, comes back where
-- that begins late, and dies where it is cut off; and nobody is stopped.
abbrev pub cubs_alone : Params → Lives → Beyond
cubs_alone p lives = record {
  Came = CameToTick p lives;
  Died = DiedIn p lives;
  Returned = BeganLate p lives;
  Sends = λ a link m b. DidAt p lives a (out.Send link m) b;
  Sent = SentAt p lives;
  Told = ToldAt p lives;
  Begun = λ ask b. ⊥;
  Gone = λ v b. ⊥;
  StoppedAt = λ v s n b. ⊥;
  StoppedWaiting = λ v d b. ⊥;
}
