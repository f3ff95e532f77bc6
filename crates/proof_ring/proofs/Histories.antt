-- The laws hold of every history of a ring, whatever its cubs add if it is rightly added, and so there is one schedule in it.
use Rattle.std.proofs.Common.{◌≡◌, ℕ, ◌+◌, ◌<◌, List, sym, ◌∙◌, arith, ⊎_elim, inl, inr}
use Rattle.tiger_base.specs.declared.number.LinkNo.{LinkNo}
use Rattle.tiger_base.specs.declared.tenancy.Tenancy.{Tenancy}
use Rattle.tiger_base.specs.declared.tenancy.Want.{Want}
use Rattle.tiger_base.specs.declared.message.Msg.{Msg}
use Rattle.tiger_base.specs.declared.message.Msg.TheVariants as msg
use Rattle.slot_plan.specs.declared.params.Params.{Params}
use Rattle.slot_plan.specs.Conditions.{IsPlan}
use Rattle.slot_plan.specs.Times.{cub_of}
use Rattle.slot_plan.proofs.Times.{cub_ahead, cub_below}
use Rattle.stripe_layout.specs.declared.catalogue.Catalogue.{Catalogue}
use Rattle.node_kit.specs.declared.course.Order.{Order}
use Rattle.node_kit.specs.declared.outbox.Out.TheVariants as out
use Rattle.node_kit.specs.Steps.{Deed, Input}
use Rattle.run_facts.specs.Histories.{History}
use Rattle.disk_core.specs.State.{DiskState}
use Rattle.proof_schedule.specs.Facts.{Facts}
use Rattle.proof_schedule.specs.Laws.{Laws}
use Rattle.proof_schedule.specs.Schedule.{IsOneSchedule}
use Rattle.proof_schedule.proofs.Follows.{runs}
use Rattle.proof_pieces.specs.PieceFacts.{PieceFacts}
use Rattle.proof_pieces.proofs.Right.{right}
use Rattle.proof_service.specs.Files.{AreOfFiles}
use Rattle.proof_service.specs.ServiceFacts.{ServiceFacts}
use Rattle.proof_service.proofs.Follows.{runs_serve}
use Rattle.proof_service.proofs.Places.{stored}
use Rattle.proof_service.proofs.TrueReads.{true_reads}
use Rattle.proof_lives.specs.Lives.{beat_at}
use Rattle.proof_lives.specs.FactsBy.{Beyond, CameToTick, facts_among, facts_by}
use Rattle.proof_lives.specs.InOrder.{AreInOrder}
use Rattle.proof_lives.specs.TwoLifeRun.{WhichLife, life_in}
use Rattle.proof_lives.specs.TwoLifeRun.WhichLife.{First, Later}
use Rattle.proof_facts.specs.Beside.{AddedAt, Additions, beside_by, nothing_added}
use Rattle.proof_facts.specs.Blocks.{blocks_by}
use Rattle.proof_facts.specs.Facts.{beyond_with, blocks_of, facts_of, first_facts, later_facts, pieces_beside}
use Rattle.proof_facts.specs.Laws.{CubLaws, LifeLaws, ReturnLaws, RingLaws}
use Rattle.proof_facts.specs.Lives.{lives_of, later_lives_of}
use Rattle.proof_facts.specs.Pieces.{SplitAt, pieces_by}
use Rattle.proof_facts.specs.Rings.{IsRingWith, IsUpTo}
use Rattle.proof_two_lives.specs.Statements.{AreUp, LawsOfParts, PartLaws, ScheduleOfLives, ServiceOfLives}
use Rattle.proof_two_lives.proofs.Gathering as gathering
use Rattle.proof_cubs.proofs.Laws.{life_laws}
use Rattle.proof_links.specs.Statements.{HasTwoLives}
use Rattle.proof_links.proofs.Fitting.{before_return, fits, since_return}
use Rattle.proof_links.proofs.Laws.{cubs_are_told_in_order, disks_answer_asks, histories_have_two_lives, links_meet_the_laws, messages_come_in_order, returns_meet_the_laws}
use Rattle.proof_links.proofs.Nodes.{added_is, began_late}
use Rattle.proof_links.proofs.Running.{ends}
use Rattle.proof_links.proofs.Starts.{begun_place}
use Rattle.proof_links.proofs.Staying.{rising, stays}
use Rattle.proof_splits.proofs.Among.{AreAdditionsKnown, history_known}
use Rattle.proof_splits.proofs.Backups.{splits}
use Rattle.proof_splits.proofs.Splitting.{split_laws}
use Rattle.proof_parts.specs.Asks.{HaveDisks}
use Rattle.proof_parts.proofs.KnownAsks.{AsksAreKnown, history_first_asks, history_later_asks}
use Rattle.proof_parts.proofs.PieceReads as parts
use Rattle.proof_blocks.proofs.Laws as blocks
use Rattle.proof_ring.specs.Histories.{IsFiledWith, IsRightlyAdded, HistoriesMeetTheLaws, HistoriesHaveOneSchedule, HistoriesAreRightlyRead, HistoriesServeTheirBlocks, AddingHistoriesMeetTheLaws, AddingHistoriesHaveOneSchedule, AddingHistoriesAreRightlyRead, AddingHistoriesServeTheirBlocks}

module _ {S : Type 0} (step : S → Input Msg → Deed Msg S) (p : Params) (orders : List Order) (disk_at : ℕ → DiskState) (added : Additions)
    (h : History Msg S) (plan : IsPlan p) (ring : IsRingWith step p orders disk_at added h) where
  abbrev pub B : Beyond
  B = beyond_with p orders added h

  pub in_order : (w : WhichLife) → AreInOrder p (life_in h w) B orders
  in_order w = messages_come_in_order S step p orders disk_at added h plan ring w

  pub ring_laws : RingLaws p (facts_of p orders h)
  ring_laws = links_meet_the_laws S step p orders disk_at added h plan ring

  pub return_laws : ReturnLaws p (facts_of p orders h) (blocks_of p h disk_at)
  return_laws = returns_meet_the_laws S step p orders disk_at added h plan ring

  pub two : HasTwoLives p orders disk_at h
  two = histories_have_two_lives S step p orders disk_at added h plan ring

  -- Each input of a first life is of a lower beat than any of the later one.
  pub apart : (c i j : ℕ) → c < p.cubs → i < (lives_of h).count c → j < (later_lives_of h).count c
      → beat_at ((lives_of h).input c) i < beat_at ((later_lives_of h).input c) j
  apart c i j small low high =
      let back = began_late plan ring c small (omega arith) in
      let early = before_return plan ring small low back in
      let since = since_return plan ring small high back in
      omega arith

  pub all_up : (end : ℕ) → IsUpTo p end h → AreUp p (facts_of p orders h) end
  all_up end up = record {
    ends = λ c b low small. ends plan ring up low small;
    stays = λ c x b back le low. stays plan ring up back le low;
  }

  -- The cubs' laws of each life.
  pub laws_in : (w : WhichLife) → LifeLaws p (facts_by p (life_in h w) B) (facts_among p (life_in h w) B)
  laws_in w = life_laws p (life_in h w) B orders plan (in_order w) (fits plan ring w)

  pub of_lives : ScheduleOfLives p (first_facts p orders h) (later_facts p orders h) (CameToTick p (lives_of h)) (CameToTick p (later_lives_of h))
  of_lives = record { two = two.facts; first = laws_in First; later = laws_in Later; ring = ring_laws }

  pub cubs_laws : CubLaws p (facts_of p orders h)
  cubs_laws = gathering.cubs of_lives

  pub laws : Laws p (facts_of p orders h)
  laws = gathering.schedule of_lives

  pub one_schedule : IsOneSchedule p (facts_of p orders h)
  one_schedule = runs p (facts_of p orders h) plan laws

  -- ---- what is added

  -- Nothing that is added asks a disk.
  pub no_ask_added : (c : ℕ) (link : LinkNo) (w : Want) (b : ℕ) → AddedAt p (lives_of h) added c (out.Send link (msg.ReadAsk w)) b → ⊥
  no_ask_added c link w b d = ⊎_elim
      (λ x. let is = x.1.is in absurd (cc))
      (λ x. let is = x.3.is in absurd (cc))
      (added_is plan ring d)

  -- Who splits a visit of the cub before it believes that one dead, and so somebody died.
  died_if_believed : (c n b : ℕ) → c ≡ cub_of p (n + 1) → (facts_of p orders h).Believed c b
      → (d : ℕ) × (x : ℕ) × (facts_of p orders h).Died d x
  died_if_believed c n b next believed =
      let long = one_schedule.trust c (cub_of p n) b believed (next ∙ sym (cub_ahead p n 1)) (cub_below p n plan.ranges) in
      (cub_of p n, long.died.beat, long.died.died)

  pub split_died : (w : WhichLife) {a n x : ℕ} {t : Tenancy} → SplitAt p (life_in h w) a t n x
      → (d : ℕ) × (y : ℕ) × (facts_of p orders h).Died d y
  split_died First {a} {n} {x} {t} w =
      let s = splits p plan (lives_of h) (in_order First).lived (in_order First).formed B (fits plan ring First).came w in
      died_if_believed a n s.believed.beat s.next (inl s.believed.believed)
  split_died Later {a} {n} {x} {t} w =
      let s = splits p plan (later_lives_of h) (in_order Later).lived (in_order Later).formed B (fits plan ring Later).came w in
      died_if_believed a n s.believed.beat s.next (inr s.believed.believed)

  -- So where a mirror state is added nobody splits a visit of the cub before it.
  additions : IsRightlyAdded p orders added h → AreAdditionsKnown p (lives_of h) (later_lives_of h) added
  additions right = record {
    few = ring.rules.few;
    number = λ w. (right.mirrors w).1.0;
    apart = λ split w.
        let calm = (right.spares (right.mirrors w).0).calm in
        let died = ⊎_elim (λ k. split_died First k) (λ k. split_died Later k) split in
        calm died.0 died.1 died.2;
  }

-- The laws of a history over its files, if what is added is rightly added.
module _ {S : Type 0} (step : S → Input Msg → Deed Msg S) (p : Params) (catalogue : Catalogue) (orders : List Order)
    (disk_at : ℕ → DiskState) (added : Additions) (h : History Msg S) (plan : IsPlan p) (filed : IsFiledWith step p catalogue orders disk_at added h)
    (right : IsRightlyAdded p orders added h) where
  abbrev pub ring : IsRingWith step p orders disk_at added h
  ring = filed.ring

  abbrev pub R : Facts
  R = facts_of p orders h

  abbrev pub Q : PieceFacts
  Q = pieces_beside p added h

  abbrev pub W : ServiceFacts
  W = blocks_of p h disk_at

  abbrev order_in : (w : WhichLife) → AreInOrder p (life_in h w) (beyond_with p orders added h) orders
  order_in w = in_order step p orders disk_at added h plan ring w

  have_disks : (w : WhichLife) → HaveDisks p catalogue (life_in h w) (beyond_with p orders added h) disk_at
  have_disks w = record { answer = disks_answer_asks S step p orders disk_at added h plan ring w; are = ring.rules.are_disks; images = filed.images }

  asks_known : (w : WhichLife) → AsksAreKnown p (life_in h w) (beyond_with p orders added h)
  asks_known First =
      history_first_asks p plan orders added h (no_ask_added step p orders disk_at added h plan ring) (order_in First).lived
      (apart step p orders disk_at added h plan ring)
  asks_known Later =
      history_later_asks p plan orders added h (no_ask_added step p orders disk_at added h plan ring) (order_in First).lived
      (apart step p orders disk_at added h plan ring)

  -- The laws of splits, asks and blocks of each life.
  parts_in : (w : WhichLife)
      → PartLaws p catalogue (facts_by p (life_in h w) (beyond_with p orders added h)) (pieces_by p (life_in h w)) Q
      (blocks_by p (life_in h w) disk_at) (CameToTick p (life_in h w))
  parts_in w =
      let order = order_in w in
      record {
        splits = split_laws p (life_in h w) plan order.lived order.formed (beyond_with p orders added h) (fits plan ring w)
            (cubs_are_told_in_order S step p orders disk_at added h plan ring w) Q
            (history_known p orders added h (fits plan ring First) (fits plan ring Later) (additions step p orders disk_at added h plan ring right))
            disk_at;
        whole = blocks.read_laws p catalogue (life_in h w) disk_at plan order.lived order.formed (beyond_with p orders added h) (fits plan ring w)
            (asks_known w) (have_disks w);
        parts = parts.read_laws p catalogue (life_in h w) disk_at plan order.lived order.formed (beyond_with p orders added h) (fits plan ring w)
            (asks_known w) (have_disks w);
      }

  of_all : ServiceOfLives p catalogue (first_facts p orders h) (later_facts p orders h) (pieces_by p (lives_of h)) (pieces_by p (later_lives_of h))
      (blocks_by p (lives_of h) disk_at) (blocks_by p (later_lives_of h) disk_at) (beside_by p (lives_of h) added)
      (CameToTick p (lives_of h)) (CameToTick p (later_lives_of h))
  of_all = record {
    schedule = of_lives step p orders disk_at added h plan ring;
    pieces = (two step p orders disk_at added h plan ring).pieces;
    blocks = (two step p orders disk_at added h plan ring).blocks;
    first = parts_in First;
    later = parts_in Later;
    beside = right;
    returns = return_laws step p orders disk_at added h plan ring;
    rising = rising plan ring;
  }

  pub of_parts : LawsOfParts p catalogue R Q W
  of_parts = gathering.parts of_all plan

  pub are_of_files : AreOfFiles p catalogue R
  are_of_files = record {
    disks = filed.files.disks;
    orders = λ {ask} {b} begun. let k = begun_place plan ring begun in filed.files.files k.0 ask k.1;
  }

-- ---- whatever is added

pub adding_histories_have_one_schedule : (S : Type 0) → AddingHistoriesHaveOneSchedule S
adding_histories_have_one_schedule S step p orders disk_at added h plan ring = one_schedule step p orders disk_at added h plan ring

pub adding_histories_meet_the_laws : (S : Type 0) → AddingHistoriesMeetTheLaws S
adding_histories_meet_the_laws S step p catalogue orders disk_at added h plan filed right = record {
  schedule = laws step p orders disk_at added h plan filed.ring;
  pieces = (of_parts step p catalogue orders disk_at added h plan filed right).pieces;
  blocks = λ end up.
      (of_parts step p catalogue orders disk_at added h plan filed right).blocks end (all_up step p orders disk_at added h plan filed.ring end up);
  disks =
      (of_parts step p catalogue orders disk_at added h plan filed right).disks (are_of_files step p catalogue orders disk_at added h plan filed right);
}

pub adding_histories_are_rightly_read : (S : Type 0) → AddingHistoriesAreRightlyRead S
adding_histories_are_rightly_read S step p catalogue orders disk_at added h plan filed added_right =
    let r = facts_of p orders h in
    let q = pieces_beside p added h in
    let w = blocks_of p h disk_at in
    let all = adding_histories_meet_the_laws S step p catalogue orders disk_at added h plan filed added_right in
    record {
      pieces = right p r q plan all.schedule all.pieces;
      stored = stored p catalogue r plan all.schedule (are_of_files step p catalogue orders disk_at added h plan filed added_right);
      reads = true_reads p catalogue r q w plan all.schedule all.pieces all.disks;
    }

pub adding_histories_serve_their_blocks : (S : Type 0) → AddingHistoriesServeTheirBlocks S
adding_histories_serve_their_blocks S step p catalogue orders disk_at added h end plan filed added_right up =
    let all = adding_histories_meet_the_laws S step p catalogue orders disk_at added h plan filed added_right in
    runs_serve p (facts_of p orders h) (pieces_beside p added h) (blocks_of p h disk_at) end plan all.schedule all.pieces (all.blocks end up)

-- ---- where nothing is added

-- Nothing is rightly added.
pub nothing_right : {S : Type 0} (p : Params) (orders : List Order) (h : History Msg S) → IsRightlyAdded p orders nothing_added h
nothing_right p orders h = record {
  spares = λ w. absurd (w.did);
  mirrors = λ w. absurd (w.1.did);
  kill_reached = λ w. absurd (w.1.did);
  kills = λ w reached later. absurd (w.did);
  killed = λ w sent to used late. absurd (w.did);
  unread = λ w served. w.did;
}

pub histories_meet_the_laws : (S : Type 0) → HistoriesMeetTheLaws S
histories_meet_the_laws S step p catalogue orders disk_at h plan filed =
    adding_histories_meet_the_laws S step p catalogue orders disk_at nothing_added h plan filed (nothing_right p orders h)

pub histories_have_one_schedule : (S : Type 0) → HistoriesHaveOneSchedule S
histories_have_one_schedule S step p orders disk_at h plan ring =
    adding_histories_have_one_schedule S step p orders disk_at nothing_added h plan ring

pub histories_are_rightly_read : (S : Type 0) → HistoriesAreRightlyRead S
histories_are_rightly_read S step p catalogue orders disk_at h plan filed =
    adding_histories_are_rightly_read S step p catalogue orders disk_at nothing_added h plan filed (nothing_right p orders h)

pub histories_serve_their_blocks : (S : Type 0) → HistoriesServeTheirBlocks S
histories_serve_their_blocks S step p catalogue orders disk_at h end plan filed up =
    adding_histories_serve_their_blocks S step p catalogue orders disk_at nothing_added h end plan filed (nothing_right p orders h) up
