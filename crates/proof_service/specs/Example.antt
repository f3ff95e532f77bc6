-- A worked run that meets all laws: a viewer of two blocks gets one whole, and one, after a death, in pieces.
use Rattle.std.specs.Prelude.{ℕ, zero, suc, ◌+◌, ◌*◌, ◌≤◌, List, [], ◌∷◌, ◌++◌}
use Rattle.tiger_base.specs.declared.tenancy.Ask.{Ask}
use Rattle.tiger_base.specs.declared.tenancy.Tenancy.{Tenancy}
use Rattle.tiger_base.specs.declared.part.Span.{Span}
use Rattle.slot_plan.specs.declared.params.Params.{Params}
use Rattle.slot_plan.specs.Conditions.{IsPlan}
use Rattle.slot_plan.specs.Samples.{small}
use Rattle.slot_plan.specs.Times.{cub_of}
use Rattle.proof_schedule.specs.Laws.{Laws}
use Rattle.proof_schedule.specs.Logs.{Fact, facts_in, Came, Ticked, Put, Inserted, Took, Sent, Got, Begun, Asked, AskedApart, Died, Beat, Heard, Believed}
use Rattle.proof_pieces.specs.PieceLaws.{PieceLaws}
use Rattle.proof_pieces.specs.PieceLogs.{PieceFact, pieces_in, Split, MirrorSent, Mirrored, Asks, Serves}
use Rattle.proof_service.specs.Blocks.{LeftInTime, IsSettled, IsUnstopped}
use Rattle.proof_service.specs.ServiceLaws.{ServiceLaws}
use Rattle.proof_service.specs.ServiceLogs.{ServiceFact, service_in, Stored, Sends}

-- The small plan, but with a heartbeat in every beat. A block play time has 100
-- beats, and a block two pieces.
abbrev pub plan : Params
plan = record small { heart = 1 }

-- The order of one viewer, for a file of two blocks whose first is on disk 0.
abbrev pub order : Ask
order = record {
  instance = record { 0 = 0 };
  file = record { 0 = 0 };
  count = 2;
  disk = record { 0 = 0 };
}

-- What cub 0 makes of it: a tenancy of visits 0 and 1 of slot 1. They are due in beats 50 and 150,
-- on cubs 0 and 1.
abbrev pub viewer : Tenancy
viewer = record {
  instance = record { 0 = 0 };
  file = record { 0 = 0 };
  slot = record { 0 = 1 };
  first = 0;
  last = 1;
}

-- How many beats cub c ends: cub 1 dies in beat 20, and the others go on to the end.
unfoldable pub beats_of : ℕ → ℕ
beats_of zero = 350
beats_of (suc zero) = 20
beats_of (suc (suc c)) = 350

-- Of how many heartbeats of cub c the next one hears: cub 1 dies before it hears of beat 19.
unfoldable pub heard_of : ℕ → ℕ
heard_of zero = 19
heard_of (suc zero) = 20
heard_of (suc (suc c)) = 349

-- In each of the first n beats cub c comes to its tick, ends the beat, and sends a heartbeat.
unfoldable pub ticks_of : ℕ → ℕ → List Fact
ticks_of c zero = []
ticks_of c (suc b) = Came c b ∷ Ticked c b (b * 10000) ∷ Beat c b ∷ ticks_of c b

-- Each of its first n heartbeats is heard a beat later.
unfoldable pub heard_from : ℕ → ℕ → List Fact
heard_from c zero = []
heard_from c (suc b) = Heard (cub_of plan (c + 1)) (b + 1) ∷ heard_from c b

-- All of this of each of the first n cubs, of each its number of beats and of heartbeats.
unfoldable pub all_ticks : (ℕ → ℕ) → (ℕ → ℕ) → ℕ → List Fact
all_ticks beats heard zero = []
all_ticks beats heard (suc c) =
    ticks_of c (beats c) ++ (heard_from c (heard c) ++ all_ticks beats heard c)

-- The two starts of the order come in beat 1, and cub 0 puts the viewer. It sends the states of
-- both visits, which come a beat later. Cub 1 dies in beat 20, and cub 2 believes it dead in beat
-- 121.
abbrev pub few_facts : List Fact
few_facts =
    Begun order 0
    ∷ Asked 0 order 1
    ∷ AskedApart 1 order 1
    ∷ Put 0 viewer 1
    ∷ Inserted 0 viewer 0 1
    ∷ Sent 0 1 viewer 0 1
    ∷ Sent 0 1 viewer 1 1
    ∷ Sent 0 2 viewer 1 1
    ∷ Got 1 viewer 0 2
    ∷ Got 1 viewer 1 2
    ∷ Got 2 viewer 1 2
    ∷ Took 1 viewer 0 2
    ∷ Took 1 viewer 1 2
    ∷ Took 2 viewer 1 2
    ∷ Died 1 20
    ∷ Believed 2 121
    ∷ []

-- These facts, and the ticks of the eight cubs.
unfoldable pub one_run : List Fact
one_run = few_facts ++ all_ticks beats_of heard_of 8

-- Cub 0 serves the first block whole. Cub 2 splits visit 1 and serves piece 1, and cub 3 piece 2.
abbrev pub its_pieces : List PieceFact
its_pieces =
    Asks 0 viewer 0 0 40
    ∷ Serves 0 viewer 0 0 50
    ∷ Split 2 viewer 1 121
    ∷ MirrorSent 2 1 viewer 1 2 121
    ∷ Mirrored 3 viewer 1 2 122
    ∷ Asks 2 viewer 1 1 140
    ∷ Serves 2 viewer 1 1 150
    ∷ Asks 3 viewer 1 2 190
    ∷ Serves 3 viewer 1 2 200
    ∷ []

-- Bytes of the viewer's file.
abbrev pub bytes : ℕ → ℕ → Span
bytes from len = record { file = record { 0 = 0 }; from = from; len = len }

-- Each part comes two beats after it is asked for.
abbrev pub its_blocks : List ServiceFact
its_blocks =
    Stored 0 viewer 0 0 42
    ∷ Sends 0 viewer 0 0 50 (bytes 0 4)
    ∷ Stored 2 viewer 1 1 142
    ∷ Sends 2 viewer 1 1 150 (bytes 4 2)
    ∷ Stored 3 viewer 1 2 192
    ∷ Sends 3 viewer 1 2 200 (bytes 6 2)
    ∷ []

-- A visit of the viewer is settled in beat 349, and its instance was not stopped.
pub record IsAwaited (n : ℕ) : Type 0 where
  pub settled : IsSettled plan 349 viewer n
  pub unstopped : IsUnstopped plan (facts_in one_run) viewer n

-- All laws are met in this run, in which both visits are awaited: one is served whole, and one in
-- pieces.
pub record IsMetWithDeath : Type 0 where
  pub plan_is : IsPlan plan
  pub laws : Laws plan (facts_in one_run)
  pub pieces : PieceLaws plan (facts_in one_run) (pieces_in its_pieces)
  pub blocks : ServiceLaws plan (facts_in one_run) (pieces_in its_pieces) (service_in its_blocks) 349
  pub put : (facts_in one_run).Put 0 viewer 1
  pub awaited : (n : ℕ) → n ≤ 1 → IsAwaited n
  pub whole : LeftInTime plan (pieces_in its_pieces) 349 0 viewer 0 0
  pub first_piece : LeftInTime plan (pieces_in its_pieces) 349 2 viewer 1 1
  pub second_piece : LeftInTime plan (pieces_in its_pieces) 349 3 viewer 1 2
