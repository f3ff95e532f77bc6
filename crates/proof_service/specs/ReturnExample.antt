-- A second worked run that meets all laws: a cub dies, comes back, and serves a later block whole.
use Rattle.std.specs.Prelude.{ℕ, zero, suc, ◌+◌, ◌*◌, ◌≤◌, List, [], ◌∷◌, ◌++◌}
use Rattle.tiger_base.specs.declared.tenancy.Tenancy.{Tenancy}
use Rattle.proof_schedule.specs.Laws.{Laws}
use Rattle.proof_schedule.specs.Logs.{Fact, facts_in, Came, Ticked, Put, Inserted, Took, Sent, Got, Begun, Asked, AskedApart, Died, Returned, Heard, Believed}
use Rattle.proof_pieces.specs.PieceLaws.{PieceLaws}
use Rattle.proof_pieces.specs.PieceLogs.{PieceFact, pieces_in, Asks, Serves}
use Rattle.proof_service.specs.Blocks.{LeftInTime, IsSettled, IsUnstopped}
use Rattle.proof_service.specs.Example.{plan, order, bytes, all_ticks, IsMetWithDeath}
use Rattle.proof_service.specs.ServiceLaws.{ServiceLaws}
use Rattle.proof_service.specs.ServiceLogs.{ServiceFact, service_in, Stored, Sends, TookBack}

-- What cub 0 makes of the order here: a tenancy of visits 16 and 17 of slot 1. They are due in
-- beats 1650 and 1750, on cubs 0 and 1.
abbrev pub viewer : Tenancy
viewer = record {
  instance = record { 0 = 0 };
  file = record { 0 = 0 };
  slot = record { 0 = 1 };
  first = 16;
  last = 17;
}

-- How many beats cub c ends in its first life: cub 1 dies in beat 20, and the others go on to the
-- end.
unfoldable pub beats_of : ℕ → ℕ
beats_of zero = 1950
beats_of (suc zero) = 20
beats_of (suc (suc c)) = 1950

-- Of how many heartbeats of cub c the next one hears in its first life: cub 1 dies before it hears
-- of beat 19.
unfoldable pub heard_of : ℕ → ℕ
heard_of zero = 19
heard_of (suc zero) = 20
heard_of (suc (suc c)) = 1949

-- In each of n beats from beat 60 on cub 1 comes to its tick, ends the beat, and hears a heartbeat
-- of cub 0, but sends none.
unfoldable pub second_life : ℕ → List Fact
second_life zero = []
second_life (suc b) =
    Came 1 (60 + b) ∷ Ticked 1 (60 + b) ((60 + b) * 10000) ∷ Heard 1 (60 + b) ∷ second_life b

-- Cub 1, which dies in beat 20, comes back in beat 60. Cub 2 believes it dead in beat 121. The two
-- starts of the order come in beat 1601, and cub 0 puts the viewer. It sends the states of both
-- visits, which come a beat later.
abbrev pub few_facts : List Fact
few_facts =
    Returned 1 60
    ∷ Begun order 1600
    ∷ Asked 0 order 1601
    ∷ AskedApart 1 order 1601
    ∷ Put 0 viewer 1601
    ∷ Inserted 0 viewer 16 1601
    ∷ Sent 0 1 viewer 16 1601
    ∷ Sent 0 1 viewer 17 1601
    ∷ Sent 0 2 viewer 17 1601
    ∷ Got 1 viewer 16 1602
    ∷ Got 1 viewer 17 1602
    ∷ Got 2 viewer 17 1602
    ∷ Took 1 viewer 16 1602
    ∷ Took 1 viewer 17 1602
    ∷ Took 2 viewer 17 1602
    ∷ Died 1 20
    ∷ Believed 2 121
    ∷ []

-- These facts, the ticks of cub 1's second life, and those of the eight cubs' first lives.
unfoldable pub one_run : List Fact
one_run = few_facts ++ (second_life 1890 ++ all_ticks beats_of heard_of 8)

-- Cub 0 serves the first block whole, and cub 1 the second: cub 2 leaves it to cub 1.
abbrev pub its_pieces : List PieceFact
its_pieces =
    Asks 0 viewer 16 0 1640
    ∷ Serves 0 viewer 16 0 1650
    ∷ Asks 1 viewer 17 0 1740
    ∷ Serves 1 viewer 17 0 1750
    ∷ []

-- Each block comes two beats after it is asked for. In beat 61 cub 2 is told that cub 1 is back,
-- and serves what is due from 10600000 on.
abbrev pub its_blocks : List ServiceFact
its_blocks =
    Stored 0 viewer 16 0 1642
    ∷ Sends 0 viewer 16 0 1650 (bytes 0 4)
    ∷ Stored 1 viewer 17 0 1742
    ∷ Sends 1 viewer 17 0 1750 (bytes 4 4)
    ∷ TookBack 2 10600000 61
    ∷ []

-- A visit of the viewer is settled in beat 1949, and its instance was not stopped.
pub record IsAwaited (n : ℕ) : Type 0 where
  pub settled : IsSettled plan 1949 viewer n
  pub unstopped : IsUnstopped plan (facts_in one_run) viewer n

-- All laws are met in this run, in which both visits are awaited and served whole, the second by a
-- cub that has come back.
pub record IsMetWithReturn : Type 0 where
  pub laws : Laws plan (facts_in one_run)
  pub pieces : PieceLaws plan (facts_in one_run) (pieces_in its_pieces)
  pub blocks : ServiceLaws plan (facts_in one_run) (pieces_in its_pieces)
      (service_in its_blocks) 1949
  pub put : (facts_in one_run).Put 0 viewer 1601
  pub returned : (facts_in one_run).Returned 1 60
  pub awaited : (n : ℕ) → n ≤ 17 → IsAwaited n
  pub first_block : LeftInTime plan (pieces_in its_pieces) 1949 0 viewer 16 0
  pub second_block : LeftInTime plan (pieces_in its_pieces) 1949 1 viewer 17 0

-- So all laws can be met, with a death and with a return.
pub record LawsCanBeMet : Type 0 where
  pub with_death : IsMetWithDeath
  pub with_return : IsMetWithReturn
