-- What is told of two lives of one cub, for the worked rows.
use Rattle.std.specs.Prelude.{ℕ, List, [], ◌∷◌}
use Rattle.proof_schedule.specs.Example.{viewer}
use Rattle.proof_schedule.specs.Logs.{Fact, facts_in, Came, Ticked, Died, Returned}
use Rattle.proof_pieces.specs.PieceLogs.{pieces_in, Split}
use Rattle.proof_service.specs.ServiceLogs.{service_in, Stored}
use Rattle.proof_two_lives.specs.Statements.{listed_ticks}
use Rattle.proof_two_lives.specs.TwoLives.{AreBlocksOfTwoLives, ArePiecesOfTwoLives, AreTwoLives}

-- Cub 0 ends beat 0, dies in beat 1 and comes back in beat 3.
abbrev pub first_told : List Fact
first_told = Ticked 0 0 0 ∷ Came 0 0 ∷ Died 0 1 ∷ Returned 0 3 ∷ Came 0 3 ∷ []

-- It ends that beat.
abbrev pub later_told : List Fact
later_told = Ticked 0 3 30000 ∷ []

-- The one list tells of its first life, with its tick of beat 0, and the other one of its later
-- life, with its tick of beat 3.
abbrev pub AreLivesOfCub : List Fact → List Fact → Type 0
AreLivesOfCub first later =
    AreTwoLives (facts_in first) (facts_in later)
    (listed_ticks ((0, 0) ∷ []))
    (listed_ticks ((0, 3) ∷ []))

-- It splits a visit in the one beat in its first life, and in the other one in its later life.
abbrev pub AreSplitsOfCub : ℕ → ℕ → Type 0
AreSplitsOfCub first later =
    ArePiecesOfTwoLives (facts_in first_told)
    (pieces_in (Split 0 viewer 0 first ∷ []))
    (pieces_in (Split 0 viewer 0 later ∷ []))

-- It gets a block of a disk in the one beat in its first life, and in the other one in its later
-- life.
abbrev pub AreBlocksOfCub : ℕ → ℕ → Type 0
AreBlocksOfCub first later =
    AreBlocksOfTwoLives (facts_in first_told)
    (service_in (Stored 0 viewer 0 0 first ∷ []))
    (service_in (Stored 0 viewer 0 0 later ∷ []))
