-- What it means that laws of cubs' first lives and laws of their later ones are laws of all their lives.
use Rattle.std.specs.Prelude.{◌≡◌, ℕ, ◌<◌, ◌≤◌, List, ◌⊎◌}
use Rattle.std.specs.List.{Contains}
use Rattle.slot_plan.specs.declared.params.Params.{Params}
use Rattle.slot_plan.specs.Conditions.{IsPlan}
use Rattle.stripe_layout.specs.declared.catalogue.Catalogue.{Catalogue}
use Rattle.proof_schedule.specs.Facts.{Facts, Ended, LivedTo, DiedBy}
use Rattle.proof_schedule.specs.Laws.{Laws}
use Rattle.proof_schedule.specs.Logs.{Fact, facts_in}
use Rattle.proof_pieces.specs.PieceFacts.{PieceFacts}
use Rattle.proof_pieces.specs.PieceLaws.{PieceLaws}
use Rattle.proof_pieces.specs.PieceLogs.{PieceFact, pieces_in}
use Rattle.proof_service.specs.Disks.{DiskLaws}
use Rattle.proof_service.specs.Files.{AreOfFiles}
use Rattle.proof_service.specs.ServiceFacts.{ServiceFacts}
use Rattle.proof_service.specs.ServiceLaws.{ServiceLaws}
use Rattle.proof_service.specs.ServiceLogs.{ServiceFact, service_in}
use Rattle.proof_two_lives.specs.Laws.{BesideLaws, LifeLaws, ReadLaws, ReturnLaws, RingLaws, SplitLaws}
use Rattle.proof_two_lives.specs.TwoLives.{AreBlocksOfTwoLives, ArePiecesOfTwoLives, AreTwoLives, BesideFacts, among, beside, beside_blocks, beside_in, joined_facts, joined_blocks, joined_pieces, with_beside}

-- The cubs' laws of both lives, and the ring's laws of all.
pub record ScheduleOfLives (p : Params) (r s : Facts) (First Later : ℕ → ℕ → Type 0) : Type 0 where
  pub two : AreTwoLives r s First Later
  pub first : LifeLaws p r (among r (joined_facts r s))
  pub later : LifeLaws p (beside r s) (among (beside r s) (joined_facts r s))
  pub ring : RingLaws p (joined_facts r s)

-- What cubs' rules on pieces and blocks, and the disks, give of one life of each cub: facts x, piece
-- facts q and facts of blocks w, among the piece facts of all.
pub record PartLaws (p : Params) (catalogue : Catalogue) (x : Facts) (q all : PieceFacts)
    (w : ServiceFacts) (Here : ℕ → ℕ → Type 0) : Type 0 where
  pub splits : SplitLaws p x q all w Here
  pub whole : ReadLaws p catalogue x q w Here (λ j. j ≡ 0)
  pub parts : ReadLaws p catalogue x q w Here (λ j. 1 ≤ j)

-- The laws of pieces and blocks of both lives, beside those of the schedule; and of all lives those
-- of returns and of clocks, whose readings never fall.
pub record ServiceOfLives (p : Params) (catalogue : Catalogue) (r s : Facts) (q o : PieceFacts)
    (w u : ServiceFacts) (x : BesideFacts) (First Later : ℕ → ℕ → Type 0) : Type 0 where
  pub schedule : ScheduleOfLives p r s First Later
  pub pieces : ArePiecesOfTwoLives r q o
  pub blocks : AreBlocksOfTwoLives r w u
  pub first : PartLaws p catalogue r q (with_beside (joined_pieces q o) x) w First
  pub later : PartLaws p catalogue (beside r s) o (with_beside (joined_pieces q o) x)
      (beside_blocks w u) Later
  pub beside : BesideLaws p (joined_facts r s) x (with_beside (joined_pieces q o) x)
  pub returns : ReturnLaws p (joined_facts r s) (joined_blocks w u)
  pub rising : (c a b l m : ℕ)
      → r.Ticked c a l ⊎ s.Ticked c a l → r.Ticked c b m ⊎ s.Ticked c b m → a ≤ b → l ≤ m

-- In a run that is looked at up to beat `end` each cub has ended each beat below the end, or died
-- by then; and one that has come back has ended each since.
pub record AreUp (p : Params) (r : Facts) (end : ℕ) : Type 0 where
  pub ends : (c b : ℕ) → b < end → c < p.cubs → LivedTo r c b ⊎ DiedBy r c b
  pub stays : (c x b : ℕ) → r.Returned c x → x ≤ b → b < end → Ended r c b

-- Whoever is listed came to a tick of a beat.
abbrev pub listed_ticks : List (ℕ × ℕ) → ℕ → ℕ → Type 0
listed_ticks ticks c b = Contains ticks (c, b)

-- Whatever the facts of two lives, if they meet the laws of each, they meet those of the schedule.
abbrev pub LivesMeetTheLaws : Type 0
LivesMeetTheLaws = (p : Params) (first later : List Fact) (here there : List (ℕ × ℕ))
    → ScheduleOfLives p (facts_in first) (facts_in later) (listed_ticks here) (listed_ticks there)
    → Laws p (joined_facts (facts_in first) (facts_in later))

-- All that is known of pieces and of blocks, of all lives.
pub record LawsOfParts (p : Params) (catalogue : Catalogue) (r : Facts) (q : PieceFacts)
    (w : ServiceFacts) : Type 0 where
  pub pieces : PieceLaws p r q
  pub blocks : (end : ℕ) → AreUp p r end → ServiceLaws p r q w end
  pub disks : AreOfFiles p catalogue r → DiskLaws p catalogue r q w

-- And those of pieces, blocks and disks, if they are of a plan.
abbrev pub LivesServeTheirBlocks : Type 0
LivesServeTheirBlocks = (p : Params) (catalogue : Catalogue) (first later : List Fact)
    (cut_first cut_later : List PieceFact) (got_first got_later : List ServiceFact)
    (here there : List (ℕ × ℕ)) (more : List PieceFact)
    → IsPlan p
    → ServiceOfLives p catalogue (facts_in first) (facts_in later) (pieces_in cut_first)
    (pieces_in cut_later) (service_in got_first) (service_in got_later) (beside_in more)
    (listed_ticks here) (listed_ticks there)
    → LawsOfParts p catalogue (joined_facts (facts_in first) (facts_in later))
    (with_beside (joined_pieces (pieces_in cut_first) (pieces_in cut_later)) (beside_in more))
    (joined_blocks (service_in got_first) (service_in got_later))
