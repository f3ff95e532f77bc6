-- The facts of cubs of which each may have two lives: what is told of the one, and what is told of the other.
use Rattle.std.specs.Prelude.{ℕ, ◌<◌, ◌≤◌, ◌⊎◌, List}
use Rattle.tiger_base.specs.declared.tenancy.Ask.{Ask}
use Rattle.tiger_base.specs.declared.tenancy.Tenancy.{Tenancy}
use Rattle.proof_schedule.specs.Facts.{Facts, IsFirstLife}
use Rattle.proof_pieces.specs.PieceFacts.{PieceFacts}
use Rattle.proof_pieces.specs.PieceLogs.{PieceFact, pieces_in}
use Rattle.proof_service.specs.ServiceFacts.{ServiceFacts}

-- What is told of first lives, and what is told of later ones. What is not told by lives is the
-- same in both.
abbrev pub joined_facts : Facts → Facts → Facts
joined_facts r s = record {
  Came = r.Came;
  Ticked = λ c b l. r.Ticked c b l ⊎ s.Ticked c b l;
  Put = λ c t b. r.Put c t b ⊎ s.Put c t b;
  Inserted = λ c t n b. r.Inserted c t n b ⊎ s.Inserted c t n b;
  Took = λ c t n b. r.Took c t n b ⊎ s.Took c t n b;
  Shows = λ c t n b. r.Shows c t n b ⊎ s.Shows c t n b;
  Sent = λ a k t m b. r.Sent a k t m b ⊎ s.Sent a k t m b;
  Got = λ c t m b. r.Got c t m b ⊎ s.Got c t m b;
  Begun = r.Begun;
  Asked = λ c ask b. r.Asked c ask b ⊎ s.Asked c ask b;
  AskedApart = λ c ask b. r.AskedApart c ask b ⊎ s.AskedApart c ask b;
  Gone = r.Gone;
  StoppedAt = r.StoppedAt;
  StoppedWaiting = r.StoppedWaiting;
  Told = λ a k v u q b. r.Told a k v u q b ⊎ s.Told a k v u q b;
  Reached = λ c v b. r.Reached c v b ⊎ s.Reached c v b;
  GotTag = λ c v u q b. r.GotTag c v u q b ⊎ s.GotTag c v u q b;
  GotBare = λ c v b. r.GotBare c v b ⊎ s.GotBare c v b;
  Passed = λ c v u q b. r.Passed c v u q b ⊎ s.Passed c v u q b;
  Died = r.Died;
  Returned = r.Returned;
  Beat = λ c b. r.Beat c b ⊎ s.Beat c b;
  Heard = λ c b. r.Heard c b ⊎ s.Heard c b;
  Believed = λ c b. r.Believed c b ⊎ s.Believed c b;
}

abbrev pub joined_pieces : PieceFacts → PieceFacts → PieceFacts
joined_pieces q o = record {
  Split = λ c t n b. q.Split c t n b ⊎ o.Split c t n b;
  Spared = λ c t n b. q.Spared c t n b ⊎ o.Spared c t n b;
  MirrorSent = λ a k t n j b. q.MirrorSent a k t n j b ⊎ o.MirrorSent a k t n j b;
  Mirrored = λ c t n j b. q.Mirrored c t n j b ⊎ o.Mirrored c t n j b;
  KillSent = λ a k v s n b. q.KillSent a k v s n b ⊎ o.KillSent a k v s n b;
  Asks = λ c t n j b. q.Asks c t n j b ⊎ o.Asks c t n j b;
  Serves = λ c t n j b. q.Serves c t n j b ⊎ o.Serves c t n j b;
}

-- What cubs do beside their rules: which visits of their own they split, and what they send of these.
pub record BesideFacts : Type 1 where
  -- Cub c split visit n of t, one of its own.
  pub Spared : (c : ℕ) (t : Tenancy) (n b : ℕ) → Type 0
  -- Cub a sent the mirror state of piece j to the k-th cub after it.
  pub MirrorSent : (a k : ℕ) (t : Tenancy) (n j b : ℕ) → Type 0
  -- Cub a told the k-th cub after it to drop the pieces of visit n of instance v in slot s.
  pub KillSent : (a k v s n b : ℕ) → Type 0

-- As a log tells it, of which only this is read.
abbrev pub beside_in : List PieceFact → BesideFacts
beside_in log = record {
  Spared = (pieces_in log).Spared;
  MirrorSent = (pieces_in log).MirrorSent;
  KillSent = (pieces_in log).KillSent;
}

-- What is told of pieces, and what cubs do beside their rules.
abbrev pub with_beside : PieceFacts → BesideFacts → PieceFacts
with_beside q x = record q {
  Spared = λ c t n b. q.Spared c t n b ⊎ x.Spared c t n b;
  MirrorSent = λ a k t n j b. q.MirrorSent a k t n j b ⊎ x.MirrorSent a k t n j b;
  KillSent = λ a k v s n b. q.KillSent a k v s n b ⊎ x.KillSent a k v s n b;
}

abbrev pub joined_blocks : ServiceFacts → ServiceFacts → ServiceFacts
joined_blocks w u = record {
  Stored = λ c t n j b. w.Stored c t n j b ⊎ u.Stored c t n j b;
  Failed = λ c t n j b. w.Failed c t n j b ⊎ u.Failed c t n j b;
  Sends = λ c t n j b part. w.Sends c t n j b part ⊎ u.Sends c t n j b part;
  Struck = w.Struck;
  Killed = λ c v n b. w.Killed c v n b ⊎ u.Killed c v n b;
  TookBack = λ c from b. w.TookBack c from b ⊎ u.TookBack c from b;
}

-- Facts s of later lives beside facts r of first ones: what is not told by lives is as r has it.
abbrev pub beside : Facts → Facts → Facts
beside r s = record s {
  Came = r.Came;
  Begun = r.Begun;
  Gone = r.Gone;
  StoppedAt = r.StoppedAt;
  StoppedWaiting = r.StoppedWaiting;
  Died = r.Died;
  Returned = r.Returned;
}

abbrev pub beside_blocks : ServiceFacts → ServiceFacts → ServiceFacts
beside_blocks w u = record u { Struck = w.Struck }

-- Facts r of one life of each cub among those of both: what cubs sent they sent in either.
abbrev pub among : Facts → Facts → Facts
among r both = record r { Sent = both.Sent; Told = both.Told }

-- Cub c came back in beat b or before it.
pub record CameBackBy (r : Facts) (c b : ℕ) : Type 0 where
  pub beat : ℕ
  pub returned : r.Returned c beat
  pub by : beat ≤ b

-- Cub c came back before beat b.
pub record CameBackBefore (r : Facts) (c b : ℕ) : Type 0 where
  pub beat : ℕ
  pub returned : r.Returned c beat
  pub before : beat < b

-- What r tells of one life of each cub is told of beats of that life: In tells of a cub and a beat
-- whether the beat is. The other facts are of the same beats, by the laws of that life.
pub record AreOfLives (r : Facts) (In : ℕ → ℕ → Type 0) : Type 0 where
  pub ticked : (c b l : ℕ) → r.Ticked c b l → In c b
  pub put : (c : ℕ) (t : Tenancy) (b : ℕ) → r.Put c t b → In c b
  pub inserted : (c : ℕ) (t : Tenancy) (n b : ℕ) → r.Inserted c t n b → In c b
  pub took : (c : ℕ) (t : Tenancy) (n b : ℕ) → r.Took c t n b → In c b
  pub asked : (c : ℕ) (ask : Ask) (b : ℕ) → r.Asked c ask b → In c b
  pub apart : (c : ℕ) (ask : Ask) (b : ℕ) → r.AskedApart c ask b → In c b
  pub reached : (c v b : ℕ) → r.Reached c v b → In c b
  pub bare : (c v b : ℕ) → r.GotBare c v b → In c b
  pub passed : (c v s q b : ℕ) → r.Passed c v s q b → In c b
  pub heard : (c b : ℕ) → r.Heard c b → In c b
  pub believed : (c b : ℕ) → r.Believed c b → In c b

-- So it is of what is told of pieces.
pub record ArePiecesOfLives (q : PieceFacts) (In : ℕ → ℕ → Type 0) : Type 0 where
  pub split : (c : ℕ) (t : Tenancy) (n b : ℕ) → q.Split c t n b → In c b
  pub mirrored : (c : ℕ) (t : Tenancy) (n j b : ℕ) → q.Mirrored c t n j b → In c b

-- And of what cubs are told and answered of blocks.
pub record AreBlocksOfLives (w : ServiceFacts) (In : ℕ → ℕ → Type 0) : Type 0 where
  pub stored : (c : ℕ) (t : Tenancy) (n j b : ℕ) → w.Stored c t n j b → In c b
  pub told : (c from b : ℕ) → w.TookBack c from b → In c b

-- The facts r are of cubs' first lives, and s of their later ones, each of which begins with a
-- return. First and Later tell which cub came to its tick of which beat in such a life, and whoever
-- came to a tick came in the one or in the other.
pub record AreTwoLives (r s : Facts) (First Later : ℕ → ℕ → Type 0) : Type 0 where
  pub firsts : AreOfLives r (IsFirstLife r)
  pub laters : AreOfLives s (CameBackBy r)
  pub in_first : (c b : ℕ) → First c b → IsFirstLife r c b
  pub in_later : (c b : ℕ) → Later c b → CameBackBy r c b
  pub came : (c b : ℕ) → r.Came c b → First c b ⊎ Later c b

-- What is told of pieces is told of two lives.
pub record ArePiecesOfTwoLives (r : Facts) (q o : PieceFacts) : Type 0 where
  pub firsts : ArePiecesOfLives q (IsFirstLife r)
  pub laters : ArePiecesOfLives o (CameBackBy r)

-- And what is told of blocks. A later life begins with a tick, so messages come behind that.
pub record AreBlocksOfTwoLives (r : Facts) (w u : ServiceFacts) : Type 0 where
  pub firsts : AreBlocksOfLives w (IsFirstLife r)
  pub laters : AreBlocksOfLives u (CameBackBefore r)
