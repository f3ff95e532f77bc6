-- The facts of cubs of which each may have two lives, as proof_two_lives has them.
pub use Rattle.proof_two_lives.specs.TwoLives.{AreBlocksOfLives, AreBlocksOfTwoLives, AreOfLives, ArePiecesOfLives, ArePiecesOfTwoLives, AreTwoLives, CameBackBefore, CameBackBy, joined_blocks, joined_facts, joined_pieces, with_beside, BesideFacts}
