-- The laws that single nodes and links owe, as proof_pieces and proof_two_lives have them.
pub use Rattle.proof_pieces.specs.PieceLaws.{MirrorSince, WasMirrored}
pub use Rattle.proof_two_lives.specs.Laws.{BesideLaws, CubLaws, CubRest, KillBefore, LifeLaws, ReadLaws, ReturnLaws, RingLaws, ShowsSlot, SplitLaws}
