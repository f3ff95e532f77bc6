-- What of the crates below is needed beside a ring's histories, where what cubs add is shown to meet its laws: it is passed on.
pub use Rattle.proof_blocks.proofs.Living.{AreCubs, asking_kept, own_here, store_of}
pub use Rattle.proof_links.proofs.Fitting.{fits}
pub use Rattle.proof_links.proofs.Laws.{cubs_are_told_in_order, disks_answer_asks}
pub use Rattle.proof_links.proofs.Running.{ends}
pub use Rattle.proof_parts.specs.Asks.{WasRead}
pub use Rattle.proof_parts.proofs.AskOutputs.{read_parts, whole_disk}
pub use Rattle.proof_parts.proofs.KnownAsks.{AsksAreKnown, history_first_asks}
pub use Rattle.proof_parts.proofs.TrueReads.{sent_was_read}
pub use Rattle.proof_splits.proofs.Among.{AreAdditionsKnown, SendsAreKnown, history_known}
pub use Rattle.proof_splits.proofs.Arrivals.{killed_by_link, splits_off_none}
pub use Rattle.proof_splits.proofs.MirrorStates.{in_range, of_split, one_way}
pub use Rattle.proof_splits.proofs.PieceSets.{there_is_in, with_piece_from, with_piece_stays, with_piece_there}
