pub mod PieceRecords
pub mod Splitting
