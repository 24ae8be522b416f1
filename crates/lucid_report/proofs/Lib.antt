pub mod Common
pub mod Pieces
