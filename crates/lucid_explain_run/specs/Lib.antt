pub mod Inputs
pub mod Prompts
pub mod Depths
pub mod Parts
pub mod Laws
pub mod Pieces
pub mod Judgments
pub mod PieceLaws
