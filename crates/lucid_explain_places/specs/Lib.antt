pub mod Positions
pub mod Shown
pub mod Standing
pub mod Around
pub mod Hints
pub mod Syntax
