pub mod Found
pub mod Levels
pub mod Loops
pub mod Whole
