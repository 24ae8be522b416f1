pub mod Common
pub mod Adds
pub mod Asked
pub mod Each
pub mod Found
pub mod Ranges
