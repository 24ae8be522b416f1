pub mod Common
pub mod Told
pub mod Telling
