pub mod Arguments
pub mod Refusals
pub mod Status
pub mod Lines
pub mod Telling
