pub mod Held
pub mod Turned
pub mod Counted
pub mod Notes
pub mod Told
pub mod Ran
pub mod Refused
