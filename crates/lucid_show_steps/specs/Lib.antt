pub mod Events
pub mod Turns
pub mod Steps
pub mod Names
pub mod Texts
pub mod Runs
