pub mod Common
pub mod Names
mod Tables
mod Hiding
mod Noting
mod Stepping
mod Marked
pub mod Weights
mod Fitting
mod Environments
mod Resolved
mod Numbering
mod Unique
mod Inputs
pub mod OneList
