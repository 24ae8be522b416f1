pub mod Faults
pub mod Streams
pub mod Reading
pub mod Laws
pub mod Steps
pub mod View
pub mod Inputs
