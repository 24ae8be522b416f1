pub mod Streams
pub mod View
pub mod Small
pub mod Turns
pub mod Turned
pub mod Runs
pub mod WritingLines
