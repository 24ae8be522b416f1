pub mod Contexts
pub mod ContextCode
pub mod Known
pub mod Keys
pub mod EqualityDecides
pub mod Rows
pub mod Hashing
