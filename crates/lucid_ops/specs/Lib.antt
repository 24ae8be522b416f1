pub mod Algebra
pub mod Arity
pub mod Codes
pub mod Narrow
pub mod Row
pub mod Rows
