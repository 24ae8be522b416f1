pub mod Command
pub mod Plain
pub mod Forms
pub mod Refusal
pub mod Rows
pub mod Numbers
pub mod Asked
