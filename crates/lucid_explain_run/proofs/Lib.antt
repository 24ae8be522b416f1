pub mod Flat
pub mod First
pub mod Finding
pub mod Standing
