pub mod Common
pub mod Grows
pub mod Begun
pub mod First
