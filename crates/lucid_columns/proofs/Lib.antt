pub mod Common
pub mod Spaces
pub mod Faultless
pub mod Placed
pub mod Searching
pub mod Defined
