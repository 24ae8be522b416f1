pub mod Files
pub mod Stops
pub mod Causes
pub mod Said
pub mod Notes
