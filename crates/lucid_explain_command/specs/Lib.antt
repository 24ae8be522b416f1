pub mod Prompted
pub mod Keeping
pub mod Noting
pub mod Watching
pub mod Behind
pub mod Errors
pub mod Explained
pub mod Help
