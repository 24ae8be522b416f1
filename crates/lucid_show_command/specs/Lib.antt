pub mod Words
pub mod Named
pub mod Running
pub mod Shows
pub mod Help
pub mod Meant
