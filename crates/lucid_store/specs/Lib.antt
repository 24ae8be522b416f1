pub mod Stored
pub mod Ages
pub mod StoredCode
pub mod Beside
pub mod Touches
pub mod Ordered
pub mod Entries
pub mod Lending
