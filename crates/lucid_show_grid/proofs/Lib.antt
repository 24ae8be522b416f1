pub mod Loops
pub mod Chains
pub mod Escaping
pub mod Columns
pub mod Found
pub mod Apart
pub mod Stand
