pub mod Texts
pub mod Tokens
pub mod Refusals
pub mod Fronts
pub mod Laws
