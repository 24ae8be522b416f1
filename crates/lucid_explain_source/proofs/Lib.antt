pub mod Common
pub mod Stuck
pub mod Lent
pub mod Rising
pub mod Again
pub mod Twice
pub mod Verdicts
pub mod CharacterLemmas
