pub mod Common
pub mod CountedTurns
pub mod Paces
pub mod RecencyTurns
