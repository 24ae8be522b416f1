pub mod Common
pub mod Asked
pub mod MadeInMemory
pub mod Telling
pub mod MeantWhole
