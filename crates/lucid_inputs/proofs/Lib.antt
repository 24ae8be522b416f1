pub mod Common
pub mod LineLemmas
pub mod StreamLemmas
pub mod StepLemmas
pub mod OverlongLemmas
pub mod TakeLemmas
pub mod InputsLemmas
