pub mod Lasts
pub mod Parts
pub mod Signs
pub mod Telling
pub mod Walking
