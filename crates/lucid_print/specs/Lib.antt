pub mod Styles
pub mod Canonical
pub mod Again
pub mod Views
pub mod Pieces
