pub mod Common
pub mod Explaining
pub mod ReadAgain
pub mod Making
pub mod LinesSeen
pub mod FirstKept
