pub mod Turns
pub mod Aging
pub mod Counting
pub mod Script
pub mod Recency
pub mod RecencyCode
pub mod Policies
