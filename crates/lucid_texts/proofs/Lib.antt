pub mod Common
pub mod Bytes
pub mod LineEnds
pub mod WordLemmas
pub mod Spaced
pub mod ValueLemmas
pub mod ValueBytes
pub mod TextsRead
