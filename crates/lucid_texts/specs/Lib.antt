pub mod Words
pub mod TextLines
pub mod ValueLines
pub mod Laws
