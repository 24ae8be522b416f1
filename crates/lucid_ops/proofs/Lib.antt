pub mod Common
pub mod NarrowResults
pub mod OperatorRows
pub mod Places
pub mod Powers
pub mod RowsInOrder
pub mod Rule
pub mod Strings
