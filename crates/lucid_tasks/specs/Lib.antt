pub mod Slots
pub mod Numbered
pub mod Rows
pub mod RowsCode
pub mod Laid
