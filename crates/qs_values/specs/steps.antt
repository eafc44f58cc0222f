pub mod Parts
pub mod ReservedWords
