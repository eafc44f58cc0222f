pub mod Refusals
pub mod Language
pub mod Once
pub mod Reading
pub mod steps
