pub mod BuiltIn
pub mod Steps
pub mod Refused
pub mod Values
pub mod Table
pub mod Limits
pub mod Tapes
pub mod Once
