pub mod steps
pub mod Codes
pub mod Placement
