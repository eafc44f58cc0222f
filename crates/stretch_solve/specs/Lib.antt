pub mod steps
pub mod Codes
pub mod Solutions
pub mod Once
