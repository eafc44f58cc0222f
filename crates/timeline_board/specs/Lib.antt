pub mod Order
pub mod Report
pub mod Refused
pub mod Conditions
pub mod steps
