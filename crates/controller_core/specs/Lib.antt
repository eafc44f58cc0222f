pub mod Core
pub mod Reached
pub mod Laws
