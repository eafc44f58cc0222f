pub mod front
pub mod Words
pub mod Texts
pub mod Ran
pub mod Answer
pub mod Once
pub mod Faults
pub mod steps
