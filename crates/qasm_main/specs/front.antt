pub mod Statement
pub mod Source
pub mod Refused
pub mod Reads
pub mod Gates
pub mod Planned
pub mod Compile
