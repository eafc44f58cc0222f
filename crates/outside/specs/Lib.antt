pub mod Faults
pub mod Shelf
pub mod Sink
pub mod Text
pub mod Stream
pub mod Kept
pub mod Memory
