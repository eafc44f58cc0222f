pub mod Mantissas
pub mod Runs
pub mod Scan
