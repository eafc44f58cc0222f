pub mod Log
pub mod Alone
pub mod steps
pub mod Ctl
pub mod Last
pub mod Laws
