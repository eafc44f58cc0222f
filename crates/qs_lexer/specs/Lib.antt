pub mod steps
pub mod Forms
pub mod Values
pub mod Cut
pub mod Lexed
pub mod Once
