pub mod Words
pub mod Tokens
pub mod Trees
pub mod Refusals
pub mod Output
pub mod Answer
