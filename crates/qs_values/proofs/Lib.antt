pub mod AngleLemmas
pub mod LowestLemmas
pub mod NumberLemmas
pub mod OneQuotient
pub mod FracOnce
pub mod OneNumber
pub mod AsciiWords
pub mod WordLemmas
