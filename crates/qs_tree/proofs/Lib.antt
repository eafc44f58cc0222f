pub mod Spelled
pub mod ExampleLemmas
pub mod TextRows
pub mod DigitLemmas
pub mod TableLemmas
pub mod SubstitutionLemmas
pub mod CopyLaw
