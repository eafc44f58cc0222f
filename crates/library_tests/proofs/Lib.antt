pub mod BlockLemmas
pub mod ExampleLemmas
