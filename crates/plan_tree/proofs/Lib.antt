pub mod DeedLemmas
pub mod StartLemmas
pub mod ExampleLemmas
