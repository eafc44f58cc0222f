pub mod PickLemmas
pub mod StartLemmas
pub mod SweepLemmas
pub mod StepLemmas
pub mod OverLemmas
