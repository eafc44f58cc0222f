pub mod EndLemmas
pub mod PlacementLemmas
pub mod ClockLemmas
pub mod EarliestLemmas
pub mod StepLemmas
