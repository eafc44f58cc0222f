pub mod Store
pub mod Deeds
pub mod Run
pub mod Parts
pub mod Acts
pub mod Sound
pub mod Laws
pub mod examples
