pub mod TwoBlocks
