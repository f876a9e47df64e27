pub mod Reach
pub mod Vectors
pub mod Blocks
pub mod Lanes
pub mod Parts
