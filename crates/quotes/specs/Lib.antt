pub mod Block
pub mod Bounds
