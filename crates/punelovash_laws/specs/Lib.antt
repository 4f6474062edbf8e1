-- Blocks that hold logs.
pub mod Reached
