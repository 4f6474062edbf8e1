-- Calls on a block.
pub mod Blocks
pub mod Boards
