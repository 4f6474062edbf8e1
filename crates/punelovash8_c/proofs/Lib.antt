-- What the block holds after each export, and that no clause is weaker there.
pub mod Boards
pub mod Exports
