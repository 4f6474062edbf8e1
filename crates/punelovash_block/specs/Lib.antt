-- The caller's block, and what a function on it does.
pub mod Block
pub mod Call
pub mod Get
pub mod Search
