-- The laws of the block, and that what is saved is loaded.
pub mod Blocks
pub mod Misfits
pub mod RoundTrip
