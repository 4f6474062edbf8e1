-- What the contracts of the replay mean.
pub mod Spelled
pub mod Trace
