-- What the contracts of scripts mean.
pub mod Words
pub mod Spelled
pub mod Trace
pub mod Lines
