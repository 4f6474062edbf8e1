-- A list of events as bytes, the entries that are read, and what a run of a list gives.
pub mod Encoded
pub mod Entries
pub mod Run
