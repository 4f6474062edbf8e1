-- Any call as one definition, and lists of calls.
pub mod Call
pub mod Reached
