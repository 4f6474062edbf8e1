-- The laws of lists of events as bytes, of a list that runs, and of the entries that are read.
pub mod Compared
pub mod Lists
pub mod NextLaw
pub mod OutLaw
pub mod ReadLink
pub mod Running
pub mod Again
