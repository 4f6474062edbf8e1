-- "Bench flash and page book".
pub mod World
pub mod Book
pub mod Promise
pub mod Searches
