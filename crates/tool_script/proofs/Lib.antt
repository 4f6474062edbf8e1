pub mod FirstWord
pub mod Digits
