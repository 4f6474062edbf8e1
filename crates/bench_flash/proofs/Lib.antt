-- The laws of the bench flash.
pub mod Slots
