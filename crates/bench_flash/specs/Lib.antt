-- "Bench flash", and the events of a list.
pub mod Flash
pub mod Event
