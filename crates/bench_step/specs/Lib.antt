-- What the code's worlds and events say.
pub mod Step
