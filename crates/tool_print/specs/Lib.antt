-- What the contracts of lines of output mean.
pub mod Row
