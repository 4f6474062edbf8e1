-- What holds of all calls.
pub mod Calls
pub mod RowKit
pub mod ReadRows
pub mod StateKit
pub mod WritesKeep
pub mod ReadsKeep
pub mod ErasesKeep
pub mod CallKeeps
pub mod TurnedDown
pub mod Openable
pub mod Leaves
pub mod FromRestart
pub mod Rows
pub mod Cases
