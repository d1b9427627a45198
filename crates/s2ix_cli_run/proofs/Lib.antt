mod Among
mod Between
mod Feeds
mod Holding
mod LineSteps
mod Names
pub mod Asked
pub mod Kept
pub mod Answered
pub mod WantedMemory
