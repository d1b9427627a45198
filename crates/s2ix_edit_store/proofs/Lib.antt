pub mod Along
mod Answered
mod Applied
pub mod Between
pub mod Followed
mod HeldLabels
mod Histories
mod Joined
mod Joins
pub mod Journals
pub mod Kept
pub mod Led
mod LimitRefusals
mod Merging
pub mod Offered
pub mod AtCursor
mod Planned
pub mod Rows
mod RowsKept
pub mod Shortened
pub mod Redone
pub mod Recorded
mod RevertRefusals
pub mod Standing
pub mod Taken
pub mod Undone
