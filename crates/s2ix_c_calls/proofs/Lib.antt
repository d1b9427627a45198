mod AddressSteps
mod Dropped
mod Answered
mod Blocks
mod Paging
mod Targets
mod Begun
mod Behind
mod Filling
mod Linked
mod Follows
mod OfRanges
pub mod OneLeaf
pub mod MeetsLeaf
mod MeetsTarget
mod Fresh
mod StatusTexts
pub mod OfRows
pub mod OfNumbers
pub mod OfEntries
pub mod NoCells
mod HeldLabels
